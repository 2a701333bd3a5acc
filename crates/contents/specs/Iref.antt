-- `iref`: the references; `dimg` and `iloc` are kept. Every child is a reference, free space too.
--   Reference                   an item and the items that it refers to, as item IDs
--   IrefContent                 the derivations (`dimg`: what an item is derived from) and the links (`iloc`: what its bytes are made of)
--   references ids p at s       those of the `iref` at p whose content s begins at `at`
use Rattle.std.specs.Prelude.{ℕ, ◌+◌, List, [], ◌∷◌, ◌++◌, map, ◌&&◌, ◌||◌, not, length, leb, eqb}
use Rattle.fields.specs.Choice.{pick}
use Rattle.fields.specs.Lists.{member}
use Rattle.boxes.specs.Answer.{Answer, ok}
use Rattle.boxes.specs.Answer as Ans
use Rattle.boxes.specs.Types.{dimg, iloc}
use Rattle.boxes.specs.Box.{kind_of, body_of}
use Rattle.boxes.specs.Children.{contain}
use Rattle.forms.specs.Form.{Form, give, demand, field, many, whole, ◌>>=◌, ◌>>◌}
use Rattle.forms.specs.Lead.{lead}
use Rattle.contents.specs.Full.{full, upto, id_bytes}

pub record Reference : Type 0 where
  pub id : ℕ
  pub targets : List ℕ

pub record IrefContent : Type 0 where
  pub derivations : List Reference
  pub links : List Reference

abbrev pub no_references : IrefContent
no_references = record { derivations = []; links = [] }

abbrev pub referring_in : List Reference → List ℕ
referring_in ds = map (λ (d : Reference). d.id) ds

unfoldable pub targets_in : List Reference → ℕ
targets_in [] = 0
targets_in (d ∷ ds) = length d.targets + targets_in ds

-- "Every ID in .. any reference must be listed, else 11."
unfoldable pub target_form : List ℕ → ℕ → List ℕ → Form ℕ
target_form ids bytes before = do
  t ← field bytes
  demand 11 (member t ids)
  give t

-- the items that have a reference of the kept type `kind`
unfoldable pub referring_by : ℕ → IrefContent → List ℕ
referring_by kind before = pick (eqb kind dimg) (referring_in before.derivations) (pick (eqb kind iloc) (referring_in before.links) [])

-- "Two `dimg` from one item, or one without targets: 10"; "2,048 `dimg` targets". Q-7: "two `iloc` references from one item are 10, as
-- with `dimg`"; one without targets is none, and their number has no limit.
unfoldable pub reference_form : List ℕ → ℕ → ℕ → IrefContent → Form Reference
reference_form ids bytes kind before = do
  id ← field bytes
  demand 11 (member id ids)
  demand 10 (not (member id (referring_by kind before)))
  n ← field 2
  demand 10 (not (eqb kind dimg && eqb n 0))
  demand 9 (not (eqb kind dimg) || leb (targets_in before.derivations + n) 2048)
  ts ← many (target_form ids bytes) n []
  give (record { id = id; targets = ts })

-- one more of its type
abbrev pub with_derivation : IrefContent → Reference → IrefContent
with_derivation c d = record { derivations = c.derivations ++ (d ∷ []); links = c.links }

abbrev pub with_link : IrefContent → Reference → IrefContent
with_link c d = record { derivations = c.derivations; links = c.links ++ (d ∷ []) }

unfoldable pub kept_by : ℕ → IrefContent → Reference → IrefContent
kept_by kind before d = pick (eqb kind dimg) (with_derivation before d) (pick (eqb kind iloc) (with_link before d) before)

unfoldable pub reference : List ℕ → ℕ → ℕ → IrefContent → List ℕ → Answer IrefContent
reference ids bytes at before b =
    Ans.◌>>=◌ (whole (reference_form ids bytes (kind_of b) before) at (body_of b)) (λ d. ok (kept_by (kind_of b) before d))

-- "`iref` version 0 or 1 (16- or 32-bit IDs)."
unfoldable pub references : List ℕ → ℕ → ℕ → List ℕ → Answer IrefContent
references ids p at s = lead (λ h a r. contain (reference ids (id_bytes h.version)) p a no_references r) (full (upto 1)) p at s
