-- `iinf`: the items, in table order.
--   Item              what an `infe` says of an item;   ids_of items    their IDs
--   items p at s      the items in the content s, which begins at `at`, of the `iinf` at p
use Rattle.std.specs.Prelude.{ℕ, ◌%◌, List, [], ◌∷◌, ◌++◌, map, not, leb, eqb}
use Rattle.fields.specs.Choice.{pick}
use Rattle.fields.specs.Lists.{member}
use Rattle.boxes.specs.Answer.{Answer, ok, check}
use Rattle.boxes.specs.Answer as Ans
use Rattle.boxes.specs.Types.{infe}
use Rattle.boxes.specs.Box.{kind_of, body_of}
use Rattle.boxes.specs.Exactly.{exactly}
use Rattle.forms.specs.Form.{Form, give, demand, field, front, ◌>>=◌, ◌>>◌}
use Rattle.forms.specs.Lead.{lead}
use Rattle.contents.specs.Full.{full, between, upto, id_bytes}

-- hidden is 1 or 0
pub record Item : Type 0 where
  pub id : ℕ
  pub type : ℕ
  pub protection : ℕ
  pub hidden : ℕ

abbrev pub ids_of : List Item → List ℕ
ids_of items = map (λ (i : Item). i.id) items

-- "`infe` version 2 (16-bit ID) or 3 (32-bit), 16-bit protection index, 32-bit type; the rest is not read. Flag bit 0: hidden. A repeated ID: 10."
unfoldable pub infe_form : List Item → Form Item
infe_form before = do
  h ← full (between 2 3)
  id ← field (pick (eqb h.version 2) 2 4)
  demand 10 (not (member id (ids_of before)))
  x ← field 2
  t ← field 4
  give (record { id = id; type = t; protection = x; hidden = h.flags % 2 })

-- "exactly that many `infe` .. another type is 10"
unfoldable pub infe_step : ℕ → List Item → List ℕ → Answer (List Item)
infe_step at before b = Ans.◌>>◌ (check 10 at (eqb (kind_of b) infe)) (Ans.◌>>=◌ (front (infe_form before) at (body_of b)) (λ i. ok (before ++ (i ∷ []))))

-- "`iinf` version 0 (16-bit count) or 1 (32-bit)"; "256 items". The count is as wide as an ID of that version.
unfoldable pub iinf-count : Form ℕ
iinf-count = do
  h ← full (upto 1)
  n ← field (id_bytes h.version)
  demand 9 (leb n 256)
  give n

unfoldable pub items : ℕ → ℕ → List ℕ → Answer (List Item)
items p at s = lead (λ n a r. exactly infe_step p n a [] r) iinf-count p at s
