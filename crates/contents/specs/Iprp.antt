-- `iprp`: "exactly `ipco` then one `ipma`, else 7 at `iprp` (after 3 at its level, before their contents)."
--   IprpContent                     the properties and the associations
--   iprp-content ids p at s          those of the `iprp` at p whose content s begins at `at`
use Rattle.std.specs.Prelude.{ℕ, ◌+◌, List, [], ◌∷◌, ◌++◌, ◌&&◌, length, eqb}
use Rattle.boxes.specs.Answer.{Answer, ok, refuse, check, ◌>>=◌, ◌>>◌}
use Rattle.boxes.specs.Types.{ipco, ipma}
use Rattle.boxes.specs.Box.{head_of, kind_of, body_of}
use Rattle.boxes.specs.Children.{contain}
use Rattle.forms.specs.Form.{whole}
use Rattle.contents.specs.Ipco.{property_step}
use Rattle.contents.specs.Ipma.{IpmaEntry, ipma_form}

pub record IprpContent : Type 0 where
  pub properties : List (List ℕ)
  pub associations : List IpmaEntry

pub record Pair : Type 0 where
  pub first : List ℕ
  pub second : List ℕ

-- any box, as it comes
abbrev pub any_box : ℕ → List (List ℕ) → List ℕ → Answer (List (List ℕ))
any_box at before b = ok (before ++ (b ∷ []))

unfoldable pub pair_of : ℕ → List (List ℕ) → Answer Pair
pair_of p [] = refuse 7 p
pair_of p (a ∷ []) = refuse 7 p
pair_of p (a ∷ b ∷ []) = check 7 p (eqb (kind_of a) ipco && eqb (kind_of b) ipma) >> ok (record { first = a; second = b })
pair_of p (a ∷ b ∷ c ∷ cs) = refuse 7 p

unfoldable pub iprp_content : List ℕ → ℕ → ℕ → List ℕ → Answer IprpContent
iprp_content ids p at s = do
  bs ← contain any_box p at [] s
  two ← pair_of p bs
  ps ← contain property_step at (at + head_of two.first) [] (body_of two.first)
  ns ← whole (ipma_form ids (length ps)) (at + length two.first) (body_of two.second)
  ok (record { properties = ps; associations = ns })
