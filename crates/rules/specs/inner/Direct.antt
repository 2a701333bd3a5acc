-- The body of an item as document 01 alone has it: one extent, wholly in the head. Most bodies are such, and are read as a part
-- of the head; that it is the body in either way: crates/rules/proofs/ByteLaws.antt, `one-body`.
--   Store                    the bytes that extents count from: how many there are, and those of them that the head holds
--   store_of total head f m   "Method 0 counts from the file's start, method 1 from the content of `idat`"
--   within st l              14;   body_in st l    the body
use Rattle.std.specs.Prelude.{ℕ, ◌+◌, List, [], ◌∷◌, Bool, length, take, drop, leb, eqb}
use Rattle.fields.specs.Choice.{pick}
use Rattle.boxes.specs.Answer.{Answer, ok, refuse}
use Rattle.contents.specs.Iloc.{Extent, Location}
use Rattle.contents.specs.File.{File}
use Rattle.rules.specs.Bytes.{all_extents}

pub record Store : Type 0 where
  pub size : ℕ
  pub known : List ℕ

abbrev pub store_of : ℕ → List ℕ → File → ℕ → Store
store_of total head f method = pick (eqb method 1) (record { size = length f.idat; known = f.idat }) (record { size = total; known = head })

-- "extent past its source" (14)
abbrev pub within : Store → Location → Bool
within st l = all_extents (λ e. leb (l.base + e.offset + e.size) st.size) l.extents

-- "one extent, wholly in the head"
unfoldable pub body_by : Store → ℕ → List Extent → Answer (List ℕ)
body_by st base [] = refuse 17 0
body_by st base (e ∷ []) = pick (leb (base + e.offset + e.size) (length st.known)) (ok (take e.size (drop (base + e.offset) st.known))) (refuse 17 0)
body_by st base (e ∷ x ∷ xs) = refuse 17 0

abbrev pub body_in : Store → Location → Answer (List ℕ)
body_in st l = body_by st l.base l.extents
