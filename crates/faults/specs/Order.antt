-- Which fault is given: document 01, "first fault given".
--   order_of total head f n r    when the fault n of the item in row r has its turn: its stage; for 20 the depth; the row; its rank
--   Earlier a b                a comes before b: the first number in which they differ is smaller
--   First total head f n r     the fault is there, and none that has its turn before it
use Rattle.std.specs.Prelude.{ℕ, ◌<◌, ◌≡◌, List, [], ◌∷◌, ◌⊎◌}
use Rattle.contents.specs.File.{File}
use Rattle.faults.specs.Fault.{Rule, Number, rule_of, Fault}

abbrev pub Earlier : List ℕ → List ℕ → Type 0
Earlier [] ys = ⊥
Earlier (x ∷ xs) [] = ⊥
Earlier (x ∷ xs) (y ∷ ys) = (x < y) ⊎ ((x ≡ y) × Earlier xs ys)

abbrev pub order_by : Rule → ℕ → List ℕ
order_by u r = u.stage ∷ u.lap r ∷ r ∷ u.rank ∷ []

module _ (total : ℕ) (head : List ℕ) (f : File) where
  abbrev pub order_of : Number → ℕ → List ℕ
  order_of n r = order_by (rule_of total head f n) r

  pub record First (n : Number) (r : ℕ) : Type 0 where
    pub present : Fault total head f n r
    pub none_before : (m : Number) (q : ℕ) → Earlier (order_of m q) (order_of n r) → Fault total head f m q → ⊥
