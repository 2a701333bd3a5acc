-- The children of `meta` by name, and the code's answers about them.
--   family       the seven types that document 01 names below `meta`
--   known k      k is one of them;   family_place k    its number among them, or 7
--   meta_spot, spots_of    the code's values where `meta_in` and `children` have one
use Rattle.std.specs.Prelude.{ℕ, suc, ◌+◌, List, [], ◌∷◌, map, length, eqb}
use Rattle.fields.specs.Choice.{pick}
pub use Rattle.boxes.specs.Types.{family, known}
use Rattle.boxes.specs.Box.{head_of}
use Rattle.boxes.specs.inner.Where.{Where, nowhere, stands, where_of}
use Rattle.boxes.specs.Top as Top
use Rattle.boxes.specs.declared.Spot.{Spot}

-- the place of k in a list, its length where it is not there
unfoldable pub rank : ℕ → List ℕ → ℕ
rank k [] = 0
rank k (x ∷ xs) = pick (eqb k x) 0 (suc (rank k xs))

abbrev pub family_place : ℕ → ℕ
family_place k = rank k family

unfoldable pub meta_spot : Top.PlacedBox → Spot
meta_spot m = record { start = m.place; body = m.place + head_of m.box; end = m.place + length m.box }

unfoldable pub spot_of : Where → Spot
spot_of nowhere = record { start = 0; body = 0; end = 0 }
spot_of (stands a b e) = record { start = a; body = b; end = e }

unfoldable pub spots_of : List (List ℕ) → List Spot
spots_of bs = map (λ k. spot_of (where_of k 0 bs)) family
