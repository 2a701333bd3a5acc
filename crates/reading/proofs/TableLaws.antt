-- The table before anything is read, and its first words. Assumes nothing.
use Prim.Native.Nat.{ℕ}
use mathlib.Core.Path.{◌≡◌, refl}
use mathlib.Core.List.{List, [], ◌∷◌, ◌++◌}
use lib.ListN.{replicate, set}
use Rattle.contents.specs.File.{File}
use Rattle.rules.specs.Places.{Places}
use Rattle.rules.specs.Words.{region, join_all, properties_from}
use Rattle.records.specs.inner.Raw.{raw_of, records_by, unread, association_rows, target_rows, extent_rows}

-- raw_of
pub raw-unread : (pl : Places) → raw_of [] pl unread ≡ replicate 11280 0
unfolding raw_of region records_by join_all properties_from association_rows target_rows extent_rows
raw-unread pl = refl

-- the first words stored into a table that has none yet
pub raw_head : (pl : Places) (f : File) (x : List ℕ) (a b c d e g h i : ℕ) →
    set (set (set (set (set (set (set (set (raw_of [] pl f ++ x) 0 a) 1 b) 2 c) 3 d) 4 e) 5 g) 6 h) 7 i ≡ raw_of
    (a ∷ b ∷ c ∷ d ∷ e ∷ g ∷ h ∷ i ∷ []) pl f ++ x
unfolding raw_of region
raw_head pl f x a b c d e g h i = refl
