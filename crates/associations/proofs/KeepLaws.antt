-- What stores into the table leave as it was: its length, what is past 11,280, and the IDs. Assumes nothing.
use Prim.Native.Nat.{ℕ, suc, ◌+◌, ◌*◌, ◌≤◌, ◌<◌}
use native.Mathlib.Omega.{arith}
use native.Mathlib.Numerals.{towards_suc}
use mathlib.Core.Path.{◌≡◌, refl, ◌∙◌}
use mathlib.Core.List.{List, [], ◌∷◌}
use lib.ListN.{length, set}
use lib.Seq.{sets, get_or-set_other}
use Rattle.records.proofs.SetsLaws.{sets_below}
use Rattle.records.proofs.IdLaws.{ids-same}
use Rattle.records.proofs.KeptLaws.{kept_same, kept_on, kept_sets}
use Rattle.associations.specs.inner.Told.{KeptIds}

-- KeptIds
pub kept_self : (t : List ℕ) → KeptIds t t
kept_self t = record { kept = kept_same t; ids = λ n l. refl }

pub kept_then : (t u v : List ℕ) → KeptIds t u → KeptIds u v → KeptIds t v
kept_then t u v h k =
    record { kept = kept_on t u v h.kept k.kept; ids = λ n l. k.ids n l ∙ h.ids n l }

module _ (t vs : List ℕ) (i : ℕ) where
  -- past the records
  pub sets-high : 4112 ≤ i → i + length vs ≤ 11280 → KeptIds t (sets t i vs)
  sets-high l h = record { kept = kept_sets t i vs h; ids = λ n o. ids-same t (sets t i vs) n (λ r m. sets_below vs t i (16 + 16 * r) (omega arith)) }

-- words 3 and 4 of a record
pub sets-row : (t : List ℕ) (r a b : ℕ) → r < 256 → KeptIds t (sets t (16 + 16 * r + 3) (a ∷ b ∷ []))
sets-row t r a b h =
    let i = 16 + 16 * r + 3 in
    record {
      kept = kept_sets t i (a ∷ b ∷ []) (omega arith);
      ids = λ n o. ids-same t _ n (λ q m. get_or-set_other (set t i a) (suc i) (16 + 16 * q) b 0 (λ (e : 16 + 16 * q ≡ suc (16 + 16 * r + 3)). omega arith)
          ∙ get_or-set_other t i (16 + 16 * q) a 0 (λ (e : 16 + 16 * q ≡ 16 + 16 * r + 3). omega arith));
    }

-- sets, as the code's stores
module _ (t : List ℕ) where
  pub two_stores : (a b v w x : ℕ) → a ≡ b → v ≡ w → set (set t (a + 3) v) (a + 4) x ≡ sets t (b + 3) (w ∷ x ∷ [])
  two_stores a b v w x e q = rw (← e, ← q) (simp towards_suc)
