-- Lists joined one after another, each of the same length. Assumes nothing.
use Prim.Native.Nat.{ℕ, zero, suc, ◌+◌, ◌*◌, ◌<◌, ◌≤◌}
use native.Mathlib.Nat.{mul-suc, mul-zero, not-suc-le-zero, le_of_suc-le-suc}
use native.Mathlib.Omega.{arith}
use mathlib.Core.Path.{◌≡◌, refl, sym, ap, ◌∙◌}
use mathlib.Core.List.{List, [], ◌∷◌, ◌++◌, append_assoc, append-nil}
use lib.ListN.{length, get_or, length-append, get_or-append}
use lib.Seq.{sets}
use Rattle.rules.specs.Words.{join_all}
use Rattle.records.proofs.SetsLaws.{sets_first, sets-from, get_or-from}

-- join_all
module _ {A : Type 0} (f : A → List ℕ) where
  pub join_snoc : (xs : List A) (x : A) → join_all f (xs ++ (x ∷ [])) ≡ join_all f xs ++ f x
  unfolding join_all
  join_snoc [] x = append-nil (f x)
  join_snoc (y ∷ xs) x = rw (join_snoc xs x, append_assoc)

  pub join-same : (g : A → List ℕ) (d : A) (xs : List A) → ((j : ℕ) → j < length xs → f (get_or xs j d) ≡ g (get_or xs j d)) → join_all f xs ≡ join_all g xs
  unfolding join_all
  join-same g d [] h = refl
  join-same g d (x ∷ xs) h = rw (h 0 (omega arith), join-same g d xs (λ j l. h (suc j) (omega arith)))

-- of w words each
module _ {A : Type 0} (f : A → List ℕ) (w : ℕ) (sized : (x : A) → length (f x) ≡ w) where
  pub join-length : (xs : List A) → length (join_all f xs) ≡ w * length xs
  unfolding join_all
  join-length [] = sym (mul-zero w)
  join-length (x ∷ xs) = rw (length-append, sized x, join-length xs, mul-suc) (omega arith)

  pub join-get_or : (d : A) (xs : List A) (r k : ℕ) → r < length xs → k < w → get_or (join_all f xs) (w * r + k) 0 ≡ get_or (f (get_or xs r d)) k 0
  unfolding join_all
  join-get_or d [] r k h l = absurd (not-suc-le-zero h)
  join-get_or d (x ∷ xs) zero k h l =
      let e : w * 0 + k ≡ k = rw mul-zero (omega arith) in
      ap (λ (i : ℕ). get_or (f x ++ join_all f xs) i 0) e ∙ get_or-append (f x) (join_all f xs) 0 k (rw (sized x) l)
  join-get_or d (x ∷ xs) (suc r) k h l =
      let e : w * suc r + k ≡ w + (w * r + k) = rw mul-suc (omega arith) in
      get_or-from (f x) (join_all f xs) w (w * r + k) (w * suc r + k) (sized x) e ∙ join-get_or d xs r k (le_of_suc-le-suc h) l

  -- a run of stores into one of them
  pub join-sets : (g : A → List ℕ) (d : A) (xs : List A) (r k : ℕ) (vs : List ℕ) → r < length xs → k + length vs ≤ w
      → g (get_or xs r d) ≡ sets (f (get_or xs r d)) k vs
      → ((j : ℕ) → j < length xs → (j ≡ r → ⊥) → f (get_or xs j d) ≡ g (get_or xs j d))
      → join_all g xs ≡ sets (join_all f xs) (w * r + k) vs
  unfolding join_all
  join-sets g d [] r k vs h l here other = absurd (not-suc-le-zero h)
  join-sets g d (x ∷ xs) zero k vs h l here other =
      let e : w * 0 + k ≡ k = rw mul-zero (omega arith) in
      let b : k + length vs ≤ length (f x) = rw (sized x) l in
      rw (here, ← join-same f g d xs (λ j m. other (suc j) (omega arith) (omega arith)))
      (sym (ap (λ (i : ℕ). sets (f x ++ join_all f xs) i vs) e ∙ sets_first vs (f x) (join_all f xs) k b))
  join-sets g d (x ∷ xs) (suc r) k vs h l here other =
      let e : w * suc r + k ≡ w + (w * r + k) = rw mul-suc (omega arith) in
      rw (
        ← other 0 (omega arith) (omega arith),
        join-sets g d xs r k vs (le_of_suc-le-suc h) l here
            (λ j m n. other (suc j) (omega arith) (λ q. n (omega arith))),
      )
      (sym (sets-from vs (f x) (join_all f xs) w (w * r + k) (w * suc r + k) (sized x) e))
