-- The sources that marks leave, one row more, counted and written. Assumes nothing.
--   Kept t marks l k c out    after k rows: c sources, which stand in the list out, once l, if they fit
use Prim.Native.Nat.{ℕ, zero, suc, ◌+◌, ◌≤◌, ◌<◌}
use native.Mathlib.Nat.{le_of_suc-le-suc}
use native.Mathlib.Numerals.{add-one}
use native.Mathlib.Omega.{arith}
use mathlib.Core.Path.{◌≡◌, refl, sym, ap, ◌∙◌}
use mathlib.Core.List.{List, [], ◌∷◌, ◌++◌, append-nil}
use mathlib.Core.Bool.{Bool, true, false, ◌&&◌}
use lib.ListN.{length, get_or, set, drop, length-append, length-set}
use lib.Dec.{eqb}
use Rattle.fields.proofs.FieldLaws.{pick_yes, pick_no}
use Rattle.boxes.specs.Types.{coded}
use Rattle.views.specs.inner.View.{record_word}
use Rattle.needed.specs.inner.Marked.{marked_of}

-- a value after the end of what is written
store-end : (xs l : List ℕ) (v : ℕ) → length xs < length l → set (xs ++ drop (length xs) l) (length xs) v ≡ (xs ++ (v ∷ [])) ++ drop (suc (length xs)) l
store-end xs [] v h = absurd (omega arith)
store-end [] (y ∷ ys) v h = refl
store-end (x ∷ xs) (y ∷ ys) v h = ap (λ (l : List ℕ). x ∷ l) (store-end xs ys v (le_of_suc-le-suc h))

module _ (t marks : List ℕ) where
  abbrev pub chosen : ℕ → Bool
  chosen n = eqb (get_or marks n 0) 1 && coded (record_word t n 1)

  -- marked_of
  marked-yes : (n : ℕ) → chosen n ≡ true → marked_of t marks (n + 1) ≡ marked_of t marks n ++ (record_word t n 0 ∷ [])
  unfolding marked_of
  marked-yes n e = rw (add-one n) (ap (λ (x : List ℕ). marked_of t marks n ++ x) (pick_yes _ _ e))

  marked_no : (n : ℕ) → chosen n ≡ false → marked_of t marks (n + 1) ≡ marked_of t marks n
  unfolding marked_of
  marked_no n e = rw (add-one n) (ap (λ (x : List ℕ). marked_of t marks n ++ x) (pick_no _ _ e) ∙ append-nil (marked_of t marks n))

  longer : (n : ℕ) → chosen n ≡ true → length (marked_of t marks (n + 1)) ≡ length (marked_of t marks n) + 1
  longer n e = ap length (marked-yes n e) ∙ length-append (marked_of t marks n) (record_word t n 0 ∷ [])

  pub marked-few : (n : ℕ) → length (marked_of t marks n) ≤ n
  marked-few zero = unfold marked_of in omega arith
  marked-few (suc n) = by (chosen n) refl (marked-few n)
    where
      by : (b : Bool) → chosen n ≡ b → length (marked_of t marks n) ≤ n → length (marked_of t marks (suc n)) ≤ suc n
      by true e l = let h = rw (add-one n) at (longer n e) in omega arith
      by false e l = let h = ap length (rw (add-one n) at (marked_no n e)) in omega arith

  pub count_none : 0 ≡ length (marked_of t marks 0)
  unfolding marked_of
  count_none = refl

  pub record Kept (l : List ℕ) (k c : ℕ) (out : List ℕ) : Type 0 where
    pub long : length out ≡ length l
    pub count : c ≡ length (marked_of t marks k)
    pub list : length (marked_of t marks k) ≤ length l → out ≡ marked_of t marks k ++ drop (length (marked_of t marks k)) l

  pub kept-none : (l : List ℕ) → Kept l 0 0 l
  unfolding marked_of
  kept-none l = record { long = refl; count = refl; list = λ h. refl }

  -- a turn: the row r is the one after k, and it was found whether it is chosen
  module _ (k r : ℕ) (b : Bool) (at : r ≡ k) (small : k < 256) (says : r < 256 → b ≡ chosen r) where
    told : (x : Bool) → b ≡ x → chosen k ≡ x
    told x e = ap chosen (sym at) ∙ sym (says (omega arith)) ∙ e

    module _ (c d : ℕ) (counted : c ≡ length (marked_of t marks k)) where
      pub count-take : b ≡ true → d ≡ c + 1 → d ≡ length (marked_of t marks (k + 1))
      count-take e f = let h = longer k (told true e) in omega arith

      pub count_pass : b ≡ false → d ≡ c → d ≡ length (marked_of t marks (k + 1))
      count_pass e f = f ∙ counted ∙ ap length (sym (marked_no k (told false e)))

    module _ (l : List ℕ) (c : ℕ) (out : List ℕ) (h : Kept l k c out) (d : ℕ) (new : List ℕ) where
      pub kept-take : (id : ℕ) → b ≡ true → c < length out → (r < 256 → id ≡ record_word t r 0) → new ≡ set out c id → d ≡ c + 1 → Kept l (k + 1) d new
      kept-take id e room named f g =
          let xs = marked_of t marks k in
          let n = longer k (told true e) in
          let i : id ≡ record_word t k 0 = named (omega arith) ∙ ap (λ (j : ℕ). record_word t j 0) at in
          let u : length xs < length l = omega (arith, h.long, h.count) in
          record {
            long = rw f (length-set out c id ∙ h.long);
            count = count-take c d h.count e g;
            list = λ w. rw (f, n, add-one (length xs), marked-yes k (told true e), ← i, h.list (omega arith), h.count) (store-end xs l id u);
          }

      pub kept_full : b ≡ true → (c < length out → ⊥) → new ≡ out → d ≡ c + 1 → Kept l (k + 1) d new
      kept_full e room f g =
          let n = longer k (told true e) in
          record {
            long = rw f h.long;
            count = count-take c d h.count e g;
            list = λ w. absurd (room (omega (arith, h.long, h.count)));
          }

      pub kept_pass : b ≡ false → new ≡ out → d ≡ c → Kept l (k + 1) d new
      kept_pass e f g =
          record {
            long = rw f h.long;
            count = count_pass c d h.count e g;
            list = rw (f, marked_no k (told false e)) h.list;
          }
