-- By which numbers and where an answer is refused, for every way in which answers and boxes are put together. A proof
-- of a block is a block of the same lines. Assumes nothing.
--   Only P m               what m is refused by is a number and a place of P
--   within part list       each number of a list is one of another
--   Placed total head n p  n is one of `zero_placed` and p is 0, or n is one of `box_placed` and p is a box
use Prim.Native.Nat.{ℕ, zero, suc, ◌+◌, ◌≤◌}
use native.Mathlib.Omega.{arith}
use mathlib.Core.Path.{◌≡◌, refl, sym, subst}
use mathlib.Core.List.{List, [], ◌∷◌, ◌++◌}
use mathlib.Core.Bool.{Bool, true, false, ◌&&◌}
use mathlib.Core.Logic.{⊎_elim}
use lib.ListN.{length, length-append}
use lib.Dec.{eqb, ltb}
use borrow.Author.Tests.{ltb-false, eqb-true}
use Rattle.fields.specs.Choice.{pick}
use Rattle.fields.specs.Lists.{member, All}
use Rattle.fields.proofs.FieldLaws.{both}
use Rattle.fields.proofs.TestLaws.{untrue, and_both, or_either, member-all}
use Rattle.boxes.specs.Answer.{Answer, ok, refuse, check}
use Rattle.boxes.specs.Answer as Ans
use Rattle.boxes.specs.Box.{starts, size_of, flat, IsBox, cut}
use Rattle.boxes.specs.Children.{gather, no_rest, contain, first_or}
use Rattle.boxes.specs.Exactly.{ended, one_by, exactly}
use Rattle.boxes.proofs.BoxLaws.{cut-is, head_least, starts-room, front-box}
use Rattle.demands.specs.Numbers.{Among, reading_numbers}
use Rattle.demands.specs.Places.{zero_placed, box_placed, BoxAt}
use Rattle.demands.proofs.PlaceLaws.{box-long, Each, each_first, each-behind, each-joined, each-rest, each_next, box-room}

pub record Only {A : Type 0} (P : ℕ → ℕ → Type 0) (m : Answer A) : Type 0 where
  pub by : (n p : ℕ) → m ≡ refuse n p → P n p

pub only-more : {A : Type 0} {P R : ℕ → ℕ → Type 0} {m : Answer A} → ((n p : ℕ) → P n p → R n p) → Only P m → Only R m
only-more k h = record { by = λ n p e. k n p (h.by n p e) }

module _ {P : ℕ → ℕ → Type 0} where
  pub only-ok : {A : Type 0} {a : A} → Only P (ok a)
  only-ok = record { by = λ n p e. let z : ◌≡◌ {A = ℕ} 0 1 = cc in absurd (omega arith) }

  pub only-refuse : {A : Type 0} {n p : ℕ} → P n p → Only {A = A} P (refuse n p)
  only-refuse {A} {n} {p} h = record { by = λ i j e. let y : n ≡ i = cc in let z : p ≡ j = cc in rw (← y, ← z) h }

  pub only-check : (n p : ℕ) (t : Bool) → P n p → Only P (check n p t)
  unfolding check
  only-check n p true h = only-ok
  only-check n p false h = only-refuse h

  bind_only : {A B : Type 0} (m : Answer A) {f : A → Answer B} → Only P m → ((a : A) → m ≡ ok a → Only P (f a)) →
      Only P (Ans.◌>>=◌ m f)
  unfolding Ans.◌>>=◌
  bind_only (ok a) h k = k a refl
  bind_only (refuse n p) h k = only-refuse (h.by n p refl)

  then-only : {A B : Type 0} (m : Answer A) {k : Answer B} → Only P m → ((a : A) → m ≡ ok a → Only P k) →
      Only P (Ans.◌>>◌ m k)
  unfolding Ans.◌>>◌
  then-only (ok a) h k = k a refl
  then-only (refuse n p) h k = only-refuse (h.by n p refl)

  -- with what is known of the value
  pub from : {A B : Type 0} {m : Answer A} {f : A → Answer B} → Only P m → ((a : A) → m ≡ ok a → Only P (f a)) →
      Only P (Ans.◌>>=◌ m f)
  from h k = bind_only _ h k

  pub behind : {A B : Type 0} {m : Answer A} {k : Answer B} → Only P m → ((a : A) → m ≡ ok a → Only P k) →
      Only P (Ans.◌>>◌ m k)
  behind h k = then-only _ h k

  infixl 20 ◌>>=◌ ◌>>◌
  pub ◌>>=◌ : {A B : Type 0} {m : Answer A} {f : A → Answer B} → Only P m → ((a : A) → Only P (f a)) →
      Only P (Ans.◌>>=◌ m f)
  h >>= k = from h (λ a e. k a)

  pub ◌>>◌ : {A B : Type 0} {m : Answer A} {k : Answer B} → Only P m → Only P k → Only P (Ans.◌>>◌ m k)
  h >> k = behind h (λ a e. k)

  pub only-pick : {A : Type 0} (t : Bool) {a b : Answer A} → Only P a → Only P b → Only P (pick t a b)
  unfolding pick
  only-pick true h k = h
  only-pick false h k = k

abbrev pub within : List ℕ → List ℕ → Bool
within [] list = true
within (x ∷ xs) list = member x list && within xs list

pub among-more : (part list : List ℕ) → within part list ≡ true → (n : ℕ) → Among part n → Among list n
among-more [] list h n e = untrue e
among-more (x ∷ part) list h n e =
    let both = and_both (member x list) _ h in
    ⊎_elim (λ q. rw (eqb-true n x q) both.0) (among-more part list both.1 n) (or_either (eqb n x) _ e)

pub data Placed (total : ℕ) (head : List ℕ) (n p : ℕ) : Type 0 where
  at_zero : Among zero_placed n → p ≡ 0 → Placed total head n p
  at-box : Among box_placed n → BoxAt total head p → Placed total head n p

-- a number of the one list is none of the other
apart : (n : ℕ) → Among zero_placed n → Among box_placed n → ⊥
apart n = member-all (λ (k : ℕ). Among box_placed k → ⊥) zero_placed
    ((λ e. untrue e), ((λ e. untrue e), ((λ e. untrue e), tt))) n

-- what `Placed` says: of the number, of the place, and that the place is in the head
module _ {total : ℕ} {head : List ℕ} {n p : ℕ} where
  pub placed-number : Placed total head n p → Among reading_numbers n
  placed-number (at_zero a e) = among-more zero_placed reading_numbers refl n a
  placed-number (at-box a b) = among-more box_placed reading_numbers refl n a

  pub placed_where : Placed total head n p → (Among zero_placed n → p ≡ 0) × (Among box_placed n → BoxAt total head p)
  placed_where (at_zero a e) = ((λ x. e), (λ x. absurd (apart n a x)))
  placed_where (at-box a b) = ((λ x. absurd (apart n x a)), (λ x. b))

  pub placed-room : Placed total head n p → p ≤ length head
  placed-room (at_zero a e) = omega arith
  placed-room (at-box a b) = let l = box-room b in omega arith

-- boxes: a step that is refused at its box, or inside
module _ {total : ℕ} {head : List ℕ} {S : Type 0} {f : ℕ → S → List ℕ → Answer S}
    (h : (at : ℕ) (z : S) (b : List ℕ) → BoxAt total head at → Only (Placed total head) (f at z b)) where
  gather-only : (at : ℕ) (z : S) (bs : List (List ℕ)) (r : List ℕ) → All IsBox bs →
      Each total head IsBox (flat bs ++ r) at → Only (Placed total head) (gather f at z bs)
  unfolding gather flat
  gather-only at z [] r a g = only-ok
  gather-only at z (b ∷ bs) r a g =
      let k = each-joined b (flat bs) r at g in
      let l = box-long b a.0 in
      h at z b (each_first (b ++ (flat bs ++ r)) at k (rw length-append (omega arith))) >>= (λ t.
      gather-only (at + length b) t bs r a.1 (each-behind b (flat bs ++ r) at a.0 k))

  rest-only : (p at : ℕ) (s : List ℕ) → BoxAt total head p → Each total head IsBox s at →
      Only (Placed total head) (no_rest p at s)
  unfolding no_rest
  rest-only p at [] i g = only-ok
  rest-only p at (x ∷ xs) i g = only-refuse (at-box refl
      (both (BoxAt total head) (ltb (length (x ∷ xs)) 8) p at (λ e. i)
      (λ e. each_first (x ∷ xs) at g (ltb-false (length (x ∷ xs)) 8 e))))

  pub contain-only : (p at : ℕ) (z : S) (s : List ℕ) → BoxAt total head p → Each total head IsBox s at →
      Only (Placed total head) (contain f p at z s)
  unfolding contain
  contain-only p at z s i g =
      let c = cut-is s in
      let k = subst (λ (v : List ℕ). Each total head IsBox v at) (sym c.joined) g in
      do
        t ← gather-only at z (cut s).boxes (cut s).rest c.all k
        rest-only p _ (cut s).rest i (each-rest (cut s).boxes (cut s).rest at c.all k)
        only-ok

  ended-only : (p : ℕ) (z : S) (s : List ℕ) → BoxAt total head p → Only (Placed total head) (ended p z s)
  unfolding ended
  ended-only p z [] i = only-ok
  ended-only p z (x ∷ xs) i = only-refuse (at-box refl i)

  one_only : (t : Bool) (k : ℕ → S → List ℕ → Answer S) (p at : ℕ) (z : S) (s : List ℕ) → starts s ≡ t →
      ((a : ℕ) (z : S) (r : List ℕ) → Each total head IsBox r a → Only (Placed total head) (k a z r)) →
      BoxAt total head p → Each total head IsBox s at → Only (Placed total head) (one_by t f k p at z s)
  unfolding one_by
  one_only true k p at z s e n i g =
      let r = starts-room s e in
      let l = head_least s in
      h at z _ (each_first s at g (omega arith)) >>= (λ t.
      n _ t _ (each_next s at (size_of s) (at + size_of s) e refl refl (front-box s e) g))
  one_only false k p at z s e n i g =
      both (Only {A = S} (Placed total head)) (ltb (length s) 8) _ _ (λ q. only-refuse (at-box refl i))
      (λ q. only-refuse (at-box refl (each_first s at g (ltb-false (length s) 8 q))))

  pub exactly-only : (p n at : ℕ) (z : S) (s : List ℕ) → BoxAt total head p → Each total head IsBox s at →
      Only (Placed total head) (exactly f p n at z s)
  unfolding exactly
  exactly-only p zero at z s i g = ended-only p z s i
  exactly-only p (suc n) at z s i g = one_only (starts s) _ p at z s refl (λ a t r j. exactly-only p n a t r i j) i g

pub first-only : {total : ℕ} {head : List ℕ} (p : ℕ) (bs : List (List ℕ)) → BoxAt total head p →
    Only (Placed total head) (first_or p bs)
unfolding first_or
first-only p [] i = only-refuse (at-box refl i)
first-only p (b ∷ bs) i = only-ok
