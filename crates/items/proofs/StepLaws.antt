-- Exactly so many boxes, one box at a time, by the child that stands at a place: what a loop over counted boxes uses. Assumes nothing.
use Prim.Native.Nat.{ℕ, suc, ◌+◌, ◌-◌, ◌≤◌, ◌<◌}
use native.Mathlib.Omega.{arith}
use mathlib.Core.Path.{◌≡◌, refl, ap, ◌∙◌, subst}
use mathlib.Core.List.{List, [], ◌∷◌}
use mathlib.Core.Bool.{Bool, false}
use lib.ListN.{length, take, drop, length-drop, drop_of_length-le}
use lib.Seq.{drop-drop}
use lib.Dec.{ltb}
use borrow.Author.Tests.{eqb-true, ltb-true, ltb-false, lt-ltb, le-ltb}
use Rattle.fields.specs.Choice.{pick}
use Rattle.fields.proofs.FieldLaws.{both}
use Rattle.boxes.specs.Answer.{Answer, ok, refuse, ◌>>=◌}
use Rattle.boxes.specs.Box.{size_of, starts}
use Rattle.boxes.specs.Exactly.{ended, one_by, exactly}
use Rattle.boxes.specs.inner.Header.{child_at}
use Rattle.boxes.specs.declared.Child.{Child}
use Rattle.boxes.specs.declared.Child.TheVariants as child
use Rattle.boxes.proofs.ContainLaws.{Stood}

-- exactly, from a place of the content s, which begins at `base`
module _ {S : Type 0} (f : ℕ → S → List ℕ → Answer S) (p base : ℕ) (s : List ℕ) where
  abbrev pub exactly_from : ℕ → ℕ → S → Answer S
  exactly_from n at z = exactly f p n (base + at) z (drop at s)

  pub exactly-end : (at : ℕ) (z : S) → length s ≤ at → exactly_from 0 at z ≡ ok z
  unfolding exactly ended
  exactly-end at z h = ap (ended p z) (drop_of_length-le s h)

  pub exactly-left : (at : ℕ) (z : S) → at < length s → exactly_from 0 at z ≡ refuse 8 p
  unfolding exactly ended
  exactly-left at z h = go (drop at s) (rw length-drop (omega arith))
    where
      go : (r : List ℕ) → 0 < length r → ended p z r ≡ refuse 8 p
      go [] l = absurd (omega arith)
      go (x ∷ r) l = refl

  module _ (n at : ℕ) (z : S) where
    pub exactly-box : (kind body end : ℕ) → Stood s at kind body end →
        exactly_from (suc n) at z ≡ (f (base + at) z (take (end - at) (drop at s)) >>= (λ t. exactly_from n end t))
    unfolding exactly one_by
    exactly-box kind body end w =
        let i : at + size_of (drop at s) ≡ end = omega (arith, w.its_size, w.order) in
        let j : base + at + size_of (drop at s) ≡ base + end = omega arith in
        ap (λ (c : Bool). one_by c f (λ a t r. exactly f p n a t r) p (base + at) z (drop at s)) w.starts-here
        ∙ rw (w.its_size, drop-drop (size_of (drop at s)) at s, i, j)

    off : starts (drop at s) ≡ false → exactly_from (suc n) at z ≡ pick (ltb (length (drop at s)) 8) (refuse 8 p) (refuse 3 (base + at))
    unfolding exactly one_by
    off o = ap (λ (c : Bool). one_by c f (λ a t r. exactly f p n a t r) p (base + at) z (drop at s)) o

    few : starts (drop at s) ≡ false → length (drop at s) < 8 → exactly_from (suc n) at z ≡ refuse 8 p
    unfolding pick
    few o l = off o ∙ rw (lt-ltb (length (drop at s)) 8 l)

    whole : starts (drop at s) ≡ false → 8 ≤ length (drop at s) → exactly_from (suc n) at z ≡ refuse 3 (base + at)
    unfolding pick
    whole o l = off o ∙ rw (le-ltb (length (drop at s)) 8 l)

    -- what there is instead of a box
    data Sees : Child → Type 0 where
      sees_box : {kind body end : ℕ} → Sees (child.Whole kind body end)
      sees_end : exactly_from (suc n) at z ≡ refuse 8 p → Sees child.End
      sees_spare : exactly_from (suc n) at z ≡ refuse 8 p → Sees child.Spare
      sees_bad : exactly_from (suc n) at z ≡ refuse 3 (base + at) → Sees child.Bad

    sees : Sees (child_at s at)
    unfolding child_at
    sees =
        both Sees _ _ _ (λ o. sees_box)
        (λ o. both Sees _ _ _ (λ e. let l : length (drop at s) ≡ 0 = eqb-true _ _ e in sees_end (few o (omega arith)))
        (λ e. both Sees _ _ _ (λ l. sees_spare (few o (ltb-true _ _ l)))
        (λ l. sees_bad (whole o (ltb-false _ _ l)))))

    pub exactly-bad : child_at s at ≡ child.Bad → exactly_from (suc n) at z ≡ refuse 3 (base + at)
    exactly-bad e = go (subst Sees e sees)
      where
        go : Sees child.Bad → exactly_from (suc n) at z ≡ refuse 3 (base + at)
        go (sees_bad q) = q

    pub exactly_spare : child_at s at ≡ child.Spare → exactly_from (suc n) at z ≡ refuse 8 p
    exactly_spare e = go (subst Sees e sees)
      where
        go : Sees child.Spare → exactly_from (suc n) at z ≡ refuse 8 p
        go (sees_spare q) = q

    pub exactly-none : child_at s at ≡ child.End → exactly_from (suc n) at z ≡ refuse 8 p
    exactly-none e = go (subst Sees e sees)
      where
        go : Sees child.End → exactly_from (suc n) at z ≡ refuse 8 p
        go (sees_end q) = q
