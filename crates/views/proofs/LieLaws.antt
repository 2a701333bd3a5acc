-- Where bytes lie in other bytes. Assumes nothing.
--   Lies s at b      b lies in s from `at` on
--   PartIn s at b    the same, as code takes the part
use Prim.Native.Nat.{ℕ, zero, suc, ◌+◌, ◌<◌, ◌≤◌}
use native.Mathlib.Nat.{not-suc-le-zero, le_of_suc-le-suc}
use native.Mathlib.Omega.{arith}
use mathlib.Core.Path.{◌≡◌, refl, sym, ap, ◌∙◌}
use mathlib.Core.List.{List, [], ◌∷◌, ◌++◌, append_assoc, append-nil}
use mathlib.Core.Bool.{Bool, true, false}
use lib.ListN.{length, get_or, take, drop, length-append, take-append-drop}
use lib.Seq.{length-take-le, take_at, drop_at}
use lib.Dec.{eqb}
use borrow.Author.Tests.{eqb-true}
use Rattle.fields.specs.Lists.{All}
use Rattle.fields.proofs.FieldLaws.{pick_yes, pick_no}
use Rattle.boxes.specs.Box.{head_of, kind_of, body_of, IsBox, flat}
use Rattle.boxes.specs.Children.{of_kind, place_of}
use Rattle.boxes.proofs.ChildLaws.{of_yes, of_no, of_nil}

pub record Lies (s : List ℕ) (at : ℕ) (b : List ℕ) : Type 0 where
  pub before : List ℕ
  pub behind : List ℕ
  pub joined : before ++ (b ++ behind) ≡ s
  pub place : length before ≡ at

pub record PartIn (s : List ℕ) (at : ℕ) (b : List ℕ) : Type 0 where
  pub room : at + length b ≤ length s
  pub part : take (length b) (drop at s) ≡ b

-- Lies
module _ {s b : List ℕ} {at : ℕ} (h : Lies s at b) where
  pub lies_part : PartIn s at b
  lies_part =
      let e = h.joined in
      record {
        room = rw (← e, length-append, length-append) (omega (arith, h.place));
        part = rw (← e, drop_at h.before (b ++ h.behind) at h.place) (take_at b h.behind (length b) refl);
      }

  pub lies_in : {c : List ℕ} {i : ℕ} → Lies b i c → Lies s (at + i) c
  lies_in {c} k =
      record {
        before = h.before ++ k.before;
        behind = k.behind ++ h.behind;
        joined = regroup h.before k.before c k.behind h.behind ∙ ap (λ (l : List ℕ). h.before ++ (l ++ h.behind)) k.joined ∙ h.joined;
        place = rw length-append (omega (arith, h.place, k.place));
      }
    where
      regroup : (p q c r t : List ℕ) → (p ++ q) ++ (c ++ (r ++ t)) ≡ p ++ ((q ++ (c ++ r)) ++ t)
      regroup p q c r t = simp append_assoc

-- the front, what follows a front, and a content
pub lies_front : (a b : List ℕ) → Lies (a ++ b) 0 a
lies_front a b = record { before = []; behind = b; joined = refl; place = refl }

pub lies_after : (a b s : List ℕ) (n : ℕ) → a ++ b ≡ s → length a ≡ n → Lies s n b
lies_after a b s n e l = record { before = a; behind = []; joined = ap (λ (t : List ℕ). a ++ t) (append-nil b) ∙ e; place = l }

pub lies_behind : (a b : List ℕ) → Lies (a ++ b) (length a) b
lies_behind a b = lies_after a b (a ++ b) (length a) refl refl

pub lies_body : (b : List ℕ) → head_of b ≤ length b → Lies b (head_of b) (body_of b)
lies_body b h =
    record {
      before = take (head_of b) b;
      behind = [];
      joined = ap (λ (l : List ℕ). take (head_of b) b ++ l) (append-nil (body_of b)) ∙ take-append-drop (head_of b) b;
      place = length-take-le (head_of b) b h;
    }

-- flat
pub lies_flat : (bs : List (List ℕ)) (k : ℕ) → k < length bs → Lies (flat bs) (length (flat (take k bs))) (get_or bs k [])
unfolding flat
lies_flat [] k h = absurd (not-suc-le-zero h)
lies_flat (b ∷ bs) zero h = lies_front b (flat bs)
lies_flat (b ∷ bs) (suc k) h = rw length-append (lies_in (lies_behind b (flat bs)) (lies_flat bs k (le_of_suc-le-suc h)))

-- of_kind, place_of: the first box of a type
pub record FirstOf (k at : ℕ) (bs : List (List ℕ)) (b : List ℕ) : Type 0 where
  pub past : ℕ
  pub place : place_of k at bs ≡ at + past
  pub lies : Lies (flat bs) past b
  pub box : IsBox b

pub first_of : (k at : ℕ) (bs : List (List ℕ)) (b : List ℕ) (cs : List (List ℕ)) → All IsBox bs → of_kind k bs ≡ b ∷ cs → FirstOf k at bs b
unfolding place_of flat
first_of k at [] b cs a e = let z = sym (of_nil k) ∙ e in let w : ◌≡◌ {A = ℕ} 0 1 = cc in absurd (omega arith)
first_of k at (c ∷ bs) b cs a e = by (eqb (kind_of c) k) refl (first_of k (at + length c) bs b cs a.1)
  where
    by : (t : Bool) → eqb (kind_of c) k ≡ t → (of_kind k bs ≡ b ∷ cs → FirstOf k (at + length c) bs b) → FirstOf k at (c ∷ bs) b
    by true q r =
        let z = sym (of_yes k c bs (eqb-true (kind_of c) k q)) ∙ e in
        let w : c ≡ b = cc in
        record { past = 0; place = pick_yes at _ q ∙ omega arith; lies = rw (← w) (lies_front c (flat bs)); box = rw (← w) a.0 }
    by false q r =
        let f = r (sym (of_no k c bs q) ∙ e) in
        record {
          past = length c + f.past;
          place = pick_no at _ q ∙ f.place ∙ omega arith;
          lies = lies_in (lies_behind c (flat bs)) f.lies;
          box = f.box;
        }
