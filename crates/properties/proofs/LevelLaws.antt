-- The children of an `iprp`, one at a time: what the loop over them uses. Assumes nothing.
use Prim.Native.Nat.{ℕ, ◌+◌, ◌-◌, ◌≤◌, ◌<◌}
use native.Mathlib.Omega.{arith}
use mathlib.Core.Path.{◌≡◌, refl, sym, ap, ◌∙◌}
use mathlib.Core.List.{List, [], ◌∷◌, ◌++◌, append-nil}
use lib.ListN.{length, take, drop, length-append}
use Rattle.std.specs.Prelude.{Ok, Err}
use Rattle.boxes.specs.Answer.{Answer, ◌>>=◌}
use Rattle.boxes.specs.Told.{told}
use Rattle.boxes.specs.Box.{head_of, kind_of, flat}
use Rattle.boxes.specs.Children.{contain}
use Rattle.boxes.specs.inner.Header.{child_at}
use Rattle.boxes.specs.declared.Child.TheVariants as child
use Rattle.boxes.proofs.ContainLaws.{children_from, stood, from-box, from-bad, from_spare, from_end}
use Rattle.contents.specs.Iprp.{any_box}
use Rattle.properties.specs.inner.Steps.{level_of}
use Rattle.properties.specs.declared.Level.{Level}

-- flat
pub flat-more : (bs : List (List ℕ)) (b : List ℕ) → length (flat (bs ++ (b ∷ []))) ≡ length (flat bs) + length b
unfolding flat
flat-more [] b = rw append-nil (omega arith)
flat-more (a ∷ bs) b = let e = flat-more bs b in rw (length-append, length-append) (omega arith)

-- level_of: one child more, as the first, the second or another
first : (bs : List (List ℕ)) (b : List ℕ) (kind body end : ℕ) → (level_of bs).count ≡ 0 → kind_of b ≡ kind →
    length (flat bs) + head_of b ≡ body → length (flat bs) + length b ≡ end
    → record {
      count = 1;
      kind0 = kind;
      body0 = body;
      end0 = end;
      kind1 = (level_of bs).kind1;
      body1 = (level_of bs).body1;
      end1 = (level_of bs).end1;
    } ≡ level_of (bs ++ (b ∷ []))
unfolding level_of flat
first [] b kind body end c k h z =
    let i : body ≡ head_of b = omega arith in
    let j : end ≡ length b = omega arith in
    rw (← k, i, j)
first (a ∷ []) b kind body end c k h z = absurd (omega arith)
first (a ∷ d ∷ []) b kind body end c k h z = absurd (omega arith)
first (a ∷ d ∷ e ∷ bs) b kind body end c k h z = absurd (omega arith)

second : (bs : List (List ℕ)) (b : List ℕ) (kind body end : ℕ) → (level_of bs).count ≡ 1 → kind_of b ≡ kind →
    length (flat bs) + head_of b ≡ body → length (flat bs) + length b ≡ end
    → record {
      count = 2;
      kind0 = (level_of bs).kind0;
      body0 = (level_of bs).body0;
      end0 = (level_of bs).end0;
      kind1 = kind;
      body1 = body;
      end1 = end;
    } ≡ level_of (bs ++ (b ∷ []))
unfolding level_of flat
second [] b kind body end c k h z = absurd (omega arith)
second (a ∷ []) b kind body end c k h z =
    let l : length (a ++ []) ≡ length a = ap length (append-nil a) in
    let i : body ≡ length a + head_of b = omega arith in
    let j : end ≡ length a + length b = omega arith in
    rw (← k, i, j)
second (a ∷ d ∷ []) b kind body end c k h z = absurd (omega arith)
second (a ∷ d ∷ e ∷ bs) b kind body end c k h z = absurd (omega arith)

another : (bs : List (List ℕ)) (b : List ℕ) → ((level_of bs).count ≡ 0 → ⊥) → ((level_of bs).count ≡ 1 → ⊥)
    → record {
      count = 3;
      kind0 = (level_of bs).kind0;
      body0 = (level_of bs).body0;
      end0 = (level_of bs).end0;
      kind1 =
          (level_of bs).kind1;
      body1 = (level_of bs).body1;
      end1 = (level_of bs).end1;
    } ≡ level_of (bs ++ (b ∷ []))
unfolding level_of
another [] b n m = absurd (n refl)
another (a ∷ []) b n m = absurd (m refl)
another (a ∷ d ∷ []) b n m = refl
another (a ∷ d ∷ e ∷ bs) b n m = refl

-- the same of the code's level l
module _ (l : Level) (kind body end : ℕ) (bs : List (List ℕ)) (b : List ℕ) (is : l ≡ level_of bs) (k : kind_of b ≡ kind)
    (h : length (flat bs) + head_of b ≡ body) (z : length (flat bs) + length b ≡ end) where
  pub level-first : l.count ≡ 0 → record {
    count = 1;
    kind0 = kind;
    body0 = body;
    end0 = end;
    kind1 = l.kind1;
    body1 = l.body1;
    end1 = l.end1;
  } ≡ level_of (bs ++ (b ∷ []))
  level-first c = rw is (first bs b kind body end (ap (λ (m : Level). m.count) (sym is) ∙ c) k h z)

  pub level-second : l.count ≡ 1 → record {
    count = 2;
    kind0 = l.kind0;
    body0 = l.body0;
    end0 = l.end0;
    kind1 =
        kind;
    body1 = body;
    end1 = end;
  } ≡ level_of (bs ++ (b ∷ []))
  level-second c = rw is (second bs b kind body end (ap (λ (m : Level). m.count) (sym is) ∙ c) k h z)

  pub level_another : (l.count ≡ 0 → ⊥) → (l.count ≡ 1 → ⊥)
      → record { count = 3; kind0 = l.kind0; body0 = l.body0; end0 = l.end0; kind1 = l.kind1; body1 = l.body1; end1 = l.end1 } ≡ level_of (bs ++ (b ∷ []))
  level_another c d = rw is (another bs b (λ e. c (ap (λ (m : Level). m.count) is ∙ e)) (λ e. d (ap (λ (m : Level). m.count) is ∙ e)))

-- what the loop keeps: the children before `at`
module _ (s : List ℕ) (place base : ℕ) where
  abbrev level_answer : Answer (List (List ℕ))
  level_answer = contain any_box place base [] s

  pub record LevelSo (l : Level) (at : ℕ) : Type 0 where
    pub boxes : List (List ℕ)
    pub size : length (flat boxes) ≡ at
    pub here : at ≤ length s
    pub same : level_answer ≡ children_from any_box place base s at boxes
    pub level-is : l ≡ level_of boxes

  pub level_begin : LevelSo (record { count = 0; kind0 = 0; body0 = 0; end0 = 0; kind1 = 0; body1 = 0; end1 = 0 }) 0
  unfolding level_of flat
  level_begin =
      let e : base ≡ base + 0 = omega arith in
      record { boxes = []; size = refl; here = omega arith; same = ap (λ (b : ℕ). contain any_box place b [] s) e; level-is = refl }

  module _ (l : Level) (at : ℕ) (so : LevelSo l at) where
    pub level-bad : child_at s at ≡ child.Bad → Err (record { number = 3; place = base + at }) ≡ told level_of level_answer
    unfolding told
    level-bad e = sym (ap (told level_of) (so.same ∙ from-bad s at any_box place base so.boxes e))

    pub level_spare : child_at s at ≡ child.Spare → Err (record { number = 3; place = place }) ≡ told level_of level_answer
    unfolding told
    level_spare e = sym (ap (told level_of) (so.same ∙ from_spare s at any_box place base so.boxes e))

    pub level-end : child_at s at ≡ child.End → Ok l ≡ told level_of level_answer
    unfolding told
    level-end e = ap Ok so.level-is ∙ sym (ap (told level_of) (so.same ∙ from_end s at any_box place base so.boxes e))

    -- one more
    module _ (kind body end : ℕ) (e : child_at s at ≡ child.Whole kind body end) where
      pub level_further : (at < end) × (end ≤ length s)
      level_further = let w = stood s at kind body end e in (omega (arith, w.order), w.inside)

      abbrev b : List ℕ
      b = take (end - at) (drop at s)

      pub level-more : (m : Level)
          → ((bs : List (List ℕ)) (b : List ℕ) → l ≡ level_of bs → kind_of b ≡ kind → length (flat bs) + head_of b ≡ body →
          length (flat bs) + length b ≡ end → m ≡ level_of (bs ++ (b ∷ [])))
          → LevelSo m end
      unfolding ◌>>=◌
      level-more m h =
          let w = stood s at kind body end e in
          let z = so.size in
          record {
            boxes = so.boxes ++ (b ∷ []);
            size = flat-more so.boxes b ∙ omega (arith, w.its_end);
            here = w.inside;
            same = so.same ∙ from-box s at any_box place base so.boxes kind body end e;
            level-is = h so.boxes b so.level-is w.its_kind (omega (arith, w.its_body_lem)) (omega (arith, w.its_end));
          }
