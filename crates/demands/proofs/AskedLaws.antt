-- Refusals 21 to 28: what is asked of a good file is refused exactly where the documents say. Assumes nothing.
use Prim.Native.Nat.{ℕ, ◌<◌}
use native.Mathlib.Omega.{arith}
use mathlib.Core.Path.{◌≡◌, refl, sym, ap, ◌∙◌}
use mathlib.Core.Bool.{Bool, true, false, not, ◌&&◌}
use mathlib.Core.Logic.{◌⊎◌, inl, inr}
use lib.ListN.{length}
use lib.Dec.{leb, ltb}
use borrow.Author.Tests.{leb-false, ltb-true, lt-ltb, lt-leb, not-false}
use Rattle.fields.specs.Lists.{member}
use Rattle.fields.proofs.TestLaws.{untrue, and_both, both-and, and_none}
use Rattle.boxes.specs.Answer.{Answer, ok, refuse, check, ◌>>=◌, ◌>>◌}
use Rattle.boxes.specs.Types.{image}
use Rattle.boxes.proofs.AnswerLaws.{ok_bind, bind_ok, then_ok, ok-then, check-ok, ok-check, ok_inj, bind_assoc, bind_refuse}
use Rattle.contents.specs.Iinf.{ids_of}
use Rattle.contents.specs.File.{File}
use Rattle.pictures.specs.declared.Size.{Size}
use Rattle.pictures.specs.declared.Point.{Point}
use Rattle.pictures.specs.Turn.{Inside}
use Rattle.pictures.specs.Scene.{Scene, output_of}
use Rattle.rules.specs.Joined.{associations_of, row_of, item_at}
use Rattle.rules.specs.Places.{Places}
use Rattle.rules.specs.Opening.{listed, pictured}
use Rattle.questions.specs.Questions.{size_in, trace_in, sources_in, property_in}
use Rattle.seam.specs.Points.{points_in}
use Rattle.facing.specs.Orientation.{orientation_in, transforms_in}
use Rattle.demands.specs.Call.{
  IsListed,
  IsPicture,
  shown_as,
  SizeUnmet,
  unlisted,
  opaque,
  TraceUnmet,
  not-shown,
  outside,
  PointsUnmet,
  no_pixels,
  too_many,
  SourcesUnmet,
  not-derived,
  too_short,
  PropertyUnmet,
  not_listed,
  no_such,
  OrientationUnmet,
  no_picture,
  cropped,
}

-- check, then more: the refusal is the test's, or that of what follows
check-then : {A : Type 0} (n p : ℕ) (t : Bool) (m : Answer A) (a b : ℕ) → (check n p t >> m) ≡ refuse a b →
    ((a ≡ n) × (b ≡ p) × (t ≡ false)) ⊎ ((t ≡ true) × (m ≡ refuse a b))
unfolding check ◌>>◌
check-then n p true m a b e = inr (refl, e)
check-then n p false m a b e = inl ((cc), (cc), refl)

never : {A B : Type 0} (x : A) (n p : ℕ) → ok x ≡ refuse n p → B
never x n p e = let z : ◌≡◌ {A = ℕ} 0 1 = cc in absurd (omega arith)

-- a test of both coordinates, or of both bounds
fails : (a b : Bool) → (a && b) ≡ false → (a ≡ false) ⊎ (b ≡ false)
fails true b e = inr e
fails false b e = inl refl

check_bind : {A B : Type 0} (n p : ℕ) (t : Bool) (x : A) (k : A → Answer B) (a b : ℕ) →
    ((check n p t >> ok x) >>= k) ≡ refuse a b → ((a ≡ n) × (b ≡ p) × (t ≡ false)) ⊎ ((t ≡ true) × (k x ≡ refuse a b))
unfolding check ◌>>◌ ◌>>=◌
check_bind n p true x k a b e = inr (refl, e)
check_bind n p false x k a b e = inl ((cc), (cc), refl)

module _ (f : File) (id : ℕ) where
  -- listed, pictured: where they answer
  listed-is : IsListed f id → listed f id ≡ ok (row_of id f.items)
  unfolding listed
  listed-is e = ok-then _ _ tt (ok-check 21 id _ e)

  pub pictured-is : IsPicture f id → pictured f id ≡ ok (row_of id f.items)
  unfolding pictured
  pictured-is e = ok_bind _ _ _ (listed-is e.0) ∙ ok-then _ _ tt (ok-check 22 id _ e.1)

  -- and where not
  listed-unmet : (n p : ℕ) → listed f id ≡ refuse n p → (n ≡ 21) × (p ≡ id) × (member id (ids_of f.items) ≡ false)
  unfolding listed
  listed-unmet n p e = by (check-then 21 id _ _ n p e)
    where
      by : ((n ≡ 21) × (p ≡ id) × (member id (ids_of f.items) ≡ false)) ⊎
          ((member id (ids_of f.items) ≡ true) × (ok (row_of id f.items) ≡ refuse n p)) → (n ≡ 21) × (p ≡ id) ×
          (member id (ids_of f.items) ≡ false)
      by (inl x) = x
      by (inr x) = never _ n p x.1

  listed_ok : (r : ℕ) → listed f id ≡ ok r → IsListed f id × (row_of id f.items ≡ r)
  unfolding listed
  listed_ok r e = let x = then_ok _ _ r e in (check-ok 21 id _ x.0 x.1, ok_inj _ _ x.2)

  pub pictured-shown : (r : ℕ) → pictured f id ≡ ok r → IsPicture f id
  unfolding pictured
  pictured-shown r e =
      let x = bind_ok _ _ r e in
      let l = listed_ok x.0 x.1 in
      let y = then_ok _ _ r x.2 in
      (l.0, ap (λ (k : ℕ). image (item_at f k).type) l.1 ∙ check-ok 22 id _ y.0 y.1)

  -- a question of a listed item
  listed_or : {A : Type 0} (k : ℕ → Answer A) (n p : ℕ) → (listed f id >>= k) ≡ refuse n p →
      ((n ≡ 21) × (p ≡ id) × (member id (ids_of f.items) ≡ false)) ⊎
      (IsListed f id × (k (row_of id f.items) ≡ refuse n p))
  listed_or {A} k n p e = by (bind_refuse (listed f id) k n p e)
    where
      by : (listed f id ≡ refuse n p) ⊎ ((r : ℕ) × (listed f id ≡ ok r) × (k r ≡ refuse n p)) →
          ((n ≡ 21) × (p ≡ id) × (member id (ids_of f.items) ≡ false)) ⊎
          (IsListed f id × (k (row_of id f.items) ≡ refuse n p))
      by (inl x) = inl (listed-unmet n p x)
      by (inr (r, x, y)) = let z = listed_ok r x in inr (z.0, ap k z.1 ∙ y)

  pub pictured_or : {A : Type 0} (k : ℕ → Answer A) (n p : ℕ) → (pictured f id >>= k) ≡ refuse n p →
      (SizeUnmet f id n × (p ≡ id)) ⊎ (IsPicture f id × (k (row_of id f.items) ≡ refuse n p))
  unfolding pictured
  pictured_or {A} k n p e = by (listed_or _ n p (sym (bind_assoc (listed f id) _ k) ∙ e))
    where
      next : IsListed f id → ((n ≡ 22) × (p ≡ id) × (image (item_at f (row_of id f.items)).type ≡ false)) ⊎
          ((image (item_at f (row_of id f.items)).type ≡ true) × (k (row_of id f.items) ≡ refuse n p)) →
          (SizeUnmet f id n × (p ≡ id)) ⊎ (IsPicture f id × (k (row_of id f.items) ≡ refuse n p))
      next l (inl x) = inl (opaque x.0 l x.2, x.1)
      next l (inr x) = inr ((l, x.0), x.1)

      by : ((n ≡ 21) × (p ≡ id) × (member id (ids_of f.items) ≡ false)) ⊎
          (IsListed f id × (((check 22 id (image (item_at f (row_of id f.items)).type) >> ok (row_of id f.items))
          >>= k) ≡ refuse n p)) → (SizeUnmet f id n × (p ≡ id)) ⊎ (IsPicture f id ×
          (k (row_of id f.items) ≡ refuse n p))
      by (inl x) = inl (unlisted x.0 x.2, x.1)
      by (inr x) = next x.0 (check_bind 22 id _ (row_of id f.items) k n p x.1)

  -- a picture, then one test
  picture-then : {A : Type 0} (m : ℕ) (t : ℕ → Bool) (a : ℕ → A) (n p : ℕ) →
      (pictured f id >>= (λ r. check m id (t r) >> ok (a r))) ≡ refuse n p → (SizeUnmet f id n × (p ≡ id)) ⊎
      (IsPicture f id × (n ≡ m) × (p ≡ id) × (t (row_of id f.items) ≡ false))
  picture-then {A} m t a n p e = elim (pictured_or _ n p e) [ inl x ↦ inl x | inr x ↦ by x.0 (check-then m id _ _ n p x.1) ]
    where
      by : IsPicture f id → ((n ≡ m) × (p ≡ id) × (t (row_of id f.items) ≡ false)) ⊎
          ((t (row_of id f.items) ≡ true) × (ok (a (row_of id f.items)) ≡ refuse n p)) →
          (SizeUnmet f id n × (p ≡ id)) ⊎ (IsPicture f id × (n ≡ m) × (p ≡ id) × (t (row_of id f.items) ≡ false))
      by i (inl x) = inr (i, x.0, x.1, x.2)
      by i (inr x) = never _ n p x.1

  -- the questions
  pub size-unmet : (s : Scene) (n p : ℕ) → size_in s f id ≡ refuse n p → SizeUnmet f id n × (p ≡ id)
  unfolding size_in
  size-unmet s n p e = elim (pictured_or _ n p e) [ inl x ↦ x | inr x ↦ never _ n p x.1 ]

  pub trace-unmet : (s : Scene) (q : Point) (n p : ℕ) → trace_in s f id q ≡ refuse n p → TraceUnmet s f id q n × (p ≡ id)
  unfolding trace_in
  trace-unmet s q n p e = elim (picture-then 23 _ _ n p e) [
    | inl x ↦ (not-shown x.0, x.1)
    | inr x ↦ (outside x.1 x.0 (beyond x.3), x.2)
  ]
    where
      z : Size
      z = output_of (shown_as s f id)

      beyond : (ltb q.x z.wide && ltb q.y z.high) ≡ false → Inside z q → ⊥
      beyond e i = untrue (sym e ∙ both-and _ _ (lt-ltb _ _ i.in_x) (lt-ltb _ _ i.in_y))

  pub points-unmet : (k n p : ℕ) → points_in f id k ≡ refuse n p → PointsUnmet f id k n × (p ≡ id)
  unfolding points_in
  points-unmet k n p e = elim (picture-then 28 _ _ n p e) [
    | inl x ↦ (no_pixels x.0, x.1)
    | inr x ↦ (too_many x.1 x.0 (leb-false k 512 x.3), x.2)
  ]

  pub sources-unmet : (s : Scene) (room n p : ℕ) → sources_in s f id room ≡ refuse n p → SourcesUnmet s f id room n × (p ≡ id)
  unfolding sources_in
  sources-unmet s room n p e = elim (picture-then 24 _ _ n p e) [
    | inl x ↦ (not-derived x.0, x.1)
    | inr x ↦ (too_short x.1 x.0 (leb-false _ _ x.3), x.2)
  ]

  pub property-unmet : (pl : Places) (k n p : ℕ) → property_in pl f id k ≡ refuse n p → PropertyUnmet f id k n × (p ≡ id)
  unfolding property_in
  property-unmet pl k n p e = elim (listed_or _ n p e) [ inl x ↦ (not_listed x.0 x.2, x.1) | inr x ↦ last x.0 (check-then 25 id _ _ n p x.1) ]
    where
      which : (leb 1 k ≡ false) ⊎ (leb k (length (associations_of f id)) ≡ false) → (k ≡ 0) ⊎ (length (associations_of f id) < k)
      which (inl h) = let y = leb-false 1 k h in inl (omega arith)
      which (inr h) = inr (leb-false _ _ h)

      last : {A : Type 0} {a : A} → IsListed f id → ((n ≡ 25) × (p ≡ id) ×
          ((leb 1 k && leb k (length (associations_of f id))) ≡ false)) ⊎
          (((leb 1 k && leb k (length (associations_of f id))) ≡ true) × (ok a ≡ refuse n p)) → PropertyUnmet f id k n ×
          (p ≡ id)
      last i (inl x) = (no_such x.0 i (which (fails (leb 1 k) _ x.2)), x.1)
      last i (inr x) = never _ n p x.1

  pub orientation-unmet : (s : Scene) (n p : ℕ) → orientation_in s f id ≡ refuse n p → OrientationUnmet f id n × (p ≡ id)
  unfolding orientation_in
  orientation-unmet s n p e = elim (picture-then 26 _ _ n p e) [
    | inl x ↦ (no_picture x.0, x.1)
    | inr x ↦ (cropped x.1 x.0 (not-false _ x.3), x.2)
  ]

-- The other way: what is unmet refuses.
module _ (f : File) (id : ℕ) where
  listed_off : member id (ids_of f.items) ≡ false → listed f id ≡ refuse 21 id
  unfolding listed check ◌>>◌
  listed_off e = rw e

  pictured_off : (n : ℕ) → SizeUnmet f id n → pictured f id ≡ refuse n id
  unfolding pictured ◌>>=◌ check ◌>>◌
  pictured_off n (unlisted q e) = rw (q, listed_off e)
  pictured_off n (opaque q l e) = rw (q, listed-is f id l, e)

  -- a question of a picture
  pub picture_off : {A : Type 0} (k : ℕ → Answer A) (n p : ℕ) → SizeUnmet f id n → p ≡ id → (pictured f id >>= k) ≡ refuse n p
  unfolding ◌>>=◌
  picture_off k n p u e = rw (pictured_off n u, e)

  -- whose last test fails
  picture-last : {A : Type 0} (m n p : ℕ) (t : ℕ → Bool) (k : ℕ → Answer A) → IsPicture f id → n ≡ m → p ≡ id →
      t (row_of id f.items) ≡ false → (pictured f id >>= (λ r. check m id (t r) >> k r)) ≡ refuse n p
  unfolding ◌>>=◌ check ◌>>◌
  picture-last m n p t k i q e h = rw (pictured-is f id i, h, q, e)

  pub size_off : (s : Scene) (n p : ℕ) → SizeUnmet f id n × (p ≡ id) → size_in s f id ≡ refuse n p
  unfolding size_in
  size_off s n p u = picture_off _ n p u.0 u.1

  pub trace_off : (s : Scene) (q : Point) (n p : ℕ) → TraceUnmet s f id q n × (p ≡ id) → trace_in s f id q ≡ refuse n p
  unfolding trace_in
  trace_off s q n p (not-shown u, e) = picture_off _ n p u e
  trace_off s q n p (outside i w o, e) = picture-last 23 n p _ _ w i e (by _ refl)
    where
      z : Size
      z = output_of (shown_as s f id)

      by : (t : Bool) → (ltb q.x z.wide && ltb q.y z.high) ≡ t → (ltb q.x z.wide && ltb q.y z.high) ≡ false
      by false h = h
      by true h = let b = and_both _ _ h in
          absurd (o (record { in_x = ltb-true q.x z.wide b.0; in_y = ltb-true q.y z.high b.1 }))

  pub points_off : (k n p : ℕ) → PointsUnmet f id k n × (p ≡ id) → points_in f id k ≡ refuse n p
  unfolding points_in
  points_off k n p (no_pixels u, e) = picture_off _ n p u e
  points_off k n p (too_many i w l, e) = picture-last 28 n p _ _ w i e (lt-leb k 512 l)

  pub sources_off : (s : Scene) (room n p : ℕ) → SourcesUnmet s f id room n × (p ≡ id) → sources_in s f id room ≡ refuse n p
  unfolding sources_in
  sources_off s room n p (not-derived u, e) = picture_off _ n p u e
  sources_off s room n p (too_short i w l, e) = picture-last 24 n p _ _ w i e (lt-leb _ _ l)

  pub orientation_off : (s : Scene) (n p : ℕ) → OrientationUnmet f id n × (p ≡ id) → orientation_in s f id ≡ refuse n p
  unfolding orientation_in
  orientation_off s n p (no_picture u, e) = picture_off _ n p u e
  orientation_off s n p (cropped i w c, e) = picture-last 26 n p _ _ w i e (ap not c)

  pub property_off : (pl : Places) (k n p : ℕ) → PropertyUnmet f id k n × (p ≡ id) → property_in pl f id k ≡ refuse n p
  unfolding property_in ◌>>=◌ check ◌>>◌
  property_off pl k n p (not_listed i m, e) = rw (i, listed_off m, e)
  property_off pl k n p (no_such i l w, e) = rw (i, listed-is f id l, test w, e)
    where
      test : (k ≡ 0) ⊎ (length (associations_of f id) < k) → (leb 1 k && leb k (length (associations_of f id))) ≡ false
      test (inl h) = rw (lt-leb 1 k (omega arith))
      test (inr h) = and_none (leb 1 k) (leb k (length (associations_of f id))) (lt-leb k (length (associations_of f id)) h)

-- transforms_in: "27, orientation not 1 to 8, the only check in that call"
module _ (k : ℕ) where
  pub transforms-unmet : (n p : ℕ) → transforms_in k ≡ refuse n p → (n ≡ 27) × (p ≡ 0) × ((k ≡ 0) ⊎ (8 < k))
  unfolding transforms_in
  transforms-unmet n p e = by (check-then 27 0 _ _ n p e)
    where
      which : (leb 1 k ≡ false) ⊎ (leb k 8 ≡ false) → (k ≡ 0) ⊎ (8 < k)
      which (inl h) = let y = leb-false 1 k h in inl (omega arith)
      which (inr h) = inr (leb-false k 8 h)

      by : {A : Type 0} {a : A} → ((n ≡ 27) × (p ≡ 0) × ((leb 1 k && leb k 8) ≡ false)) ⊎
          (((leb 1 k && leb k 8) ≡ true) × (ok a ≡ refuse n p)) → (n ≡ 27) × (p ≡ 0) × ((k ≡ 0) ⊎ (8 < k))
      by (inl x) = (x.0, x.1, which (fails (leb 1 k) _ x.2))
      by (inr x) = never _ n p x.1

  pub transforms_off : (k ≡ 0) ⊎ (8 < k) → transforms_in k ≡ refuse 27 0
  unfolding transforms_in check ◌>>◌
  transforms_off (inl h) = rw (lt-leb 1 k (omega arith))
  transforms_off (inr h) = rw (and_none (leb 1 k) (leb k 8) (lt-leb k 8 h))
