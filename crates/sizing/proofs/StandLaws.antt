-- TableOf while sizes and depths are put into the records: no word that it speaks of changes. Assumes nothing.
--   Beside k i                the word i is none of those of row k that say its sizes and its depth
--   by_row f                   15, 29 and 16 of each item
-- Standing head u pl f k    the table u is the file's, nothing was put into the rows from k on, the sizes in the one
-- before are its item's, and no item before them is refused
--   Stands head t k u         so it is for every file whose table t was
use Prim.Native.Nat.{ℕ, ◌+◌, ◌*◌, ◌<◌, ◌≤◌}
use native.Mathlib.Omega.{arith}
use mathlib.Core.Path.{◌≡◌, refl, sym, ap, ◌∙◌}
use mathlib.Core.List.{List}
use mathlib.Core.Bool.{Bool, true, false}
use mathlib.Core.Logic.{◌⊎◌, inl, inr}
use Rattle.std.specs.Prelude.{Some, None, Ok, Err}
use lib.ListN.{length, get_or, take, drop}
use lib.Seq.{sets, length-sets}
use lib.Dec.{ltb}
use borrow.Author.Tests.{ltb-true, ltb-false}
use Rattle.boxes.specs.Answer.{Answer}
use Rattle.boxes.specs.Told.{told}
use Rattle.contents.specs.Iinf.{Item}
use Rattle.contents.specs.File.{File}
use Rattle.rules.specs.Joined.{item_at}
use Rattle.rules.specs.Places.{Places}
use Rattle.rules.specs.Rules.{in_order, rule15-29-16}
use Rattle.records.proofs.SetsLaws.{sets_below, sets-above}
use Rattle.views.specs.inner.View.{TableOf, Judging, record_word, wide, id_of}
use Rattle.views.specs.inner.Told.{fault_of}
use Rattle.views.proofs.TableLaws.{row_small}
use Rattle.sizing.specs.inner.Drawn.{sizes_in, ToldBefore}
use Rattle.sizing.proofs.FillLaws.{sizes-five}
use Rattle.sizing.proofs.BeforeLaws.{before-none, before_more}
use Rattle.sizing.proofs.OrderLaws.{from, declared_blames, order_end, order_on, order_off}

abbrev Beside : ℕ → ℕ → Type 0
Beside k i = (i < 26 + 16 * k) ⊎ (31 + 16 * k ≤ i)

sets_beside : (t : List ℕ) (k : ℕ) (ws : List ℕ) → length ws ≡ 5 → (i : ℕ) → Beside k i → get_or (sets t (26 + 16 * k) ws) i 0 ≡ get_or t i 0
sets_beside t k ws n i (inl h) = sets_below ws t (26 + 16 * k) i h
sets_beside t k ws n i (inr h) = sets-above ws t (26 + 16 * k) i (omega arith)

module _ (t u : List ℕ) (k : ℕ) (small : k < 256) (long : length u ≡ length t) (same : (i : ℕ) → Beside k i → get_or u i 0 ≡ get_or t i 0) where
  before-kept : (i : ℕ) → i < 16 → get_or u i 0 ≡ get_or t i 0
  before-kept i h = same i (inl (omega arith))

  behind-kept : (i : ℕ) → 4112 ≤ i → get_or u i 0 ≡ get_or t i 0
  behind-kept i h = same i (inr (omega arith))

  wide-kept : (i : ℕ) → 4112 ≤ i → wide u i ≡ wide t i
  wide-kept i h = omega (arith, behind-kept i h, behind-kept (i + 1) (omega arith))

  front_beside : (r m : ℕ) → m < 10 → (b : Bool) → ltb k r ≡ b → Beside k (16 + 16 * r + m)
  front_beside r m h true e = let z = ltb-true k r e in inr (omega arith)
  front_beside r m h false e = let z = ltb-false k r e in inl (omega arith)

  front_kept : (r m : ℕ) → m < 10 → record_word u r m ≡ record_word t r m
  front_kept r m h = same (16 + 16 * r + m) (front_beside r m h (ltb k r) refl)

  row_kept : (r m : ℕ) → k < r → record_word u r m ≡ record_word t r m
  row_kept r m h = same (16 + 16 * r + m) (inr (omega arith))

  view-kept : (head : List ℕ) (pl : Places) (f : File) → TableOf t head pl f → TableOf u head pl f
  view-kept head pl f v =
      record {
        enough = omega (arith, long, v.enough);
        items = before-kept 0 (omega arith) ∙ v.items;
        properties = before-kept 1 (omega arith) ∙ v.properties;
        targets = before-kept 3 (omega arith) ∙ v.targets;
        primary = before-kept 5 (omega arith) ∙ v.primary;
        bounded = v.bounded;
        distinct = v.distinct;
        sound = v.sound;
        id = λ r h. front_kept r 0 (omega arith) ∙ v.id r h;
        type = λ r h. front_kept r 1 (omega arith) ∙ v.type r h;
        hidden = λ r h. front_kept r 2 (omega arith) ∙ v.hidden r h;
        named-room = λ r h. omega (arith, front_kept r 3 (omega arith), v.named-room r h);
        named_count = λ r h. front_kept r 4 (omega arith) ∙ v.named_count r h;
        named = λ r j h l. behind-kept (5136 + (record_word u r 3 + j)) (omega arith) ∙
            ap (λ (a : ℕ). get_or t (5136 + (a + j)) 0) (front_kept r 3 (omega arith)) ∙ v.named r j h l;
        target_room = λ r h. omega (arith, front_kept r 5 (omega arith), v.target_room r h);
        target-count = λ r h. front_kept r 6 (omega arith) ∙ v.target-count r h;
        target = λ r j h l. behind-kept (7184 + (record_word u r 5 + j)) (omega arith) ∙
            ap (λ (a : ℕ). get_or t (7184 + (a + j)) 0) (front_kept r 5 (omega arith)) ∙ v.target r j h l;
        extent-room = λ r h. omega (arith, front_kept r 7 (omega arith), v.extent-room r h);
        extent-first = λ r h l. front_kept r 7 (omega arith) ∙ v.extent-first r h l;
        extent-count = λ r h. front_kept r 8 (omega arith) ∙ v.extent-count r h;
        extent-size = λ r j h l. wide-kept (9232 + 4 * (record_word u r 7 + j) + 2) (omega arith) ∙
            ap (λ (a : ℕ). wide t (9232 + 4 * (a + j) + 2)) (front_kept r 7 (omega arith)) ∙ v.extent-size r j h l;
        extent-offset = λ r j h l. wide-kept (9232 + 4 * (record_word u r 7 + j)) (omega arith) ∙
            ap (λ (a : ℕ). wide t (9232 + 4 * (a + j))) (front_kept r 7 (omega arith)) ∙ v.extent-offset r j h l;
        method = λ r h. front_kept r 9 (omega arith) ∙ v.method r h;
        property-kind = λ p h. behind-kept (4112 + 4 * p) (omega arith) ∙ v.property-kind p h;
        property-room = λ p h. omega (arith, behind-kept (4112 + 4 * p + 1) (omega arith), behind-kept (4112 + 4 * p + 2) (omega arith), v.property-room p h);
        property-part = λ p h.
            ap (λ (n : ℕ). take n (drop (get_or u (4112 + 4 * p + 1) 0) head)) (behind-kept (4112 + 4 * p + 2) (omega arith))
            ∙ ap (λ (a : ℕ). take (get_or t (4112 + 4 * p + 2) 0) (drop a head)) (behind-kept (4112 + 4 * p + 1) (omega arith))
            ∙ v.property-part p h;
      }

abbrev by_row : File → ℕ → Item → Answer (Unit {0})
by_row f k i = rule15-29-16 f i

pub record Standing (head u : List ℕ) (pl : Places) (f : File) (k : ℕ) : Type 0 where
  pub view : TableOf u head pl f
  pub protection : (r : ℕ) → k ≤ r → r < length f.items → record_word u r 12 ≡ (item_at f r).protection
  pub told : ToldBefore u f k
  pub order : in_order (by_row f) 0 f.items ≡ from (by_row f) f k

abbrev pub Stands : List ℕ → List ℕ → ℕ → List ℕ → Type 0
Stands head t k u = (pl : Places) (f : File) → TableOf t head pl f → Judging t f → Standing head u pl f k

module _ (head t : List ℕ) where
  pub stands_begun : Stands head t 0 t
  stands_begun pl f v j = record { view = v; protection = λ r z h. j.protection r h; told = before-none t f; order = refl }

  -- row k, which is refused by the number m or not; the table is w then
  module _ (n k : ℕ) (u : List ℕ) (c : n ≡ get_or t 0 0) (h : Stands head t k u) where
    module _ (w : List ℕ) (l : k < n) where
      pub stands-more : (d : ℕ) → ((pl : Places) (f : File) → TableOf u head pl f → k < length f.items →
          record_word u k 12 ≡ (item_at f k).protection → ToldBefore u f k → None ≡ fault_of (rule15-29-16 f (item_at f k)))
          → ((pl : Places) (f : File) → TableOf u head pl f → k < length f.items → ToldBefore u f k →
          w ≡ sets u (26 + 16 * k) (sizes_in f k d)) → Stands head t (k + 1) w
      stands-more d fault put pl f v j =
          let s = h pl f v j in
          let i : k < length f.items = omega (arith, v.items) in
          let q = put pl f s.view i s.told in
          let free = fault pl f s.view i (s.protection k (omega arith) i) s.told in
          let five = sizes-five f k d in
          let long : length w ≡ length u = ap length q ∙ length-sets u (26 + 16 * k) (sizes_in f k d) in
          let same : (a : ℕ) → Beside k a → get_or w a 0 ≡ get_or u a 0 = λ a b. ap (λ (x : List ℕ). get_or x a 0) q ∙
          sets_beside u k (sizes_in f k d) five a b in
          record {
            view = view-kept u w k (row_small v k i) long same head pl f s.view;
            protection = λ r a e. row_kept u w k (row_small v k i) long same r 12 (omega arith) ∙ s.protection r (omega arith) e;
            told = before_more f k d u w s.view.enough (row_small v k i) q (sym free);
            order = s.order ∙ order_on (by_row f) f k i free;
          }

      pub stands-refused : (m : ℕ) → ((pl : Places) (f : File) → TableOf u head pl f → k < length f.items →
          record_word u k 12 ≡ (item_at f k).protection → ToldBefore u f k → Some m ≡ fault_of (rule15-29-16 f (item_at f k)))
          → w ≡ u → (id : ℕ) → (k < 256 → id ≡ record_word w k 0)
          → (pl : Places) (f : File) → TableOf t head pl f → Judging t f →
          Err (record { number = m; place = id }) ≡ told (λ u. u) (in_order (by_row f) 0 f.items)
      unfolding told
      stands-refused m fault left id e pl f v j =
          let s = h pl f v j in
          let i : k < length f.items = omega (arith, v.items) in
          let same : id ≡ id_of f k = e (row_small v k i) ∙ ap (λ (x : List ℕ). record_word x k 0) left ∙ s.view.id k i in
          rw same (sym (ap (told (λ u. u)) (s.order ∙ order_off (by_row f) f k i m (declared_blames f (item_at f k))
          (fault pl f s.view i (s.protection k (omega arith) i) s.told))))

    pub stands-done : k ≡ n → (pl : Places) (f : File) → TableOf t head pl f → Judging t f → Ok tt ≡ told (λ u. u) (in_order (by_row f) 0 f.items)
    unfolding told
    stands-done z pl f v j = sym (ap (told (λ u. u)) ((h pl f v j).order ∙ order_end (by_row f) f k (omega (arith, v.items))))
