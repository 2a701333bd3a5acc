-- Records whose places are written and which are then moved into rising ID order are the file's: what a call leaves by
-- document 01 alone becomes what it leaves by Q-6. Assumes nothing.
use Prim.Native.Nat.{ℕ, ◌+◌, ◌*◌, ◌-◌, ◌/◌, ◌%◌, ◌≤◌, ◌<◌}
use native.Mathlib.Nat.{mod-lt, div-add-mod', not-suc-le-zero}
use native.Mathlib.Omega.{arith}
use native.Mathlib.Decide.{dec_lt}
use mathlib.Core.Path.{◌≡◌, refl, sym, ap, ◌∙◌}
use mathlib.Core.List.{List, ◌++◌}
use mathlib.Core.Bool.{Bool, true, false}
use mathlib.Core.Logic.{inl, inr}
use lib.ListN.{length, get_or, replicate, drop, length-append, length-replicate, get_or-map}
use lib.Seq.{ext_get_or}
use lib.Dec.{leb}
use borrow.Author.Tests.{leb-true, leb-false}
use Rattle.fields.proofs.FieldLaws.{pick_yes, pick_no}
use Rattle.boxes.specs.Answer.{Answer, ok, refuse}
use Rattle.contents.specs.File.{File}
use Rattle.rules.specs.Words.{Filed, by_id, file_words, words_of}
use Rattle.rules.specs.Opening.{accepted, after_by, left_by, after, file_after}
use Rattle.rules.proofs.RuleLaws.{accepted-both}
use Rattle.rules.proofs.OrderLaws.{no_filed, row_at, order_placed, read-few, words_long, words-same-length, words_count, words-moved, words_placed, words-other}
use Rattle.arranged.specs.inner.Order.{InOrder, Outside, PlacesPut, Moved, Rising, row_in}

-- u is t with n records in another order, each with its old row in its sixteenth word
pub record Arranged (n : ℕ) (row : ℕ → ℕ) (t u : List ℕ) : Type 0 where
  pub long : length u ≡ length t
  pub moved : (k c : ℕ) → k < n → c < 15 → get_or u (16 + 16 * k + c) 0 ≡ get_or t (16 + 16 * row k + c) 0
  pub placed : (k : ℕ) → k < n → get_or u (16 + 16 * k + 15) 0 ≡ row k
  pub outside : (i : ℕ) → Outside n i → get_or u i 0 ≡ get_or t i 0

pub put-moved : (n : ℕ) (row : ℕ → ℕ) (t t₁ u : List ℕ) → PlacesPut n t t₁ → ((k : ℕ) → k < n → row k < n) → Moved n row t₁ u → Arranged n row t u
put-moved n row t t₁ u p within m =
    record {
      long = m.long ∙ p.long;
      moved = λ k c h l. m.words k c h (omega arith) ∙ p.others (row k) c l;
      placed = λ k h. m.words k 15 h (omega arith) ∙ p.placed (row k) (within k h);
      outside = λ i h. m.outside i h ∙ p.outside i h;
    }

-- rows that are in their own order already
pub rising-moved : (n : ℕ) (b t : List ℕ) → Rising n b → Moved n (row_in b) t t
rising-moved n b t r =
    record {
      long = refl;
      words = λ k c h l. ap (λ (j : ℕ). get_or t (16 + 16 * j + c) 0) (sym (r k h));
      outside = λ i h. refl;
    }

-- there is one such list only
pub arranged_once : (n : ℕ) (row row₁ : ℕ → ℕ) (t u w : List ℕ) → ((k : ℕ) → k < n → row k ≡ row₁ k) → Arranged n row t u → Arranged n row₁ t w → u ≡ w
arranged_once n row row₁ t u w same a b = ext_get_or 0 u w (a.long ∙ sym b.long) (λ i h. by i (dec_lt i 16) (dec_lt i (16 + 16 * n)))
  where
    here : (i k c : ℕ) → i ≡ 16 + 16 * k + c → c < 16 → k < n → get_or u i 0 ≡ get_or w i 0
    here i k c e l h = each (dec_lt c 15)
      where
        each : Dec (c < 15) → get_or u i 0 ≡ get_or w i 0
        each (yes m) =
            ap (λ (j : ℕ). get_or u j 0) e ∙ a.moved k c h m
            ∙ ap (λ (j : ℕ). get_or t (16 + 16 * j + c) 0) (same k h)
            ∙ sym (ap (λ (j : ℕ). get_or w j 0) e ∙ b.moved k c h m)
        each (no m) =
            let q : i ≡ 16 + 16 * k + 15 = omega arith in
            ap (λ (j : ℕ). get_or u j 0) q ∙ a.placed k h ∙ same k h ∙ sym (ap (λ (j : ℕ). get_or w j 0) q ∙ b.placed k h)

    by : (i : ℕ) → Dec (i < 16) → Dec (i < 16 + 16 * n) → get_or u i 0 ≡ get_or w i 0
    by i (yes l) d = a.outside i (inl l) ∙ sym (b.outside i (inl l))
    by i (no l) (no m) = a.outside i (inr (omega arith)) ∙ sym (b.outside i (inr (omega arith)))
    by i (no l) (yes m) =
        let e = div-add-mod' (i - 16) 16 in
        let c = mod-lt (i - 16) {m = 16} (omega arith) in
        here i ((i - 16) / 16) ((i - 16) % 16) (omega arith) c (omega arith)

-- words_of
pub words_arranged : (total : ℕ) (head : List ℕ) (f : File) (x : List ℕ) →
    Arranged (length f.items) (λ (k : ℕ). (row_at f.items k).place) (file_words total head f ++ x) (words_of total head f ++ x)
words_arranged total head f x =
    record {
      long = words-same-length total head f x;
      moved = words-moved total head f x;
      placed = words_placed total head f x;
      outside = words-other total head f x;
    }

-- what a call leaves, in three cases, whatever the layout
module _ (words : ℕ → List ℕ → File → List ℕ) (total : ℕ) (head before : List ℕ) where
  pub left-short : leb 11280 (length before) ≡ false → after_by words total head before ≡ before
  unfolding after_by
  left-short e = pick_no _ _ e

  pub left-cleared : leb 11280 (length before) ≡ true → (n p : ℕ) → accepted total head ≡ refuse n p →
      after_by words total head before ≡ replicate 11280 0 ++ drop 11280 before
  unfolding after_by left_by
  left-cleared e n p q = pick_yes _ _ e ∙ ap (left_by words total head before) q

  pub left_taken : leb 11280 (length before) ≡ true → (f : File) → accepted total head ≡ ok f →
      after_by words total head before ≡ words total head f ++ drop 11280 before
  unfolding after_by left_by
  left_taken e f q = pick_yes _ _ e ∙ ap (left_by words total head before) q

-- by each of them, something about the table t that document 01 alone has and the table u of Q-6
pub by_left : (P : List ℕ → List ℕ → Type 0) (total : ℕ) (head before : List ℕ)
    → (length before < 11280 → P before before)
    → (P (replicate 11280 0 ++ drop 11280 before) (replicate 11280 0 ++ drop 11280 before))
    → ((f : File) → 11280 ≤ length before → accepted total head ≡ ok f →
    P (file_words total head f ++ drop 11280 before) (words_of total head f ++ drop 11280 before))
    → P (file_after total head before) (after total head before)
by_left P total head before s c t = by (leb 11280 (length before)) refl (accepted total head) refl
  where
    by : (b : Bool) → leb 11280 (length before) ≡ b → (a : Answer File) → accepted total head ≡ a →
        P (file_after total head before) (after total head before)
    by false e a q = rw (left-short file_words total head before e, left-short words_of total head before e) (s (leb-false 11280 (length before) e))
    by true e (refuse n p) q = rw (left-cleared file_words total head before e n p q, left-cleared words_of total head before e n p q) c
    by true e (ok f) q = rw (left_taken file_words total head before e f q, left_taken words_of total head before e f q)
        (t f (leb-true 11280 (length before) e) q)

zeros_first : (x : List ℕ) → get_or (replicate 11280 0 ++ x) 0 0 ≡ 0
zeros_first x = refl

zeros_long : (x : List ℕ) → 11280 ≤ length (replicate 11280 0 ++ x)
zeros_long x = rw (length-append, length-replicate) (omega arith)

-- no record to move, and all of a file's
nothing-moved : (row : ℕ → ℕ) (t t₁ u : List ℕ) → PlacesPut 0 t t₁ → Moved 0 row t₁ u → u ≡ t
nothing-moved row t t₁ u p m =
    arranged_once 0 row row t u t (λ k h. refl) (put-moved 0 row t t₁ u p (λ k h. absurd (not-suc-le-zero h)) m)
    (record {
      long = refl;
      moved = λ k c h. absurd (not-suc-le-zero h);
      placed = λ k h. absurd (not-suc-le-zero h);
      outside = λ i h. refl;
    })

file-moved : (total : ℕ) (head : List ℕ) (f : File) (x t₁ u b : List ℕ) → InOrder b f → PlacesPut (length f.items) (file_words total head f ++ x) t₁ →
    (((k : ℕ) → k < length f.items → row_in b k < length f.items) → Moved (length f.items) (row_in b) t₁ u) →
    u ≡ words_of total head f ++ x
file-moved total head f x t₁ u b ordered p m =
    arranged_once (length f.items) (row_in b) (λ (k : ℕ). (row_at f.items k).place) (file_words total head f ++ x) u _ row
    (put-moved (length f.items) (row_in b) (file_words total head f ++ x) t₁ u p within (m within)) (words_arranged total head f x)
  where
    row : (k : ℕ) → k < length f.items → row_in b k ≡ (row_at f.items k).place
    row k h = ordered k h ∙ get_or-map (λ (p : Filed). p.place) (by_id f.items) k no_filed

    within : (k : ℕ) → k < length f.items → row_in b k < length f.items
    within k h = rw (row k h) (order_placed f.items k h).0

-- w is what putting places and moving makes of o
abbrev Done : List ℕ → List ℕ → List ℕ → List ℕ → List ℕ → Type 0
Done t₁ u b o w =
    11280 ≤ length o → PlacesPut (get_or o 0 0) o t₁
    → (((k : ℕ) → k < get_or o 0 0 → row_in b k < get_or o 0 0) → Moved (get_or o 0 0) (row_in b) t₁ u) → u ≡ w

-- a table that is too short for records, one whose first word is none of a file's, and one whose records are moved
module _ (total : ℕ) (head before : List ℕ) where
  pub too_short : (t : List ℕ) → t ≡ file_after total head before → length t < 11280 → t ≡ after total head before
  too_short t e l =
      e ∙ by_left (λ (o n : List ℕ). length o < 11280 → o ≡ n) total head before
      (λ s m. refl)
      (λ m. refl)
      (λ f s q m. absurd (omega (arith, words_long total head f (drop 11280 before))))
      (rw (← e) l)

  pub too_many : (t : List ℕ) → t ≡ file_after total head before → 11280 ≤ length t → 256 < get_or t 0 0 → t ≡ after total head before
  too_many t e l m =
      e ∙ by_left (λ (o n : List ℕ). 256 < get_or o 0 0 → o ≡ n) total head before
      (λ s h. refl)
      (λ h. refl)
      (λ f s q h. absurd (omega (arith, words_count total head f (drop 11280 before), read-few total head f (accepted-both total head f q).0)))
      (rw (← e) m)

  pub moved-after : (t t₁ u b : List ℕ) → t ≡ file_after total head before → 11280 ≤ length t → PlacesPut (get_or t 0 0) t t₁ →
      (11280 ≤ length before → (f : File) → accepted total head ≡ ok f → InOrder b f) →
      (((k : ℕ) → k < get_or t 0 0 → row_in b k < get_or t 0 0) → Moved (get_or t 0 0) (row_in b) t₁ u) → u ≡ after total head before
  moved-after t t₁ u b e l p ordered m = by_left (Done t₁ u b) total head before short cleared taken (rw (← e) l) (rw (← e) p) (rw (← e) m)
    where
      short : length before < 11280 → Done t₁ u b before before
      short s l₁ p₁ m₁ = absurd (omega arith)

      cleared : Done t₁ u b (replicate 11280 0 ++ drop 11280 before) (replicate 11280 0 ++ drop 11280 before)
      cleared l₁ p₁ m₁ = nothing-moved (row_in b) (replicate 11280 0 ++ drop 11280 before) t₁ u p₁ (m₁ (λ k h. absurd (not-suc-le-zero h)))

      taken : (f : File) → 11280 ≤ length before → accepted total head ≡ ok f →
          Done t₁ u b (file_words total head f ++ drop 11280 before) (words_of total head f ++ drop 11280 before)
      taken f s q l₁ p₁ m₁ =
          file-moved total head f (drop 11280 before) t₁ u b (ordered s f q)
          (rw (words_count total head f (drop 11280 before)) at p₁) (rw (words_count total head f (drop 11280 before)) at m₁)
