-- The new table is the old one rearranged (document 02, Q-6). Assumes nothing.
use Prim.Native.Nat.{ℕ, ◌+◌, ◌*◌, ◌<◌}
use native.Mathlib.Omega.{arith}
use native.Mathlib.Decide.{dec_lt}
use mathlib.Core.Path.{◌≡◌, refl, sym, ap, ◌∙◌}
use mathlib.Core.List.{List, ◌++◌}
use mathlib.Core.Bool.{Bool, true, false}
use lib.ListN.{length, get_or, drop}
use lib.Dec.{leb}
use borrow.Author.Tests.{le-leb, lt-leb}
use Rattle.boxes.specs.Answer.{ok, refuse}
use Rattle.contents.specs.Iinf.{Item}
use Rattle.contents.specs.File.{File}
use Rattle.rules.specs.Words.{file_words, words_of}
use Rattle.rules.specs.Opening.{accepted, after, file_after}
use Rattle.rules.proofs.RuleLaws.{accepted-both}
use Rattle.rules.proofs.OrderLaws.{
  row_at,
  order_placed,
  order_onto,
  order_once,
  order_strict,
  read-few,
  read-distinct,
  words-same-length,
  words_count,
  words-moved,
  words_placed,
  words-id,
  words-other,
}
use Rattle.arranged.specs.Rearranged.{Rearranged, RearrangedAfter}
use Rattle.arranged.proofs.ArrangeLaws.{left-short, left-cleared, left_taken}

-- the row of a place, 0 for what is none
row_by : (is : List Item) (i : ℕ) → Dec (i < length is) → ℕ
row_by is i (yes h) = (order_onto is i h).0
row_by is i (no h) = 0

row_for : List Item → ℕ → ℕ
row_for is i = row_by is i (dec_lt i (length is))

row_for_lem : (is : List Item) (i : ℕ) → i < length is → (row_for is i < length is) × ((row_at is (row_for is i)).place ≡ i)
unfolding row_for row_by
row_for_lem is i h = by (dec_lt i (length is))
  where
    by : (d : Dec (i < length is)) → (row_by is i d < length is) × ((row_at is (row_by is i d)).place ≡ i)
    by (yes l) = ((order_onto is i l).1, (order_onto is i l).2)
    by (no l) = absurd (l h)

-- the words of a file, with anything behind them
words_rearranged : (total : ℕ) (head : List ℕ) (f : File) (x : List ℕ) → accepted total head ≡ ok f →
    Rearranged (length f.items) (file_words total head f ++ x) (words_of total head f ++ x)
words_rearranged total head f x e =
    let is = f.items in
    let r = (accepted-both total head f e).0 in
    record {
      few = read-few total head f r;
      count = words_count total head f x;
      row = row_for is;
      inside = λ i h. (row_for_lem is i h).0;
      once = λ i j h l q. sym (row_for_lem is i h).1 ∙ ap (λ (k : ℕ). (row_at is k).place) q ∙ (row_for_lem is j l).1;
      onto = λ k h.
          let p = (order_placed is k h).0 in
          ((row_at is k).place, p, order_once is _ k (row_for_lem is _ p).0 h (row_for_lem is _ p).1);
      moved = λ i c h l.
          words-moved total head f x (row_for is i) c (row_for_lem is i h).0 l
          ∙ ap (λ (p : ℕ). get_or (file_words total head f ++ x) (16 + 16 * p + c) 0) (row_for_lem is i h).1;
      placed = λ i h. words_placed total head f x (row_for is i) (row_for_lem is i h).0 ∙ (row_for_lem is i h).1;
      rising = λ j k l h.
          rw (words-id total head f x j (omega arith), words-id total head f x k h)
          (order_strict is (read-distinct total head f r) j k l h);
      same = words-other total head f x;
      long = words-same-length total head f x;
    }

pub rearranged_after : (total : ℕ) (head before : List ℕ) → RearrangedAfter total head before
rearranged_after total head before =
    record {
      accepts = λ f h e.
          let l = le-leb 11280 (length before) h in
          rw (left_taken file_words total head before l f e, left_taken words_of total head before l f e)
          (words_rearranged total head f (drop 11280 before) e);
      refuses = λ n p e. by (leb 11280 (length before)) refl n p e;
      short = λ h. let l = lt-leb 11280 (length before) h in left-short words_of total head before l ∙ sym (left-short file_words total head before l);
    }
  where
    by : (t : Bool) → leb 11280 (length before) ≡ t → (n p : ℕ) → accepted total head ≡ refuse n p → after total head before ≡ file_after total head before
    by true q n p e = left-cleared words_of total head before q n p e ∙ sym (left-cleared file_words total head before q n p e)
    by false q n p e = left-short words_of total head before q ∙ sym (left-short file_words total head before q)
