-- Items whose bytes are made of other items' bytes (document 02, Q-7), in terms of the table t and the list v, which has from
-- 2,304 on, extent by extent, the row that it names. What is said in quotes is the request's, or the reading's of it.
--   first_extent t r, extents t r    where the extents of row r begin, and how many there are
--   size_at t e, offset_at t e        the length and the offset of the extent e
--   made_of_items t r                 row r has method 2
--   every f n, some f n             f of each, of one of 0 .. n - 1;   least f n    the first of them with f, n where there is none
--   named_row v e, named_by t v r j   the row that the extent e names; the one that the extent j of row r names
--   chained k t v r                 following the links of row r ends after at most k of them
--   level t v r                     how many there are, 9 where that is over 8 or has no end
--   length_sum t r                   the length of an item
--   is_past t r, names_past k t v r   it is 2^64 or more; that of an item named at a depth of at most k is
--   LinksIn t v n                   what reading makes sure of, of n rows
use Rattle.std.specs.Prelude.{ℕ, zero, suc, ◌+◌, ◌*◌, ◌≤◌, ◌<◌, ◌≡◌, List, Bool, true, false, not, ◌&&◌, ◌||◌, get_or, ltb, leb, eqb}
use Rattle.fields.specs.Choice.{pick}
use Rattle.views.specs.inner.View.{record_word, wide}

-- the record's "first extent, count" (document 01)
abbrev pub first_extent : List ℕ → ℕ → ℕ
first_extent t r = record_word t r 7

abbrev pub extents : List ℕ → ℕ → ℕ
extents t r = record_word t r 8

-- "From 9,232, 512 extents of 4: file offset high, low, length high, low" (document 01); "a method 2 extent has base + offset in
-- the named item and its length"
abbrev pub offset_at : List ℕ → ℕ → ℕ
offset_at t e = wide t (9232 + 4 * e)

abbrev pub size_at : List ℕ → ℕ → ℕ
size_at t e = wide t (9232 + 4 * e + 2)

-- "construction method 2"
abbrev pub made_of_items : List ℕ → ℕ → Bool
made_of_items t r = eqb (record_word t r 9) 2

-- "at any link": how a test goes over the extents of an item, and which number of links is the first that suffices
unfoldable pub every : (ℕ → Bool) → ℕ → Bool
every f zero = true
every f (suc n) = every f n && f n

unfoldable pub some : (ℕ → Bool) → ℕ → Bool
some f zero = false
some f (suc n) = some f n || f n

unfoldable pub least : (ℕ → Bool) → ℕ → ℕ
least f zero = 0
least f (suc n) = pick (f 0) 0 (suc (least (λ i. f (suc i)) n))

-- "A link goes from a method 2 item to the target that its extent's index picks"; no row, a number over 255, where there is
-- "no such reference"
abbrev pub named_row : List ℕ → ℕ → ℕ
named_row v e = get_or v (2304 + e) 0

abbrev pub named_by : List ℕ → List ℕ → ℕ → ℕ → ℕ
named_by t v r j = named_row v (first_extent t r + j)

-- "An item's bytes may be made of another item's bytes, up to 8 deep, counting methods 0 and 1 as 0"; "a named method 2 item
-- without extents counts 1"; "an `iloc` chain that returns to itself, is deeper than 8 or at any link has no such reference" is
-- not chained 8
unfoldable pub chained : ℕ → List ℕ → List ℕ → ℕ → Bool
chained zero t v r = not (made_of_items t r)
chained (suc k) t v r = not (made_of_items t r) || every (λ j. ltb (named_by t v r j) 256 && chained k t v (named_by t v r j)) (extents t r)

-- "8 links pass, 9 do not"
unfoldable pub level : List ℕ → List ℕ → ℕ → ℕ
level t v r = least (λ k. chained k t v r) 9

-- "The length of a named item is the sum of its extents' lengths, even if that item has faults of its own"
unfoldable pub sum_from : List ℕ → ℕ → ℕ → ℕ
sum_from t e zero = 0
sum_from t e (suc n) = sum_from t e n + size_at t (e + n)

abbrev pub length_sum : List ℕ → ℕ → ℕ
length_sum t r = sum_from t (first_extent t r) (extents t r)

-- "lengths sum past 64 bits"
abbrev pub is_past : List ℕ → ℕ → Bool
is_past t r = leb 18446744073709551616 (length_sum t r)

-- "an item that names, at any depth, one whose lengths sum past 64 bits"; "The summed item itself is not at fault for its sum"
unfoldable pub names_past : ℕ → List ℕ → List ℕ → ℕ → Bool
names_past zero t v r = false
names_past (suc k) t v r =
    made_of_items t r && some (λ j. ltb (named_by t v r j) 256 && (is_past t (named_by t v r j) || names_past k t v (named_by t v r j))) (extents t r)

-- "512 extents" (document 01): the extents lie among them; "no such reference": and what an extent of a method 2 item names is none, or one of the n rows
pub record LinksIn (t v : List ℕ) (n : ℕ) : Type 0 where
  pub few : n ≤ 256
  pub room : (r : ℕ) → r < n → first_extent t r + extents t r ≤ 512
  pub inside : (r j : ℕ) → r < n → made_of_items t r ≡ true → j < extents t r → named_by t v r j < 256 → named_by t v r j < n
