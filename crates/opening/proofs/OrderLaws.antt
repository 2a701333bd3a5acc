-- The rows in rising ID order that reading leaves are the places of the items in that order (document 02, Q-6): keys rise as IDs do, and a
-- key's rest by 256 is its row. Assumes nothing.
use Prim.Native.Nat.{ℕ, suc, ◌+◌, ◌*◌, ◌%◌, ◌≤◌, ◌<◌}
use native.Mathlib.Omega.{arith}
use mathlib.Core.Path.{◌≡◌, refl, sym, ap, ◌∙◌}
use mathlib.Core.List.{List, [], ◌∷◌, map}
use mathlib.Core.Bool.{Bool, true, false}
use lib.ListN.{length, get_or}
use lib.Seq.{ext_get_or}
use lib.Dec.{leb}
use borrow.Author.Tests.{leb-true, leb-false, le-leb, lt-leb}
use Rattle.fields.specs.Choice.{pick}
use Rattle.fields.specs.Lists.{All}
use Rattle.fields.proofs.ListLaws.{all_more}
use Rattle.contents.specs.Iinf.{Item, ids_of}
use Rattle.contents.specs.File.{File}
use Rattle.rules.specs.Places.{Places}
use Rattle.rules.specs.Words.{Filed, filed_from, among_by_id, sorted_behind, by_id}
use Rattle.arranged.specs.inner.Order.{InOrder}
use Rattle.records.specs.inner.Keys.{key_of, key_among, keys_from, order_of}
use Rattle.records.specs.inner.Rows.{ids_in, Ordered}
use Rattle.records.proofs.IdLaws.{ids-length, ids_at}
use Rattle.records.proofs.RawLaws.{id-at, ids-long}
use Rattle.views.specs.inner.View.{TableOf}

abbrev keyed : Filed → ℕ
keyed p = key_of p.item.id p.place

-- among_by_id
among-all : (P : Filed → Type 0) (p : Filed) (qs : List Filed) → P p → All P qs → All P (among_by_id p qs)
unfolding among_by_id pick
among-all P p [] h a = (h, tt)
among-all P p (q ∷ qs) h a = by (among-all P p qs h a.1) (leb q.item.id p.item.id)
  where
    by : All P (among_by_id p qs) → (t : Bool) → All P (pick t (q ∷ among_by_id p qs) (p ∷ q ∷ qs))
    by r true = (a.0, r)
    by r false = (h, a)

-- a key is at most that of a later row just where the ID is
same_test : (p q : Filed) → q.place < p.place → p.place < 256 → leb (keyed q) (keyed p) ≡ leb q.item.id p.item.id
same_test p q l h = by (leb q.item.id p.item.id) refl
  where
    by : (t : Bool) → leb q.item.id p.item.id ≡ t → leb (keyed q) (keyed p) ≡ t
    by true e = let m = leb-true q.item.id p.item.id e in le-leb (keyed q) (keyed p) (omega arith)
    by false e = let m = leb-false q.item.id p.item.id e in lt-leb (keyed q) (keyed p) (omega arith)

among-keys : (p : Filed) (qs : List Filed) → p.place < 256 → All (λ (q : Filed). q.place < p.place) qs
    → map keyed (among_by_id p qs) ≡ key_among (keyed p) (map keyed qs)
unfolding among_by_id key_among pick
among-keys p [] h a = refl
among-keys p (q ∷ qs) h a =
    by (leb q.item.id p.item.id) (among-keys p qs h a.1)
    ∙ ap (λ (t : Bool). pick t (keyed q ∷ key_among (keyed p) (map keyed qs)) (keyed p ∷ keyed q ∷ map keyed qs)) (sym (same_test p q a.0 h))
  where
    by : (t : Bool) → map keyed (among_by_id p qs) ≡ key_among (keyed p) (map keyed qs)
        → map keyed (pick t (q ∷ among_by_id p qs) (p ∷ q ∷ qs)) ≡ pick t (keyed q ∷ key_among (keyed p) (map keyed qs)) (keyed p ∷ keyed q ∷ map keyed qs)
    by true e = ap (λ (l : List ℕ). keyed q ∷ l) e
    by false e = refl

-- sorted_behind
sorted_keys : (k : ℕ) (ps : List Filed) (is : List Item) → k + length is ≤ 256 → All (λ (q : Filed). q.place < k) ps
    → (map keyed (sorted_behind ps (filed_from k is)) ≡ keys_from k (map keyed ps) (ids_of is))
    × All (λ (q : Filed). q.place < 256) (sorted_behind ps (filed_from k is))
unfolding sorted_behind filed_from keys_from
sorted_keys k ps [] h a = (refl, all_more (λ (q : Filed). q.place < k) (λ (q : Filed). q.place < 256) (λ q m. omega arith) ps a)
sorted_keys k ps (i ∷ is) h a =
    let p : Filed = record { item = i; place = k } in
    let r = sorted_keys (suc k) (among_by_id p ps) is (omega arith)
    (among-all (λ (q : Filed). q.place < suc k) p ps (omega arith)
    (all_more (λ (q : Filed). q.place < k) (λ (q : Filed). q.place < suc k) (λ q m. omega arith) ps a)) in
    (r.0 ∙ ap (λ (ks : List ℕ). keys_from (suc k) ks (ids_of is)) (among-keys p ps (omega arith) a), r.1)

-- the row in a key
rows_of : (ps : List Filed) → All (λ (q : Filed). q.place < 256) ps
    → map (λ (k : ℕ). k % 256) (map keyed ps) ≡ map (λ (p : Filed). p.place) ps
rows_of [] a = refl
rows_of (p ∷ ps) a = let e : keyed p % 256 ≡ p.place = omega (arith, a.0) in rw (e, rows_of ps a.1)

-- by_id
pub places_ordered : (is : List Item) → length is ≤ 256 → map (λ (p : Filed). p.place) (by_id is) ≡ order_of (ids_of is)
places_ordered is h =
    let r = sorted_keys 0 [] is (omega arith) tt in
    sym (rows_of (by_id is) r.1) ∙ ap (map (λ (k : ℕ). k % 256)) r.0

-- Ordered
table_ids : {t head : List ℕ} {pl : Places} {f : File} → TableOf t head pl f → ids_in t (get_or t 0 0) ≡ ids_of f.items
table_ids {t} {f = f} v =
    let n = get_or t 0 0 in
    let l = ids-length t n in
    let m = ids-long f.items in
    let c = v.items in
    ext_get_or 0 (ids_in t n) (ids_of f.items) (omega arith)
    (λ k h. let e : 16 + 16 * k ≡ 16 + 16 * k + 0 = omega arith in
    ids_at t n k (omega arith) ∙ ap (λ (i : ℕ). get_or t i 0) e ∙ v.id k (omega arith) ∙ sym (id-at f.items k))

pub ordered_places : {t head : List ℕ} {pl : Places} {f : File} (rows : List ℕ) → TableOf t head pl f → Ordered t rows → InOrder rows f
ordered_places {t} {f = f} rows v o k h =
    let c = v.items in
    let b = v.bounded.few-items in
    o k (omega arith) ∙ ap (λ (ids : List ℕ). get_or (order_of ids) k 0) (table_ids v)
    ∙ ap (λ (l : List ℕ). get_or l k 0) (sym (places_ordered f.items (omega arith)))
