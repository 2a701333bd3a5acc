-- The rows in rising ID order: put behind the rows of the targets, and said of the table once all is read. Assumes nothing.
use Prim.Native.Nat.{ℕ, suc, ◌+◌, ◌-◌, ◌%◌, ◌≤◌, ◌<◌}
use native.Mathlib.Omega.{arith}
use mathlib.Core.Path.{◌≡◌, refl, sym, ap, ◌∙◌, subst}
use mathlib.Core.List.{List, [], ◌∷◌, ◌++◌, map, map-append, append_assoc}
use lib.ListN.{
  length,
  get_or,
  take,
  drop,
  set,
  replicate,
  length-append,
  length-drop,
  length-map,
  length-replicate,
  take-append-drop,
  get_or-append,
}
use lib.Seq.{length-take-le, take-suc, drop-cons, append_snoc, get_or-take, get_or-drop, set_at, take_at, drop_at}
use Rattle.std.specs.Prelude.{Result, Ok, Err, OnOk}
use Rattle.boxes.specs.declared.Refusal.{Refusal}
use Rattle.boxes.specs.Answer.{Answer, ok}
use Rattle.boxes.proofs.ToldLaws.{told-ok}
use Rattle.boxes.proofs.AnswerLaws.{with_ok, ok_inj}
use Rattle.contents.specs.Iinf.{Item, ids_of}
use Rattle.contents.specs.Iref.{targets_in}
use Rattle.contents.specs.File.{File}
use Rattle.rules.specs.Places.{Places, places_at}
use Rattle.rules.specs.Words.{region, head_words}
use Rattle.records.specs.inner.Raw.{raw_of}
use Rattle.records.specs.inner.Keys.{no_key, keys_of, order_of, order_put, Keyed}
use Rattle.records.specs.inner.Rows.{ids_in, TargetsRowed, Rowed}
use Rattle.records.proofs.SetsLaws.{get_or-from}
use Rattle.records.proofs.SaidLaws.{derived_total}
use Rattle.records.proofs.KeyedLaws.{keys-long}
use Rattle.records.proofs.PickLaws.{named-same}
use Rattle.reading.specs.declared.Idat.{Idat}
use Rattle.reading.specs.inner.Parts.{kids, After, NamedOf, from_references, from_shown, from_locations}
use Rattle.reading.proofs.BoundLaws.{referred-few}
use Rattle.reading.proofs.StageLaws.{ids-read}

-- put_order: the first k of them are put
module _ (v keys : List ℕ) (first : ℕ) where
  abbrev rows_to : ℕ → List ℕ
  rows_to k = map (λ (y : ℕ). y % 256) (take k (drop first keys))

  abbrev pub order_to : ℕ → List ℕ
  order_to k = take 2048 v ++ (rows_to k ++ drop (2048 + k) v)

  pub order_begin : v ≡ order_to 0
  order_begin = sym (take-append-drop 2048 v)

  rows_more : (k : ℕ) → first + k < length keys → rows_to (k + 1) ≡ rows_to k ++ ((get_or keys (first + k) 0 % 256) ∷ [])
  rows_more k h =
      let e : k + 1 ≡ suc k = omega arith in
      ap rows_to e
      ∙ ap (map (λ (y : ℕ). y % 256)) (take-suc (drop first keys) k 0 (rw length-drop (omega arith)))
      ∙ map-append _ (take k (drop first keys)) _
      ∙ ap (λ (y : ℕ). rows_to k ++ ((y % 256) ∷ [])) (get_or-drop first keys k 0)

  pub order_more : (x : List ℕ) (k : ℕ) → first + k < length keys → 2048 + k < length v → x ≡ order_to k →
      set x (2048 + k) (get_or keys (first + k) 0 % 256) ≡ order_to (k + 1)
  order_more x k h l q =
      let p : List ℕ = take 2048 v ++ rows_to k in
      let a : length (take 2048 v) ≡ 2048 = length-take-le 2048 v (omega arith) in
      let b : length (rows_to k) ≡ k = length-map (take k (drop first keys)) _ ∙ length-take-le k (drop first keys) (rw length-drop (omega arith)) in
      let n : length p ≡ 2048 + k = omega (arith, length-append (take 2048 v) (rows_to k)) in
      let s : suc (2048 + k) ≡ 2048 + (k + 1) = omega arith in
      let w : ℕ = get_or keys (first + k) 0 % 256 in
      ap (λ (y : List ℕ). set y (2048 + k) w) (
      q
      ∙ ap (λ (y : List ℕ). take 2048 v ++ (rows_to k ++ y)) (drop-cons v (2048 + k) 0 l)
      ∙ sym (append_assoc (take 2048 v) (rows_to k) _)
      )
      ∙ set_at p (get_or v (2048 + k) 0) (drop (suc (2048 + k)) v) w (2048 + k) n
      ∙ append_assoc (take 2048 v) (rows_to k) _
      ∙ ap (λ (y : List ℕ). take 2048 v ++ y) (
      sym (append_snoc (rows_to k) w (drop (suc (2048 + k)) v))
      ∙ ap (λ (y : List ℕ). y ++ drop (suc (2048 + k)) v) (sym (rows_more k h))
      ∙ ap (λ (i : ℕ). rows_to (k + 1) ++ drop i v) s
      )

  -- all are those of the keys
  pub order_end : (ids : List ℕ) (n : ℕ) (y : Keyed ids keys) → length ids ≡ n → first ≡ y.first → order_to n ≡ order_put (order_of ids) v
  order_end ids n y e f =
      let rest : List ℕ = replicate (512 - (y.first + length ids)) no_key in
      let d : drop first keys ≡ keys_of ids ++ rest =
      ap (drop first) y.keys ∙ drop_at (replicate y.first 0) (keys_of ids ++ rest) first (length-replicate {A = ℕ} y.first 0 ∙ sym f) in
      let t : take n (drop first keys) ≡ keys_of ids = ap (take n) d ∙ take_at (keys_of ids) rest n (keys-long ids ∙ e) in
      let l : n ≡ length (order_of ids) = sym (length-map (keys_of ids) _ ∙ keys-long ids ∙ e) in
      ap (λ (r : List ℕ). take 2048 v ++ (map (λ (k : ℕ). k % 256) r ++ drop (2048 + n) v)) t
      ∙ ap (λ (i : ℕ). take 2048 v ++ (order_of ids ++ drop (2048 + i) v)) l

-- order_put: the rows of the targets stay, and the order stands behind them
module _ (ids v : List ℕ) (room : 2304 ≤ length v) where
  put-before : (j : ℕ) → j < 2048 → get_or (order_put (order_of ids) v) j 0 ≡ get_or v j 0
  put-before j h =
      get_or-append (take 2048 v) _ 0 j (omega (arith, length-take-le 2048 v (omega arith)))
      ∙ get_or-take 2048 v j 0 h

  put-there : (k : ℕ) → k < length ids → get_or (order_put (order_of ids) v) (2048 + k) 0 ≡ get_or (order_of ids) k 0
  put-there k h =
      let l : length (order_of ids) ≡ length ids = length-map (keys_of ids) _ ∙ keys-long ids in
      get_or-from (take 2048 v) _ 2048 k (2048 + k) (length-take-le 2048 v (omega arith)) refl
      ∙ get_or-append (order_of ids) _ 0 k (omega arith)

  pub order_rowed : (t w : List ℕ) (n : ℕ) → w ≡ order_put (order_of ids) v → get_or t 0 0 ≡ n → length ids ≡ n →
      ids_in t n ≡ ids → get_or t 3 0 ≤ 2048 → TargetsRowed t v → Rowed t w
  order_rowed t w n q c e i few r =
      subst (Rowed t) (sym q) (
        (λ j h. let a = r j h in let b = put-before j (omega arith) in rw b a),
        λ k h. put-there k (omega arith) ∙ ap (λ (y : List ℕ). get_or (order_of y) k 0) (sym (ap (ids_in t) c ∙ i)),
      )

  -- what extents name stands behind 256 rows
  put-behind : length ids ≤ 256 → (j : ℕ) → 2304 ≤ j → get_or (order_put (order_of ids) v) j 0 ≡ get_or v j 0
  put-behind few j h =
      let l : length (order_of ids) ≡ length ids = length-map (keys_of ids) _ ∙ keys-long ids in
      let a : 2048 + (j - 2048) ≡ j = omega arith in
      let b : 2048 + length (order_of ids) + (j - (2048 + length ids)) ≡ j = omega arith in
      get_or-from (take 2048 v) _ 2048 (j - 2048) j (length-take-le 2048 v (omega arith)) (sym a)
      ∙ get_or-from (order_of ids) _ (length ids) (j - (2048 + length ids)) (j - 2048) l (omega arith)
      ∙ get_or-drop (2048 + length (order_of ids)) v (j - (2048 + length ids)) 0
      ∙ ap (λ (i : ℕ). get_or v i 0) b

  pub order_named : length ids ≤ 256 → (w : List ℕ) → w ≡ order_put (order_of ids) v → (m : Answer File) → NamedOf m v → NamedOf m w
  order_named few w q m h g e = named-same _ _ _ v w (λ j k. ap (λ (y : List ℕ). get_or y j 0) q ∙ put-behind few j k) (h g e)

-- from_locations: a file that is read has the items that it began with, and no more targets than there may be
locations-file : (at : ℕ) (bs : List (List ℕ)) (primary : ℕ) (is : List Item) (g : File) → from_locations at bs primary is ≡ ok g →
    (g.items ≡ is) × (targets_in g.derivations ≤ 2048)
unfolding from_locations from_shown from_references
locations-file at bs primary is g e =
    with_ok _ _ g e (λ ls a b. with_ok _ _ g b (λ v c d. with_ok _ _ g d (λ refs h k.
    let w = ok_inj _ _ k in
    (sym (ap (λ (f : File). f.items) w), subst (λ (f : File). targets_in f.derivations ≤ 2048) w (referred-few _ _ _ refs h)))))

-- After: the table of a file that is read
head_items : (total : ℕ) (pl : Places) (g : File) (x : List ℕ) → get_or (raw_of (head_words total g) pl g ++ x) 0 0 ≡ length g.items
unfolding raw_of region
head_items total pl g x = refl

head_targets : (total : ℕ) (pl : Places) (g : File) (x : List ℕ) → get_or (raw_of (head_words total g) pl g ++ x) 3 0 ≡ targets_in g.derivations
unfolding raw_of region
head_targets total pl g x = derived_total g.derivations

-- what its order goes by
pub record Counted (is : List Item) (n : ℕ) (t : List ℕ) : Type 0 where
  pub items : get_or t 0 0 ≡ n
  pub ids : ids_in t n ≡ ids_of is
  pub targets : get_or t 3 0 ≤ 2048

pub read_counted : (s : List ℕ) (at total primary n : ℕ) (is : List Item) (d : Idat) (x t : List ℕ) → length is ≡ n →
    After s at total (from_locations at (kids s) primary is) (Ok d) x t → Counted is n t
read_counted s at total primary n is d x t c a =
    let f = told-ok _ _ d (sym a.answer) in
    let g : File = f.0 in
    let pl : Places = places_at at (kids s) in
    let w = locations-file at (kids s) primary is g f.1 in
    let u : t ≡ raw_of (head_words total g) pl g ++ x = a.left g f.1 in
    let m : length g.items ≡ n = ap length w.0 ∙ c in
    record {
      items = ap (λ (y : List ℕ). get_or y 0 0) u ∙ head_items total pl g x ∙ m;
      ids = ids-read (head_words total g) pl x (omega arith) n g t m u ∙ ap ids_of w.0;
      targets = omega (arith, ap (λ (y : List ℕ). get_or y 3 0) u ∙ head_targets total pl g x, w.1);
    }

-- where all is read, each target has its row, and the rows stand in order
pub read_rowed : (s : List ℕ) (at total primary n : ℕ) (is : List Item) (r : Result Idat Refusal) (x t : List ℕ) → length is ≡ n →
    After s at total (from_locations at (kids s) primary is) r x t → (v : List ℕ) → 2304 ≤ length v → (w : List ℕ) →
    w ≡ order_put (order_of (ids_of is)) v → OnOk r (TargetsRowed t v) → OnOk r (Rowed t w)
read_rowed s at total primary n is (Ok d) x t c a v room w q h =
    let o = read_counted s at total primary n is d x t c a in
    order_rowed (ids_of is) v room t w n q o.items (length-map is _ ∙ c) o.ids o.targets h
read_rowed s at total primary n is (Err f) x t c a v room w q h = tt

-- Keyed: there are 512 of them
pub keyed-512 : (ids ks : List ℕ) → Keyed ids ks → length ks ≡ 512
keyed-512 ids ks y =
    ap length y.keys ∙ simp (length-append, length-replicate) (omega (arith, keys-long ids, y.below))
