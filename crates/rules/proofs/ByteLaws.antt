-- An item's bytes are the joined parts of its extents: document 02, Q-7.
--   bytes-joined, body-joined    where its chain is good: known exactly as the concatenation of the parts
--   bytes-long                   as many as its extents' lengths say
--   one-extent, one-body         of one extent of method 0 or 1 they are what document 01's `body_in` gives, refused where that is
--   within-other                 and 14 is document 01's
--   part-known, part-named       the part of an extent: of the head or `idat`, and of a named item whose bytes are known
--   byte_le                      more depth than its chain needs changes no byte
-- Assumes nothing.
use Prim.Native.Nat.{ℕ, zero, suc, ◌+◌, ◌-◌, ◌≤◌, ◌<◌}
use native.Mathlib.Nat.{not-suc-le-zero, le_of_suc-le-suc}
use native.Mathlib.Omega.{arith}
use native.Mathlib.Decide.{dec_lt}
use mathlib.Core.Path.{◌≡◌, refl, sym, ap, ◌∙◌, subst}
use mathlib.Core.List.{List, [], ◌∷◌, ◌++◌, append-nil}
use mathlib.Core.Bool.{Bool, true, false}
use mathlib.Core.Logic.{◌⊎◌, inl, inr, ⊎_elim, ◌↔◌}
use lib.ListN.{length, get_or, take, drop, length-append, length-drop, take-append-drop, get_or-append}
use lib.Seq.{length-take-le, take-length, take-suc, get_or-append-add, get_or_at, get_or-take, get_or-drop, ext_get_or}
use lib.Dec.{leb, ltb, eqb}
use borrow.Author.Tests.{leb-true, leb-false, le-leb, ltb-true, ltb-false, lt-ltb, le-ltb}
use Rattle.fields.specs.Choice.{pick}
use Rattle.fields.proofs.FieldLaws.{both, pick_yes, pick_no}
use Rattle.fields.proofs.TestLaws.{untrue}
use Rattle.boxes.specs.Answer.{Answer, ok, refuse}
use Rattle.boxes.proofs.AnswerLaws.{bind_ok, ok_bind, then_ok, ok-then, check-ok, ok-check, ok_inj, not-refused, bind_refuse, refuse_bind}
use Rattle.contents.specs.Iloc.{Extent}
use Rattle.contents.specs.File.{File}
use Rattle.rules.specs.Joined.{location_of}
use Rattle.rules.specs.inner.Direct.{Store, store_of, body_by, body_in}
use Rattle.rules.specs.inner.Direct as Direct
use Rattle.rules.specs.Bytes.{
  named,
  made_of_items,
  chained,
  sizes_of,
  length_of,
  Source,
  known,
  byte_in,
  named_source,
  source_of,
  byte_of,
  within,
  bytes_upto,
  body_of,
}
use Rattle.rules.specs.Links.{Among}
use Rattle.rules.specs.Bodies.{Reads, Joins, ItsBytes, ItsBody}
use Rattle.rules.proofs.ChainLaws.{all_same, chained-other, chained-end, chained-link}

-- byte_in goes by the bytes of its sources
byte_in_same : (s t : Extent → Source) (base : ℕ) (es : List Extent) (p : ℕ) →
    ((e : Extent) → Among e es → (q : ℕ) → (s e).byte q ≡ (t e).byte q) → byte_in s base es p ≡ byte_in t base es p
unfolding byte_in
byte_in_same s t base [] p h = refl
byte_in_same s t base (e ∷ es) p h = rw (h e (inl refl) (base + e.offset + p), byte_in_same s t base es (p - e.size) (λ x a. h x (inr a)))

pub byte_in_first : (s : Extent → Source) (base : ℕ) (e : Extent) (es : List Extent) (i : ℕ) → i < e.size →
    byte_in s base (e ∷ es) i ≡ (s e).byte (base + e.offset + i)
unfolding byte_in
byte_in_first s base e es i h = pick_yes _ _ (lt-ltb i e.size h)

pub byte_in_behind : (s : Extent → Source) (base : ℕ) (e : Extent) (es : List Extent) (p i : ℕ) → p ≡ e.size + i →
    byte_in s base (e ∷ es) p ≡ byte_in s base es i
unfolding byte_in
byte_in_behind s base e es p i h =
    let z : p - e.size ≡ i = omega arith in pick_no _ _ (le-ltb p e.size (omega arith)) ∙ ap (byte_in s base es) z

-- Joins: what byte_in gives, as far as the extents' lengths say
pub joins_reads : (s : Extent → Source) (base : ℕ) (es : List Extent) (bs : List ℕ) → Joins s base es bs → Reads (byte_in s base es) (sizes_of es) bs
unfolding Joins sizes_of
joins_reads s base [] bs h = record { long = rw h; each = λ i l. absurd (not-suc-le-zero l) }
joins_reads s base (e ∷ es) bs h =
    let r = joins_reads s base es h.1 h.4 in
    let m = h.3.long in
    let n = r.long in
    record {
      long = rw (h.2, length-append) (omega arith);
      each = λ i l. rw h.2 (by i l h.0 h.1 m n h.3.each r.each (dec_lt i e.size));
    }
  where
    by : (i : ℕ) → i < e.size + sizes_of es → (part rest : List ℕ) → length part ≡ e.size → length rest ≡ sizes_of es →
        ((i : ℕ) → i < e.size → (s e).byte (base + e.offset + i) ≡ ok (get_or part i 0)) →
        ((i : ℕ) → i < sizes_of es → byte_in s base es i ≡ ok (get_or rest i 0)) → Dec (i < e.size) → byte_in s base (e ∷ es) i ≡ ok (get_or (part ++ rest) i 0)
    by i l part rest m n f g (yes h) =
        byte_in_first s base e es i h ∙ f i h ∙ ap ok (sym (get_or-append part rest 0 i (omega arith)))
    by i l part rest m n f g (no h) =
        let j : ℕ = i - e.size in
        let z : i ≡ e.size + j = omega arith in
        let w : i ≡ length part + j = omega arith in
        byte_in_behind s base e es i j z ∙ g j (omega arith) ∙ ap ok (sym (ap (λ (k : ℕ). get_or (part ++ rest) k 0) w ∙ get_or-append-add part rest j 0))

pub reads_joins : (s : Extent → Source) (base : ℕ) (es : List Extent) (bs : List ℕ) → Reads (byte_in s base es) (sizes_of es) bs → Joins s base es bs
unfolding Joins sizes_of
reads_joins s base [] bs h = none bs h.long
  where
    none : (bs : List ℕ) → length bs ≡ 0 → bs ≡ []
    none [] e = refl
    none (b ∷ bs) e = absurd (omega arith)
reads_joins s base (e ∷ es) bs h =
    let n = h.long in
    let part : List ℕ = take e.size bs in
    let rest : List ℕ = drop e.size bs in (
      part,
      rest,
      sym (take-append-drop e.size bs),
      record {
        long = length-take-le e.size bs (omega arith);
        each = λ i l. sym (byte_in_first s base e es i l) ∙ h.each i (omega arith) ∙ ap ok (sym (get_or-take e.size bs i 0 l));
      },
      reads_joins s base es rest (record {
        long = rw length-drop (omega arith);
        each = λ i l. sym (byte_in_behind s base e es (e.size + i) i refl) ∙ h.each (e.size + i) (omega arith) ∙ ap ok (sym (get_or-drop e.size bs i 0));
      }),
    )

-- known
known-ok : (s : List ℕ) (q b : ℕ) → known s q ≡ ok b → (q < length s) × (b ≡ get_or s q 0)
unfolding known
known-ok s q b =
    both (λ (a : Answer ℕ). a ≡ ok b → (q < length s) × (b ≡ get_or s q 0)) _ _ _ (λ t h. (ltb-true q (length s) t, sym (ok_inj _ b h)))
    (λ t h. not-refused b 17 0 (sym h))

ok-known : (s : List ℕ) (q : ℕ) → q < length s → known s q ≡ ok (get_or s q 0)
unfolding known
ok-known s q h = pick_yes _ _ (lt-ltb q (length s) h)

-- a part of what is known, where the extent is not empty
pub part-known : (s : List ℕ) (p n : ℕ) (bs : List ℕ) → 0 < n →
    Reads (λ i. known s (p + i)) n bs ↔ ((p + n ≤ length s) × (bs ≡ take n (drop p s)))
part-known s p n bs h = (there, (λ x. subst (Reads (λ i. known s (p + i)) n) (sym x.1) (back x.0)))
  where
    long : p + n ≤ length s → length (take n (drop p s)) ≡ n
    long l = length-take-le n (drop p s) (rw length-drop (omega arith))

    at : (i : ℕ) → i < n → get_or (take n (drop p s)) i 0 ≡ get_or s (p + i) 0
    at i l = get_or-take n (drop p s) i 0 l ∙ get_or-drop p s i 0

    there : Reads (λ i. known s (p + i)) n bs → (p + n ≤ length s) × (bs ≡ take n (drop p s))
    there r =
        let w = r.long in
        let l = (known-ok s (p + (n - 1)) _ (r.each (n - 1) (omega arith))).0 in
        let b : p + n ≤ length s = omega arith in
        let z = long b in
        (b, ext_get_or 0 bs (take n (drop p s)) (omega arith) (λ i k. (known-ok s (p + i) _ (r.each i (omega arith))).1 ∙ sym (at i (omega arith))))

    back : p + n ≤ length s → Reads (λ i. known s (p + i)) n (take n (drop p s))
    back b = record { long = long b; each = λ i l. ok-known s (p + i) (omega arith) ∙ ap ok (sym (at i l)) }

-- Reads
reads_same : (x y : ℕ → Answer ℕ) (n : ℕ) (bs : List ℕ) → ((i : ℕ) → x i ≡ y i) → Reads x n bs → Reads y n bs
reads_same x y n bs h r = record { long = r.long; each = λ i l. sym (h i) ∙ r.each i l }

reads_snoc : (byte : ℕ → Answer ℕ) (n : ℕ) (bs : List ℕ) (b : ℕ) → Reads byte n bs → byte n ≡ ok b → Reads byte (suc n) (bs ++ (b ∷ []))
reads_snoc byte n bs b r e =
    let w = r.long in
    record { long = rw length-append (omega arith); each = λ i l. by i l (dec_lt i n) }
  where
    by : (i : ℕ) → i < suc n → Dec (i < n) → byte i ≡ ok (get_or (bs ++ (b ∷ [])) i 0)
    by i l (yes h) = let w = r.long in r.each i h ∙ ap ok (sym (get_or-append bs (b ∷ []) 0 i (omega arith)))
    by i l (no h) =
        let z : i ≡ n = omega arith in
        ap byte z ∙ e ∙ ap ok (sym (get_or_at bs b [] 0 i (r.long ∙ sym z)))

-- an answer that is a value, or 17
abbrev pub Given : {A : Type 0} → Answer A → Type 0
Given {A} m = ((a : A) × (m ≡ ok a)) ⊎ (m ≡ refuse 17 0)

byte_in_given : (s : Extent → Source) → ((e : Extent) (q : ℕ) → Given ((s e).byte q)) → (base : ℕ) (es : List Extent) (p : ℕ) → Given (byte_in s base es p)
unfolding byte_in
byte_in_given s h base [] p = inr refl
byte_in_given s h base (e ∷ es) p = both Given _ _ _ (λ t. h e (base + e.offset + p)) (λ t. byte_in_given s h base es (p - e.size))

known_given : (s : List ℕ) (q : ℕ) → Given (known s q)
unfolding known
known_given s q = both Given _ _ _ (λ t. inl (get_or s q 0, refl)) (λ t. inr refl)

-- behind its last extent an item has no byte
pub byte_in_past : (s : Extent → Source) (base : ℕ) (es : List Extent) (p : ℕ) → sizes_of es ≤ p → byte_in s base es p ≡ refuse 17 0
unfolding sizes_of byte_in
byte_in_past s base [] p h = refl
byte_in_past s base (e ∷ es) p h =
    pick_no _ _ (le-ltb p e.size (omega arith)) ∙ byte_in_past s base es (p - e.size) (omega arith)

-- sizes_of, of one extent
one-length : (es : List Extent) (e : Extent) → es ≡ e ∷ [] → sizes_of es ≡ e.size
unfolding sizes_of
one-length es e z = rw z (omega arith)

-- document 01's `body_by`, of one extent
body-one : (st : Store) (base : ℕ) (es : List Extent) (e : Extent) → es ≡ e ∷ [] → body_by st base es
    ≡ pick (leb (base + e.offset + e.size) (length st.known)) (ok (take e.size (drop (base + e.offset) st.known))) (refuse 17 0)
unfolding body_by
body-one st base es e z = rw z

module _ (total : ℕ) (head : List ℕ) (f : File) where
  -- source_of
  pub named-byte : (x : ℕ → ℕ → Answer ℕ) (i : ℕ) (e : Extent) (j q : ℕ) → made_of_items f i ≡ true → named f i e ≡ ok j →
      (source_of total head f x i e).byte q ≡ x j q
  unfolding source_of named_source
  named-byte x i e j q m z =
      ap (λ (s : Source). s.byte q) (pick_yes _ _ m ∙ ap (named_source total head f x) z)

  unnamed_byte : (x : ℕ → ℕ → Answer ℕ) (i : ℕ) (e : Extent) (n p q : ℕ) → made_of_items f i ≡ true → named f i e ≡ refuse n p →
      (source_of total head f x i e).byte q ≡ refuse 17 0
  unfolding source_of named_source
  unnamed_byte x i e n p q m z =
      ap (λ (s : Source). s.byte q) (pick_yes _ _ m ∙ ap (named_source total head f x) z)

  stored : (t : Bool) (q : ℕ) →
      (pick {A = Source} t (record { size = length f.idat; byte = known f.idat }) (record { size = total; byte = known head })).byte q
      ≡ known (pick {A = Store} t (record { size = length f.idat; known = f.idat }) (record { size = total; known = head })).known q
  unfolding pick
  stored true q = refl
  stored false q = refl

  pub other_byte : (x : ℕ → ℕ → Answer ℕ) (i : ℕ) (e : Extent) (q : ℕ) → made_of_items f i ≡ false →
      (source_of total head f x i e).byte q ≡ known (store_of total head f (location_of f i).method).known q
  unfolding source_of
  other_byte x i e q m = ap (λ (s : Source). s.byte q) (pick_no _ _ m) ∙ stored (eqb (location_of f i).method 1) q

  -- how long it is
  pub named-size : (x : ℕ → ℕ → Answer ℕ) (i : ℕ) (e : Extent) (j : ℕ) → made_of_items f i ≡ true → named f i e ≡ ok j →
      (source_of total head f x i e).size ≡ length_of f j
  unfolding source_of named_source
  named-size x i e j m z = ap (λ (s : Source). s.size) (pick_yes _ _ m ∙ ap (named_source total head f x) z)

  stored-size : (t : Bool) →
      (pick {A = Source} t (record { size = length f.idat; byte = known f.idat }) (record { size = total; byte = known head })).size
      ≡ (pick {A = Store} t (record { size = length f.idat; known = f.idat }) (record { size = total; known = head })).size
  unfolding pick
  stored-size true = refl
  stored-size false = refl

  pub other-size : (x : ℕ → ℕ → Answer ℕ) (i : ℕ) (e : Extent) → made_of_items f i ≡ false →
      (source_of total head f x i e).size ≡ (store_of total head f (location_of f i).method).size
  unfolding source_of
  other-size x i e m = ap (λ (s : Source). s.size) (pick_no _ _ m) ∙ stored-size (eqb (location_of f i).method 1)

  -- 14 is document 01's for methods 0 and 1
  pub within-other : (i : ℕ) → made_of_items f i ≡ false →
      within total head f i ≡ Direct.within (store_of total head f (location_of f i).method) (location_of f i)
  within-other i m =
      all_same _ _ (location_of f i).extents (λ (e : Extent). ap (leb ((location_of f i).base + e.offset + e.size)) (other-size _ i e m))

  -- an extent's source is of the item that it names, of none, or of the file
  source_by_lem : (P : Answer ℕ → Type 0) (x : ℕ → ℕ → Answer ℕ) (i : ℕ) (e : Extent) (q : ℕ) →
      ((j : ℕ) → made_of_items f i ≡ true → named f i e ≡ ok j → P (x j q)) → P (refuse 17 0) →
      P (known (store_of total head f (location_of f i).method).known q) → P ((source_of total head f x i e).byte q)
  source_by_lem P x i e q h r k = by (made_of_items f i) refl (named f i e) refl
    where
      by : (b : Bool) → made_of_items f i ≡ b → (a : Answer ℕ) → named f i e ≡ a → P ((source_of total head f x i e).byte q)
      by true m (ok j) z = subst P (sym (named-byte x i e j q m z)) (h j m z)
      by true m (refuse n p) z = subst P (sym (unnamed_byte x i e n p q m z)) r
      by false m a z = subst P (sym (other_byte x i e q m)) k

  source_same : (x y : ℕ → ℕ → Answer ℕ) (i : ℕ) (e : Extent) (q : ℕ) →
      ((j : ℕ) → made_of_items f i ≡ true → named f i e ≡ ok j → x j q ≡ y j q) →
      (source_of total head f x i e).byte q ≡ (source_of total head f y i e).byte q
  source_same x y i e q h = by (made_of_items f i) refl (named f i e) refl
    where
      by : (b : Bool) → made_of_items f i ≡ b → (a : Answer ℕ) → named f i e ≡ a →
          (source_of total head f x i e).byte q ≡ (source_of total head f y i e).byte q
      by true m (ok j) z = named-byte x i e j q m z ∙ h j m z ∙ sym (named-byte y i e j q m z)
      by true m (refuse n p) z = unnamed_byte x i e n p q m z ∙ sym (unnamed_byte y i e n p q m z)
      by false m a z = other_byte x i e q m ∙ sym (other_byte y i e q m)

  -- byte_of: more depth than the chain needs
  pub byte_le : (n m i p : ℕ) → n ≤ m → chained n f i ≡ true → byte_of total head f m i p ≡ byte_of total head f n i p
  unfolding byte_of
  byte_le zero zero i p h e = refl
  byte_le zero (suc m) i p h e =
      byte_in_same _ _ (location_of f i).base (location_of f i).extents p (λ x a q. source_same (byte_of total head f m) (λ j q. refuse 17 0) i x q
      (λ j t z. untrue (sym (chained-end f i e) ∙ t)))
  byte_le (suc n) zero i p h e = absurd (not-suc-le-zero h)
  byte_le (suc n) (suc m) i p h e =
      byte_in_same _ _ (location_of f i).base (location_of f i).extents p
      (λ x a q. source_same (byte_of total head f m) (byte_of total head f n) i x q
      (λ j t z. byte_le n m j q (le_of_suc-le-suc h) (chained-link f n i j e (record { made = t; extent = x; among = a; picks = z }))))

  -- and so an item's bytes are those of its extents, counting from the bytes of the items that they name
  byte-by : (n i p : ℕ) → chained (suc n) f i ≡ true → byte_of total head f (suc n) i p
      ≡ byte_in (source_of total head f (byte_of total head f (suc n)) i) (location_of f i).base (location_of f i).extents p
  unfolding byte_of
  byte-by n i p e =
      byte_in_same _ _ (location_of f i).base (location_of f i).extents p
      (λ x a q. source_same (byte_of total head f n) (byte_of total head f (suc n)) i x q
      (λ j t z. sym (byte_le n (suc n) j q (omega arith) (chained-link f n i j e (record { made = t; extent = x; among = a; picks = z })))))

  pub byte_rule : (i p : ℕ) → chained 8 f i ≡ true → byte_of total head f 8 i p
      ≡ byte_in (source_of total head f (byte_of total head f 8) i) (location_of f i).base (location_of f i).extents p
  byte_rule i p e = byte-by 7 i p e

  pub byte_past : (n i p : ℕ) → length_of f i ≤ p → byte_of total head f n i p ≡ refuse 17 0
  unfolding byte_of
  byte_past zero i p h = byte_in_past _ _ (location_of f i).extents p h
  byte_past (suc n) i p h = byte_in_past _ _ (location_of f i).extents p h

  pub byte_given : (n i p : ℕ) → Given (byte_of total head f n i p)
  unfolding byte_of
  byte_given zero i p =
      byte_in_given _ (λ e q. source_by_lem Given _ i e q (λ j t z. inr refl) (inr refl) (known_given _ q)) (location_of f i).base (location_of f i).extents p
  byte_given (suc n) i p =
      byte_in_given _ (λ e q. source_by_lem Given (byte_of total head f n) i e q (λ j t z. byte_given n j q) (inr refl) (known_given _ q))
      (location_of f i).base (location_of f i).extents p

  -- bytes_upto: the bytes at the first n positions
  pub upto_reads : (i n : ℕ) (bs : List ℕ) → bytes_upto total head f i n ≡ ok bs → Reads (byte_of total head f 8 i) n bs
  unfolding bytes_upto
  upto_reads i zero bs h = subst (Reads (byte_of total head f 8 i) 0) (ok_inj [] bs h) (record { long = refl; each = λ k l. absurd (not-suc-le-zero l) })
  upto_reads i (suc n) bs h =
      let x = bind_ok _ _ bs h in
      let y = bind_ok _ _ bs x.2 in
      subst (Reads (byte_of total head f 8 i) (suc n)) (ok_inj _ bs y.2)
      (reads_snoc (byte_of total head f 8 i) n x.0 y.0 (upto_reads i n x.0 x.1) y.1)

  upto_take : (i : ℕ) (bs : List ℕ) → ((k : ℕ) → k < length bs → byte_of total head f 8 i k ≡ ok (get_or bs k 0)) → (n : ℕ) → n ≤ length bs →
      bytes_upto total head f i n ≡ ok (take n bs)
  unfolding bytes_upto
  upto_take i bs h zero l = refl
  upto_take i bs h (suc n) l =
      ok_bind _ _ (take n bs) (upto_take i bs h n (omega arith)) ∙ ok_bind _ _ (get_or bs n 0) (h n l) ∙ ap ok (sym (take-suc bs n 0 l))

  pub reads_upto : (i n : ℕ) (bs : List ℕ) → Reads (byte_of total head f 8 i) n bs → bytes_upto total head f i n ≡ ok bs
  reads_upto i n bs r =
      let w = r.long in
      ap (bytes_upto total head f i) (sym w) ∙ upto_take i bs (λ k l. r.each k (omega arith)) (length bs) (omega arith) ∙ ap ok (take-length bs)

  pub bytes-long : (i n : ℕ) (bs : List ℕ) → bytes_upto total head f i n ≡ ok bs → length bs ≡ n
  bytes-long i n bs h = (upto_reads i n bs h).long

  pub bytes_given : (i n : ℕ) → Given (bytes_upto total head f i n)
  unfolding bytes_upto
  bytes_given i zero = inl ([], refl)
  bytes_given i (suc n) =
      ⊎_elim (λ x. ⊎_elim (λ y. inl (x.0 ++ (y.0 ∷ []), ok_bind _ _ x.0 x.1 ∙ ok_bind _ _ y.0 y.1))
      (λ y. inr (ok_bind _ _ x.0 x.1 ∙ refuse_bind _ 17 0 y _)) (byte_given 8 i n))
      (λ x. inr (refuse_bind _ 17 0 x _)) (bytes_given i n)

  first-refused : (i n : ℕ) → bytes_upto total head f i n ≡ refuse 17 0 → (k : ℕ) × (k < n) × (byte_of total head f 8 i k ≡ refuse 17 0)
  unfolding bytes_upto
  first-refused i zero h = not-refused [] 17 0 h
  first-refused i (suc n) h =
      ⊎_elim (λ x. let r = first-refused i n x in let l = r.1 in (r.0, omega arith, r.2))
      (λ x. ⊎_elim (λ y. (n, omega arith, y)) (λ y. not-refused _ 17 0 y.2) (bind_refuse (byte_of total head f 8 i n) _ 17 0 x.2))
      (bind_refuse (bytes_upto total head f i n) _ 17 0 h)

  -- "each byte in the head": 17 exactly where one is not
  pub bytes-refused : (i n : ℕ) → (bytes_upto total head f i n ≡ refuse 17 0)
      ↔ ((k : ℕ) × (k < n) × (byte_of total head f 8 i k ≡ refuse 17 0))
  bytes-refused i n = (
    first-refused i n,
    (λ x. ⊎_elim (λ y. not-refused _ 17 0
        (sym ((upto_reads i n y.0 y.1).each x.0 x.1) ∙ x.2)) (λ y. y) (bytes_given i n)),
  )

  -- "Derivation bodies may have several extents, joined"
  pub bytes-joined : (i : ℕ) (bs : List ℕ) → chained 8 f i ≡ true →
      (bytes_upto total head f i (length_of f i) ≡ ok bs) ↔ ItsBytes total head f i bs
  bytes-joined i bs e = (
    (λ h. reads_joins _ _ (location_of f i).extents bs (reads_same _ _ _ bs (λ p. byte_rule i p e) (upto_reads i (length_of f i) bs h))),
    (λ h. reads_upto i (length_of f i) bs (reads_same _ _ _ bs (λ p. sym (byte_rule i p e)) (joins_reads _ _ (location_of f i).extents bs h))),
  )

  pub body-joined : (i : ℕ) (bs : List ℕ) → chained 8 f i ≡ true → (body_of total head f i ≡ ok bs) ↔ ItsBody total head f i bs
  body-joined i bs e = (
    (λ h. let x = then_ok _ _ bs h in
        record { few = leb-true (length_of f i) 16402 (check-ok 17 i _ x.0 x.1); joined = (bytes-joined i bs e).0 x.2 }),
    (λ h. ok-then _ _ tt (ok-check 17 i _ (le-leb (length_of f i) 16402 h.few)) ∙ (bytes-joined i bs e).1 h.joined),
  )

  pub body-long : (i : ℕ) (bs : List ℕ) → body_of total head f i ≡ ok bs → (length bs ≡ length_of f i) × (length bs ≤ 16402)
  body-long i bs h =
      let x = then_ok _ _ bs h in
      let l = leb-true (length_of f i) 16402 (check-ok 17 i _ x.0 x.1) in
      let w = bytes-long i (length_of f i) bs x.2 in
      (w, omega arith)

  -- the part of an extent of method 0 or 1 that is not empty: of the head, or of the content of `idat`
  pub part-other : (x : ℕ → ℕ → Answer ℕ) (i : ℕ) (e : Extent) (p n : ℕ) (bs : List ℕ) → made_of_items f i ≡ false → 0 < n →
      Reads (λ k. (source_of total head f x i e).byte (p + k)) n bs
      ↔ ((p + n ≤ length (store_of total head f (location_of f i).method).known)
      × (bs ≡ take n (drop p (store_of total head f (location_of f i).method).known)))
  part-other x i e p n bs m h =
      let w = part-known (store_of total head f (location_of f i).method).known p n bs h in (
        (λ r. w.0 (reads_same _ _ n bs (λ k. other_byte x i e (p + k) m) r)),
        (λ r. reads_same _ _ n bs (λ k. sym (other_byte x i e (p + k) m)) (w.1 r)),
      )

  -- an item whose bytes are all known is what they are
  pub byte-known : (j : ℕ) (ns : List ℕ) (q : ℕ) → bytes_upto total head f j (length_of f j) ≡ ok ns →
      byte_of total head f 8 j q ≡ known ns q
  unfolding known
  byte-known j ns q h =
      let r = upto_reads j (length_of f j) ns h in
      let w = r.long in
      both (λ (a : Answer ℕ). byte_of total head f 8 j q ≡ a) (ltb q (length ns)) _ _
      (λ t. let l = ltb-true q (length ns) t in r.each q (omega arith))
      (λ t. let l = ltb-false q (length ns) t in byte_past 8 j q (omega arith))

  -- the part of an extent that names the item j: of j's own bytes
  pub part-named : (i : ℕ) (e : Extent) (j : ℕ) (ns : List ℕ) (p n : ℕ) (bs : List ℕ) → made_of_items f i ≡ true → named f i e ≡ ok j →
      bytes_upto total head f j (length_of f j) ≡ ok ns → 0 < n →
      Reads (λ k. (source_of total head f (byte_of total head f 8) i e).byte (p + k)) n bs
      ↔ ((p + n ≤ length ns) × (bs ≡ take n (drop p ns)))
  part-named i e j ns p n bs m z a h =
      let w = part-known ns p n bs h in (
        (λ r. w.0 (reads_same _ _ n bs (λ k. named-byte _ i e j (p + k) m z ∙ byte-known j ns (p + k) a) r)),
        (λ r. reads_same _ _ n bs (λ k. sym (named-byte (byte_of total head f 8) i e j (p + k) m z ∙ byte-known j ns (p + k) a)) (w.1 r)),
      )

  -- document 01's body: one extent of method 0 or 1 that is not empty (13 is asked before)
  one-joined : (i : ℕ) (e : Extent) (bs : List ℕ) → made_of_items f i ≡ false → (location_of f i).extents ≡ e ∷ [] → 0 < e.size →
      (bytes_upto total head f i (length_of f i) ≡ ok bs)
      ↔ (((location_of f i).base + e.offset + e.size ≤ length (store_of total head f (location_of f i).method).known)
      × (bs ≡ take e.size (drop ((location_of f i).base + e.offset) (store_of total head f (location_of f i).method).known)))
  unfolding Joins
  one-joined i e bs m z h = (
    (λ x. let y = rw z at (j.0 x) in let r = (w y.0).0 y.3 in (r.0, y.2 ∙ ap (λ (c : List ℕ). y.0 ++ c) y.4 ∙ append-nil y.0 ∙ r.1)),
    (λ x. j.1 (rw z (bs, [], sym (append-nil bs), (w bs).1 x, refl))),
  )
    where
      j : (bytes_upto total head f i (length_of f i) ≡ ok bs) ↔ ItsBytes total head f i bs
      j = bytes-joined i bs (chained-other f 8 i m)

      w : (part : List ℕ) →
          Reads (λ k. (source_of total head f (byte_of total head f 8) i e).byte ((location_of f i).base + e.offset + k)) e.size part
          ↔ (((location_of f i).base + e.offset + e.size ≤ length (store_of total head f (location_of f i).method).known)
          × (part ≡ take e.size (drop ((location_of f i).base + e.offset) (store_of total head f (location_of f i).method).known)))
      w part = part-other (byte_of total head f 8) i e ((location_of f i).base + e.offset) e.size part m h

  pub one-extent : (i : ℕ) (e : Extent) → made_of_items f i ≡ false → (location_of f i).extents ≡ e ∷ [] → 0 < e.size →
      bytes_upto total head f i (length_of f i) ≡ body_in (store_of total head f (location_of f i).method) (location_of f i)
  one-extent i e m z h =
      both (λ (a : Answer (List ℕ)). bytes_upto total head f i (length_of f i) ≡ a) _ _ _
      (λ t. (one-joined i e _ m z h).1 (leb-true _ _ t, refl))
      (λ t. ⊎_elim (λ x.
      let l = leb-false ((location_of f i).base + e.offset + e.size) (length (store_of total head f (location_of f i).method).known) t in
      let r = ((one-joined i e x.0 m z h).0 x.1).0 in
      absurd (omega arith)) (λ x. x) (bytes_given i (length_of f i)))
      ∙ sym (body-one (store_of total head f (location_of f i).method) (location_of f i).base (location_of f i).extents e z)

  pub one-body : (i : ℕ) (e : Extent) → made_of_items f i ≡ false → (location_of f i).extents ≡ e ∷ [] → 0 < e.size → e.size ≤ 16402 →
      body_of total head f i ≡ body_in (store_of total head f (location_of f i).method) (location_of f i)
  one-body i e m z h few =
      ok-then _ _ tt (ok-check 17 i _ (le-leb (length_of f i) 16402 (let w = one-length (location_of f i).extents e z in omega arith)))
      ∙ one-extent i e m z h
