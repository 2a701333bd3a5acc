-- Where the bytes of a file's items lie, by its table (document 02, Q-7): crates/joining/specs/inner/Lies.antt says of rows what
-- crates/rules/specs/Bytes.antt says of the items in them. Assumes nothing.
--   sourced      what 13, 30 and 14 make sure of;   offset-lift    where an extent begins
--   byte-lift    a byte of an item
--   body-lift    its joined body;   body-too-long    where that is refused
use Prim.Native.Nat.{ℕ, zero, suc, ◌+◌, ◌-◌, ◌≤◌, ◌<◌}
use native.Mathlib.Nat.{add-zero}
use native.Mathlib.Omega.{arith}
use mathlib.Core.Path.{◌≡◌, refl, sym, ap, subst, ◌∙◌}
use mathlib.Core.List.{List, [], ◌∷◌}
use mathlib.Core.Bool.{Bool, true, false, ◌&&◌}
use lib.ListN.{length, get_or, drop}
use lib.Seq.{get_or-take, get_or-drop}
use lib.Dec.{ltb, eqb}
use borrow.Author.Tests.{ltb-true, lt-ltb, le-ltb, le-leb, lt-leb, eqb-true}
use Rattle.fields.specs.Choice.{pick}
use Rattle.fields.proofs.FieldLaws.{pick_yes, pick_no}
use Rattle.fields.proofs.TestLaws.{both-and, and_none}
use Rattle.boxes.specs.Answer.{Answer, ok, refuse}
use Rattle.boxes.proofs.AnswerLaws.{ok_bind, refuse_bind, ok-then, refuse-then, ok-check, refuse-check}
use Rattle.contents.specs.Iloc.{Extent}
use Rattle.contents.specs.File.{File, read_file}
use Rattle.contents.proofs.ReadLaws.{read-sound}
use Rattle.rules.specs.Joined.{no_extent, item_at, location_of}
use Rattle.rules.specs.Places.{places_in, file_offset}
use Rattle.rules.specs.Bytes.{length_of, Source, known, byte_in, source_of, byte_of, bytes_upto, body_of}
use Rattle.rules.specs.Bytes as file
use Rattle.rules.specs.inner.Direct.{Store}
use Rattle.rules.proofs.ChainLaws.{chained-end, chained-link, named-link}
use Rattle.rules.proofs.ByteLaws.{named-byte, other_byte}
use Rattle.rules.proofs.PlacedLaws.{among-at, Placed, placed_of, in_file, in_item}
use Rattle.records.specs.inner.Named.{NamedIn}
use Rattle.views.specs.inner.View.{TableOf, AllPlaced, id_of}
use Rattle.views.proofs.ViewLaws.{offset_made, extent-below, capped_same}
use Rattle.linking.specs.inner.Links.{first_extent, offset_at, size_at, made_of_items, every, named_row, named_by, length_sum}
use Rattle.linking.proofs.LinkLaws.{by_test}
use Rattle.linking.proofs.LiftLaws.{made_lift, length_lift, rows_apart, named-row, links_in, chained_lift}
use Rattle.joining.specs.inner.Lies.{nowhere, place_from, place_of, Sourced, bytes_by}

-- known
known_at : (s : List ℕ) (p : ℕ) → p < length s → known s p ≡ ok (get_or s p 0)
unfolding known
known_at s p h = pick_yes _ _ (lt-ltb p (length s) h)

-- byte_in, by what stands for the extents: a is the number of the first, and a byte of each lies where `from` says
module _ (t head : List ℕ) (none : length head ≤ nowhere) (s : Extent → Source) (base : ℕ) (from : ℕ → ℕ → ℕ) where
  placed-byte : (a : ℕ) (es : List Extent) (p : ℕ) → ((j : ℕ) → j < length es → size_at t (a + j) ≡ (get_or es j no_extent).size) →
      ((j q : ℕ) → j < length es → q < (get_or es j no_extent).size →
      (s (get_or es j no_extent)).byte (base + (get_or es j no_extent).offset + q) ≡ known head (from (a + j) (offset_at t (a + j) + q))) →
      byte_in s base es p ≡ known head (place_from from t a (length es) p)
  unfolding byte_in place_from known
  placed-byte a [] p h k = sym (pick_no _ _ (le-ltb nowhere (length head) none))
  placed-byte a (x ∷ es) p h k =
      let z = sym (ap (size_at t) (add-zero a)) ∙ h 0 (omega arith) in
      by_test (ltb p x.size)
      (λ q. pick_yes _ _ q ∙ k 0 p (omega arith) (ltb-true p x.size q)
      ∙ ap (λ (b : ℕ). known head (from b (offset_at t b + p))) (add-zero a)
      ∙ ap (known head) (sym (pick_yes _ _ (ap (ltb p) z ∙ q))))
      (λ q. pick_no _ _ q
      ∙ placed-byte (suc a) es (p - x.size)
      (λ j l. let o : suc a + j ≡ a + suc j = omega arith in ap (size_at t) o ∙ h (suc j) (omega arith))
      (λ j i l m. let o : a + suc j ≡ suc a + j = omega arith in
      k (suc j) i (omega arith) m ∙ ap (λ (b : ℕ). known head (from b (offset_at t b + i))) o)
      ∙ ap (λ (b : ℕ). known head (place_from from t (suc a) (length es) (p - b))) (sym z)
      ∙ ap (known head) (sym (pick_no _ _ (ap (ltb p) z ∙ q))))

-- bytes_upto, by a test of each byte
module _ (total : ℕ) (head : List ℕ) (f : File) (id : ℕ) (test : ℕ → Bool) (byte : ℕ → ℕ)
    (each : (p : ℕ) → byte_of total head f 8 id p ≡ pick (test p) (ok (byte p)) (refuse 17 0)) where
  upto_by : (n : ℕ) → bytes_upto total head f id n ≡ pick (every test n) (ok (bytes_by byte n)) (refuse 17 0)
  unfolding bytes_upto every bytes_by pick
  upto_by zero = refl
  upto_by (suc n) =
      by_test (every test n)
      (λ a. let u = upto_by n ∙ pick_yes _ _ a in
      by_test (test n)
      (λ b. ok_bind _ _ (bytes_by byte n) u ∙ ok_bind _ _ (byte n) (each n ∙ pick_yes _ _ b) ∙ sym (pick_yes _ _ (both-and _ _ a b)))
      (λ b. ok_bind _ _ (bytes_by byte n) u ∙ refuse_bind _ 17 0 (each n ∙ pick_no _ _ b) _ ∙ sym (pick_no _ _ (and_none (every test n) (test n) b))))
      (λ a. refuse_bind _ 17 0 (upto_by n ∙ pick_no _ _ a) _ ∙ sym (pick_no _ _ (ap (λ (b : Bool). b && test n) a)))

module _ (total : ℕ) (head : List ℕ) (f : File) (few : total < 18446744073709551616) (e : read_file total head ≡ ok f)
    (placed : AllPlaced total head f) {t : List ℕ} (w : TableOf t head (places_in total head) f) where
  its_placed : (r : ℕ) → r < length f.items → Placed total head f (item_at f r)
  its_placed r h = placed_of total head f (item_at f r) (placed r h)

  head_below : length head ≤ nowhere
  head_below = omega (arith, (read-sound total head f e).within)

  -- an extent
  module _ (r j : ℕ) (h : r < length f.items) (l : j < length (location_of f (id_of f r)).extents) where
    abbrev its : Extent
    its = get_or (location_of f (id_of f r)).extents j no_extent

    -- its offset, of method 1 too, counts from the file's start, and is below 2^64
    pub offset_lift : offset_at t (first_extent t r + j) ≡ file_offset (places_in total head) (location_of f (id_of f r)) its
    offset_lift = w.extent-offset r j h l ∙ capped_same _ (omega (arith, extent-below total head f few e placed r j h l))

    offset-named : file.made_of_items f (id_of f r) ≡ true → offset_at t (first_extent t r + j) ≡ (location_of f (id_of f r)).base + its.offset
    offset-named m = offset_lift ∙ offset_made (places_in total head) (location_of f (id_of f r)) its (eqb-true _ 2 m)

    ends-below : offset_at t (first_extent t r + j) + size_at t (first_extent t r + j) < 18446744073709551616
    ends-below = omega (arith, offset_lift, w.extent-size r j h l, extent-below total head f few e placed r j h l)

    -- of method 0 or 1: a byte of it lies in the file where the table says
    file-byte : (x : ℕ → ℕ → Answer ℕ) (q : ℕ) → file.made_of_items f (id_of f r) ≡ false → q < its.size →
        (source_of total head f x (id_of f r) its).byte ((location_of f (id_of f r)).base + its.offset + q)
        ≡ known head (offset_at t (first_extent t r + j) + q)
    unfolding file_offset pick
    file-byte x q m k =
        other_byte total head f x (id_of f r) its _ m
        ∙ by (eqb (location_of f (id_of f r)).method 1) (in_file total head f (item_at f r) (its_placed r h) j l m)
        ∙ ap (λ (o : ℕ). known head (o + q)) (sym offset_lift)
      where
        at : ℕ
        at = (location_of f (id_of f r)).base + its.offset

        by : (b : Bool) → at + its.size ≤ (pick {A = Source} b
            (record { size = length f.idat; byte = known f.idat }) (record { size = total; byte = known head })).size →
            known (pick {A = Store} b (record { size = length f.idat; known = f.idat }) (record { size = total; known = head })).known (at + q)
            ≡ known head (pick b (places_in total head).idat 0 + at + q)
        by true g =
            let room = w.sound.idat-room in
            let o : (places_in total head).idat + (at + q) ≡ (places_in total head).idat + at + q = omega arith in
            known_at f.idat (at + q) (omega arith)
            ∙ ap ok (sym (ap (λ (s : List ℕ). get_or s (at + q) 0) w.sound.idat-part)
            ∙ get_or-take (length f.idat) (drop (places_in total head).idat head) (at + q) 0 (omega arith)
            ∙ get_or-drop (places_in total head).idat head (at + q) 0)
            ∙ sym (known_at head ((places_in total head).idat + (at + q)) (omega arith))
            ∙ ap (known head) o
        by false g = let o : at + q ≡ 0 + at + q = omega arith in ap (known head) o

  -- v has what extents name
  module _ (v : List ℕ) (n : NamedIn f v) where
    -- what an extent names, where the chain of its item ends
    module _ (k r j : ℕ) (h : r < length f.items) (c : file.chained (suc k) f (id_of f r) ≡ true)
        (m : file.made_of_items f (id_of f r) ≡ true) (l : j < length (location_of f (id_of f r)).extents) where
      -- its bytes are those of the row that is named
      item-byte : ((i : ℕ) → i < length f.items → (q : ℕ) → file.chained k f (id_of f i) ≡ true →
          byte_of total head f k (id_of f i) q ≡ known head (place_of k t v i q)) → (q : ℕ) →
          (source_of total head f (λ i p. byte_of total head f k i p) (id_of f r) (its r j h l)).byte
          ((location_of f (id_of f r)).base + (its r j h l).offset + q)
          ≡ known head (place_of k t v (named_by t v r j) (offset_at t (first_extent t r + j) + q))
      item-byte rec q =
          let a = among-at (location_of f (id_of f r)).extents j l in
          let x = named-link f k (id_of f r) (its r j h l) c m a in
          let y = named-row w v n r j h m l x.0 x.1 in
          named-byte total head f (λ i p. byte_of total head f k i p) (id_of f r) (its r j h l) x.0 _ m x.1
          ∙ ap (λ (i : ℕ). byte_of total head f k i ((location_of f (id_of f r)).base + (its r j h l).offset + q)) (sym y.1)
          ∙ rec (named_by t v r j) y.0 _ (subst (λ (i : ℕ). file.chained k f i ≡ true) (sym y.1)
          (chained-link f k (id_of f r) x.0 c (record { made = m; extent = its r j h l; among = a; picks = x.1 })))
          ∙ ap (λ (o : ℕ). known head (place_of k t v (named_by t v r j) (o + q))) (sym (offset-named r j h l m))

    known-byte : (k r p : ℕ) → r < length f.items → file.chained k f (id_of f r) ≡ true →
        byte_of total head f k (id_of f r) p ≡ known head (place_of k t v r p)
    unfolding byte_of place_of
    known-byte zero r p h c =
        let m = chained-end f (id_of f r) c in
        placed-byte t head head_below _ (location_of f (id_of f r)).base (λ a q. pick (made_of_items t r) nowhere q) (first_extent t r)
        (location_of f (id_of f r)).extents p (λ j l. w.extent-size r j h l)
        (λ j q l s. file-byte r j h l _ q m s ∙ ap (known head) (sym (pick_no _ _ (made_lift w r h ∙ m))))
        ∙ ap (λ (i : ℕ). known head (place_from (λ a q. pick (made_of_items t r) nowhere q) t (first_extent t r) i p)) (sym (w.extent-count r h))
    known-byte (suc k) r p h c =
        placed-byte t head head_below _ (location_of f (id_of f r)).base (λ a q. pick (made_of_items t r) (place_of k t v (named_row v a) q) q)
        (first_extent t r) (location_of f (id_of f r)).extents p (λ j l. w.extent-size r j h l)
        (λ j q l s. by_test (file.made_of_items f (id_of f r))
        (λ m. item-byte k r j h c m l (λ i z o d. known-byte k i o z d) q ∙ ap (known head) (sym (pick_yes _ _ (made_lift w r h ∙ m))))
        (λ m. file-byte r j h l _ q m s ∙ ap (known head) (sym (pick_no _ _ (made_lift w r h ∙ m)))))
        ∙ ap (λ (i : ℕ). known head (place_from (λ a q. pick (made_of_items t r) (place_of k t v (named_row v a) q) q) t (first_extent t r) i p))
        (sym (w.extent-count r h))

    -- a byte of an item: refused where the head does not hold it
    pub byte_lift : (k r p : ℕ) → r < length f.items → file.chained k f (id_of f r) ≡ true → byte_of total head f k (id_of f r) p
        ≡ pick (ltb (place_of k t v r p) (length head)) (ok (get_or head (place_of k t v r p) 0)) (refuse 17 0)
    unfolding known
    byte_lift k r p h c = known-byte k r p h c

    -- "joined, each byte in the head"
    pub upto_lift : (r m : ℕ) → r < length f.items → bytes_upto total head f (id_of f r) m
        ≡ pick (every (λ p. ltb (place_of 8 t v r p) (length head)) m) (ok (bytes_by (λ p. get_or head (place_of 8 t v r p) 0) m)) (refuse 17 0)
    upto_lift r m h = upto_by total head f (id_of f r) _ _ (λ p. byte_lift 8 r p h (its_placed r h).chain) m

    pub body_lift : (r : ℕ) → r < length f.items → length_of f (id_of f r) ≤ 16402 → body_of total head f (id_of f r)
        ≡ pick (every (λ p. ltb (place_of 8 t v r p) (length head)) (length_of f (id_of f r)))
        (ok (bytes_by (λ p. get_or head (place_of 8 t v r p) 0) (length_of f (id_of f r)))) (refuse 17 0)
    body_lift r h l =
        ok-then _ _ tt (ok-check 17 (id_of f r) _ (le-leb (length_of f (id_of f r)) 16402 l)) ∙ upto_lift r (length_of f (id_of f r)) h

    ends-inside : (r j : ℕ) (h : r < length f.items) → file.made_of_items f (id_of f r) ≡ true →
        j < length (location_of f (id_of f r)).extents →
        offset_at t (first_extent t r + j) + size_at t (first_extent t r + j) ≤ length_sum t (named_by t v r j)
    ends-inside r j h m l =
        let x = in_item total head f (item_at f r) (its_placed r h) j l m in
        let y = named-row w v n r j h m l x.id x.names in
        let z = length_lift w (named_by t v r j) y.0 ∙ ap (length_of f) y.1 in
        omega (arith, offset-named r j h l m, w.extent-size r j h l, x.ends)

    -- what 13, 30 and 14 make sure of
    pub sourced : Sourced t v (length f.items)
    sourced =
        record {
          links = links_in w v n;
          apart = rows_apart w;
          ends = λ r h. chained_lift w v n 8 r h ∙ (its_placed r h).chain;
          filed = λ r j h l. ends-below r j h (subst (λ (i : ℕ). j < i) (w.extent-count r h) l);
          within = λ r j h m l. ends-inside r j h (sym (made_lift w r h) ∙ m) (subst (λ (i : ℕ). j < i) (w.extent-count r h) l);
        }

-- "at most 16,402 bytes"
pub body_too_long : (total : ℕ) (head : List ℕ) (f : File) (id : ℕ) → 16402 < length_of f id → body_of total head f id ≡ refuse 17 id
body_too_long total head f id h = refuse-then _ 17 id (refuse-check 17 id _ 17 (lt-leb (length_of f id) 16402 h) refl) _
