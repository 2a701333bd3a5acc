-- 13, 30 and 14 of an item once the levels of all are known (document 02, Q-7). Assumes nothing.
--   source-end           an extent against its source, and in the table's numbers against the end that the code goes by
--   linked-method, ..    rule13-30-14 by answers
use Prim.Native.Nat.{ℕ, ◌+◌, ◌-◌, ◌≤◌, ◌<◌}
use native.Mathlib.Omega.{arith}
use mathlib.Core.Path.{◌≡◌, refl, sym, ap, ◌∙◌, subst}
use mathlib.Core.List.{List}
use mathlib.Core.Bool.{Bool, true, false, ◌&&◌, not}
use lib.ListN.{length, get_or, drop}
use lib.Dec.{leb, eqb}
use Rattle.std.specs.Prelude.{Some, None}
use borrow.Author.Tests.{leb-true, eqb-true, eqb-false, eq-eqb, ne_eqb, not-true, not-false}
use Rattle.fields.specs.Choice.{pick}
use Rattle.fields.proofs.FieldLaws.{pick_no}
use Rattle.fields.proofs.TestLaws.{untrue, and_both}
use Rattle.boxes.specs.Answer.{◌>>◌, check}
use Rattle.contents.specs.Iloc.{Extent, Location}
use Rattle.contents.specs.Iinf.{Item}
use Rattle.contents.specs.File.{File}
use Rattle.rules.specs.Bytes.{all_extents, made_of_items, good_method, good_lengths, chained, names_past, length_of, source_of, byte_of}
use Rattle.rules.specs.Bytes as file
use Rattle.rules.specs.inner.Direct.{store_of}
use Rattle.rules.specs.Joined.{no_extent, location_of}
use Rattle.rules.specs.Places.{Places, file_offset}
use Rattle.rules.specs.Rules.{has_bytes, rule13-30-14}
use Rattle.rules.proofs.ChainLaws.{named-link, unpast_link}
use Rattle.rules.proofs.ByteLaws.{named-size, other-size}
use Rattle.rules.proofs.PlacedLaws.{among-at, extents-each}
use Rattle.records.specs.inner.Raw.{capped}
use Rattle.views.specs.inner.View.{TableOf, record_word, id_of}
use Rattle.views.specs.inner.Told.{fault_of}
use Rattle.views.proofs.TableLaws.{row_small}
use Rattle.views.proofs.ViewLaws.{offset_made, capped_same}
use Rattle.linking.specs.inner.Links.{first_extent, offset_at, size_at, named_row, named_by}
use Rattle.linking.proofs.LinkLaws.{by_test}
use Rattle.linking.proofs.LiftLaws.{length_lift, named-row}
use Rattle.placed.specs.inner.Plain.{end_at, SourcesAre, Chained}
use Rattle.placed.proofs.ExtentLaws.{extents_fail, extents-on, extents_pass, no_length, ends-past, ends-before}
use Rattle.placed.proofs.PlaceLaws.{same-leb}

-- file_offset, store_of and end_at by the method
module _ (pl : Places) (l : Location) (e : Extent) where
  place-file : l.method ≡ 0 → file_offset pl l e ≡ l.base + e.offset
  unfolding file_offset pick
  place-file m = rw m (omega arith)

  place-idat : l.method ≡ 1 → file_offset pl l e ≡ pl.idat + (l.base + e.offset)
  unfolding file_offset pick
  place-idat m = rw m

module _ (total : ℕ) (head : List ℕ) (f : File) (m : ℕ) where
  store-file : m ≡ 0 → (store_of total head f m).size ≡ total
  unfolding pick
  store-file q = rw q

  store-idat : m ≡ 1 → (store_of total head f m).size ≡ length f.idat
  unfolding pick
  store-idat q = rw q

module _ (total idat : ℕ) (v sums : List ℕ) (m e : ℕ) where
  pub end-file : m ≡ 0 → total ≡ end_at total idat v sums m e
  unfolding pick
  end-file q = rw q

  pub end-idat : m ≡ 1 → idat ≡ end_at total idat v sums m e
  unfolding pick
  end-idat q = rw q

  pub end-named : 1 < m → get_or sums (named_row v e) 0 ≡ end_at total idat v sums m e
  end-named h = sym (pick_no _ _ (ne_eqb m 0 (λ q. omega arith)) ∙ pick_no _ _ (ne_eqb m 1 (λ q. omega arith)))

-- the extent j of the item in row r
module _ {t v sums head : List ℕ} {pl : Places} {idat : ℕ} {f : File} (w : SourcesAre t v sums head pl idat f) (total r j : ℕ)
    (h : r < length f.items) (k : Chained f (id_of f r)) (short : names_past 8 f (id_of f r) ≡ false)
    (l : j < length (location_of f (id_of f r)).extents) where
  abbrev its : Extent
  its = get_or (location_of f (id_of f r)).extents j no_extent

  abbrev at : ℕ
  at = (location_of f (id_of f r)).base + its.offset

  abbrev size : ℕ
  size = (source_of total head f (byte_of total head f 8) (id_of f r) its).size

  abbrev end : ℕ
  end = end_at total idat v sums (location_of f (id_of f r)).method (first_extent t r + j)

  -- method 2: the length of the named item is no more than 64 bits hold
  named_end : made_of_items f (id_of f r) ≡ true → (named_by t v r j < 256) × (size ≡ end)
  named_end m =
      let a = among-at (location_of f (id_of f r)).extents j l in
      let x = named-link f 7 (id_of f r) its k.chain m a in
      let y = named-row w.view v w.named r j h m l x.0 x.1 in
      let small = unpast_link f 7 (id_of f r) x.0 (record { made = m; extent = its; among = a; picks = x.1 }) short in
      let z = length_lift w.view (named_by t v r j) y.0 ∙ ap (length_of f) y.1 in
      let few = w.view.bounded.few-items in
      let b = y.0 in
      let two = eqb-true (location_of f (id_of f r)).method 2 m in (
        omega arith,
        named-size total head f (byte_of total head f 8) (id_of f r) its x.0 m x.1
            ∙ sym (w.lengths (named_by t v r j) y.0 ∙ ap capped z ∙ capped_same _ (omega arith))
            ∙ end-named total idat v sums (location_of f (id_of f r)).method (first_extent t r + j) (omega arith),
      )

  few_methods : (location_of f (id_of f r)).method ≤ 2
  few_methods = leb-true (location_of f (id_of f r)).method 2 (and_both (leb (location_of f (id_of f r)).method 2) _ k.method).0

  pub named-below : 1 < (location_of f (id_of f r)).method → named_by t v r j < 256
  named-below q = (named_end (eq-eqb (location_of f (id_of f r)).method 2 (omega (arith, few_methods)))).0

  source_end : leb (at + its.size) size ≡ leb (file_offset pl (location_of f (id_of f r)) its + its.size) end
  source_end =
      by_test (made_of_items f (id_of f r))
      (λ m. ap (λ (o : ℕ). leb (o + its.size) size) (sym (offset_made pl (location_of f (id_of f r)) its (eqb-true _ 2 m)))
      ∙ ap (leb (file_offset pl (location_of f (id_of f r)) its + its.size)) (named_end m).1)
      (λ m. ap (leb (at + its.size)) (other-size total head f (byte_of total head f 8) (id_of f r) its m)
      ∙ by_test (eqb (location_of f (id_of f r)).method 1) (λ q. in_idat (eqb-true _ 1 q)) (λ q. in_file (eqb-false _ 1 q) (eqb-false _ 2 m)))
    where
      Goal : Type 0
      Goal = leb (at + its.size) (store_of total head f (location_of f (id_of f r)).method).size
          ≡ leb (file_offset pl (location_of f (id_of f r)) its + its.size) end

      in_idat : (location_of f (id_of f r)).method ≡ 1 → Goal
      in_idat m =
          let a = store-idat total head f (location_of f (id_of f r)).method m in
          let b = place-idat pl (location_of f (id_of f r)) its m in
          let c = end-idat total idat v sums (location_of f (id_of f r)).method (first_extent t r + j) m in
          let d = w.ends in
          same-leb (at + its.size) (store_of total head f (location_of f (id_of f r)).method).size
          (file_offset pl (location_of f (id_of f r)) its + its.size) end (λ z. omega arith) (λ z. omega arith)

      in_file : ((location_of f (id_of f r)).method ≡ 1 → ⊥) → ((location_of f (id_of f r)).method ≡ 2 → ⊥) → Goal
      in_file one two =
          let few = few_methods in
          let m : (location_of f (id_of f r)).method ≡ 0 = omega arith in
          let a = store-file total head f (location_of f (id_of f r)).method m in
          let b = place-file pl (location_of f (id_of f r)) its m in
          let c = end-file total idat v sums (location_of f (id_of f r)).method (first_extent t r + j) m in
          same-leb (at + its.size) (store_of total head f (location_of f (id_of f r)).method).size
          (file_offset pl (location_of f (id_of f r)) its + its.size) end (λ z. omega arith) (λ z. omega arith)

  has_length : not (eqb its.size 0) ≡ true
  has_length = extents-each (λ (e : Extent). not (eqb e.size 0)) (location_of f (id_of f r)).extents k.long j l

  -- in the table's numbers
  module _ (x o m : ℕ) (fits : x < 18446744073709551616) (e : x ≡ end) (place : o ≡ offset_at t (first_extent t r + j))
      (long : m ≡ size_at t (first_extent t r + j)) where
    ends_by : leb (at + its.size) size ≡ (not (eqb its.size 0) && leb (file_offset pl (location_of f (id_of f r)) its + its.size) x)
    ends_by =
        source_end ∙ ap (leb (file_offset pl (location_of f (id_of f r)) its + its.size)) (sym e)
        ∙ sym (ap (λ (b : Bool). b && leb (file_offset pl (location_of f (id_of f r)) its + its.size) x) has_length)

    source_past : x < o + m → leb (at + its.size) size ≡ false
    source_past q = ends_by ∙ ends-past x _ _ o m fits (place ∙ w.view.extent-offset r j h l) (long ∙ w.view.extent-size r j h l) q

    source_before : o + m ≤ x → leb (at + its.size) size ≡ true
    source_before q = ends_by ∙ ends-before x _ _ o m fits (place ∙ w.view.extent-offset r j h l) (long ∙ w.view.extent-size r j h l) q
        (λ z. untrue (sym (no_length m its.size (long ∙ w.view.extent-size r j h l) z) ∙ has_length))

-- all extents: row r has its extents from the number `first` on, before `past`; those before e lie in their sources
abbrev pub RowIs : List ℕ → ℕ → ℕ → ℕ → ℕ → Type 0
RowIs t r first past method = (first ≡ record_word t r 7) × (past ≡ first + record_word t r 8) × (method ≡ record_word t r 9)

abbrev pub in_source : ℕ → List ℕ → File → ℕ → Extent → Bool
in_source total head f id e = leb ((location_of f id).base + e.offset + e.size) (source_of total head f (byte_of total head f 8) id e).size

abbrev pub InFrom : ℕ → List ℕ → File → ℕ → ℕ → Type 0
InFrom total head f id j = all_extents (in_source total head f id) (location_of f id).extents
    ≡ all_extents (in_source total head f id) (drop j (location_of f id).extents)

module _ {t head : List ℕ} {pl : Places} {f : File} (w : TableOf t head pl f) (r : ℕ) (h : r < length f.items)
    (first count : ℕ) (a : r < 256 → first ≡ record_word t r 7) (b : r < 256 → count ≡ record_word t r 8) where
  pub row_is : (method past : ℕ) → (r < 256 → method ≡ record_word t r 9) → past ≡ first + count → RowIs t r first past method
  row_is method past m e = (a (row_small w r h), e ∙ ap (λ (n : ℕ). first + n) (b (row_small w r h)), m (row_small w r h))

module _ {t v sums head : List ℕ} {pl : Places} {idat : ℕ} {f : File} (w : SourcesAre t v sums head pl idat f) (total r : ℕ)
    (h : r < length f.items) (k : Chained f (id_of f r)) (short : names_past 8 f (id_of f r) ≡ false)
    (first past method : ℕ) (a : RowIs t r first past method) (e : ℕ) (low : first ≤ e)
    (before : InFrom total head f (id_of f r) (e - first)) where
  counts : past ≡ first + length (location_of f (id_of f r)).extents
  counts = a.1 ∙ ap (λ (n : ℕ). first + n) (w.view.extent-count r h)

  pub sources_pass : past ≤ e → true ≡ file.within total head f (id_of f r)
  sources_pass q = extents_pass (in_source total head f (id_of f r)) _ (e - first) before (omega (arith, counts))

  module _ (high : e < past) (x o m : ℕ) (fits : x < 18446744073709551616)
      (ends : (1 < method → named_row v e < 256) → x ≡ end_at total idat v sums method e) (place : o ≡ offset_at t e) (long : m ≡ size_at t e) where
    inside : e - first < length (location_of f (id_of f r)).extents
    inside = omega (arith, counts)

    its_number : e ≡ first_extent t r + (e - first)
    its_number = omega (arith, a.0)

    its_method : method ≡ (location_of f (id_of f r)).method
    its_method = a.2 ∙ w.view.method r h

    its_end : x ≡ end_at total idat v sums (location_of f (id_of f r)).method (first_extent t r + (e - first))
    its_end =
        ends (λ q. subst (λ (i : ℕ). named_row v i < 256) (sym its_number)
        (named-below w total r (e - first) h k short inside (subst (λ (i : ℕ). 1 < i) its_method q)))
        ∙ ap (λ (i : ℕ). end_at total idat v sums i e) its_method
        ∙ ap (λ (i : ℕ). end_at total idat v sums (location_of f (id_of f r)).method i) its_number

    pub sources_fail : x < o + m → false ≡ file.within total head f (id_of f r)
    sources_fail q =
        extents_fail (in_source total head f (id_of f r)) _ (e - first) before inside
        (source_past w total r (e - first) h k short inside x o m fits its_end
        (place ∙ ap (offset_at t) its_number) (long ∙ ap (size_at t) its_number) q)

    pub sources-on : o + m ≤ x → InFrom total head f (id_of f r) (e + 1 - first)
    sources-on q =
        let z : e - first + 1 ≡ e + 1 - first = omega arith in
        subst (InFrom total head f (id_of f r)) z (extents-on (in_source total head f (id_of f r)) _ (e - first) before inside
        (source_before w total r (e - first) h k short inside x o m fits its_end
        (place ∙ ap (offset_at t) its_number) (long ∙ ap (size_at t) its_number) q))

-- 14: by answers
module _ (p w b : Bool) where
  pub past-names : (n : Bool) → n ≡ p → n ≡ true → true ≡ not (not p && (w && b))
  past-names n e q = rw (← e, q) refl

  module _ (n : Bool) (e : n ≡ p) (q : n ≡ false) where
    pub past-outside : (x : Bool) → x ≡ w → x ≡ false → true ≡ not (not p && (w && b))
    past-outside x y z = rw (← e, q, ← y, z) refl

    pub past_empty : (x : Bool) → x ≡ w → x ≡ true → (y : Bool) → y ≡ b → not y ≡ not (not p && (w && b))
    past_empty x y z o i = rw (← e, q, ← y, z, ← i) refl

-- rule13-30-14: by answers
module _ (total : ℕ) (head : List ℕ) (f : File) (i : Item) (good : Bool)
    (e : good ≡ (good_method (location_of f i.id) && good_lengths (location_of f i.id))) where
  pub linked-method : good ≡ false → Some 13 ≡ fault_of (rule13-30-14 total head f i)
  unfolding rule13-30-14 fault_of check ◌>>◌
  linked-method n = rw (← e, n) refl

  module _ (y : good ≡ true) (endless : Bool) (q : endless ≡ not (chained 8 f i.id)) where
    pub linked_endless : endless ≡ true → Some 30 ≡ fault_of (rule13-30-14 total head f i)
    unfolding rule13-30-14 fault_of check ◌>>◌
    linked_endless n = rw (← e, y, not-true (chained 8 f i.id) (sym q ∙ n)) refl

    module _ (n : endless ≡ false) where
      pub chained-here : Chained f i.id
      chained-here =
          let a = and_both (good_method (location_of f i.id)) _ (sym e ∙ y) in
          record { method = a.0; long = a.1; chain = not-false _ (sym q ∙ n) }

      abbrev kept : Bool
      kept = not (names_past 8 f i.id) && (file.within total head f i.id && has_bytes f i)

      module _ (past : Bool) (p : past ≡ not kept) where
        pub linked-past : past ≡ true → Some 14 ≡ fault_of (rule13-30-14 total head f i)
        unfolding rule13-30-14 fault_of check ◌>>◌
        linked-past z = rw (← e, y, not-false (chained 8 f i.id) (sym q ∙ n), not-true kept (sym p ∙ z)) refl

        pub linked-none : past ≡ false → None ≡ fault_of (rule13-30-14 total head f i)
        unfolding rule13-30-14 fault_of check ◌>>◌
        linked-none z = rw (← e, y, not-false (chained 8 f i.id) (sym q ∙ n), not-false kept (sym p ∙ z)) refl
