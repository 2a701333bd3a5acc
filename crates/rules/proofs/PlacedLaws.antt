-- What 13, 30 and 14 make sure of, of an item that they pass. Assumes nothing.
--   among-at                   an extent by its place is one of them;   extents-each    a test of all of each
--   Placed total head f id     the item id keeps 13, 30 and 14
--   placed_of                  rule13-30-14 is just this
--   in-file, in_item           an extent of a placed item ends in its source; one that names an item names one that is not too long
use Prim.Native.Nat.{ℕ, zero, suc, ◌+◌, ◌≤◌, ◌<◌}
use native.Mathlib.Nat.{not-suc-le-zero, le_of_suc-le-suc}
use mathlib.Core.Path.{◌≡◌, refl, ap, ◌∙◌, subst}
use mathlib.Core.List.{List, [], ◌∷◌}
use mathlib.Core.Bool.{Bool, true, false, not}
use mathlib.Core.Logic.{inl, inr}
use lib.ListN.{length, get_or}
use lib.Dec.{leb}
use borrow.Author.Tests.{leb-true, not-true}
use Rattle.fields.proofs.FieldLaws.{pick_yes, pick_no}
use Rattle.fields.proofs.TestLaws.{and_both}
use Rattle.boxes.specs.Answer.{ok}
use Rattle.boxes.proofs.AnswerLaws.{then_ok, check-ok}
use Rattle.contents.specs.Iinf.{Item}
use Rattle.contents.specs.Iloc.{Extent}
use Rattle.contents.specs.File.{File}
use Rattle.rules.specs.Joined.{no_extent, location_of}
use Rattle.rules.specs.Bytes.{
  all_extents,
  good_method,
  good_lengths,
  named,
  made_of_items,
  chained,
  length_of,
  names_past,
  Source,
  file_source,
  named_source,
  source_of,
  byte_of,
  within,
}
use Rattle.rules.specs.Links.{Among, Link}
use Rattle.rules.specs.Rules.{has_bytes, rule13-30-14}
use Rattle.rules.proofs.ChainLaws.{all_among, chained-link, named-link, unpast_link}

-- extents by their place
pub among-at : (es : List Extent) (j : ℕ) → j < length es → Among (get_or es j no_extent) es
among-at [] j h = not-suc-le-zero h
among-at (e ∷ es) zero h = inl refl
among-at (e ∷ es) (suc j) h = inr (among-at es j (le_of_suc-le-suc h))

pub extents-each : (t : Extent → Bool) (es : List Extent) → all_extents t es ≡ true → (j : ℕ) → j < length es → t (get_or es j no_extent) ≡ true
extents-each t es e j h = all_among t es e (get_or es j no_extent) (among-at es j h)

pub record Placed (total : ℕ) (head : List ℕ) (f : File) (i : Item) : Type 0 where
  pub method : good_method (location_of f i.id) ≡ true
  pub lengths : good_lengths (location_of f i.id) ≡ true
  pub chain : chained 8 f i.id ≡ true
  pub short : names_past 8 f i.id ≡ false
  pub inside : within total head f i.id ≡ true
  pub bytes : has_bytes f i ≡ true

pub placed_of : (total : ℕ) (head : List ℕ) (f : File) (i : Item) → rule13-30-14 total head f i ≡ ok tt → Placed total head f i
unfolding rule13-30-14
placed_of total head f i e =
    let x = then_ok _ _ tt e in
    let y = then_ok _ _ x.0 x.1 in
    let a = and_both (good_method (location_of f i.id)) _ (check-ok 13 _ _ y.0 y.1) in
    let b = and_both (not (names_past 8 f i.id)) _ (check-ok 14 _ _ tt x.2) in
    let c = and_both (within total head f i.id) _ b.1 in
    record {
      method = a.0;
      lengths = a.1;
      chain = check-ok 30 _ _ x.0 y.2;
      short = not-true _ b.0;
      inside = c.0;
      bytes = c.1;
    }

module _ (total : ℕ) (head : List ℕ) (f : File) (i : Item) (k : Placed total head f i) (j : ℕ)
    (h : j < length (location_of f i.id).extents) where
  abbrev its : Extent
  its = get_or (location_of f i.id).extents j no_extent

  -- 14, whatever its source is
  pub in_source : (location_of f i.id).base + its.offset + its.size ≤ (source_of total head f (byte_of total head f 8) i.id its).size
  in_source = leb-true _ _ (extents-each
      (λ (e : Extent). leb ((location_of f i.id).base + e.offset + e.size) (source_of total head f (byte_of total head f 8) i.id e).size)
      (location_of f i.id).extents k.inside j h)

  pub in_file : made_of_items f i.id ≡ false → (location_of f i.id).base + its.offset + its.size ≤ (file_source total head f i.id).size
  unfolding source_of
  in_file m = subst (λ (s : Source). (location_of f i.id).base + its.offset + its.size ≤ s.size) (pick_no _ _ m) in_source

  -- the item that it names
  pub record InItem : Type 0 where
    pub id : ℕ
    pub names : named f i.id its ≡ ok id
    pub ends : (location_of f i.id).base + its.offset + its.size ≤ length_of f id
    pub small : length_of f id < 18446744073709551616
    pub chain : chained 7 f id ≡ true

  pub in_item : made_of_items f i.id ≡ true → InItem
  unfolding source_of named_source
  in_item m =
      let a = among-at (location_of f i.id).extents j h in
      let l = named-link f 7 i.id its k.chain m a in
      let w : Link f i.id l.0 = record { made = m; extent = its; among = a; picks = l.1 } in
      record {
        id = l.0;
        names = l.1;
        ends = subst (λ (s : Source). (location_of f i.id).base + its.offset + its.size ≤ s.size)
            (pick_yes _ _ m ∙ ap (named_source total head f (byte_of total head f 8)) l.1) in_source;
        small = unpast_link f 7 i.id l.0 w k.short;
        chain = chained-link f 7 i.id l.0 k.chain w;
      }
