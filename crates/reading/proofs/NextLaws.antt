-- From `iloc` to `iprp` and from there to the last stage, as the code's answers tell it. Assumes nothing.
use Prim.Native.Nat.{ℕ, ◌+◌, ◌-◌, ◌≤◌}
use mathlib.Core.Path.{◌≡◌, refl, sym, ap, ◌∙◌}
use mathlib.Core.List.{List}
use lib.ListN.{length, take, drop}
use Rattle.std.specs.Prelude.{Ok, Err}
use Rattle.boxes.specs.Answer.{Answer, ok, refuse}
use Rattle.boxes.specs.Told.{told}
use Rattle.boxes.proofs.ToldLaws.{told-ok, told-refused}
use Rattle.boxes.specs.Types.{iloc, iprp}
use Rattle.boxes.specs.Box.{head_of}
use Rattle.boxes.specs.Children.{place_of}
use Rattle.boxes.specs.inner.Where.{where_of}
use Rattle.boxes.specs.inner.Family.{spot_of}
use Rattle.boxes.specs.declared.Spot.{Spot}
use Rattle.boxes.specs.declared.Refusal.{Refusal}
use Rattle.forms.specs.Form.{whole}
use Rattle.contents.specs.Iinf.{Item, ids_of}
use Rattle.contents.specs.Iloc.{Location, extents_in, iloc_form}
use Rattle.contents.specs.Iprp.{IprpContent, iprp_content}
use Rattle.rules.specs.Places.{places_at}
use Rattle.records.specs.inner.Rows.{ids_in}
use Rattle.records.specs.inner.Stage.{with_items, with_locations, with_properties, with_names}
use Rattle.locations.specs.inner.Told.{LocationsLeft, Unplaced}
use Rattle.properties.specs.inner.Told.{shown_of, ShownLeft}
use Rattle.properties.specs.declared.Shown.{Shown}
use Rattle.reading.specs.inner.Parts.{kids, Standing, Before, LastBefore, content_of, begin_of, from_locations, from_shown, from_references}
use Rattle.reading.proofs.SpotLaws.{SpotIs}
use Rattle.reading.proofs.StageLaws.{ids_are}
use Rattle.reading.proofs.ChainLaws.{ids-distinct, none-located, locations_gone, locations-on, shown_begins, shown_gone, shown-on, last_begins}
use Rattle.reading.proofs.LastLaws.{seat, child_is, child_within}

-- `iloc`
module _ (s : List ℕ) (at : ℕ) (spots : List Spot) (st : Standing s spots) where
  abbrev iloc_seat : seat spots 3 ≡ spot_of (where_of iloc 0 (kids s))
  iloc_seat = ap (λ (y : List Spot). seat y 3) st.spots_are

  pub iloc-within : at + length s ≤ 65536 → ((seat spots 3).body ≤ (seat spots 3).end) × ((seat spots 3).end ≤ length s) ×
      (at + (seat spots 3).start ≤ 65536) × (at + (seat spots 3).body ≤ 65536)
  iloc-within = child_within s at spots st 3 iloc iloc_seat st.five.has_iloc

  module _ (n : ℕ) (is : List Item) (x t : List ℕ) (b : Before s at n (with_items is) x t) where
    pub unplaced : Unplaced t n
    unplaced = record { distinct = ids-distinct s at n (with_items is) x t b; none = none-located s at n (with_items is) x t b refl }

    module _ (part : List ℕ) (pe : part ≡ take ((seat spots 3).end - (seat spots 3).body) (drop (seat spots 3).body s)) where
      abbrev meant : Answer (List Location)
      meant = whole (iloc_form (ids_of is)) (place_of iloc at (kids s)) (content_of at (kids s) iloc)

      abbrev read : Answer (List Location)
      read = whole (iloc_form (ids_in t n)) (at + (seat spots 3).start) part

      same : read ≡ meant
      same = let i = child_is s at spots st 3 iloc iloc_seat st.five.has_iloc in rw (ids_are s at n (with_items is) x t b, i.place, pe, i.part) refl

      same-ids : read ≡ whole (iloc_form (ids_of is)) (at + (seat spots 3).start) part
      same-ids = ap (λ (ids : List ℕ). whole (iloc_form ids) (at + (seat spots 3).start) part) (ids_are s at n (with_items is) x t b)

      pub iloc_gone : (primary : ℕ) (r : Refusal) → told extents_in read ≡ Err r → from_locations at (kids s) primary is ≡ refuse r.number r.place
      iloc_gone primary r e = locations_gone at (kids s) primary is r (sym same ∙ told-refused _ _ r e)

      pub iloc-on : (k : ℕ) → told extents_in read ≡ Ok k → (d : ℕ) → d ≡ (places_at at (kids s)).idat →
          (u : List ℕ) → LocationsLeft part (at + (seat spots 3).start) n d t u → (primary : ℕ) → (ls : List Location) ×
          Before s at n (with_locations (with_items is) ls) x u × (extents_in ls ≡ k) ×
          (from_locations at (kids s) primary is ≡ from_shown at (kids s) primary is ls) × (read ≡ ok ls)
      iloc-on k e d de u left primary =
          let o = told-ok _ _ k e in
          let m : meant ≡ ok o.0 = sym same ∙ o.1 in
          let w = left.told (places_at at (kids s)) (with_items is) x o.0 (sym de) b.ready refl (sym same-ids ∙ o.1) b.is in
          (o.0, shown_begins s at n is x t u o.0 b m w, o.2, locations-on at (kids s) primary is o.0 m, o.1)

-- `iprp`
module _ (s : List ℕ) (at : ℕ) (spots : List Spot) (st : Standing s spots) where
  abbrev iprp_seat : seat spots 4 ≡ spot_of (where_of iprp 0 (kids s))
  iprp_seat = ap (λ (y : List Spot). seat y 4) st.spots_are

  pub iprp-within : at + length s ≤ 65536 → ((seat spots 4).body ≤ (seat spots 4).end) × ((seat spots 4).end ≤ length s) ×
      (at + (seat spots 4).start ≤ 65536) × (at + (seat spots 4).body ≤ 65536)
  iprp-within = child_within s at spots st 4 iprp iprp_seat st.five.has_iprp

  module _ (n : ℕ) (is : List Item) (ls : List Location) (x t : List ℕ)
      (b : Before s at n (with_locations (with_items is) ls) x t) (part : List ℕ)
      (pe : part ≡ take ((seat spots 4).end - (seat spots 4).body) (drop (seat spots 4).body s)) where
    abbrev shown_meant : Answer IprpContent
    shown_meant = iprp_content (ids_of is) (place_of iprp at (kids s)) (begin_of at (kids s) iprp) (content_of at (kids s) iprp)

    abbrev shown_read : Answer IprpContent
    shown_read = iprp_content (ids_in t n) (at + (seat spots 4).start) (at + (seat spots 4).body) part

    abbrev ids : ids_in t n ≡ ids_of is
    ids = ids_are s at n (with_locations (with_items is) ls) x t b

    abbrev child : SpotIs s at iprp (kids s) (seat spots 4)
    child = child_is s at spots st 4 iprp iprp_seat st.five.has_iprp

    shown-same : shown_read ≡ shown_meant
    shown-same = let i = child in rw (ids, i.place, i.begin, pe, i.part) refl

    shown-same-ids : shown_read ≡ iprp_content (ids_of is) (at + (seat spots 4).start) (at + (seat spots 4).body) part
    shown-same-ids = ap (λ (y : List ℕ). iprp_content y (at + (seat spots 4).start) (at + (seat spots 4).body) part) ids

    first-place : (places_at at (kids s)).properties ≡ at + (seat spots 4).body + head_of part
    unfolding places_at
    first-place = let i = child in rw (i.begin, pe, i.part) refl

    pub iprp_gone : (primary : ℕ) (r : Refusal) → told shown_of shown_read ≡ Err r → from_shown at (kids s) primary is ls ≡ refuse r.number r.place
    iprp_gone primary r e = shown_gone at (kids s) primary is ls r (sym shown-same ∙ told-refused _ _ r e)

    pub iprp-on : (h : Shown) → told shown_of shown_read ≡ Ok h → (u : List ℕ) →
        ShownLeft part (at + (seat spots 4).start) (at + (seat spots 4).body) n t u → (extents : ℕ) →
        extents_in ls ≡ extents → (primary : ℕ) → (v : IprpContent) ×
        LastBefore s at (record { items = n; properties = h.properties; associations = h.associations; targets = 0; extents = extents })
        (with_names (with_properties (with_locations (with_items is) ls) v.properties) v.associations) x u ×
        (from_shown at (kids s) primary is ls ≡ from_references at (kids s) primary is ls v)
    iprp-on h e u left extents he primary =
        let o = told-ok _ _ h e in
        let m : shown_meant ≡ ok o.0 = sym shown-same ∙ o.1 in
        let w = left.told (places_at at (kids s)) (with_locations (with_items is) ls) x o.0 first-place b.ready refl
        refl (sym shown-same-ids ∙ o.1) b.is in (
          o.0,
          last_begins s at n is ls x t u o.0 _ _ extents b m w (ap (λ (y : Shown). y.properties) o.2)
              (ap (λ (y : Shown). y.associations) o.2) he,
          shown-on at (kids s) primary is ls o.0 m,
        )
