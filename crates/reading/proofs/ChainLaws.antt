-- From each box on to the next. Assumes nothing.
use Prim.Native.Nat.{ℕ, ◌+◌, ◌*◌, ◌<◌}
use native.Mathlib.Omega.{arith}
use mathlib.Core.Path.{◌≡◌, refl, sym, ap, ◌∙◌, subst}
use mathlib.Core.List.{List, [], ◌++◌}
use lib.ListN.{length, get_or}
use Rattle.fields.specs.Choice.{pick}
use Rattle.boxes.specs.Answer.{Answer, ok, refuse, ◌>>◌}
use Rattle.boxes.specs.Types.{hdlr, pitm, iinf, iloc, iprp}
use Rattle.boxes.specs.Children.{place_of}
use Rattle.boxes.specs.declared.Refusal.{Refusal}
use Rattle.boxes.proofs.AnswerLaws.{ok_bind, refuse_bind}
use Rattle.forms.specs.Form.{whole, front}
use Rattle.contents.specs.Hdlr.{hdlr_form}
use Rattle.contents.specs.Pitm.{pitm_form}
use Rattle.contents.specs.Iinf.{Item, ids_of, items}
use Rattle.contents.specs.Iloc.{Location, extents_in, iloc_form}
use Rattle.contents.specs.Ipma.{associations_in}
use Rattle.contents.specs.Iprp.{IprpContent, iprp_content}
use Rattle.contents.specs.File.{File}
use Rattle.rules.specs.Joined.{referred_from}
use Rattle.rules.specs.Places.{places_at}
use Rattle.records.specs.inner.Raw.{raw_of}
use Rattle.records.specs.inner.Rows.{ids_in, Distinct}
use Rattle.records.specs.inner.Stage.{with_items, with_locations, with_properties, with_names}
use Rattle.records.proofs.RawLaws.{raw-located, raw-derived}
use Rattle.reading.specs.inner.Parts.{kids, Before, LastBefore, content_of, begin_of, from_handler, from_items, from_locations, from_shown, from_references}
use Rattle.reading.proofs.BoundLaws.{iloc-few, shown-few}
use Rattle.reading.proofs.StageLaws.{ids_are}

-- Before: what a stage asks of the table
module _ (s : List ℕ) (at n : ℕ) (f : File) (x t : List ℕ) (b : Before s at n f x t) where
  pub ids-distinct : Distinct (ids_in t n)
  ids-distinct = subst Distinct (sym (ids_are s at n f x t b)) b.ready.distinct

  pub none-located : f.locations ≡ [] → (k : ℕ) → k < n → get_or t (16 + 16 * k + 11) 0 ≡ 0
  unfolding pick
  none-located e k h =
      let c = b.ready.count in
      ap (λ (u : List ℕ). get_or u (16 + 16 * k + 11) 0) b.is
      ∙ raw-located [] (places_at at (kids s)) x (omega arith) f k (omega arith)
      ∙ rw e refl

  pub none-derived : f.derivations ≡ [] → (k : ℕ) → k < n → get_or t (16 + 16 * k + 6) 0 ≡ 0
  unfolding referred_from
  none-derived e k h =
      let c = b.ready.count in
      ap (λ (u : List ℕ). get_or u (16 + 16 * k + 6) 0) b.is
      ∙ raw-derived [] (places_at at (kids s)) x (omega arith) f k (omega arith)
      ∙ rw e refl

-- from_shown
module _ (at : ℕ) (bs : List (List ℕ)) (primary : ℕ) (is : List Item) (ls : List Location) where
  abbrev said : Answer IprpContent
  said = iprp_content (ids_of is) (place_of iprp at bs) (begin_of at bs iprp) (content_of at bs iprp)

  pub shown_gone : (r : Refusal) → said ≡ refuse r.number r.place → from_shown at bs primary is ls ≡ refuse r.number r.place
  unfolding from_shown
  shown_gone r e = refuse_bind _ _ _ e _

  pub shown-on : (v : IprpContent) → said ≡ ok v → from_shown at bs primary is ls ≡ from_references at bs primary is ls v
  unfolding from_shown
  shown-on v e = ok_bind _ _ v e

-- the last stage begins
pub last_begins : (s : List ℕ) (at n : ℕ) (is : List Item) (ls : List Location) (x t u : List ℕ) (v : IprpContent)
    (p k e : ℕ) → Before s at n (with_locations (with_items is) ls) x t →
    iprp_content (ids_of is) (place_of iprp at (kids s)) (begin_of at (kids s) iprp) (content_of at (kids s) iprp) ≡ ok v →
    u ≡ raw_of [] (places_at at (kids s))
    (with_names (with_properties (with_locations (with_items is) ls) v.properties) v.associations) ++ x →
    length v.properties ≡ p → associations_in v.associations ≡ k → extents_in ls ≡ e →
    LastBefore s at (record { items = n; properties = p; associations = k; targets = 0; extents = e })
    (with_names (with_properties (with_locations (with_items is) ls) v.properties) v.associations) x u
last_begins s at n is ls x t u v p k e b q w hp hk he =
    let few = shown-few _ _ _ _ v q in
    let bd = b.ready.bounded in
    record {
      before =
          record {
            is = w;
            ready =
                record {
                  count = b.ready.count;
                  distinct = b.ready.distinct;
                  bounded = record {
                    few-items = bd.few-items;
                    few-extents = bd.few-extents;
                    few-properties = few.0;
                    few-associations = few.1;
                    few-targets = bd.few-targets;
                  };
                };
          };
      none = refl;
      no_links = refl;
      properties = sym hp;
      associations = sym hk;
      targets = refl;
      extents = sym he;
    }

-- from_locations
module _ (at : ℕ) (bs : List (List ℕ)) (primary : ℕ) (is : List Item) where
  abbrev located : Answer (List Location)
  located = whole (iloc_form (ids_of is)) (place_of iloc at bs) (content_of at bs iloc)

  pub locations_gone : (r : Refusal) → located ≡ refuse r.number r.place → from_locations at bs primary is ≡ refuse r.number r.place
  unfolding from_locations
  locations_gone r e = refuse_bind _ _ _ e _

  pub locations-on : (ls : List Location) → located ≡ ok ls → from_locations at bs primary is ≡ from_shown at bs primary is ls
  unfolding from_locations
  locations-on ls e = ok_bind _ _ ls e

-- the stage of `iprp` begins
pub shown_begins : (s : List ℕ) (at n : ℕ) (is : List Item) (x t u : List ℕ) (ls : List Location) →
    Before s at n (with_items is) x t → whole (iloc_form (ids_of is)) (place_of iloc at (kids s))
    (content_of at (kids s) iloc) ≡ ok ls → u ≡ raw_of [] (places_at at (kids s)) (with_locations (with_items is) ls) ++ x →
    Before s at n (with_locations (with_items is) ls) x u
shown_begins s at n is x t u ls b q w =
    let bd = b.ready.bounded in
    record {
      is = w;
      ready =
          record {
            count = b.ready.count;
            distinct = b.ready.distinct;
            bounded = record {
              few-items = bd.few-items;
              few-extents = iloc-few _ _ _ ls q;
              few-properties =
                  bd.few-properties;
              few-associations = bd.few-associations;
              few-targets = bd.few-targets;
            };
          };
    }

-- from_items, from_handler
module _ (at : ℕ) (bs : List (List ℕ)) where
  pub items_gone : (primary : ℕ) (r : Refusal) → items (place_of iinf at bs) (begin_of at bs iinf) (content_of at bs iinf)
      ≡ refuse r.number r.place → from_items at bs primary ≡ refuse r.number r.place
  unfolding from_items
  items_gone primary r e = refuse_bind _ _ _ e _

  pub items-on : (primary : ℕ) (is : List Item) → items (place_of iinf at bs) (begin_of at bs iinf) (content_of at bs iinf)
      ≡ ok is → from_items at bs primary ≡ from_locations at bs primary is
  unfolding from_items
  items-on primary is e = ok_bind _ _ is e

  pub handler_gone : (r : Refusal) → front hdlr_form (place_of hdlr at bs) (content_of at bs hdlr) ≡ refuse r.number
      r.place → from_handler at bs ≡ refuse r.number r.place
  unfolding from_handler ◌>>◌
  handler_gone r e = rw e

  pub primary_gone : front hdlr_form (place_of hdlr at bs) (content_of at bs hdlr) ≡ ok tt → (r : Refusal) →
      whole pitm_form (place_of pitm at bs) (content_of at bs pitm) ≡ refuse r.number r.place →
      from_handler at bs ≡ refuse r.number r.place
  unfolding from_handler ◌>>◌
  primary_gone h r e = rw h (refuse_bind _ _ _ e _)

  pub primary-on : front hdlr_form (place_of hdlr at bs) (content_of at bs hdlr) ≡ ok tt → (id : ℕ) →
      whole pitm_form (place_of pitm at bs) (content_of at bs pitm) ≡ ok id → from_handler at bs ≡ from_items at bs id
  unfolding from_handler ◌>>◌
  primary-on h id e = rw h (ok_bind _ _ id e)
