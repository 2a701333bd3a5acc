-- What later stages build on: items that are read have one ID each, and are at most 256. Assumes nothing.
use Prim.Native.Nat.{ℕ}
use native.Mathlib.Omega.{arith}
use mathlib.Core.Path.{◌≡◌, refl}
use mathlib.Core.List.{List}
use lib.ListN.{length}
use Rattle.boxes.specs.Answer.{ok}
use Rattle.contents.specs.Iinf.{Item, items}
use Rattle.contents.specs.Iloc.{extents_in}
use Rattle.contents.specs.Ipma.{associations_in}
use Rattle.contents.specs.Iref.{targets_in}
use Rattle.contents.proofs.ItemLaws.{items-sound}
use Rattle.records.specs.inner.Stage.{Ready, with_items}
use Rattle.contents.proofs.LimitLaws.{items-few}
use Rattle.records.proofs.BoundLaws.{items-distinct}

-- items
pub items-ready : (place base : ℕ) (s : List ℕ) (is : List Item) → items place base s ≡ ok is → Ready (with_items is) (length is)
unfolding extents_in associations_in targets_in
items-ready place base s is e =
    let l = items-sound place base s is e in
    record {
      count = refl;
      distinct = items-distinct s is l;
      bounded = record {
        few-items = items-few s is l;
        few-extents = omega arith;
        few-properties = omega arith;
        few-associations = omega arith;
        few-targets = omega arith;
      };
    }
