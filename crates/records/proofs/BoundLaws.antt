-- A file that is read keeps the limits, and no two of its items have one ID. Assumes nothing.
use Prim.Native.Nat.{ℕ}
use mathlib.Core.Path.{◌≡◌}
use mathlib.Core.List.{List, []}
use Rattle.boxes.specs.Answer.{ok}
use Rattle.boxes.specs.Types.{iref}
use Rattle.boxes.specs.Children.{of_kind}
use Rattle.contents.specs.Iinf.{Item, ids_of}
use Rattle.contents.specs.Keeps.{ItemStep, Items}
use Rattle.contents.specs.File.{File, read_file}
use Rattle.contents.proofs.ReadLaws.{read-sound}
use Rattle.contents.proofs.SumLaws.{ids_more}
use Rattle.contents.proofs.LimitLaws.{through-keeps, infe-new, items-few, extents-few, associations-few, targets-few}
use Rattle.records.specs.inner.Raw.{Bounded}
use Rattle.records.specs.inner.Rows.{Distinct}
use Rattle.records.proofs.MemberLaws.{distinct_more}

-- Items
pub items-distinct : (s : List ℕ) (is : List Item) → Items s is → Distinct (ids_of is)
items-distinct s is h =
    through-keeps (λ (l : List Item). Distinct (ids_of l)) ItemStep
    (λ before b after d r. rw (r.kept, ids_more before r.item)
    (distinct_more (ids_of before) r.item.id d (infe-new before _ r.item r.spells.spells)))
    [] h.then.boxes is tt h.then.through

-- read_file
pub read_bounds : (total : ℕ) (head : List ℕ) (f : File) → read_file total head ≡ ok f → Bounded f × Distinct (ids_of f.items)
read_bounds total head f e =
    let k = (read-sound total head f e).keeps.then in
    let s = k.spelled in (
      record {
        few-items = items-few _ _ s.in_iinf;
        few-extents = extents-few _ _ _ s.in_iloc;
        few-properties = s.in_iprp.properties.few;
        few-associations = associations-few _ _ _ _ s.in_iprp.associations;
        few-targets = targets-few (ids_of f.items) (of_kind iref k.boxes) _ s.in_iref;
      },
      items-distinct _ _ s.in_iinf,
    )
