-- `references::put_references` meets its contract. Assumes nothing.
use mathlib.Core.Path.{refl, sym, ◌∙◌}
use Rattle.std.proofs.lemmas.Result.{err_from_is_err_and}
use Rattle.references.proofs.ChildrenLaws.{begin, at-bad, at_spare, at-end, further, refused, grown}
use Rattle.references.proofs.RowedLaws.{no_targets, rowing_none, rowing_end}
use native.Mathlib.Omega.{arith}
use Rattle.references.proofs.put_references.Goals as goal

pub loop-kind-init : goal.loop-kind-init
loop-kind-init c =
    (begin _ _ _ _ _ _ _ c.requires.in_bounds.4 c.requires.distinct.1 c.requires.distinct.2, rowing_none _ _ _)

pub slice_bounds-put_reference-count : goal.slice_bounds-put_reference-count
slice_bounds-put_reference-count c =
    let w = further _ _ _ _ _ _ _ _ _ _ _ c.loop-kind.invariant.0 _ _ _ (sym c.child_at-c.ensures ∙ c.in-Whole.is) in
    omega arith

pub slice_bounds-put_reference-start : goal.slice_bounds-put_reference-start
slice_bounds-put_reference-start c =
    let w = further _ _ _ _ _ _ _ _ _ _ _ c.loop-kind.invariant.0 _ _ _ (sym c.child_at-c.ensures ∙ c.in-Whole.is) in
    omega arith

pub slice_bounds-put_reference-end : goal.slice_bounds-put_reference-end
slice_bounds-put_reference-end c =
    let w = further _ _ _ _ _ _ _ _ _ _ _ c.loop-kind.invariant.0 _ _ _ (sym c.child_at-c.ensures ∙ c.in-Whole.is) in
    omega arith

pub returns-in_err-used-in-Whole : goal.returns-in_err-used-in-Whole
returns-in_err-used-in-Whole c =
    let l = c.loop-kind in
    let r = err_from_is_err_and c.from_residual.result c.from_residual.ensures.1 in
    let x = refused _ _ _ _ _ _ _ _ _ _ _ l.invariant.0 _ _ _ (sym c.child_at-c.ensures ∙ c.in-Whole.is) _ _
    c.put_reference.ensures.kept _ (c.in_err-used-in-Whole.ensures.by_index _ l.invariant.0.before
    c.purpose_of.ensures l.invariant.0.count l.invariant.0.marked l.invariant.0.links) _ refl
    in
    record { value = rw (r.1, r.2) x.0; children_left = x.1; by_index = λ m e. no_targets _ m (sym r.1 ∙ e) }

pub loop-kind-smaller : goal.loop-kind-smaller
loop-kind-smaller c =
    let w = further _ _ _ _ _ _ _ _ _ _ _ c.loop-kind.invariant.0 _ _ _ (sym c.child_at-c.ensures ∙ c.in-Whole.is) in
    omega arith

pub loop-kind-preserved : goal.loop-kind-preserved
loop-kind-preserved c =
    let l = c.loop-kind in
    let p = c.requires in (
      grown _ _ _ _ _ _ _ _ _ _ _ l.invariant.0 _ _ _ (sym c.child_at-c.ensures ∙ c.in-Whole.is) _ _
          c.put_reference.ensures.kept _ (c.in_ok-used-in-Whole.ensures.by_index _ l.invariant.0.before c.purpose_of.ensures l.invariant.0.count
          l.invariant.0.marked l.invariant.0.links) p.in_bounds.2 p.in_bounds.0 (omega (arith, l.invariant.1.long, p.in_bounds.1)) p.distinct.0
          _ refl,
      record {
        long = c.put_reference.auto.rows ∙ l.invariant.1.long;
        rowed =
            c.in_ok-used-in-Whole.ensures.by_index_2 _ refl l.invariant.1.rowed;
      },
    )

pub returns-in-Bad : goal.returns-in-Bad
returns-in-Bad c =
    let x = at-bad _ _ _ _ _ _ _ _ _ _ _ c.loop-kind.invariant.0 (sym c.child_at-c.ensures ∙ c.in-Bad.is) in
    record { value = x.0; children_left = x.1; by_index = λ m e. no_targets _ m e }

pub returns-in-Spare : goal.returns-in-Spare
returns-in-Spare c =
    let x = at_spare _ _ _ _ _ _ _ _ _ _ _ c.loop-kind.invariant.0 (sym c.child_at-c.ensures ∙ c.in-Spare.is) in
    record { value = x.0; children_left = x.1; by_index = λ m e. no_targets _ m e }

pub returns-in-End : goal.returns-in-End
returns-in-End c =
    let x = at-end _ _ _ _ _ _ _ _ _ _ _ c.loop-kind.invariant.0 (sym c.child_at-c.ensures ∙ c.in-End.is) in
    record { value = x.0; children_left = x.1; by_index = rowing_end _ _ _ _ _ c.loop-kind.invariant.1 }
