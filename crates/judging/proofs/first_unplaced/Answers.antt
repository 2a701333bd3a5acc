-- `judging::first_unplaced` meets its contract. The loop's invariant: what is asked of the rows from here on decides. Assumes nothing.
use Prim.Native.Nat.{◌<◌}
use native.Mathlib.Omega.{arith}
use mathlib.Core.Path.{refl, ◌∙◌}
use lib.ListN.{length}
use Rattle.judging.proofs.OrderLaws.{places_end, places_on, places_off}
use Rattle.judging.proofs.LinkedLaws.{sources_are, links_are}
use Rattle.judging.proofs.first_unplaced.Goals as goal

pub loop-k-init : goal.loop-k-init
loop-k-init c = λ head f w n l e. refl

pub linked_fault-requires : goal.linked_fault-requires
linked_fault-requires c = c.requires.1

pub returns-in-Some : goal.returns-in-Some
returns-in-Some c =
    let a = c.args in
    let q = c.loop-k in
    λ head f w n l e.
    let v = w.view in
    let h : q.k < length f.items = omega arith in
    places_off a.ends.total head f q.k h (q.invariant head f w n l e) _
    (c.in-Some.ensures head _ f (sources_are a.n e w n c.sums_of-sums.result c.sums_of-sums.ensures)
    (links_are a.table.now a.rows.now a.links.now a.n _ e l) w.judging h) _
    (c.id_of.ensures (omega (arith, v.bounded.few-items)) ∙ v.id q.k h)

pub loop-k-preserved : goal.loop-k-preserved
loop-k-preserved c =
    let a = c.args in
    let q = c.loop-k in
    λ head f w n l e.
    let h : q.k < length f.items = omega arith in
    places_on a.ends.total head f q.k h (q.invariant head f w n l e)
    (c.in_default.ensures head _ f (sources_are a.n e w n c.sums_of-sums.result c.sums_of-sums.ensures)
    (links_are a.table.now a.rows.now a.links.now a.n _ e l) w.judging h)

pub returns : goal.returns
returns c =
    let a = c.args in
    let q = c.loop-k in
    λ head f w n l e. places_end a.ends.total head f q.k (omega arith) (q.invariant head f w n l e)
