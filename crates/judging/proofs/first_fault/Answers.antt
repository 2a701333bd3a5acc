-- `judging::first_fault` meets its contract. Assumes nothing.
use Prim.Native.Nat.{◌<◌}
use native.Mathlib.Omega.{arith}
use mathlib.Core.Path.{refl, ◌∙◌}
use lib.ListN.{length}
use Rattle.judging.proofs.OrderLaws.{order_end, order_on, order_off, ready-view}
use Rattle.judging.proofs.first_fault.Goals as goal

-- no table that is a file's is shorter, or has more items
pub returns-then-table-lt-WORDS : goal.returns-then-table-lt-WORDS
returns-then-table-lt-WORDS c =
    λ f w.
    let a = c.args in
    let v = ready-view a.table.now a.rows.now a.runs.now a.head.now a.ends.total a.ends.idat f a.rule w in
    absurd (omega (arith, v.enough, c.if-table-lt-WORDS.true))

pub returns-then-n-gt256 : goal.returns-then-n-gt256
returns-then-n-gt256 c =
    λ f w.
    let a = c.args in
    let v = ready-view a.table.now a.rows.now a.runs.now a.head.now a.ends.total a.ends.idat f a.rule w in
    absurd (omega (arith, v.items, v.bounded.few-items, c.item_count-n.ensures, c.if-n-gt256.true))

pub loop-k-init : goal.loop-k-init
loop-k-init c = λ f w. refl

pub returns-in-Some : goal.returns-in-Some
returns-in-Some c =
    λ f w.
    let a = c.args in
    let v = ready-view a.table.now a.rows.now a.runs.now a.head.now a.ends.total a.ends.idat f a.rule w in
    let q = c.loop-k in
    let h : q.k < length f.items = omega (arith, v.items, c.item_count-n.ensures) in
    let l : c.row_at-row.result.0 < length f.items = omega arith in
    order_off _ _ _ f _ _ h (q.invariant f w) c.row_at-row.ensures _ (c.in-Some.ensures f w l) _
    (c.id_of.ensures (omega (arith, v.bounded.few-items)) ∙ v.id _ l)

pub loop-k-preserved : goal.loop-k-preserved
loop-k-preserved c =
    λ f w.
    let a = c.args in
    let v = ready-view a.table.now a.rows.now a.runs.now a.head.now a.ends.total a.ends.idat f a.rule w in
    let q = c.loop-k in
    let h : q.k < length f.items = omega (arith, v.items, c.item_count-n.ensures) in
    let l : c.row_at-row.result.0 < length f.items = omega arith in
    order_on _ _ _ f _ _ h (q.invariant f w) c.row_at-row.ensures (c.in_default.ensures f w l)

pub returns : goal.returns
returns c =
    λ f w.
    let a = c.args in
    let v = ready-view a.table.now a.rows.now a.runs.now a.head.now a.ends.total a.ends.idat f a.rule w in
    order_end _ _ _ f c.loop-k.k (omega (arith, v.items, c.item_count-n.ensures)) (c.loop-k.invariant f w)
