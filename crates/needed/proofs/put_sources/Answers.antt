-- `needed::put_sources` meets its contract. Assumes nothing.
use Prim.Native.Nat.{ℕ, ◌<◌}
use native.Mathlib.Omega.{arith}
use mathlib.Core.Path.{◌≡◌, subst, ◌∙◌}
use Rattle.needed.proofs.MarkedLaws.{marked-few, Kept, kept-none, kept-take, kept_full, kept_pass}
use Rattle.needed.proofs.put_sources.Goals.{then-is_source, then-count-list, else-count-list, else-is_source}
use Rattle.needed.proofs.put_sources.Goals as goal

pub loop-k-init : goal.loop-k-init
loop-k-init c = kept-none _ _ _

pub overflow_add-count : goal.overflow_add-count
overflow_add-count c =
    let a = c.args in
    let q = c.loop-k in
    omega (arith, q.invariant.count, marked-few a.table.now a.marks.now q.k)

pub loop-k-preserved : goal.loop-k-preserved
loop-k-preserved c =
    let a = c.args in
    let q = c.loop-k in
    let t = a.table.now in
    let m = a.marks.now in
    let i = q.invariant in
    let turn : q.k < 256 = omega arith in
    elim c.if-is_source.branch [
      | then-is_source w ↦ elim w.if-count-list.branch [
        | then-count-list v ↦ kept-take t m q.k c.row_at-row.result.0 c.is_source.result c.row_at-row.ensures turn
            c.is_source.ensures a.list.now q.count q.list i c.if-is_source.count c.if-is_source.list v.id_of.result.0
            w.if-is_source.true v.if-count-list.true v.id_of.ensures (w.list-is ∙ v.list-is) w.count-is
        | else-count-list v ↦ kept_full t m q.k c.row_at-row.result.0 c.is_source.result c.row_at-row.ensures turn c.is_source.ensures a.list.now q.count
            q.list i c.if-is_source.count c.if-is_source.list w.if-is_source.true (λ h. absurd (omega (arith, v.if-count-list.false))) (w.list-is ∙ v.list-is)
            w.count-is
      ]
      | else-is_source w ↦ kept_pass t m q.k c.row_at-row.result.0 c.is_source.result c.row_at-row.ensures turn c.is_source.ensures
          a.list.now q.count q.list i c.if-is_source.count c.if-is_source.list w.if-is_source.false w.list-is w.count-is
    ]

pub returns : goal.returns
returns c =
    let a = c.args in
    let q = c.loop-k in
    let e : q.k ≡ a.n = omega arith in
    (subst (λ (k : ℕ). Kept a.table.now a.marks.now a.list.now k q.count q.list) e q.invariant).list
