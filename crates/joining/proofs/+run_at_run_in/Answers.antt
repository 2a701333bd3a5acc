-- `joining::run_at` and `joining::run_in`, which call each other, meet their contracts. The measure: two for each link that is left,
-- and one more at an item. Assumes nothing.
use Prim.Native.Nat.{◌+◌, ◌-◌}
use native.Mathlib.Omega.{arith}
use mathlib.Core.Path.{sym, ◌∙◌}
use lib.Dec.{ltb}
use borrow.Author.Tests.{eq-eqb, ne_eqb}
use Rattle.linking.specs.inner.Links.{first_extent, extents}
use Rattle.joining.proofs.LeadingLaws.{leading_low}
use Rattle.joining.proofs.PlaceLaws.{holder_at}
use Rattle.joining.proofs.PieceLaws.{piece_last}
use Rattle.joining.proofs.RunLaws.{joined-low, run_nowhere, run_joined, run_next, run_filed, run_made}
use Rattle.joining.proofs.+run_at_run_in.Goals as goal

pub run_at-returns-in-None : goal.run_at-returns-in-None
run_at-returns-in-None t c =
    let a = c.args in
    record {
      by_index = λ m k w rl ch known low. run_nowhere a.table.now a.rows.now a.end 8 a.row.0 a.p
          (omega arith) (c.in-None.ensures.value (omega (arith, rl, w.links.few)) (w.links.room a.row.0 rl));
      upper_bound = omega arith;
    }

pub run_at-returns-in-Some : goal.run_at-returns-in-Some
run_at-returns-in-Some t c =
    let a = c.args in
    let g = c.in-Some.field-0 in
    let s = c.size_at in
    let i = c.run_in-here in
    let b = c.run_behind in
    let n = c.joined_run in
    record {
      by_index = λ m k w rl ch known low. let few = w.links.few in let x =
          holder_at a.table.now (first_extent a.table.now a.row.0) (extents a.table.now a.row.0) a.p
          g (c.in-Some.ensures.value (omega (arith, rl)) (w.links.room a.row.0 rl)) in
          let inside = x.inside in n.ensures ∙ run_joined a.table.now a.rows.now a.end a.row.0 x.j
          g.e g.rest a.p i.result (s.result - g.rest) b.result (w.ends a.row.0 rl)
          x.below x.place (omega arith) x.sum (i.ensures.by_index m k x.j w rl ch known (omega (arith, low))
          x.below x.place (omega arith)) (omega (arith, s.ensures))
          (run_next a.table.now a.rows.now a.end a.row.0 x.j g.e _ b.result a.runs.now
          (omega (arith, c.ranges)) x.below x.place
          (omega (arith, c.held_word.ensures (omega (arith, rl)), c.held_word-in-Some.ensures (omega (arith, rl))))
          (known a.row.0 rl low) b.ensures.value);
      upper_bound = omega (arith, n.ensures, joined-low i.result (s.result - g.rest) b.result 16403 i.ensures.upper_bound);
    }

pub run_in-returns-then-held_word-ne2 : goal.run_in-returns-then-held_word-ne2
run_in-returns-then-held_word-ne2 t c =
    let a = c.args in
    let o = c.offset_at in
    let f = c.saturating_add-from in
    let x = c.filed_run in
    record {
      by_index = λ m k j w rl ch known low jl z inside. run_filed a.table.now a.rows.now a.end m w a.row.0 j a.e
          a.rest f.result o.result x.result rl jl z inside o.ensures f.ensures
          (ne_eqb _ 2 (λ e. c.if-held_word-ne2.true (c.held_word.ensures (omega (arith, rl, w.links.few)) ∙ e)))
          x.ensures;
      upper_bound = omega (arith, x.ensures, leading_low (λ i. ltb (f.result + i) a.end) 16403);
    }

pub run_in-returns-then-d-eq0 : goal.run_in-returns-then-d-eq0
run_in-returns-then-d-eq0 t c =
    let a = c.args in
    record {
      by_index = λ m k j w rl ch known low jl z inside. piece_last a.table.now a.rows.now a.row.0 a.d ch
          c.if-d-eq0.true (eq-eqb _ 2 (sym (c.held_word.ensures (omega (arith, rl, w.links.few))) ∙
          c.if-held_word-ne2.false));
      upper_bound = omega arith;
    }

pub run_in-returns : goal.run_in-returns
run_in-returns t c =
    let a = c.args in
    let o = c.offset_at in
    let f = c.saturating_add-from in
    let x = c.run_at in
    record {
      by_index = λ m k j w rl ch known low jl z inside. run_made a.table.now a.rows.now a.end m w a.row.0 j a.e
          a.rest f.result o.result x.result rl jl z inside o.ensures f.ensures a.d (a.d - 1) k
          (omega (arith, c.if-d-eq0.false)) ch low (eq-eqb _ 2
          (sym (c.held_word.ensures (omega (arith, rl, w.links.few))) ∙ c.if-held_word-ne2.false))
          (λ nl cl ll. x.ensures.by_index m k w nl cl known ll);
      upper_bound = x.ensures.upper_bound;
    }
