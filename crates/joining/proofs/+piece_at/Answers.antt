-- `joining::piece_at`, which calls itself, meets its contract. The measure: the links that are left. Assumes nothing.
use Prim.Native.Nat.{◌-◌}
use native.Mathlib.Omega.{arith}
use mathlib.Core.Path.{sym, ◌∙◌}
use borrow.Author.Tests.{eq-eqb, ne_eqb}
use Rattle.linking.specs.inner.Links.{first_extent, extents}
use Rattle.joining.proofs.PlaceLaws.{holder_at}
use Rattle.joining.proofs.PieceLaws.{piece_none, piece_filed, piece_made, piece_last}
use Rattle.joining.proofs.+piece_at.Goals as goal

pub returns-then-held_word-ne2 : goal.returns-then-held_word-ne2
returns-then-held_word-ne2 t c =
    let a = c.args in
    let g = c.in-Some.field-0 in
    let s = c.size_at in
    let l = c.min-here in
    record {
      by_index = λ m w rl ch some long. piece_filed a.table.now a.rows.now m a.row.0 w rl a.d a.p a.n g.e
          g.rest s.result c.offset_at.result l.result c.saturating_add-from.result
          (holder_at a.table.now (first_extent a.table.now a.row.0) (extents a.table.now a.row.0)
          a.p g (c.in-Some.ensures.value (omega (arith, rl, w.links.few))
          (w.links.room a.row.0 rl))) s.ensures c.offset_at.ensures l.ensures
          c.saturating_add-from.ensures ch some (ne_eqb _ 2 (λ e. c.if-held_word-ne2.true
          (c.held_word.ensures (omega (arith, rl, w.links.few)) ∙ e)));
      size_le_n = omega (arith, l.ensures);
    }

pub returns-then-d-eq0 : goal.returns-then-d-eq0
returns-then-d-eq0 t c =
    let a = c.args in
    record {
      by_index = λ m w rl ch some long. piece_last a.table.now a.rows.now a.row.0 a.d ch c.if-d-eq0.true
          (eq-eqb _ 2 (sym (c.held_word.ensures (omega (arith, rl, w.links.few))) ∙ c.if-held_word-ne2.false));
      size_le_n = omega arith;
    }

pub returns-in-None : goal.returns-in-None
returns-in-None t c =
    let a = c.args in
    record {
      by_index = λ m w rl ch some long. piece_none a.table.now a.row.0 a.p a.n
          (c.in-None.ensures.value (omega (arith, rl, w.links.few)) (w.links.room a.row.0 rl)) some long;
      size_le_n = omega arith;
    }

pub returns-else-d-eq0 : goal.returns-else-d-eq0
returns-else-d-eq0 t c =
    let a = c.args in
    let g = c.in-Some.field-0 in
    let s = c.size_at in
    let l = c.min-here in
    let q = c.piece_at in
    record {
      by_index = λ m w rl ch some long. piece_made a.table.now a.rows.now m a.row.0 w rl a.d a.p a.n g.e
          g.rest s.result c.offset_at.result l.result c.saturating_add-from.result
          (holder_at a.table.now (first_extent a.table.now a.row.0) (extents a.table.now a.row.0)
          a.p g (c.in-Some.ensures.value (omega (arith, rl, w.links.few))
          (w.links.room a.row.0 rl))) s.ensures c.offset_at.ensures l.ensures
          c.saturating_add-from.ensures ch some (a.d - 1) q.result (omega (arith, c.if-d-eq0.false))
          (eq-eqb _ 2 (sym (c.held_word.ensures (omega (arith, rl, w.links.few))) ∙ c.if-held_word-ne2.false))
          (q.ensures.by_index m w);
      size_le_n = omega (arith, l.ensures, q.ensures.size_le_n);
    }
