-- `joining::is_held` meets its contract. Assumes nothing.
use Prim.Native.Nat.{ℕ, ◌+◌}
use native.Mathlib.Omega.{arith}
use mathlib.Core.Path.{sym, ◌∙◌}
use lib.Dec.{leb}
use borrow.Author.Tests.{eq-eqb, ne_eqb}
use Rattle.linking.specs.inner.Links.{offset_at, size_at}
use Rattle.linking.proofs.ByteLaws.{every-read}
use Rattle.joining.proofs.HeldLaws.{held-made, held-filed}
use Rattle.joining.proofs.is_held.Goals as goal

pub returns-then-past-gt512 : goal.returns-then-past-gt512
returns-then-past-gt512 c =
    let a = c.args in
    λ m v long w rl. absurd (omega (
      arith,
      c.if-past-gt512.true,
      w.links.room a.row.0 rl,
      c.held_word-first.ensures (omega (arith, rl, w.links.few)),
      c.held_word.ensures (omega (arith, rl, w.links.few)),
    ))

pub returns-then-held_word-eq2 : goal.returns-then-held_word-eq2
returns-then-held_word-eq2 c =
    let a = c.args in
    λ m v long w rl se low some known.
    let h = w.links.few in
    held-made a.table.now v a.end m a.row.0 w rl c.held_word-first.result (c.held_word-first.result + c.held_word.result) a.size c.run_behind.result
    a.runs.now (c.held_word-first.ensures (omega (arith, rl))) (omega
    (arith, c.held_word-first.ensures (omega (arith, rl)), c.held_word.ensures (omega (arith, rl)))) se low
    (known (eq-eqb _ 2 (sym (c.held_word-2.ensures (omega (arith, rl))) ∙ c.if-held_word-eq2.true))) c.run_behind.ensures.value

pub returns : goal.returns
returns c =
    let a = c.args in
    let t = a.table.now in
    λ m v long w rl se low some known.
    let h = w.links.few in
    c.all_filed.ensures ∙ every-read t v a.row.0 c.held_word-first.result c.held_word.result (c.held_word-first.ensures (omega (arith, rl)))
    (c.held_word.ensures (omega (arith, rl))) (λ (e : ℕ). leb (offset_at t e + size_at t e) a.end) ∙
    held-filed t v a.end m a.row.0 w rl a.size
    (ne_eqb _ 2 (λ e. c.if-held_word-eq2.false (c.held_word-2.ensures (omega (arith, rl)) ∙ e))) se some
