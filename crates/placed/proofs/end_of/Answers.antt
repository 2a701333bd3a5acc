-- `placed::end_of` meets its contract. Assumes nothing.
use Prim.Native.Nat.{ℕ, ◌<◌}
use native.Mathlib.Omega.{arith}
use mathlib.Core.Path.{sym, ap, subst, ◌∙◌}
use lib.ListN.{get_or}
use Rattle.placed.proofs.SourceLaws.{end-file, end-idat, end-named}
use Rattle.placed.proofs.end_of.Goals as goal

pub returns-in-0 : goal.returns-in-0
returns-in-0 c =
    let a = c.args in
    λ h. end-file a.ends.total a.ends.idat a.rows.now a.sums.now a.method a.e c.in-0.is

pub returns-in-1 : goal.returns-in-1
returns-in-1 c =
    let a = c.args in
    λ h. end-idat a.ends.total a.ends.idat a.rows.now a.sums.now a.method a.e c.in-1.is

pub returns-in_default : goal.returns-in_default
returns-in_default c =
    let a = c.args in
    let over : 1 < a.method = omega arith in
    λ h. c.sum_named.ensures (subst (λ (x : ℕ). x < 256) (sym c.word.ensures) (h over)) ∙ ap (λ (x : ℕ). get_or a.sums.now x 0) c.word.ensures
    ∙ end-named a.ends.total a.ends.idat a.rows.now a.sums.now a.method a.e over
