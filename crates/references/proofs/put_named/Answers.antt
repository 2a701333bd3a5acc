-- `references::put_named` meets its contract. Assumes nothing.
use Prim.Native.Nat.{ℕ, ◌+◌, ◌*◌}
use mathlib.Core.Path.{◌≡◌, subst}
use Rattle.fields.specs.Field.{be_at}
use Rattle.references.specs.inner.Steps.{NamedFrom}
use Rattle.references.proofs.NameLaws.{named_none, named_next}
use native.Mathlib.Omega.{arith}
use Rattle.references.proofs.put_named.Goals as goal

pub loop-j-init : goal.loop-j-init
loop-j-init c = (omega arith, named_none _ _ _ _ _ _)

pub loop-j-preserved : goal.loop-j-preserved
loop-j-preserved c =
    let p = c.requires.in_bounds_2 in
    let l = c.loop-j in (
      c.picked_row-x.ensures.0,
      named_next _ _ _ _ _ _ _ _ l.invariant.1 (omega (arith, p.0, p.1, l.auto.rows)) _ c.picked_row-x.ensures.1,
    )

pub returns : goal.returns
returns c =
    let l = c.loop-j in
    let a = c.args in
    let j : l.j ≡ a.count = omega (arith, c.loop-j-test.false) in
    subst (λ (i : ℕ). NamedFrom a.table.now a.n a.k (λ m. be_at a.s.now (a.w + 2 + a.w * m) a.w)
    a.first i a.rows.now l.rows) j l.invariant.1
