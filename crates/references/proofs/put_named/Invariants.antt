-- `references::put_named` meets its contract. Assumes nothing.
use Prim.Native.Nat.{◌+◌, ◌*◌, ◌≤◌}
use Rattle.fields.specs.Field.{be_at}
use Rattle.references.specs.inner.Steps.{NamedFrom}
use Rattle.references.proofs.put_named.Given as goal

abbrev pub invariant-loop-j : goal.invariant-loop-j
invariant-loop-j l =
    (l.hope ≤ 256) × NamedFrom l.table l.n l.k (λ i. be_at l.s (l.w + 2 + l.w * i) l.w)
    l.first l.j l.initial.rows l.rows
