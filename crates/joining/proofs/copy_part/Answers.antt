-- `joining::copy_part` meets its contract. Assumes nothing.
use Prim.Native.Nat.{ℕ}
use native.Mathlib.Omega.{arith}
use mathlib.Core.Path.{◌≡◌, refl, ap, ◌∙◌}
use lib.ListN.{length-set, take, drop}
use lib.Seq.{sets}
use Rattle.joining.proofs.CopyLaws.{copy_more}
use Rattle.joining.proofs.copy_part.Goals as goal

pub loop-i-init : goal.loop-i-init
loop-i-init c = (refl, refl)

pub loop-i-preserved : goal.loop-i-preserved
loop-i-preserved c =
    let a = c.args in
    let p = c.requires in
    let q = c.loop-i in (
      length-set q.out _ _ ∙ q.invariant.0,
      copy_more q.out a.out.now a.head.now a.at a.from q.i q.invariant.1 (omega (arith, p.0)),
    )

pub returns : goal.returns
returns c =
    let a = c.args in
    let q = c.loop-i in
    let e : q.i ≡ a.n = omega arith in
    q.invariant.1 ∙ ap (λ (i : ℕ). sets a.out.now a.at (take i (drop a.from a.head.now))) e
