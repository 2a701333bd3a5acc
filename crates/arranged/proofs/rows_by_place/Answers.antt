-- `arranged::rows_by_place` meets its contract. Assumes nothing.
use mathlib.Core.Path.{◌≡◌, refl}
use lib.ListN.{length-set}
use Rattle.arranged.proofs.StepLaws.{by-place-none, by-place-put}
use native.Mathlib.Omega.{arith}
use Rattle.arranged.proofs.rows_by_place.Goals as goal

pub loop-k-init : goal.loop-k-init
loop-k-init c = (c.word-n.ensures, omega arith, refl, λ a. by-place-none 256 _)

pub loop-k-preserved : goal.loop-k-preserved
loop-k-preserved c =
    let m = c.loop-k in (
      m.invariant.0,
      m.invariant.1,
      simp length-set m.invariant.2,
      by-place-put m.k c.word-n.result c.word.result _ m.rows m.invariant.2
          (omega arith) c.word.ensures m.invariant.3,
    )

pub returns : goal.returns
returns c =
    λ l a.
    let m = c.loop-k in
    let e : m.k ≡ c.word-n.result = omega arith in
    rw (← m.invariant.0, ← e) (m.invariant.3 (rw m.invariant.0 a))
