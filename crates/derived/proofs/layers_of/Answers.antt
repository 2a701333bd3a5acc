-- `derived::layers_of` meets its contract. A table that is a file's has at most 2048 targets. Assumes nothing.
use native.Mathlib.Omega.{arith}
use Rattle.rules.specs.Joined.{item_at}
use Rattle.derived.proofs.InputLaws.{inputs-few}
use Rattle.derived.proofs.RecipeLaws.{layers_none, layers_wrong, layers_is}
use Rattle.derived.proofs.layers_of.Goals as goal
use Rattle.derived.proofs.layers_of.Goals.{then-n-eq0-via-then-n-eq0, then-n-eq0-via-else-n-eq0+then-n-gt2048}

pub returns-then-n-eq0 : goal.returns-then-n-eq0
returns-then-n-eq0 c =
    λ total f w h known. elim c.then-n-eq0.branch [
      | then-n-eq0-via-then-n-eq0 x ↦ layers_none total _ f (item_at f c.args.row.0) _
          (c.input_count-n.ensures _ _ f w.view h) x.if-n-eq0.true
      | then-n-eq0-via-else-n-eq0+then-n-gt2048 x ↦ absurd (omega (
        arith,
        inputs-few w.view c.args.row.0 h,
        c.input_count-n.ensures _ _ f w.view h,
      ))
    ]

pub returns-in_err-o : goal.returns-in_err-o
returns-in_err-o c =
    let a = c.args in
    rw c.from_residual.ensures
    (λ total f w h known. layers_wrong total _ f (item_at f a.row.0) c.input_count-n.result (c.input_count-n.ensures _ _ f w.view h)
    (c.in_err-o.ensures total f w h known))

pub returns : goal.returns
returns c =
    let a = c.args in
    λ total f w h known. layers_is total _ f (item_at f a.row.0) c.input_count-n.result (c.input_count-n.ensures _ _ f w.view h) _
    (c.in_ok-o.ensures total f w h known) c.if-n-eq0.false
