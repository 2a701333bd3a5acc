-- `reading::put_order` meets its contract: the rows of the first k keys are put. Assumes nothing.
use native.Mathlib.Omega.{arith}
use mathlib.Core.Path.{◌≡◌, refl, ap, ◌∙◌}
use lib.ListN.{length-set}
use Rattle.reading.proofs.OrderLaws.{order_to, order_begin, order_more, order_end, keyed-512}
use Rattle.reading.proofs.put_order.Goals as goal

pub loop-k-init : goal.loop-k-init
loop-k-init c =
    let y = c.requires.1.3 in (
      omega (arith, c.first_key-first.ensures.1 _ y, y.below, c.requires.1.1),
      refl,
      order_begin c.args.rows.now c.args.keys.now c.first_key-first.result,
    )

pub loop-k-preserved : goal.loop-k-preserved
loop-k-preserved c =
    let a = c.args in
    let l = c.loop-k in
    let m = keyed-512 _ _ c.requires.1.3 in (
      l.invariant.0,
      length-set l.rows _ _ ∙ l.invariant.1,
      order_more a.rows.now a.keys.now _ l.rows l.k (omega arith) (omega arith) l.invariant.2,
    )

pub returns : goal.returns
returns c =
    let l = c.loop-k in
    let a = c.args in
    let e : l.k ≡ a.n = omega arith in
    λ ids n y. l.invariant.2 ∙ ap (order_to a.rows.now a.keys.now c.first_key-first.result) e
    ∙ order_end a.rows.now a.keys.now _ ids _ y n (c.first_key-first.ensures.1 ids y)
