-- `turned::margins_through` meets its contract: what is left from association j on makes of `margins` what all make of m. Assumes nothing.
use Prim.Native.Nat.{◌<◌}
use native.Mathlib.Omega.{arith}
use mathlib.Core.Path.{refl, sym, ◌∙◌}
use lib.ListN.{length, drop}
use Rattle.pictures.specs.Decode.{turns_of}
use Rattle.rules.specs.Joined.{associations_of, boxes_of}
use Rattle.views.specs.inner.View.{id_of}
use Rattle.declared.proofs.NamedLaws.{boxes-many}
use Rattle.turned.proofs.TurnsLaws.{leads_next, leads-on, leads-none}
use Rattle.turned.proofs.margins_through.Goals as goal

pub loop-j-init : goal.loop-j-init
loop-j-init c = λ pl f v h fit s. (fit, (s, refl))

pub loop-j-preserved : goal.loop-j-preserved
loop-j-preserved c =
    let a = c.args in
    let q = c.loop-j in
    λ pl f v h. let l : q.j < length (associations_of f (id_of f a.row.0)) =
    omega (arith, c.property_count-n.ensures a.head.now pl f v h) in let bs = boxes_of f (id_of f a.row.0) in
    leads-on _ (turns_of q.size (drop q.j bs)) _ _ q.size _ _ q.margins _ (q.invariant pl f v h)
    (leads_next bs q.j (omega (arith, l, boxes-many f (id_of f a.row.0))) q.size _ c.turn_at-t.result
    (c.turn_at-t.ensures pl f v h l) c.size_after-size.ensures q.margins _ c.margins_after-margins.ensures)

pub returns : goal.returns
returns c =
    let a = c.args in
    let q = c.loop-j in
    λ pl f v h fit x y.
    let n = c.property_count-n.ensures a.head.now pl f v h in
    let m = boxes-many f (id_of f a.row.0) in
    sym ((q.invariant pl f v h fit (x, y)).1.1 ∙
    leads-none (boxes_of f (id_of f a.row.0)) q.j (omega (arith, n, m)) q.size q.margins)
