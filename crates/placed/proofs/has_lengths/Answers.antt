-- `placed::has_lengths` meets its contract. Assumes nothing.
use native.Mathlib.Omega.{arith}
use mathlib.Core.Path.{refl}
use Rattle.placed.proofs.ExtentLaws.{extents-count, extents_fail, extents-on, extents_pass, some-length, no_length}
use Rattle.placed.proofs.has_lengths.Goals as goal

pub loop-j-init : goal.loop-j-init
loop-j-init c = λ head pl f v h. refl

pub returns-then-extent_of-eq0 : goal.returns-then-extent_of-eq0
returns-then-extent_of-eq0 c =
    λ head pl f v h.
    let l = extents-count v c.args.row.0 _ h c.record_word-n.ensures in
    let q = c.extent_of.ensures head pl f v h (omega arith) in
    extents_fail _ _ c.loop-j.j (c.loop-j.invariant head pl f v h) (omega arith) (no_length _ _ q.0 c.if-extent_of-eq0.true)

pub loop-j-preserved : goal.loop-j-preserved
loop-j-preserved c =
    λ head pl f v h.
    let l = extents-count v c.args.row.0 _ h c.record_word-n.ensures in
    let q = c.extent_of.ensures head pl f v h (omega arith) in
    extents-on _ _ c.loop-j.j (c.loop-j.invariant head pl f v h) (omega arith) (some-length _ _ q.0 c.if-extent_of-eq0.false)

pub returns : goal.returns
returns c =
    λ head pl f v h.
    let l = extents-count v c.args.row.0 _ h c.record_word-n.ensures in
    extents_pass _ _ c.loop-j.j (c.loop-j.invariant head pl f v h) (omega arith)
