-- `references::put_targets` meets its contract. Assumes nothing.
use Rattle.references.proofs.TargetLaws.{begin, so_length, cut, unlisted, listed, left_over, done}
use Rattle.references.proofs.RowedLaws.{beside_none, beside_more, beside_refused, beside_done}
use native.Mathlib.Omega.{arith}
use Rattle.references.proofs.put_targets.Goals as goal

pub loop-j-init : goal.loop-j-init
loop-j-init c =
    (begin _ _ _ _ _ _ _ _ _ c.requires.3, beside_none _ _ _ _ _)

pub returns-then-s-at : goal.returns-then-s-at
returns-then-s-at c =
    let p = c.requires in
    let l = c.loop-j in
    let x = cut _ _ _ _ _ _ _ _ _ p.2 p.5 p.6 _ _ _ l.invariant.0 c.loop-j-test.true c.if-s-at.true
    in
    record { value = x.0; targets_left = x.1; rows_unchanged = beside_refused _ _ _ _ _ _ _ _ l.invariant.1 _ _ }

pub row_of-requires : goal.row_of-requires
row_of-requires c =
    let p = c.requires in
    (p.2, omega (arith, so_length _ _ _ _ _ _ _ _ _ p.2 p.5 p.6 _ _ _ c.loop-j.invariant.0, p.0))

pub returns-in_default : goal.returns-in_default
returns-in_default c =
    let p = c.requires in
    let l = c.loop-j in
    let x = unlisted _ _ _ _ _ _ _ _ _ p.2 p.5 p.6 _ _ _ l.invariant.0 c.loop-j-test.true c.if-s-at.false _
    c.be_id-id.ensures c.in_default.ensures in
    record { value = x.0; targets_left = x.1; rows_unchanged = beside_refused _ _ _ _ _ _ _ _ l.invariant.1 _ _ }

pub put_target-requires : goal.put_target-requires
put_target-requires c =
    let p = c.requires in (
      omega (arith, so_length _ _ _ _ _ _ _ _ _ p.2 p.5 p.6 _ _ _ c.loop-j.invariant.0, p.0),
      omega (arith, c.loop-j.invariant.1.long, p.1),
      λ e. omega (arith, p.6 e, c.loop-j-test.true),
      omega (arith, c.in-Some.ensures.0, p.2),
    )

pub loop-j-preserved : goal.loop-j-preserved
loop-j-preserved c =
    let p = c.requires in
    let l = c.loop-j in
    let long = so_length _ _ _ _ _ _ _ _ _ p.2 p.5 p.6 _ _ _ l.invariant.0 in
    let g = c.in-Some.ensures in (
      listed _ _ _ _ _ _ _ _ _ p.2 p.5 p.6 _ _ _ l.invariant.0 c.loop-j-test.true c.if-s-at.false _ c.be_id-id.ensures _ g _
          c.put_target.ensures.table_after,
      beside_more _ _ _ _ _ _ _ _ l.invariant.1 p.2 (omega (arith, long, p.0)) p.1
          (λ e. omega (arith, p.6 e, c.loop-j-test.true)) _ _ g _ _ c.put_target.ensures.table_after c.put_target.ensures.rows_after,
    )

pub returns-then-at-s : goal.returns-then-at-s
returns-then-at-s c =
    let p = c.requires in
    let l = c.loop-j in
    let x = left_over _ _ _ _ _ _ _ _ _ p.2 p.5 p.6 _ _ _ l.invariant.0 c.loop-j-test.false
    c.if-at-s.true in
    record { value = x.0; targets_left = x.1; rows_unchanged = beside_refused _ _ _ _ _ _ _ _ l.invariant.1 _ _ }

pub returns : goal.returns
returns c =
    let p = c.requires in
    let l = c.loop-j in
    let x = done _ _ _ _ _ _ _ _ _ p.2 p.5 p.6 _ _ _ l.invariant.0 c.loop-j-test.false c.if-at-s.false in
    record { value = x.0; targets_left = x.1; rows_unchanged = beside_done _ _ _ _ _ _ _ _ l.invariant.1 _ c.loop-j-test.false }
