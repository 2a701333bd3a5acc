-- `associations::put_associations` meets its contract. Assumes nothing.
use Rattle.associations.proofs.AssociationLaws.{mark_small, list_begin, list-kept, list_done, list-short, list_far, list-more}
use native.Mathlib.Omega.{arith}
use Rattle.associations.proofs.put_associations.Goals as goal

pub loop-j-init : goal.loop-j-init
loop-j-init c =
    let a = c.args in
    list_begin a.s.now a.from a.w a.k a.place a.most a.used a.table.now c.requires.0

pub returns-then-s-at : goal.returns-then-s-at
returns-then-s-at c =
    let a = c.args in
    let l = c.loop-j in (
      list-short a.s.now a.from a.w a.k a.place a.most a.used a.table.now l.table l.at
          l.j l.invariant c.loop-j-test.true c.if-s-at.true,
      list-kept a.s.now a.from a.w a.k a.place a.most a.used a.table.now l.table l.at
          l.j l.invariant c.requires.2,
    )

pub nonzero_rem-a : goal.nonzero_rem-a
nonzero_rem-a c =
    let m = mark_small c.args.w c.requires.1 in
    omega arith

pub returns-then-most-a : goal.returns-then-most-a
returns-then-most-a c =
    let a = c.args in
    let l = c.loop-j in (
      list_far a.s.now a.from a.w a.k a.place a.most a.used a.table.now l.table l.at
          l.j l.invariant c.loop-j-test.true c.if-s-at.false c.word_at-a.result c.mark_of-mark.result
          c.word_at-a.ensures c.mark_of-mark.ensures c.then-most-a.either,
      list-kept a.s.now a.from a.w a.k a.place a.most a.used a.table.now l.table l.at
          l.j l.invariant c.requires.2,
    )

pub association_of-requires : goal.association_of-requires
association_of-requires c =
    let m = mark_small c.args.w c.requires.1 in
    (omega arith, omega arith)

pub loop-j-preserved : goal.loop-j-preserved
loop-j-preserved c =
    let a = c.args in
    let l = c.loop-j in
    list-more a.s.now a.from a.w a.k a.place a.most a.used a.table.now l.table l.at
    l.j l.invariant c.loop-j-test.true c.if-s-at.false c.word_at-a.result c.mark_of-mark.result
    c.word_at-a.ensures c.mark_of-mark.ensures c.type_inv.s c.requires.1 c.if-most-a.false
    c.if-a-mark.false _ c.association_of.ensures

pub returns : goal.returns
returns c =
    let a = c.args in
    let l = c.loop-j in
    list_done a.s.now a.from a.w a.k a.place a.most a.used a.table.now l.table l.at
    l.j l.invariant c.loop-j-test.false
