-- `contents::read_full` meets its contract. Assumes nothing.
use mathlib.Core.Path.{sym, ap}
use Rattle.boxes.specs.Told.{told}
use Rattle.contents.specs.Full.{between}
use Rattle.contents.specs.inner.Told.{full_of}
use Rattle.contents.proofs.FullLaws.{between-low, between-high, between_in, full_empty, full-version, full-cut, full_is}
use Rattle.contents.proofs.read_full.Goals as goal

pub returns-then-s-lt1 : goal.returns-then-s-lt1
unfolding told
returns-then-s-lt1 c =
    let a = c.args in
    sym (ap (told full_of) (full_empty (between a.least a.most) a.place a.s.now c.if-s-lt1.true))

pub returns-then-version-least : goal.returns-then-version-least
unfolding told
returns-then-version-least c =
    let a = c.args in
    sym (ap (told full_of) (full-version (between a.least a.most) a.place a.s.now c.if-s-lt1.false
    (between-low _ _ _ _ c.be8-version.ensures c.if-version-least.true)))

pub returns-then-most-version : goal.returns-then-most-version
unfolding told
returns-then-most-version c =
    let a = c.args in
    sym (ap (told full_of) (full-version (between a.least a.most) a.place a.s.now c.if-s-lt1.false
    (between-high _ _ _ _ c.be8-version.ensures c.if-most-version.true)))

pub returns-then-s-lt4 : goal.returns-then-s-lt4
unfolding told
returns-then-s-lt4 c =
    let a = c.args in
    sym (ap (told full_of) (full-cut (between a.least a.most) a.place a.s.now c.if-s-lt1.false
    (between_in _ _ _ _ c.be8-version.ensures c.if-version-least.false c.if-most-version.false) c.if-s-lt4.true))

pub returns : goal.returns
unfolding told
returns c =
    let a = c.args in
    rw (c.be8-version.ensures, c.be24.ensures) (sym (ap (told full_of)
    (full_is (between a.least a.most) a.place a.s.now c.if-s-lt4.false
    (between_in _ _ _ _ c.be8-version.ensures c.if-version-least.false c.if-most-version.false))))
