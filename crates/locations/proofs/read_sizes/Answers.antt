-- `locations::read_sizes` meets its contract, a way out at a time. Assumes nothing.
use mathlib.Core.Path.{sym, ◌∙◌}
use Rattle.locations.proofs.SizeLaws.{sizes-short, sizes-first, sizes-cut, sizes-second, sizes-count, sizes-sized}
use Rattle.locations.proofs.read_sizes.Goals as goal

pub returns-then-s-lt5 : goal.returns-then-s-lt5
returns-then-s-lt5 c =
    let a = c.args in
    sizes-short a.version a.place a.s.now c.requires c.if-s-lt5.true

pub returns-then-not-are_sizes : goal.returns-then-not-are_sizes
returns-then-not-are_sizes c =
    let a = c.args in
    sizes-first a.version a.place a.s.now c.requires _ c.be8-a.ensures c.if-s-lt5.false
    (sym c.are_sizes.ensures ∙ c.if-not-are_sizes.true)

pub returns-then-s-lt6 : goal.returns-then-s-lt6
returns-then-s-lt6 c =
    let a = c.args in
    sizes-cut a.version a.place a.s.now c.requires _ c.be8-a.ensures c.if-s-lt5.false
    (sym c.are_sizes.ensures ∙ c.if-not-are_sizes.false) c.if-s-lt6.true

pub returns-then-not-are_sizes-2 : goal.returns-then-not-are_sizes-2
returns-then-not-are_sizes-2 c =
    let a = c.args in
    sizes-second a.version a.place a.s.now c.requires _ c.be8-a.ensures c.if-s-lt5.false
    (sym c.are_sizes.ensures ∙ c.if-not-are_sizes.false) _ c.be8-b.ensures c.if-s-lt6.false _ c.widths_of-w.ensures
    (sym c.are_sizes-2.ensures ∙ c.if-not-are_sizes-2.true)

pub read_count-requires : goal.read_count-requires
read_count-requires c =
    let a = c.args in
    let z = sizes-sized a.version a.place a.s.now c.requires _ c.be8-a.ensures c.if-s-lt5.false
    (sym c.are_sizes.ensures ∙ c.if-not-are_sizes.false) _ c.be8-b.ensures c.if-s-lt6.false _ c.widths_of-w.ensures
    (sym c.are_sizes-2.ensures ∙ c.if-not-are_sizes-2.false) in
    (c.if-s-lt6.false, z)

pub returns : goal.returns
returns c =
    let a = c.args in
    sizes-count a.version a.place a.s.now c.requires _ c.be8-a.ensures c.if-s-lt5.false
    (sym c.are_sizes.ensures ∙ c.if-not-are_sizes.false) _ c.be8-b.ensures c.if-s-lt6.false _ c.widths_of-w.ensures
    (sym c.are_sizes-2.ensures ∙ c.if-not-are_sizes-2.false) c.read_count.result c.read_count.ensures
