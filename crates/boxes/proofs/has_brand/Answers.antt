-- `boxes::has_brand` meets its contract. Assumes nothing.
use Rattle.boxes.proofs.BrandLaws.{word_hit, word_miss, word_end}
use Rattle.boxes.specs.Types.{mif1}
use mathlib.Core.Path.{sym, ◌∙◌, refl}
use Rattle.boxes.proofs.has_brand.Goals as goal

pub loop-i-init : goal.loop-i-init
loop-i-init c = refl

pub returns-then-be32-eq-MIF1 : goal.returns-then-be32-eq-MIF1
returns-then-be32-eq-MIF1 c =
    let a = c.args in
    word_hit mif1 a.content.now c.loop-i.i c.loop-i-test.true
    (sym c.be32.ensures ∙ c.if-be32-eq-MIF1.true) ∙ sym c.loop-i.invariant

pub loop-i-preserved : goal.loop-i-preserved
loop-i-preserved c =
    let a = c.args in
    c.loop-i.invariant ∙ word_miss mif1 a.content.now c.loop-i.i c.loop-i-test.true
    (λ q. c.if-be32-eq-MIF1.false (c.be32.ensures ∙ q))

pub returns : goal.returns
returns c =
    let a = c.args in
    word_end mif1 a.content.now c.loop-i.i c.loop-i-test.false ∙ sym c.loop-i.invariant
