-- `layout::margins_after` meets its contract. Assumes nothing.
use Rattle.std.proofs.Common.{sym, ap, ◌∙◌, subst}
use Rattle.pictures.specs.Turn.{Fits}
use Rattle.layout.specs.inner.Margins.{margins_after}
use Rattle.layout.proofs.margins.margins_after.Goals as goal

pub returns-in-Stay : goal.returns-in-Stay
unfolding margins_after
returns-in-Stay c = λ f w h. rw c.in-Stay.is

pub returns-in-Left : goal.returns-in-Left
unfolding margins_after
returns-in-Left c = λ f w h. rw (c.in-Left.is, c.margins_of.ensures)

pub returns-in-Half : goal.returns-in-Half
unfolding margins_after
returns-in-Half c = λ f w h. rw (c.in-Half.is, c.margins_of-in-Half.ensures)

pub returns-in-Right : goal.returns-in-Right
unfolding margins_after
returns-in-Right c = λ f w h. rw (c.in-Right.is, c.margins_of-in-Right.ensures)

pub returns-in-FlipX : goal.returns-in-FlipX
unfolding margins_after
returns-in-FlipX c = λ f w h. rw (c.in-FlipX.is, c.margins_of-in-FlipX.ensures)

pub returns-in-FlipY : goal.returns-in-FlipY
unfolding margins_after
returns-in-FlipY c = λ f w h. rw (c.in-FlipY.is, c.margins_of-in-FlipY.ensures)

pub returns-in-Crop : goal.returns-in-Crop
returns-in-Crop c =
    λ f w h.
    let a = c.args in
    let g = subst (λ t. Fits t a.s) c.in-Crop.is f in
    c.cropped.ensures g.0 g.1 w h ∙ sym (ap (λ t. margins_after t a.s a.m) c.in-Crop.is)

pub returns-in-Misfit : goal.returns-in-Misfit
unfolding margins_after
returns-in-Misfit c = λ f w h. rw c.in-Misfit.is
