-- `judging::judge_pictures` meets its contract. Assumes nothing.
use mathlib.Core.Path.{sym, ap, ◌∙◌}
use Rattle.judging.specs.inner.Order.{pictures_judged, told_judged}
use Rattle.judging.proofs.JudgedLaws.{handed, told_off, told-on, pictures_shallow}
use Rattle.judging.proofs.judge_pictures.Goals as goal

pub returns-then-deepest-le16 : goal.returns-then-deepest-le16
returns-then-deepest-le16 c =
    λ f d. c.judge_sizes.ensures _ f d ∙ ap told_judged
    (sym (pictures_shallow _ _ f d _ c.deepest_of-deepest.ensures c.if-deepest-le16.true))

pub returns-in_err-judge_itself : goal.returns-in_err-judge_itself
unfolding pictures_judged
returns-in_err-judge_itself c =
    let g = handed c.from_residual.result _ c.from_residual.ensures.1 in
    λ f d. g ∙ told_off _ _ _ (sym (c.in_err-judge_itself.ensures f d))

pub returns-in_err-first_fault : goal.returns-in_err-first_fault
unfolding pictures_judged
returns-in_err-first_fault c =
    let g = handed c.from_residual-in_err-first_fault.result _ c.from_residual-in_err-first_fault.ensures.1 in
    λ f d. g ∙ told_off _ _ _ (sym (c.in_err-first_fault.ensures f d))
    ∙ ap told_judged (sym (told-on _ _ (sym (c.in_ok-judge_itself.ensures f d))))

pub returns : goal.returns
unfolding pictures_judged
returns c =
    λ f d. c.judge_sizes-2.ensures _ f d
    ∙ ap told_judged (sym (told-on _ _ (sym (c.in_ok-first_fault.ensures f d))))
    ∙ ap told_judged (sym (told-on _ _ (sym (c.in_ok-judge_itself.ensures f d))))
