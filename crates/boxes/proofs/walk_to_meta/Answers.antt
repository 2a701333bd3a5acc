-- `boxes::walk_to_meta` meets its contract. Assumes nothing.
use Rattle.boxes.proofs.WalkLaws.{shown, told-bad, told-short, told-past, told-found, told_stuck, walk_further}
use Rattle.boxes.specs.inner.Family.{meta_spot}
use Rattle.boxes.specs.Told.{told}
use mathlib.Core.Path.{sym, ap, ◌∙◌, refl}
use mathlib.Core.Logic.{⊎_elim}
use native.Mathlib.Omega.{arith}
use Rattle.boxes.proofs.walk_to_meta.Goals as goal

pub loop-kind-init : goal.loop-kind-init
loop-kind-init c = refl

pub returns-then-kind-eq-META : goal.returns-then-kind-eq-META
returns-then-kind-eq-META c =
    let h = c.args.head.now in
    let l = c.loop-kind in
    told-found h l.at l.n _ _ _ (sym c.top_box_at.ensures ∙ c.in-Whole.is) c.if-kind-eq-META.true ∙
    sym (ap (told meta_spot) l.invariant)

pub returns-then-end-at : goal.returns-then-end-at
returns-then-end-at c =
    let h = c.args.head.now in
    let l = c.loop-kind in
    rw c.refused.ensures (told_stuck h l.at l.n _ _ _ (sym c.top_box_at.ensures ∙ c.in-Whole.is)
    c.if-kind-eq-META.false c.if-end-at.true ∙ sym (ap (told meta_spot) l.invariant))

pub overflow_sub-n : goal.overflow_sub-n
overflow_sub-n c =
    let h = c.args.head.now in
    let l = c.loop-kind in
    let w = shown h l.at l.n _ _ _ (sym c.top_box_at.ensures ∙ c.in-Whole.is) in
    omega (arith, w.order)

pub overflow_sub-n-in-Whole : goal.overflow_sub-n-in-Whole
overflow_sub-n-in-Whole c =
    let h = c.args.head.now in
    let l = c.loop-kind in
    let w = shown h l.at l.n _ _ _ (sym c.top_box_at.ensures ∙ c.in-Whole.is) in
    omega (arith, w.left)

pub loop-kind-smaller : goal.loop-kind-smaller
loop-kind-smaller c =
    let h = c.args.head.now in
    let l = c.loop-kind in
    let w = shown h l.at l.n _ _ _ (sym c.top_box_at.ensures ∙ c.in-Whole.is) in
    omega (arith, w.order, w.here, c.if-end-at.false)

pub loop-kind-preserved : goal.loop-kind-preserved
loop-kind-preserved c =
    let h = c.args.head.now in
    let l = c.loop-kind in
    l.invariant ∙ walk_further h l.at l.n _ _ _ (sym c.top_box_at.ensures ∙ c.in-Whole.is)
    c.if-kind-eq-META.false c.if-end-at.false

pub returns-in-Bad : goal.returns-in-Bad
returns-in-Bad c =
    let h = c.args.head.now in
    let l = c.loop-kind in
    rw c.refused-in-Bad.ensures (told-bad h l.at l.n (sym c.top_box_at.ensures ∙ c.in-Bad.is) ∙ sym (ap (told meta_spot) l.invariant))

pub returns-in-Short : goal.returns-in-Short
returns-in-Short c =
    let h = c.args.head.now in
    let l = c.loop-kind in
    rw c.refused-in-Short.ensures (⊎_elim (λ q. told-short h l.at l.n (sym c.top_box_at.ensures ∙ q))
    (λ q. told-past h l.at l.n (sym c.top_box_at.ensures ∙ q)) c.in-Short.is ∙ sym (ap (told meta_spot) l.invariant))
