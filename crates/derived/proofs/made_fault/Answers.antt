-- `derived::made_fault` meets its contract. Assumes nothing.
use mathlib.Core.Path.{sym, refl}
use Rattle.rules.specs.Joined.{item_at}
use Rattle.derived.proofs.RecipeLaws.{derived-inputs, derived_bodyless, derived_wrong, derived-fed}
use Rattle.derived.proofs.made_fault.Goals as goal

pub returns-then-not-has_body : goal.returns-then-not-has_body
returns-then-not-has_body c =
    λ total f w h v k d. derived_bodyless total _ f (item_at f c.args.row.0) d (c.if-not-has_body.ensures total f w h k)

pub returns-in-None : goal.returns-in-None
returns-in-None c =
    λ total f w h v k d. derived_wrong total _ f (item_at f c.args.row.0) d _
    (c.in-None.ensures total f w h (c.if-not-has_body.ensures total f w h k) d) refl

pub returns-then-all_images : goal.returns-then-all_images
returns-then-all_images c =
    λ total f w h v k d. derived-fed total _ f (item_at f c.args.row.0) d _
    (c.in-Some.ensures total f w h (c.if-not-has_body.ensures total f w h k) d) refl
    (sym (c.if-all_images.ensures _ _ f w.view v h))

pub returns-else-all_images : goal.returns-else-all_images
returns-else-all_images c =
    λ total f w h v k d. derived-inputs total _ f (item_at f c.args.row.0) d
    (sym (c.if-all_images.ensures _ _ f w.view v h))
