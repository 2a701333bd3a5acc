-- `placed::linked_fault` meets its contract. Assumes nothing.
use mathlib.Core.Path.{ap, ◌∙◌}
use mathlib.Core.Bool.{not}
use Rattle.rules.specs.Joined.{item_at}
use Rattle.linking.proofs.LiftLaws.{links_in, chained_lift}
use Rattle.placed.proofs.SourceLaws.{linked-method, linked_endless, chained-here, linked-past, linked-none}
use Rattle.placed.proofs.linked_fault.Goals as goal

pub returns-then-not-is_lengthy : goal.returns-then-not-is_lengthy
returns-then-not-is_lengthy c =
    let a = c.args in
    λ head pl f w l j h. linked-method a.ends.total head f (item_at f a.row.0) _
    (c.is_lengthy.ensures head pl f w.view j h) (c.if-not-is_lengthy.true)

pub returns-then-is_endless : goal.returns-then-is_endless
returns-then-is_endless c =
    let a = c.args in
    λ head pl f w l j h. linked_endless a.ends.total head f (item_at f a.row.0) _
    (c.is_lengthy.ensures head pl f w.view j h) (c.if-not-is_lengthy.false) _
    (c.is_endless.ensures _ _ _ (links_in w.view _ w.named) l h ∙ ap not (chained_lift w.view _ w.named 8 _ h))
    c.if-is_endless.true

pub returns-then-is_past : goal.returns-then-is_past
returns-then-is_past c =
    let a = c.args in
    λ head pl f w l j h.
    let g = c.is_lengthy.ensures head pl f w.view j h in
    let y = c.if-not-is_lengthy.false in
    let q = c.is_endless.ensures _ _ _ (links_in w.view _ w.named) l h ∙ ap not (chained_lift w.view _ w.named 8 _ h) in
    let i = item_at f a.row.0 in
    linked-past a.ends.total head f i _ g y _ q c.if-is_endless.false _ (c.is_past.ensures head pl f w l h
    (chained-here a.ends.total head f i _ g y _ q c.if-is_endless.false)) c.if-is_past.true

pub returns : goal.returns
returns c =
    let a = c.args in
    λ head pl f w l j h.
    let g = c.is_lengthy.ensures head pl f w.view j h in
    let y = c.if-not-is_lengthy.false in
    let q = c.is_endless.ensures _ _ _ (links_in w.view _ w.named) l h ∙ ap not (chained_lift w.view _ w.named 8 _ h) in
    let i = item_at f a.row.0 in
    linked-none a.ends.total head f i _ g y _ q c.if-is_endless.false _ (c.is_past.ensures head pl f w l h
    (chained-here a.ends.total head f i _ g y _ q c.if-is_endless.false)) c.if-is_past.false
