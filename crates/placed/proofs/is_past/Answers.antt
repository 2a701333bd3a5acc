-- `placed::is_past` meets its contract. Assumes nothing.
use mathlib.Core.Path.{sym, ◌∙◌}
use borrow.Author.Tests.{not-true, not-false}
use Rattle.rules.specs.Bytes.{within}
use Rattle.rules.specs.Joined.{item_at}
use Rattle.rules.specs.Rules.{has_bytes}
use Rattle.views.specs.inner.View.{id_of}
use Rattle.linking.proofs.LiftLaws.{links_in, chained_lift, past_lift}
use Rattle.placed.proofs.SourceLaws.{past-names, past-outside, past_empty}
use Rattle.placed.proofs.is_past.Goals as goal
use Rattle.placed.proofs.is_past.Goals.{then-names_past, else-names_past}

pub returns-then-not-lie_in_sources : goal.returns-then-not-lie_in_sources
returns-then-not-lie_in_sources c =
    let a = c.args in
    λ head pl f w l h k.
    let n = c.names_past.ensures _ _ _ (links_in w.view _ w.named) l h (chained_lift w.view _ w.named 8 _ h ∙ k.chain)
    ∙ past_lift w.view _ w.named 8 _ h in
    elim c.if-names_past.branch [
      | then-names_past b ↦ b.value-is ∙ b.if-names_past.true
          ∙ past-names _ (within a.ends.total head f (id_of f a.row.0)) (has_bytes f (item_at f a.row.0)) _ n b.if-names_past.true
      | else-names_past b ↦ c.if-not-lie_in_sources.true ∙ past-outside _ _ _ _ n b.if-names_past.false _
          (b.lie_in_sources.ensures head pl f w h k (sym n ∙ b.if-names_past.false)) (not-true _ (sym b.value-is ∙ c.if-not-lie_in_sources.true))
    ]

pub returns-else-not-lie_in_sources : goal.returns-else-not-lie_in_sources
returns-else-not-lie_in_sources c =
    λ head pl f w l h k.
    let n = c.names_past.ensures _ _ _ (links_in w.view _ w.named) l h (chained_lift w.view _ w.named 8 _ h ∙ k.chain)
    ∙ past_lift w.view _ w.named 8 _ h in
    elim c.if-names_past.branch [
      | then-names_past b ↦ let z = sym b.if-names_past.true ∙ sym b.value-is ∙ c.if-not-lie_in_sources.false in cc
      | else-names_past b ↦ past_empty _ _ _ _ n b.if-names_past.false _
          (b.lie_in_sources.ensures head pl f w h k (sym n ∙ b.if-names_past.false)) (not-false _ (sym b.value-is ∙ c.if-not-lie_in_sources.false))
          _ (c.has_bytes.ensures head pl f w.view h)
    ]
