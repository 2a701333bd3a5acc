-- `pictures::halved_edge` meets its contract. Assumes nothing.
use Rattle.pictures.specs.inner.Told.{told_edge}
use Rattle.pictures.proofs.EdgeLaws.{halves_part, halves_outside, halves_within}
use Rattle.std.proofs.Common.{sym, ap, ◌∙◌}
use Rattle.pictures.proofs.halved_edge.Goals as goal

pub returns-then-not-is_whole : goal.returns-then-not-is_whole
unfolding told_edge
returns-then-not-is_whole c =
    let a = c.args in
    sym (ap told_edge (halves_part a.left a.c a.od a.twice
    (sym c.is_whole.ensures ∙ c.if-not-is_whole.true)))

pub returns-then-left-e : goal.returns-then-left-e
unfolding told_edge
returns-then-left-e c =
    let a = c.args in
    sym (ap told_edge (halves_outside a.left a.c a.od a.twice _ c.halved_of-e.ensures
    c.if-left-e.true))

pub returns : goal.returns
unfolding told_edge
returns c =
    let a = c.args in
    let w = sym c.is_whole.ensures ∙ c.if-not-is_whole.false in
    sym (ap told_edge (halves_within a.left a.c a.od a.twice _ c.halved_of-e.ensures w
    c.if-left-e.false))
