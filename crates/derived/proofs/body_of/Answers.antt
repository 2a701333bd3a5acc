-- `derived::body_of` meets its contract. Assumes nothing.
use native.Mathlib.Omega.{arith}
use mathlib.Core.Path.{◌∙◌}
use Rattle.rules.specs.Joined.{location_of}
use Rattle.views.specs.inner.View.{id_of}
use Rattle.derived.proofs.BodyLaws.{extents_counted, direct_one, body-here}
use Rattle.derived.proofs.body_of.Goals as goal

pub returns-then-record_word-eq1 : goal.returns-then-record_word-eq1
returns-then-record_word-eq1 c =
    λ total pl f v h placed direct. body-here v total c.args.row.0 h placed direct (omega arith) _ _
    (c.extent_of-e.ensures _ pl f v h) _ c.part.ensures.result_value c.part.ensures.result_value_2

pub returns : goal.returns
returns c =
    let r = c.args.row.0 in
    λ total pl f v h placed direct. absurd (c.if-record_word-eq1.false
    (extents_counted v r h _ c.record_word.ensures ∙ (direct_one (location_of f (id_of f r)) direct).0))
