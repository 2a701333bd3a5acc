-- `placed::lies_within` meets its contract. Assumes nothing.
use mathlib.Core.Path.{sym, ap, ◌∙◌}
use mathlib.Core.Bool.{Bool, ◌&&◌}
use Rattle.rules.specs.Bytes.{good_lengths}
use Rattle.rules.specs.Joined.{location_of}
use Rattle.views.specs.inner.View.{id_of}
use Rattle.placed.proofs.PlaceLaws.{within-idat, within-file}
use Rattle.placed.proofs.lies_within.Goals as goal

pub returns-then-record_word-eq1 : goal.returns-then-record_word-eq1
returns-then-record_word-eq1 c =
    let a = c.args in
    λ head pl f v z h. c.lie_before.ensures head pl f v h ∙
    ap (λ (b : Bool). good_lengths (location_of f (id_of f a.row.0)) && b)
    (sym (within-idat v a.row.0 h _ c.record_word.ensures a.ends.total c.if-record_word-eq1.true _ z))

pub returns : goal.returns
returns c =
    let a = c.args in
    λ head pl f v z h. c.lie_before-2.ensures head pl f v h ∙
    ap (λ (b : Bool). good_lengths (location_of f (id_of f a.row.0)) && b)
    (sym (within-file v a.row.0 h _ c.record_word.ensures a.ends.total c.if-record_word-eq1.false))
