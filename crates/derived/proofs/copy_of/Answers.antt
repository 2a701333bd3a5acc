-- `derived::copy_of` meets its contract. Assumes nothing.
use Rattle.rules.specs.Joined.{item_at}
use Rattle.derived.proofs.BodyLaws.{extents_counted}
use Rattle.derived.proofs.RecipeLaws.{copy_is, copy-extents, copy-inputs}
use Rattle.derived.proofs.copy_of.Goals as goal
use
    Rattle.derived.proofs.copy_of.Goals.{
      else-input_count-eq1-via-then-input_count-eq1+else-record_word-eq0,
      else-input_count-eq1-via-else-input_count-eq1,
    }

pub returns-then-record_word-eq0 : goal.returns-then-record_word-eq0
returns-then-record_word-eq0 c =
    λ total head pl f v h. copy_is total head f (item_at f c.args.row.0) _ (c.input_count.ensures head pl f v h)
    _ (extents_counted v c.args.row.0 h _ c.record_word.ensures) c.if-input_count-eq1.true c.if-record_word-eq0.true

pub returns : goal.returns
returns c =
    λ total head pl f v h. elim c.else-input_count-eq1.branch [
      | else-input_count-eq1-via-then-input_count-eq1+else-record_word-eq0 w ↦ copy-extents total head f (item_at f c.args.row.0) _
          (c.input_count.ensures head pl f v h) _ (extents_counted v c.args.row.0 h _ w.record_word.ensures) w.if-record_word-eq0.false
      | else-input_count-eq1-via-else-input_count-eq1 w ↦ copy-inputs total head f (item_at f c.args.row.0) _
          (c.input_count.ensures head pl f v h) w.if-input_count-eq1.false
    ]
