-- `layout::composed` meets its contract. Assumes nothing.
use Rattle.std.proofs.Common.{sym, le-ltb, lt-ltb}
use Rattle.fields.proofs.FieldLaws.{pick_yes, pick_no}
use Rattle.layout.specs.inner.Pose.{composed_of}
use Rattle.layout.proofs.pose.composed.Goals as goal

pub returns-then-o-lt4 : goal.returns-then-o-lt4
unfolding composed_of
returns-then-o-lt4 c = sym (pick_yes _ _ (lt-ltb _ _ c.if-o-lt4.true))

pub returns : goal.returns
unfolding composed_of
returns c = sym (pick_no _ _ (le-ltb _ _ c.if-o-lt4.false))
