-- `layout::upright` meets its contract. Assumes nothing.
use Rattle.std.proofs.Common.{sym, le-ltb, lt-ltb}
use Rattle.fields.proofs.FieldLaws.{pick_yes, pick_no}
use Rattle.layout.specs.inner.Pose.{upright_of}
use Rattle.layout.proofs.pose.upright.Goals as goal

pub returns-then-p-lt4 : goal.returns-then-p-lt4
unfolding upright_of
returns-then-p-lt4 c = sym (pick_yes _ _ (lt-ltb _ _ c.if-p-lt4.true))

pub returns : goal.returns
unfolding upright_of
returns c = sym (pick_no _ _ (le-ltb _ _ c.if-p-lt4.false))
