-- `words::is_printable` answers `printable`.
use Rattle.std.proofs.Common.{rules}
use Rattle.fields.specs.Choice.{pick}
use Rattle.words.specs.inner.Subject.{printable}
use Rattle.words.proofs.is_printable.Goals as goal

pub returns-then-b-ge32 : goal.returns-then-b-ge32
unfolding printable pick
returns-then-b-ge32 c = search rules

pub returns-else-b-ge32 : goal.returns-else-b-ge32
unfolding printable pick
returns-else-b-ge32 c = search rules
