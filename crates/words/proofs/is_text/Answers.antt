-- `words::is_text` answers `text`.
use Rattle.std.proofs.Common.{arith}
use Rattle.words.specs.inner.Subject.{text}
use Rattle.words.proofs.is_text.Goals as goal
use Rattle.words.proofs.is_text.Goals.{then-is_printable, else-is_printable, then-is_printable-2, else-is_printable-2}

pub returns-then-is_printable-3 : goal.returns-then-is_printable-3
unfolding text
returns-then-is_printable-3 c =
    elim c.if-is_printable-2.branch [
      | then-is_printable-2 w ↦ elim c.if-is_printable.branch [ then-is_printable v ↦ grind arith | else-is_printable v ↦ grind arith ]
      | else-is_printable-2 w ↦ grind arith
    ]

pub returns-else-is_printable-3 : goal.returns-else-is_printable-3
unfolding text
returns-else-is_printable-3 c =
    elim c.if-is_printable-2.branch [
      | then-is_printable-2 w ↦ elim c.if-is_printable.branch [ then-is_printable v ↦ grind arith | else-is_printable v ↦ grind arith ]
      | else-is_printable-2 w ↦ elim c.if-is_printable.branch [ then-is_printable v ↦ grind arith | else-is_printable v ↦ grind arith ]
    ]
