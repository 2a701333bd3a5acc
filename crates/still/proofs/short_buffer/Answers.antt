-- `still::short_buffer` meets its contract. Assumes nothing.
use native.Mathlib.Omega.{arith}
use mathlib.Core.Path.{refl}
use Rattle.still.proofs.BodyLaws.{table_short, buffer_short}
use Rattle.still.proofs.short_buffer.Goals as goal

pub returns-then-table-lt-WORDS : goal.returns-then-table-lt-WORDS
returns-then-table-lt-WORDS c =
    let a = c.args in
    λ total head room few. table_short total head a.table.now a.id.0 room (omega (arith, c.if-table-lt-WORDS.true)) _ refl refl

pub returns : goal.returns
returns c =
    let a = c.args in
    λ total head room few.
    buffer_short total head a.table.now a.id.0 room (omega (arith, c.if-table-lt-WORDS.false)) few _
    c.refusal.ensures.0 c.refusal.ensures.1 _ c.clear.ensures
