-- `arranged::arrange` meets its contract. Assumes nothing.
use native.Mathlib.Omega.{arith}
use Rattle.arranged.proofs.ArrangeLaws.{too_short, too_many, rising-moved, moved-after}
use Rattle.arranged.proofs.arrange.Goals as goal

pub returns-then-table-lt-WORDS : goal.returns-then-table-lt-WORDS
returns-then-table-lt-WORDS c = λ total head before e o. too_short total head before _ e c.if-table-lt-WORDS.true

pub returns-then-n-gt256 : goal.returns-then-n-gt256
returns-then-n-gt256 c = λ total head before e o. too_many total head before _ e (omega arith) c.if-n-gt256.true

pub returns-then-not-is_rising : goal.returns-then-not-is_rising
returns-then-not-is_rising c =
    λ total head before e o.
    let a = c.args in
    moved-after total head before _ _ _ a.rows.now e (omega arith) c.put_places.ensures o
    c.move_records.ensures

pub returns-else-not-is_rising : goal.returns-else-not-is_rising
returns-else-not-is_rising c =
    λ total head before e o.
    let a = c.args in
    moved-after total head before _ _ _ a.rows.now e (omega arith) c.put_places.ensures o
    (λ w. rising-moved _ a.rows.now _ (c.is_rising.ensures.rising c.if-not-is_rising.false))
