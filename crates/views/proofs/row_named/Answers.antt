-- `views::row_named` meets its contract: a table that is a file's is long enough and has at most 256 items. Assumes nothing.
use native.Mathlib.Omega.{arith}
use mathlib.Core.Path.{◌∙◌}
use Rattle.views.proofs.LookupLaws.{found-told}
use Rattle.views.proofs.row_named.Goals as goal

pub returns-then-table-lt-WORDS : goal.returns-then-table-lt-WORDS
returns-then-table-lt-WORDS c = λ head pl f v. absurd (omega (arith, v.enough))

pub returns-then-n-gt256 : goal.returns-then-n-gt256
returns-then-n-gt256 c = λ head pl f v. absurd (omega (arith, v.items, v.bounded.few-items))

pub row_unkeyed-requires : goal.row_unkeyed-requires
row_unkeyed-requires c = (omega arith, omega arith)

pub returns : goal.returns
returns c =
    λ head pl f v. found-told v _ _ _ (c.item_count-n.ensures ∙ v.items) c.row_unkeyed.ensures
