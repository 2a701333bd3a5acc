-- `sizing::sizes_of` meets its contract: what the record before says where the items are alike, else what the properties say. Assumes nothing.
use native.Mathlib.Omega.{arith}
use mathlib.Core.Path.{sym, ◌∙◌}
use Rattle.sizing.proofs.PropertiesLaws.{properties-read, properties_wrong}
use Rattle.sizing.proofs.BeforeLaws.{before_alike}
use Rattle.sizing.proofs.sizes_of.Goals as goal

pub returns-then-is_alike : goal.returns-then-is_alike
returns-then-is_alike c =
    let a = c.args in
    λ pl f v h told. before_alike v a.row.0 h told c.if-r-gt0.true c.record_word-wide.result c.record_word.result
    c.record_word-then-is_alike.result c.record_word-then-is_alike-2.result c.record_word-wide.ensures c.record_word.ensures
    c.record_word-then-is_alike.ensures c.record_word-then-is_alike-2.ensures c.if-wide-ne0.true
    ((c.is_alike.ensures a.head.now pl f v h (omega arith)).0 c.if-is_alike.true)

pub returns-then-is_configured : goal.returns-then-is_configured
returns-then-is_configured c =
    let a = c.args in
    λ pl f v h told. c.read_sizes.ensures pl f v h ∙ properties-read f a.row.0
    (sym (c.is_configured.ensures a.head.now pl f v h) ∙ c.if-is_configured.true)

pub returns : goal.returns
returns c =
    let a = c.args in
    λ pl f v h told. properties_wrong f a.row.0
    (sym (c.is_configured.ensures a.head.now pl f v h) ∙ c.if-is_configured.false)
