-- `tracing::source_of` meets its contract, by the item's type; an image item of no other type is coded. Assumes nothing.
use Rattle.std.proofs.Common.{◌≡◌, sym, ◌∙◌, arith}
use Rattle.views.proofs.TableLaws.{type-read}
use Rattle.tracing.proofs.TraceLaws.{coded_source}
use Rattle.tracing.proofs.source_of.Goals as goal

pub returns-in-1768187246 : goal.returns-in-1768187246
returns-in-1768187246 c =
    λ total f v h i l. c.copied_at.ensures total _ f v h
    (sym (type-read v.followed.view c.args.row.0 h _ c.type_of.ensures) ∙ c.in-1768187246.is)

pub returns-in-1735551332 : goal.returns-in-1735551332
returns-in-1735551332 c =
    λ total f v h i l. c.gridded_at.ensures total f v h
    (sym (type-read v.followed.view c.args.row.0 h _ c.type_of.ensures) ∙ c.in-1735551332.is) l

pub returns-in-1768912492 : goal.returns-in-1768912492
returns-in-1768912492 c =
    λ total f v h i l. c.layered_at.ensures total f v h
    (sym (type-read v.followed.view c.args.row.0 h _ c.type_of.ensures) ∙ c.in-1768912492.is)

pub returns-in_default : goal.returns-in_default
returns-in_default c =
    λ total f v h i l.
    let e = type-read v.followed.view c.args.row.0 h _ c.type_of.ensures in
    coded_source v c.args.row.0 h i (λ q. let z : c.type_of.result ≡ 1768187246 = e ∙ q in omega arith)
    (λ q. let z : c.type_of.result ≡ 1735551332 = e ∙ q in omega arith) (λ q. let z : c.type_of.result ≡ 1768912492 = e ∙ q in omega arith) _
