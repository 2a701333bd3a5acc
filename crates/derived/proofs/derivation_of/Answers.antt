-- `derived::derivation_of` meets its contract. A table that is a file's is long enough. Assumes nothing.
use native.Mathlib.Omega.{arith}
use mathlib.Core.Path.{sym, ◌∙◌}
use Rattle.rules.specs.Joined.{item_at}
use Rattle.views.proofs.TableLaws.{type-read}
use Rattle.derived.proofs.RecipeLaws.{type-copy, type_tiles, type_layers}
use Rattle.derived.proofs.derivation_of.Goals as goal

pub returns-then-table-lt-WORDS : goal.returns-then-table-lt-WORDS
returns-then-table-lt-WORDS c = λ total f w h known d. absurd (omega (arith, w.view.enough))

pub returns-then-kind-eq-IDEN : goal.returns-then-kind-eq-IDEN
returns-then-kind-eq-IDEN c =
    λ total f w h known d.
    let kind = type-read w.view c.args.row.0 h _ c.type_of-kind.ensures in
    c.copy_of.ensures total _ _ f w.view h ∙ type-copy total _ f (item_at f c.args.row.0)
    (sym kind ∙ c.if-kind-eq-IDEN.true)

pub returns-then-kind-eq-GRID : goal.returns-then-kind-eq-GRID
returns-then-kind-eq-GRID c =
    λ total f w h known d.
    let kind = type-read w.view c.args.row.0 h _ c.type_of-kind.ensures in
    c.tiles_of.ensures total f w h known ∙ type_tiles total _ f (item_at f c.args.row.0)
    (λ q. c.if-kind-eq-IDEN.false (kind ∙ q)) (sym kind ∙ c.if-kind-eq-GRID.true)

pub returns : goal.returns
returns c =
    λ total f w h known d.
    let kind = type-read w.view c.args.row.0 h _ c.type_of-kind.ensures in
    c.layers_of.ensures total f w h known ∙ type_layers total _ f (item_at f c.args.row.0)
    (λ q. c.if-kind-eq-IDEN.false (kind ∙ q)) (λ q. c.if-kind-eq-GRID.false (kind ∙ q))
