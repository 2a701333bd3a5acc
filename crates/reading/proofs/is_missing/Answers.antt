-- `reading::is_missing` meets its contract. Assumes nothing.
use mathlib.Core.Path.{◌≡◌, sym, ap, ◌∙◌, subst}
use mathlib.Core.List.{List}
use lib.ListN.{take}
use Rattle.std.proofs.Common.{rules, tests}
use Rattle.std.specs.List.{list_any}
use Rattle.std.proofs.lemmas.Iterator.{YieldsList-from_slice}
use Rattle.std.proofs.lemmas.Iterator.Search.{any_from_yields_List}
use Rattle.boxes.specs.declared.Spot.{Spot}
use Rattle.reading.specs.inner.Parts.{Missing}
use Rattle.reading.proofs.SpotLaws.{ends-at-0, missing_any}
use Rattle.reading.proofs.is_missing.Goals as goal

pub returns : goal.returns
returns c =
    let all : List Spot = take 5 c.args.spots in
    let e : c.any.result ≡ list_any ends-at-0 all =
    any_from_yields_List ends-at-0 _ _ c.any.result c.any.ensures.ran (YieldsList-from_slice all cc) (λ x b q k. search (rules, tests)) in
    λ bs a i. subst (Missing bs) (ap (λ (l : List Spot). list_any ends-at-0 (take 5 l)) (sym i) ∙ sym e) (missing_any bs a)
