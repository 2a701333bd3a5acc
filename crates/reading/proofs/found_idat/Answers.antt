-- `reading::found_idat` meets its contract. Assumes nothing.
use mathlib.Core.Path.{sym, ap, ◌∙◌}
use mathlib.Core.List.{List}
use lib.ListN.{get_or}
use Rattle.boxes.specs.declared.Spot.{Spot}
use Rattle.reading.proofs.SpotLaws.{no_idat, idat-is, idat-within}
use native.Mathlib.Omega.{arith}
use Rattle.reading.proofs.found_idat.Goals as goal

pub returns-then-d-eq0 : goal.returns-then-d-eq0
returns-then-d-eq0 c =
    λ s st. no_idat s c.args.at _ st (ap (λ (l : List Spot). (get_or l 6
    (record { start = 0; body = 0; end = 0 })).end) (sym st.spots_are) ∙ c.if-d-eq0.true)

pub overflow_add-result : goal.overflow_add-result
overflow_add-result c =
    let p = c.requires in
    let h = idat-within p.0 c.args.at _ p.1 p.2 in
    omega arith

pub overflow_add-result-2 : goal.overflow_add-result-2
overflow_add-result-2 c =
    let p = c.requires in
    let h = idat-within p.0 c.args.at _ p.1 p.2 in
    omega arith

pub returns : goal.returns
returns c = λ s st. idat-is s c.args.at _ st c.if-d-eq0.false
