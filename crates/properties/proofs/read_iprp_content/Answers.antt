-- `properties::read_iprp_content` meets its contract. Assumes nothing.
use Rattle.std.proofs.lemmas.Result.{err_from_is_err_and}
use Rattle.properties.proofs.ShownLaws.{shown-within, shown-both, shown-children, shown-other}
use Rattle.properties.proofs.read_iprp_content.Goals as goal

pub returns-in_err-l : goal.returns-in_err-l
returns-in_err-l c =
    let a = c.args in
    let p = err_from_is_err_and c.from_residual.result c.from_residual.ensures.1 in
    let w = shown-children a.s.now a.place a.base a.n a.table.now _ c.in_err-l.ensures in
    record { value = rw (p.1, p.2) w.0; shown_left = w.1 }

pub read_pair-requires : goal.read_pair-requires
read_pair-requires c =
    let a = c.args in
    let p = c.requires in
    let w = shown-within a.s.now a.place a.base a.n a.table.now _ c.in_ok-l.ensures c.if-l-eq2.true in
    (w.0, w.1, w.2, w.3, p.0, p.1, p.2)

pub returns-then-l-eq-IPMA : goal.returns-then-l-eq-IPMA
returns-then-l-eq-IPMA c =
    let a = c.args in
    let w = shown-both a.s.now a.place a.base a.n a.table.now _ c.in_ok-l.ensures
    c.if-l-eq2.true c.if-l-eq-IPCO.true c.if-l-eq-IPMA.true _ _ (c.read_pair.ensures.value, c.read_pair.ensures.pair_left) in
    record { value = w.0; shown_left = w.1 }

pub returns : goal.returns
returns c =
    let a = c.args in
    let w = shown-other a.s.now a.place a.base a.n a.table.now _ c.in_ok-l.ensures c.else-l-eq2.either in
    record { value = w.0; shown_left = w.1 }
