-- `properties::read_pair` meets its contract. Assumes nothing.
use lib.ListN.{take, drop}
use Prim.Native.Nat.{◌-◌}
use native.Mathlib.Omega.{arith}
use Rattle.std.proofs.lemmas.Result.{err_from_is_err_and}
use Rattle.properties.proofs.PairLaws.{pair_properties, pair_few, pair_names, pair_shown_lem}
use Rattle.properties.proofs.read_pair.Goals as goal

pub returns-in_err-m : goal.returns-in_err-m
returns-in_err-m c =
    let a = c.args in
    let p = err_from_is_err_and c.from_residual.result c.from_residual.ensures.1 in
    let w = pair_properties a.table.now a.n a.base a.b0 a.e0 (take (a.e0 - a.b0) (drop a.b0 a.s.now))
    (take (a.e1 - a.b1) (drop a.b1 a.s.now)) _ c.in_err-m.ensures.properties_left _ c.in_err-m.ensures.value in
    record { value = rw (p.1, p.2) w.0; pair_left = w.1 }

pub overflow_cast-m : goal.overflow_cast-m
overflow_cast-m c =
    let a = c.args in
    let k = pair_few a.table.now a.n a.base a.b0 a.e0 (take (a.e0 - a.b0) (drop a.b0 a.s.now))
    (take (a.e1 - a.b1) (drop a.b1 a.s.now)) _ c.in_ok-m.ensures.properties_left _ c.in_ok-m.ensures.value in
    omega arith

pub returns-in_err-k : goal.returns-in_err-k
returns-in_err-k c =
    let a = c.args in
    let p = err_from_is_err_and c.from_residual-in_err-k.result c.from_residual-in_err-k.ensures.1 in
    let w = pair_names a.table.now a.n a.base a.b0 a.e0 (take (a.e0 - a.b0) (drop a.b0 a.s.now))
    (take (a.e1 - a.b1) (drop a.b1 a.s.now)) _ c.in_ok-m.ensures.properties_left _ c.in_ok-m.ensures.value
    c.requires.5 _ c.in_err-k.ensures.names_left _ c.in_err-k.ensures.value in
    record { value = rw (p.1, p.2) w.0; pair_left = w.1 }

pub returns : goal.returns
returns c =
    let a = c.args in
    let w = pair_shown_lem a.table.now a.n a.base a.b0 a.e0 (take (a.e0 - a.b0) (drop a.b0 a.s.now))
    (take (a.e1 - a.b1) (drop a.b1 a.s.now)) _ c.in_ok-m.ensures.properties_left _ c.in_ok-m.ensures.value
    c.requires.5 _ c.in_ok-k.ensures.names_left _ c.in_ok-k.ensures.value in
    record { value = w.0; pair_left = w.1 }
