-- `properties::has_length` meets its contract. Assumes nothing.
use mathlib.Core.Path.{sym, ap}
use Rattle.boxes.specs.Told.{told}
use Rattle.properties.proofs.CheckLaws.{bytes_whole, bytes-other}
use Rattle.properties.proofs.has_length.Goals as goal

pub returns-then-s-n : goal.returns-then-s-n
unfolding told
returns-then-s-n c =
    let a = c.args in
    sym (ap (told (λ u. u)) (bytes_whole a.n a.place a.s.now c.if-s-n.true))

pub returns-else-s-n : goal.returns-else-s-n
unfolding told
returns-else-s-n c =
    let a = c.args in
    sym (ap (told (λ u. u)) (bytes-other a.n a.place a.s.now c.if-s-n.false))
