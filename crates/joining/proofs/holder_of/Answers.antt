-- `joining::holder_of` meets its contract. Assumes nothing.
use Prim.Native.Nat.{◌+◌, ◌-◌}
use native.Mathlib.Omega.{arith}
use Rattle.joining.proofs.PlaceLaws.{holder_inside, holder_read}
use Rattle.joining.proofs.holder_of.Goals as goal

pub returns : goal.returns
returns c =
    let a = c.args in
    let f = c.held_word-first.result in
    let k = c.held_word.result in
    record {
      value = λ h l. holder_read a.table.now a.row.0 a.p f k c.seek.result (c.held_word-first.ensures h)
          (c.held_word.ensures h) c.seek.ensures;
      by_index = holder_inside a.table.now f (f + k - f) a.p c.seek.result c.seek.ensures (omega arith);
    }
