-- `derived::front_of` meets its contract. Assumes nothing.
use Prim.Native.Nat.{◌≤◌, ◌<◌}
use native.Mathlib.Omega.{arith}
use mathlib.Core.Path.{◌≡◌, refl}
use lib.ListN.{replicate, get_or-replicate}
use Rattle.derived.proofs.JoinedLaws.{size-told, size-known, joined-part}
use Rattle.derived.proofs.SaidLaws.{front-is}
use Rattle.derived.proofs.front_of.Goals as goal

pub returns : goal.returns
returns c =
    let a = c.args in
    let n = c.min-n.result in
    let few : (n ≤ c.length_of-size.result) × (n ≤ 18) × (n < c.length_of-size.result → n ≡ 18) = (omega arith, omega arith, λ l. omega arith) in
    record {
      by_index = λ total f w h b e.
          let z = size-known w a.row.0 h b e c.length_of-size.result (size-told w a.row.0 h c.length_of-size.result c.length_of-size.ensures) in (
            z,
            front-is b (replicate 18 0) _ n refl (λ i l. get_or-replicate 18 i 0 0 l) (omega (arith, few.0)) few.1
                (λ l. few.2 (omega arith))
                (joined-part w a.row.0 h b e 0 n (omega (arith, few.0)) (replicate 18 0) _ few.1 c.copy_bytes.ensures.by_index),
          );
      bytes_len = c.copy_bytes.ensures.out_len_unchanged;
    }
