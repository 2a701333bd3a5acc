-- `items::clear_keys` meets its contract. Assumes nothing.
use Prim.Native.Nat.{ℕ, ◌≤◌}
use native.Mathlib.Omega.{arith}
use mathlib.Core.Path.{◌≡◌, ap, ◌∙◌}
use mathlib.Core.List.{List, ◌++◌, append-nil}
use lib.ListN.{length, take, drop, replicate, length-take, length-drop, drop_of_length-le}
use Rattle.records.specs.inner.Keys.{no_key}
use Rattle.items.proofs.clear_keys.Goals as goal

-- the upper half of 512 words, written
upper_half : (m x : List ℕ) → length m ≡ 512 → x ≡ replicate (length (take 256 (drop 256 m))) no_key →
    take 256 m ++ (x ++ drop 256 (drop 256 m)) ≡ take 256 m ++ replicate 256 no_key
upper_half m x h e =
    let n : length (take 256 (drop 256 m)) ≡ 256 = simp (length-take, length-drop) (omega arith) in
    let l : length (drop 256 m) ≤ 256 = simp length-drop (omega arith) in
    ap (λ (y : List ℕ). take 256 m ++ (x ++ y)) (drop_of_length-le (drop 256 m) l)
    ∙ ap (λ (y : List ℕ). take 256 m ++ y) (append-nil x ∙ e ∙ ap (λ (k : ℕ). replicate k no_key) n)

pub returns : goal.returns
returns c = upper_half c.args.keys.now _ c.requires (c.fill.ensures.after (λ y q. q))
