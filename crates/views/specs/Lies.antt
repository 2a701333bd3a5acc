-- Where a part of lent bytes lies: a reference points to a block and a place in it.
--   LiesAt base n place     what `place` points to begins n bytes behind what `base` points to, in the same block
use Rattle.std.specs.Prelude.{ℕ, ◌+◌, ◌≡◌}

abbrev pub LiesAt : ℕ × ℕ → ℕ → ℕ × ℕ → Type 0
LiesAt base n place = (place.0 ≡ base.0) × (place.1 ≡ base.1 + n)
