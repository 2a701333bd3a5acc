-- `sketch::open_turns` is safe and ends. The measure is 2^64 - j, since the count that j stays below is a number of 64 bits. Assumes nothing.
use Rattle.std.proofs.Common.{◌-◌}
use Rattle.sketch.proofs.turns.+open_turns.Given as goal

abbrev pub decreases-open_turns : goal.decreases-open_turns
decreases-open_turns l = 18446744073709551616 - l.j
