-- What is known of an input that was read. Which bytes came no contract can say.
-- AtLeast kept: the count includes the bytes that were kept; nothing where a read failed.
-- Within head: the bytes that were kept stand in the head, and the count includes them; nothing where a read failed.
use Rattle.std.specs.Prelude.{ℕ, ◌≤◌, List, Option, IfSome}
use Rattle.io.specs.Counts.{IsPrefixLen}
use Rattle.input.specs.declared.Input.{Input}

abbrev pub AtLeast : ℕ → Option ℕ → Type 0
AtLeast kept counted = IfSome counted (λ total. kept ≤ total)

abbrev pub Within : List ℕ → Option Input → Type 0
Within head read = IfSome read (λ i. IsPrefixLen i.here head × (i.here ≤ i.total))
