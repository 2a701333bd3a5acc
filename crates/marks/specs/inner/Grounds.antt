-- Marks that spread from inputs to what rests on them: where every row is marked, none is derived from itself.
--   Grounded t rows n marks    what is marked rests on what is marked, and none of it is derived from itself
--   Ground t rows old new grew    marks are added, and what is marked stays grounded
use Rattle.std.specs.Prelude.{ℕ, ◌<◌, ◌≡◌, List, Bool, length}
use Rattle.pictures.specs.Scene.{Scene}
use Rattle.pictures.specs.Depth.{Derives}
use Rattle.depths.specs.inner.Inputs.{InputsAre}
use Rattle.marks.specs.inner.Marks.{Marked, IsInput, Grown}

pub record Grounded (t rows : List ℕ) (n : ℕ) (marks : List ℕ) : Type 0 where
  pub closed : (r x : ℕ) → Marked marks r → IsInput t rows r x → Marked marks x
  pub apart : (s : Scene) → length s ≡ n → InputsAre t rows s → (r : ℕ) → r < n → Marked marks r → Derives s r r → ⊥

pub record Ground (t rows old new : List ℕ) (grew : Bool) : Type 0 where
  pub grown : Grown old new grew
  pub kept : (n : ℕ) → Grounded t rows n old → Grounded t rows n new
