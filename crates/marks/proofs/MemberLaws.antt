-- The inputs that the table names as those of a scene. Assumes nothing.
use Prim.Native.Nat.{ℕ, ◌<◌}
use native.Mathlib.Omega.{arith}
use mathlib.Core.Path.{◌≡◌, sym, ◌∙◌}
use mathlib.Core.List.{List}
use mathlib.Core.Bool.{true}
use lib.ListN.{length}
use Rattle.fields.specs.Lists.{member}
use Rattle.fields.proofs.TestLaws.{member-at, member-place}
use Rattle.pictures.specs.Scene.{Scene, picture_at}
use Rattle.depths.specs.inner.Inputs.{InputsAre}
use Rattle.marks.specs.inner.Marks.{IsInput}

-- an input by the table is one of the scene's
module _ (t rows : List ℕ) (s : Scene) (i : InputsAre t rows s) (r : ℕ) (h : r < length s) where
  pub input-member : (x : ℕ) → IsInput t rows r x → member x (picture_at s r).inputs ≡ true
  input-member x (j, k, e) =
      let l : j < length (picture_at s r).inputs = omega (arith, i.count r h) in
      member-at x (picture_at s r).inputs j l (sym (i.row r j h l) ∙ e)

  pub member-input : (x : ℕ) → member x (picture_at s r).inputs ≡ true → IsInput t rows r x
  member-input x m = let p = member-place (picture_at s r).inputs x m in (p.0, omega (arith, i.count r h, p.1), i.row r p.0 h p.1 ∙ p.2)
