-- `derived::joined_grid` meets its contract. Assumes nothing.
use native.Mathlib.Omega.{arith}
use mathlib.Core.List.{List}
use mathlib.Core.Path.{sym, ap, ◌∙◌}
use Prim.Native.Nat.{ℕ}
use lib.Seq.{length-take-le}
use Rattle.forms.specs.Form.{whole}
use Rattle.pictures.specs.Recipe.{grid_form}
use Rattle.pictures.specs.inner.Told.{told_grid}
use Rattle.pictures.proofs.GridLaws.{grid_wrong}
use Rattle.derived.proofs.SaidLaws.{grid-long, front-whole}
use Rattle.derived.proofs.joined_grid.Goals as goal

pub returns-then-f-gt-LONGEST_GRID : goal.returns-then-f-gt-LONGEST_GRID
returns-then-f-gt-LONGEST_GRID c =
    λ total f w h b e. sym (grid_wrong _ (grid-long b
    (omega (arith, c.if-f-gt-LONGEST_GRID.true, (c.front_of-f.ensures.by_index total f w h b e).0))))

pub slice_bounds-bytes-end : goal.slice_bounds-bytes-end
slice_bounds-bytes-end c = omega (arith, c.if-f-gt-LONGEST_GRID.false, c.front_of-f.ensures.bytes_len)

pub slice_bounds-read_grid-end : goal.slice_bounds-read_grid-end
slice_bounds-read_grid-end c =
    sym (length-take-le c.front_of-f.result.size c.front_of-f.result.bytes
    (omega (arith, c.if-f-gt-LONGEST_GRID.false, c.front_of-f.ensures.bytes_len)))

pub returns : goal.returns
returns c =
    λ total f w h b e.
    let x = c.front_of-f.ensures.by_index total f w h b e in
    c.read_grid.ensures ∙ ap (λ (s : List ℕ). told_grid (whole grid_form 0 s))
    (front-whole b c.front_of-f.result.bytes c.front_of-f.result.size c.front_of-f.ensures.bytes_len x.0 (omega (arith, c.if-f-gt-LONGEST_GRID.false)) x.1)
