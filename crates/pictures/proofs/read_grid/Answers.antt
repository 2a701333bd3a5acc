-- `pictures::read_grid` meets its contract. Assumes nothing.
use Rattle.pictures.proofs.GridLaws.{grid-version, grid-length, grid_wrong, grid-right}
use Rattle.pictures.specs.Recipe.{field_bytes}
use Rattle.fields.proofs.FieldLaws.{be_below}
use Rattle.std.proofs.Common.{sym, refl, ap, ◌∙◌, arith}
use Rattle.pictures.proofs.read_grid.Goals as goal
use Rattle.pictures.proofs.read_grid.Goals.{then-b-lt4-via-then-b-lt4, then-b-lt4-via-else-b-lt4+then-be8-ne0}

pub returns-then-b-lt4 : goal.returns-then-b-lt4
returns-then-b-lt4 c =
    let s = c.args.b.now in
    elim c.then-b-lt4.branch [
      | then-b-lt4-via-then-b-lt4 w ↦ sym (grid_wrong _ (grid-length 0 s _ refl (λ e. omega arith)))
      | then-b-lt4-via-else-b-lt4+then-be8-ne0 w ↦ sym (grid_wrong _ (grid-version 0 s (λ e. w.if-be8-ne0.true (w.be8.ensures ∙ e))))
    ]

pub returns-then-b-w : goal.returns-then-b-w
returns-then-b-w c =
    let s = c.args.b.now in
    sym (grid_wrong _ (grid-length 0 s _ (c.bytes_of-w.ensures.0 ∙ ap field_bytes c.be8-2.ensures)
    c.if-b-w.true))

pub overflow_add-result : goal.overflow_add-result
overflow_add-result c =
    omega (arith, be_below c.args.b.now 2 1 c.type_inv.b, c.be8-3.ensures)

pub overflow_add-result-2 : goal.overflow_add-result-2
overflow_add-result-2 c =
    omega (arith, be_below c.args.b.now 3 1 c.type_inv.b, c.be8-4.ensures)

pub returns : goal.returns
returns c =
    rw (c.be8-3.ensures, c.be8-4.ensures, c.be_id.ensures, c.be_id-2.ensures)
    (grid-right 0 c.args.b.now _ (c.bytes_of-w.ensures.0 ∙ ap field_bytes c.be8-2.ensures)
    c.if-b-w.false (sym c.be8.ensures ∙ c.if-be8-ne0.false))
