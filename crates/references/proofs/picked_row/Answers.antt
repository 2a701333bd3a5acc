-- `references::picked_row` meets its contract. Assumes nothing.
use mathlib.Core.Path.{◌∙◌}
use Rattle.references.proofs.NameLaws.{width-inside, picked-at, picked_missing}
use native.Mathlib.Omega.{arith}
use Rattle.references.proofs.picked_row.Goals as goal

pub be_id-id-requires : goal.be_id-id-requires
be_id-id-requires c =
    let p = c.requires.in_bounds in
    (omega (arith, width-inside c.args.w _ _ p.2 c.if-k-j.false, p.4), p.2)

pub returns-in-None : goal.returns-in-None
returns-in-None c =
    picked_missing c.args.table.now c.args.n _ _ c.in-None.ensures c.be_id-id.ensures (c.requires.by_index _ c.if-k-j.false)

pub returns-in-Some : goal.returns-in-Some
returns-in-Some c =
    let a = c.args in
    let g = c.in-Some.ensures in (
      omega (arith, g.0, c.requires.in_bounds.1),
      picked-at a.table.now a.n a.k _ a.mark c.if-mark-lt258.false
          c.if-k-j.false _ g.0 (g.1 ∙ c.be_id-id.ensures),
    )
