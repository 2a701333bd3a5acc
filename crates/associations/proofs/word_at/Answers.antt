-- `associations::word_at` meets its contract. Assumes nothing.
use Rattle.associations.proofs.AssociationLaws.{word_left}
use Rattle.fields.specs.Field.{be_at}
use mathlib.Core.Path.{sym, ap, ◌∙◌}
use native.Mathlib.Omega.{arith}
use Rattle.associations.proofs.word_at.Goals as goal

pub returns-then-w-eq2 : goal.returns-then-w-eq2
returns-then-w-eq2 c =
    c.be16.ensures ∙ ap (be_at c.args.s.now c.args.at) (sym c.if-w-eq2.true)

pub be8-requires : goal.be8-requires
be8-requires c =
    let e = word_left c.args.w c.requires.1 c.if-w-eq2.false in
    omega arith

pub returns-else-w-eq2 : goal.returns-else-w-eq2
returns-else-w-eq2 c =
    let a = c.args in
    c.be8.ensures ∙ ap (be_at a.s.now a.at) (sym (word_left a.w c.requires.1 c.if-w-eq2.false))
