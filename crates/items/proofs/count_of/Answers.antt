-- `items::count_of` meets its contract. Assumes nothing.
use mathlib.Core.Logic.{⊎_elim}
use Rattle.items.proofs.FieldLaws.{count-short, count-many, count-is}
use native.Mathlib.Omega.{arith}
use Rattle.items.proofs.count_of.Goals as goal

pub overflow_add-w : goal.overflow_add-w
overflow_add-w c = ⊎_elim (λ e. omega arith) (λ e. omega arith) c.requires.1

pub returns-then-s-w : goal.returns-then-s-w
returns-then-s-w c =
    let a = c.args in
    λ h e w. count-short a.place a.s.now h _ c.requires.0 e w c.if-s-w.true

pub returns-then-n-gt256 : goal.returns-then-n-gt256
returns-then-n-gt256 c =
    let a = c.args in
    λ h e w. count-many a.place a.s.now h _ c.requires.0 e w c.if-s-w.false _ c.be_id-n.ensures
    c.if-n-gt256.true

pub returns : goal.returns
returns c =
    let a = c.args in
    λ h e w. (
      count-is a.place a.s.now h _ c.requires.0 e w c.if-s-w.false _ c.be_id-n.ensures
          c.if-n-gt256.false,
      c.if-s-w.false,
      c.if-n-gt256.false,
    )
