-- `items::read_info` meets its contract. Assumes nothing.
use Prim.Native.Nat.{ℕ}
use mathlib.Core.Path.{◌≡◌, subst}
use mathlib.Core.Bool.{true, false}
use mathlib.Core.Logic.{⊎_elim}
use Rattle.fields.specs.Lists.{member}
use Rattle.contents.specs.Iinf.{ids_of}
use Rattle.items.proofs.FieldLaws.{infe-short, infe_taken, infe-cut, infe-is}
use native.Mathlib.Omega.{arith}
use Rattle.items.proofs.read_info.Goals as goal

pub overflow_add-w : goal.overflow_add-w
overflow_add-w c = ⊎_elim (λ e. omega arith) (λ e. omega arith) c.requires.1

pub returns-then-s-w : goal.returns-then-s-w
returns-then-s-w c =
    let a = c.args in
    λ v h w before k. infe-short before a.place a.s.now v _ _ c.requires.0 h w c.if-s-w.true

pub returns-in_default : goal.returns-in_default
returns-in_default c =
    let a = c.args in
    λ v h w before k. infe_taken before a.place a.s.now v _ _ c.requires.0 h w c.if-s-w.false
    (subst (λ (x : ℕ). member x (ids_of before) ≡ true) c.be_id.ensures (c.in_default.ensures _ k))

pub returns-then-s-w-2 : goal.returns-then-s-w-2
returns-then-s-w-2 c =
    let a = c.args in
    λ v h w before k. infe-cut before a.place a.s.now v _ _ c.requires.0 h w c.if-s-w.false
    (subst (λ (x : ℕ). member x (ids_of before) ≡ false) c.be_id.ensures (c.in-Some.ensures _ k).0) c.if-s-w-2.true

pub returns : goal.returns
returns c =
    let a = c.args in
    λ v h w before k. let r = c.in-Some.ensures _ k in (
      rw (c.be_id.ensures, c.be32.ensures, c.be16.ensures)
          (infe-is before a.place a.s.now v _ _ c.requires.0 h w c.if-s-w.false
          (subst (λ (x : ℕ). member x (ids_of before) ≡ false) c.be_id.ensures r.0) c.if-s-w-2.false),
      r.1,
    )
