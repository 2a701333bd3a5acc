-- `linking::unfollowed` meets its contract. Assumes nothing.
use Prim.Native.Nat.{◌+◌}
use native.Mathlib.Omega.{arith}
use mathlib.Core.Path.{◌≡◌, ◌∙◌}
use mathlib.Core.Logic.{inl, inr}
use Rattle.linking.proofs.ByteLaws.{byte-first, past_one, is_none}
use Rattle.linking.proofs.unfollowed.Goals as goal
use Rattle.linking.proofs.unfollowed.Goals.{then-held_word-eq2, else-held_word-eq2}

pub returns-in-None : goal.returns-in-None
returns-in-None c =
    let a = c.args in
    λ h l v. byte-first a.table.now v a.row.0 c.held_word.result c.if-held_word-eq2.level 32 (c.held_word.ensures h)
    (elim c.if-held_word-eq2.branch [
      | then-held_word-eq2 w ↦ inl (w.if-held_word-eq2.true, w.level-is)
      | else-held_word-eq2 w ↦ inr (w.if-held_word-eq2.false, w.level-is)
    ])
    (past_one a.table.now a.row.0 (c.in-None.ensures h l))

pub returns-in-Some : goal.returns-in-Some
returns-in-Some c =
    let a = c.args in
    λ h l v.
    let e : c.if-held_word-eq2.level ≡ c.if-held_word-eq2.level + 0 = omega arith in
    e ∙ byte-first a.table.now v a.row.0 c.held_word.result c.if-held_word-eq2.level 0 (c.held_word.ensures h)
    (elim c.if-held_word-eq2.branch [
      | then-held_word-eq2 w ↦ inl (w.if-held_word-eq2.true, w.level-is)
      | else-held_word-eq2 w ↦ inr (w.if-held_word-eq2.false, w.level-is)
    ])
    (is_none a.table.now a.row.0 _ (c.in-Some.ensures h l))
