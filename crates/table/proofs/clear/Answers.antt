-- `table::clear` meets its contract. Assumes nothing.
use Prim.Native.Nat.{ℕ}
use mathlib.Core.Path.{◌≡◌, sym, ap, ◌∙◌}
use lib.ListN.{replicate, length-take}
use borrow.Author.Tests.{lt-ltb, le-ltb}
use native.Mathlib.Omega.{arith}
use Rattle.fields.proofs.FieldLaws.{pick_yes, pick_no}
use Rattle.table.specs.inner.Clear.{cleared}
use Rattle.table.proofs.clear.Goals as goal

pub returns-then-table-ge-WORDS : goal.returns-then-table-ge-WORDS
unfolding cleared
returns-then-table-ge-WORDS c =
    let e : c.fill.new.self ≡ replicate 11280 0 =
    c.fill.ensures.after (λ y q. q) ∙ ap (λ (k : ℕ). replicate k 0) {y = 11280} (rw length-take (omega arith)) in
    rw e (sym (pick_no _ _ (le-ltb _ _ c.if-table-ge-WORDS.true)))

pub returns-else-table-ge-WORDS : goal.returns-else-table-ge-WORDS
unfolding cleared
returns-else-table-ge-WORDS c = sym (pick_yes _ _ (lt-ltb _ _ (omega (arith, c.if-table-ge-WORDS.false))))
