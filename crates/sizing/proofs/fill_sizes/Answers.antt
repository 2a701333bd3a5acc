-- `sizing::fill_sizes` meets its contract. The loop's invariant: the rows passed are filled and keep 15, 29 and 16, the
-- others are as they were. Assumes nothing.
use native.Mathlib.Omega.{arith}
use mathlib.Core.Path.{refl, sym, ◌∙◌}
use Rattle.std.proofs.lemmas.Option.{none-some}
use Rattle.rules.specs.Places.{places_in}
use Rattle.sizing.proofs.FillLaws.{read_here, judging-here, filled_begun, filled_more, filled-done}
use Rattle.sizing.proofs.StandLaws.{stands_begun, stands-more, stands-refused, stands-done}
use Rattle.sizing.proofs.fill_sizes.Goals as goal

pub returns-then-table-lt-WORDS : goal.returns-then-table-lt-WORDS
returns-then-table-lt-WORDS c = record {
  by_index = λ total f x few e q. absurd (omega (arith, c.if-table-lt-WORDS.true, (read_here total _ f x _ e q).enough));
  table_filled = λ total f x few e placed q g z. absurd (omega (arith, c.if-table-lt-WORDS.true, (read_here total _ f x _ e q).enough));
  table_unchanged = refl;
}

pub returns-then-n-gt256 : goal.returns-then-n-gt256
returns-then-n-gt256 c = record {
  by_index = λ total f x few e q. let w = read_here total _ f x _ e q in
      absurd (omega (arith, c.item_count-n.ensures, w.items, w.bounded.few-items));
  table_filled = λ total f x few e placed q g z. let w = read_here total _ f x _ e q in
      absurd (omega (arith, c.item_count-n.ensures, w.items, w.bounded.few-items));
  table_unchanged = refl;
}

pub loop-k-init : goal.loop-k-init
loop-k-init c =
    let a = c.args in
    (refl, refl, stands_begun a.head.now a.table.now, filled_begun a.head.now a.depths.now a.table.now)

pub returns-in-Some : goal.returns-in-Some
returns-in-Some c =
    let a = c.args in
    let q = c.loop-k in
    record {
      by_index = λ total f x few e z. stands-refused a.head.now a.table.now _ q.k q.table c.item_count-n.ensures q.invariant.2 _ c.loop-k-test.true
          c.in-Some.number c.in-Some.ensures.value (c.in-Some.ensures.table_unchanged (λ e. none-some _ (sym e))) _ c.id_of.ensures
          (places_in total a.head.now) f (read_here total _ f x _ e z) (judging-here total a.head.now f x _ z);
      table_filled = λ total f x few e placed z g i. cc;
      table_unchanged = c.in-Some.ensures.table_unchanged_2 ∙ q.invariant.1;
    }

pub loop-k-preserved : goal.loop-k-preserved
loop-k-preserved c =
    let a = c.args in
    let q = c.loop-k in (
      omega arith,
      c.fill_row-fault.ensures.table_unchanged_2 ∙ q.invariant.1,
      stands-more a.head.now a.table.now _ q.k q.table c.item_count-n.ensures q.invariant.2 _ c.loop-k-test.true c.word.result
          c.in_default.ensures.value (λ pl f v h told. c.in_default.ensures.table_after pl f v h told refl),
      filled_more a.head.now a.depths.now a.table.now _ q.k q.table c.item_count-n.ensures q.invariant.3 c.word.result
          _ c.loop-k-test.true c.word.ensures
          (λ pl f v j. (q.invariant.2 pl f v j).told) (λ pl f v h told. c.in_default.ensures.table_after pl f v h told refl),
    )

pub returns : goal.returns
returns c =
    let a = c.args in
    let q = c.loop-k in
    record {
      by_index = λ total f x few e z. stands-done a.head.now a.table.now _ q.k q.table c.item_count-n.ensures q.invariant.2 (omega arith)
          (places_in total a.head.now) f (read_here total _ f x _ e z) (judging-here total a.head.now f x _ z);
      table_filled = λ total f x few e placed z g i. filled-done a.head.now a.depths.now a.table.now _ q.k q.table
          c.item_count-n.ensures q.invariant.3 (omega arith) total f x few e placed z g;
      table_unchanged = q.invariant.1;
    }
