-- `judging::judge_linked` meets its contract. Assumes nothing.
use native.Mathlib.Omega.{arith}
use mathlib.Core.Path.{refl, sym, ◌∙◌}
use Rattle.judging.proofs.JudgedLaws.{handed, told-good, placed-all}
use Rattle.judging.proofs.JudgeLaws.{read_here, early, followed, places_refused, places_kept, places-handed}
use Rattle.judging.proofs.LinkedLaws.{few, runs_for}
use Rattle.judging.proofs.judge_linked.Goals as goal

-- no table that is a file's is shorter, or has more items
pub returns-then-table-lt-WORDS : goal.returns-then-table-lt-WORDS
returns-then-table-lt-WORDS c = record {
  places_by = λ f x w n r. absurd
      (omega (arith, (read_here _ _ x _ _ f w).enough, c.if-table-lt-WORDS.true));
  table_unchanged = refl;
}

pub returns-then-n-gt256 : goal.returns-then-n-gt256
returns-then-n-gt256 c = record {
  places_by = λ f x w n r. let v = read_here _ _ x _ _ f w in
      absurd (omega (arith, v.items, v.bounded.few-items, c.item_count-n.ensures, c.if-n-gt256.true));
  table_unchanged = refl;
}

pub returns-in_err-first_unplaced : goal.returns-in_err-first_unplaced
returns-in_err-first_unplaced c =
    let g = handed c.from_residual.result _ c.from_residual.ensures.1 in
    record {
      places_by = λ f x w n r.
          let v = read_here _ _ x _ _ f w in
          places-handed _ _ f x _ _ _ g (places_refused _ _ x _ _ f w _ _ (sym (c.in_err-first_unplaced.ensures _ f (early _ _ x _ _ f w) n
          c.links_of-links.ensures (c.item_count-n.ensures ∙ v.items))));
      table_unchanged = refl;
    }

pub returns : goal.returns
returns c =
    record {
      places_by = λ f x w n r.
          let v = read_here _ _ x _ _ f w in
          let all = c.item_count-n.ensures ∙ v.items in
          let good = sym (c.in_ok-first_unplaced.ensures _ f (early _ _ x _ _ f w) n c.links_of-links.ensures all) in
          let k = followed _ _ x _ _ f w _ (few _ _ c.well_formed.1.0) (placed-all _ _ f (told-good _ good)) c.requires.1 n in
          places_kept _ _ x _ _ f w good _ _ (c.judge_placed.ensures.rest_by f x w k r
          (runs_for _ all k c.links_of-links.result c.runs_of-runs.result _ c.links_of-links.ensures
          c.runs_of-runs.ensures));
      table_unchanged = c.judge_placed.ensures.table_unchanged;
    }
