-- `judging::judge` meets its contract. Assumes nothing.
use mathlib.Core.Path.{refl, sym, ◌∙◌}
use Rattle.judging.proofs.JudgedLaws.{told-good, placed-all}
use Rattle.judging.proofs.PlainLaws.{plain-good, plain_off, plain_unmade}
use Rattle.judging.proofs.LinkedLaws.{few}
use Rattle.judging.proofs.JudgeLaws.{rowed_resolved, refused-by, read_here, early, followed, primary_off, primary-on, places_refused, places_kept}
use Rattle.judging.proofs.judge.Goals as goal

pub returns-then-not-good_primary : goal.returns-then-not-good_primary
returns-then-not-good_primary c =
    record {
      judged_by = λ f x w n. refused-by _ _ f x _ _ (primary_off _ _ x _ _ f w _
          (sym (c.if-not-good_primary.true) ∙ c.good_primary.ensures _ _ f (read_here _ _ x _ _ f w))
          (c.word.ensures ∙ (read_here _ _ x _ _ f w).primary));
      table_unchanged = refl;
    }

-- some item is made of others
pub returns-then-f-eq30 : goal.returns-then-f-eq30
returns-then-f-eq30 c =
    record {
      judged_by = λ f x w n. let v = read_here _ _ x _ _ f w in
          let r = rowed_resolved _ c.args.rows.now _ _ f v c.requires.1 in
          let primary = sym (c.if-not-good_primary.false) ∙ c.good_primary.ensures _ _ f v in
          primary-on _ _ x _ _ f w primary _ _ (c.judge_linked.ensures.places_by f x w n r);
      table_unchanged = c.judge_linked.ensures.table_unchanged;
    }

pub returns-in-Ok : goal.returns-in-Ok
returns-in-Ok c =
    record {
      judged_by = λ f x w n. let v = read_here _ _ x _ _ f w in
          let r = rowed_resolved _ c.args.rows.now _ _ f v c.requires.1 in
          let primary = sym (c.if-not-good_primary.false) ∙ c.good_primary.ensures _ _ f v in
          let good = sym (c.first_fault.ensures f (early _ _ x _ _ f w)) ∙ c.in-Ok.is in
          let kept = plain-good _ _ f good in
          let k = followed _ _ x _ _ f w _ (few _ _ c.well_formed.1.0) (placed-all _ _ f (told-good _ kept)) c.requires.2 n in
          primary-on _ _ x _ _ f w primary _ _ (places_kept _ _ x _ _ f w kept _ _ (c.judge_placed.ensures.rest_by f x w k r
          (λ i l m. absurd (plain_unmade _ _ f good v i l m))));
      table_unchanged = c.judge_placed.ensures.table_unchanged;
    }

pub returns-else-f-eq30 : goal.returns-else-f-eq30
returns-else-f-eq30 c =
    record {
      judged_by = λ f x w n. let v = read_here _ _ x _ _ f w in
          let primary = sym (c.if-not-good_primary.false) ∙ c.good_primary.ensures _ _ f v in
          primary-on _ _ x _ _ f w primary _ _ (places_refused _ _ x _ _ f w _ _ (plain_off _ _ f _
          (sym (c.first_fault.ensures f (early _ _ x _ _ f w)) ∙ c.in-Err.is) c.if-f-eq30.false));
      table_unchanged = refl;
    }
