-- `references::put_reference` meets its contract. Assumes nothing.
use mathlib.Core.Path.{sym, ◌∙◌}
use Rattle.records.proofs.KeptLaws.{kept_same}
use Rattle.references.proofs.PutLaws.{put_source_cut, put_source_unlisted, put_source_twice, source_fresh}
use Rattle.references.proofs.RowedLaws.{no_targets}
use Rattle.references.proofs.put_reference.Goals as goal

pub returns-then-s-w : goal.returns-then-s-w
returns-then-s-w c =
    let a = c.args in record {
      kept = kept_same _;
      by_index = λ kind before e q marked links. put_source_cut a.table.now a.n a.w a.place a.used
          a.s.now kind before q c.if-s-w.true _ _ _;
      by_index_2 = λ m e. no_targets _ m e;
    }

pub returns-then-is_second : goal.returns-then-is_second
returns-then-is_second c =
    let a = c.args in
    let g = c.in-Some.ensures in
    record {
      kept = kept_same _;
      by_index = λ kind before e q marked links. put_source_twice a.table.now a.n a.w
          a.place a.used
          a.s.now kind before q c.if-s-w.false _ g.0 (g.1 ∙ c.be_id.ensures) a.rows.now a.purpose e
          marked links (sym c.is_second.ensures ∙ c.if-is_second.true) _ _;
      by_index_2 = λ m e. no_targets _ m e;
    }

pub put_counted-requires : goal.put_counted-requires
put_counted-requires c =
    let a = c.args in
    let g = c.in-Some.ensures in
    record { in_bounds = c.requires; w_in_bounds = (c.if-s-w.false, g.0, g.1 ∙ c.be_id.ensures) }

pub returns-in-None : goal.returns-in-None
returns-in-None c =
    let a = c.args in record {
      kept = kept_same _;
      by_index = λ kind before e q marked links. put_source_unlisted a.table.now a.n a.w a.place
          a.used a.s.now kind before q c.if-s-w.false _ c.be_id.ensures
          c.in-None.ensures _ _ _;
      by_index_2 = λ m e. no_targets _ m e;
    }

pub returns-else-is_second : goal.returns-else-is_second
returns-else-is_second c =
    let a = c.args in
    let g = c.in-Some.ensures in
    record {
      kept = c.put_counted.ensures.kept;
      by_index = λ kind before e q marked links. c.put_counted.ensures.by_index kind before e q
          (source_fresh a.table.now a.n a.w a.place a.used a.s.now kind before q c.if-s-w.false _
          g.0 (g.1 ∙ c.be_id.ensures) a.rows.now a.purpose e marked links
          (sym c.is_second.ensures ∙ c.if-is_second.false));
      by_index_2 = c.put_counted.ensures.by_index_2;
    }
