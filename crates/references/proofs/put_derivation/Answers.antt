-- `references::put_derivation` meets its contract. Assumes nothing.
use mathlib.Core.Path.{refl, sym, ◌∙◌}
use Rattle.std.proofs.lemmas.Result.{err_from_is_err_and}
use Rattle.boxes.specs.Types.{dimg}
use Rattle.records.proofs.KeptLaws.{kept_same}
use Rattle.references.proofs.PutLaws.{fresh-dimg, dimg-none, dimg-over, dimg-refused, dimg-done, kept-span}
use Rattle.references.proofs.RowedLaws.{no_targets, rowed_stored}
use native.Mathlib.Omega.{arith}
use Rattle.references.proofs.put_derivation.Goals as goal

pub returns-then-k-eq0 : goal.returns-then-k-eq0
returns-then-k-eq0 c =
    let a = c.args in
    let p = c.requires in record {
      kept = kept_same _;
      put = λ before q fresh. dimg-none a.table.now a.n a.w a.place a.used a.s.now dimg
          before q (omega (arith, p.w_in_bounds.0)) _ p.w_in_bounds.1 p.w_in_bounds.2 (fresh-dimg dimg before _ refl fresh) p.w_in_bounds.0 _
          p.w_in_bounds.3 refl c.if-k-eq0.true _ _ _;
      by_index = λ m e. no_targets _ m e;
    }

pub returns-then-used-k-gt2048 : goal.returns-then-used-k-gt2048
returns-then-used-k-gt2048 c =
    let a = c.args in
    let p = c.requires in record {
      kept = kept_same _;
      put = λ before q fresh. dimg-over a.table.now a.n a.w a.place a.used a.s.now dimg
          before q (omega (arith, p.w_in_bounds.0)) _ p.w_in_bounds.1 p.w_in_bounds.2 (fresh-dimg dimg before _ refl fresh) p.w_in_bounds.0 _
          p.w_in_bounds.3 refl c.if-k-eq0.false c.if-used-k-gt2048.true _ _ _;
      by_index = λ m e. no_targets _ m e;
    }

pub returns-in_err-put_targets : goal.returns-in_err-put_targets
returns-in_err-put_targets c =
    let a = c.args in
    let p = c.requires in
    let r = err_from_is_err_and c.from_residual.result c.from_residual.ensures.1 in
    record {
      kept = c.put_targets.ensures.targets_left.kept;
      put = λ before q fresh. rw (r.1, r.2) (dimg-refused a.table.now a.n a.w a.place
          a.used a.s.now dimg before q (omega (arith, p.w_in_bounds.0)) _ p.w_in_bounds.1 p.w_in_bounds.2
          (fresh-dimg dimg before _ refl fresh) p.w_in_bounds.0 _ p.w_in_bounds.3 refl c.if-k-eq0.false c.if-used-k-gt2048.false _
          (sym c.in_err-put_targets.ensures.value) _ _ _);
      by_index = λ m e. no_targets _ m (sym r.1 ∙ e);
    }

pub returns : goal.returns
returns c =
    let a = c.args in
    let p = c.requires in
    record {
      kept = kept-span _ _ _ a.row.0 a.used a.k (omega (arith, p.w_in_bounds.1, p.in_bounds.2)) c.put_targets.ensures.targets_left.kept
          c.put_span.ensures;
      put = λ before q fresh. dimg-done a.table.now a.n a.w a.place a.used
          a.s.now dimg before q (omega (arith, p.w_in_bounds.0)) _ p.w_in_bounds.1 p.w_in_bounds.2 (fresh-dimg dimg before _ refl fresh)
          p.w_in_bounds.0 _ p.w_in_bounds.3 refl c.if-k-eq0.false c.if-used-k-gt2048.false refl fresh
          (sym c.in_ok-put_targets.ensures.value) _ _ _ _ c.put_targets.ensures.targets_left c.put_span.ensures
          c.put_targets.ensures.rows_unchanged.2;
      by_index = rowed_stored a.n a.used a.k a.row.0 p.in_bounds.2
          (omega (arith, p.w_in_bounds.1, p.in_bounds.2)) a.table.now c.put_targets.new.table _ a.rows.now
          c.put_targets.new.rows c.put_span.ensures
          (c.in_ok-put_targets.ensures.rows_unchanged.1 refl refl);
    }
