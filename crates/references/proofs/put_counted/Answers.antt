-- `references::put_counted` meets its contract. Assumes nothing.
use mathlib.Core.Path.{refl, sym, ◌∙◌}
use Rattle.std.proofs.lemmas.Result.{err_from_is_err_and}
use Rattle.fields.proofs.FieldLaws.{be_below}
use Rattle.records.proofs.KeptLaws.{kept_same}
use Rattle.references.proofs.PutLaws.{put-count-cut, pass_refused, pass_done, as_dimg, as_iloc, as_other}
use Rattle.references.proofs.RowedLaws.{no_targets, rowed_passed}
use native.Mathlib.Omega.{arith}
use Rattle.references.proofs.put_counted.Goals as goal

pub returns-then-s-w : goal.returns-then-s-w
returns-then-s-w c =
    let a = c.args in
    let p = c.requires in record {
      kept = kept_same _;
      by_index = λ kind before y q fresh. put-count-cut a.table.now a.n a.w a.place a.used a.s.now
          kind before q p.w_in_bounds.0 _ p.w_in_bounds.1 p.w_in_bounds.2 fresh c.if-s-w.true _ _ _;
      by_index_2 = λ m e. no_targets _ m e;
    }

pub put_derivation-requires : goal.put_derivation-requires
put_derivation-requires c =
    let p = c.requires in record {
      in_bounds = p.in_bounds;
      w_in_bounds = (
        c.if-s-w.false,
        p.w_in_bounds.1,
        p.w_in_bounds.2,
        c.be16-k.ensures,
        omega (arith, c.be16-k.ensures, be_below c.args.s.now c.args.w 2 c.type_inv.s),
      );
    }

pub put_places-requires : goal.put_places-requires
put_places-requires c =
    let p = c.requires in record {
      in_bounds = p.in_bounds;
      w_in_bounds = (
        c.if-s-w.false,
        p.w_in_bounds.1,
        p.w_in_bounds.2,
        c.be16-k.ensures,
        omega (arith, c.be16-k.ensures, be_below c.args.s.now c.args.w 2 c.type_inv.s),
      );
    }

pub returns-in-Derives : goal.returns-in-Derives
returns-in-Derives c =
    record {
      kept = c.put_derivation.ensures.kept;
      by_index = λ kind before y q fresh. as_dimg _ _ kind _ _ _ _ before _ _ _ _ _ y fresh
          c.in-Derives.is (c.put_derivation.ensures.put before q);
      by_index_2 = c.put_derivation.ensures.by_index;
    }

pub returns-in-Places : goal.returns-in-Places
returns-in-Places c =
    record {
      kept = c.put_places.ensures.kept;
      by_index = λ kind before y q fresh. as_iloc _ _ kind _ _ _ _ before _ _ _ _ _ y fresh
          c.in-Places.is (c.put_places.ensures.put before q);
      by_index_2 = c.put_places.ensures.by_index;
    }

pub returns-in_err-put_targets-in-Other : goal.returns-in_err-put_targets-in-Other
returns-in_err-put_targets-in-Other c =
    let a = c.args in
    let p = c.requires in
    let r = err_from_is_err_and c.from_residual.result c.from_residual.ensures.1 in
    record {
      kept = c.put_targets.ensures.targets_left.kept;
      by_index = λ kind before y q fresh. rw (r.1, r.2) (pass_refused a.table.now a.n a.w a.place a.used
          a.s.now kind before q p.w_in_bounds.0 _ p.w_in_bounds.1 p.w_in_bounds.2 fresh c.if-s-w.false _ c.be16-k.ensures
          (as_other a.purpose kind y c.in-Other.is).0 _ (sym c.in_err-put_targets-in-Other.ensures.value) _ _ _);
      by_index_2 = λ m e. no_targets _ m (sym r.1 ∙ e);
    }

pub returns-in_ok-put_targets-in-Other : goal.returns-in_ok-put_targets-in-Other
returns-in_ok-put_targets-in-Other c =
    let a = c.args in
    let p = c.requires in
    let same = c.put_targets.ensures.targets_left.other refl in
    let rows = c.put_targets.ensures.rows_unchanged.0 refl in
    record {
      kept = c.put_targets.ensures.targets_left.kept;
      by_index = λ kind before y q fresh. let o =
          as_other a.purpose kind y c.in-Other.is in
          pass_done a.table.now a.n a.w a.place a.used a.s.now kind before q p.w_in_bounds.0 _ p.w_in_bounds.1
          p.w_in_bounds.2 fresh c.if-s-w.false _ c.be16-k.ensures o.0 o.1 (sym c.in_ok-put_targets-in-Other.ensures.value) _
          _ _ same rows;
      by_index_2 = rowed_passed _ _ _ _ _ _ same rows;
    }
