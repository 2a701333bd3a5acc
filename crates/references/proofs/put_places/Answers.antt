-- `references::put_places` meets its contract. Assumes nothing.
use Prim.Native.Nat.{ℕ, ◌+◌, ◌*◌}
use mathlib.Core.Path.{refl, sym, ap, ◌∙◌}
use mathlib.Core.List.{List}
use lib.ListN.{length, length-set}
use Rattle.fields.specs.Field.{be_at}
use Rattle.fields.specs.Lists.{member}
use Rattle.std.proofs.lemmas.Result.{err_from_is_err_and}
use Rattle.boxes.specs.Types.{iloc}
use Rattle.records.specs.inner.Rows.{ids_in}
use Rattle.references.proofs.NameLaws.{names-moved, names-targets}
use Rattle.references.proofs.PutLaws.{fresh-iloc, pass_refused, link-done, targets-listed}
use Rattle.references.proofs.RowedLaws.{no_targets, rowed_beside}
use native.Mathlib.Omega.{arith}
use Rattle.references.proofs.put_places.Goals as goal

pub put_names-requires : goal.put_names-requires
put_names-requires c =
    let a = c.args in
    let p = c.requires in
    let l = targets-listed (ids_in a.table.now a.n) a.w a.k a.place a.s.now p.w_in_bounds.0
    (sym c.in_ok-put_targets.ensures.value) in
    record {
      in_bounds = (
        omega (arith, c.put_targets.ensures.targets_left.kept.same_length, p.in_bounds.0),
        p.in_bounds.2,
        p.in_bounds.3,
        p.w_in_bounds.4,
        l.0,
      );
      by_index = λ j h. ap (λ (t : List ℕ). member
          (be_at a.s.now (a.w + 2 + a.w * j) a.w) (ids_in t a.n))
          (c.put_targets.ensures.targets_left.other refl) ∙ l.1 j h;
      in_bounds_2 = (
        simp length-set (omega (arith, ap length (c.put_targets.ensures.rows_unchanged.0 refl), p.in_bounds.1)),
        p.w_in_bounds.1,
      );
    }

pub returns-in_err-put_targets : goal.returns-in_err-put_targets
returns-in_err-put_targets c =
    let a = c.args in
    let p = c.requires in
    let r = err_from_is_err_and c.from_residual.result c.from_residual.ensures.1 in
    record {
      kept = c.put_targets.ensures.targets_left.kept;
      put = λ before q fresh. rw (r.1, r.2) (pass_refused a.table.now a.n a.w a.place a.used a.s.now
          iloc before q (omega (arith, p.w_in_bounds.0)) _ p.w_in_bounds.1 p.w_in_bounds.2 (fresh-iloc iloc before _ refl fresh) p.w_in_bounds.0 _
          p.w_in_bounds.3 refl _ (sym c.in_err-put_targets.ensures.value) _ _ _);
      by_index = λ m e. no_targets _ m (sym r.1 ∙ e);
    }

pub returns : goal.returns
returns c =
    let a = c.args in
    let p = c.requires in
    let same = c.put_targets.ensures.targets_left.other refl in
    let rows = c.put_targets.ensures.rows_unchanged.0 refl in
    record {
      kept = c.put_targets.ensures.targets_left.kept;
      put = λ before q fresh. link-done a.table.now a.n a.w a.place a.used a.s.now iloc
          before q (omega (arith, p.w_in_bounds.0)) _ p.w_in_bounds.1 p.w_in_bounds.2 (fresh-iloc iloc before _ refl fresh) p.w_in_bounds.0 _
          p.w_in_bounds.3 refl refl (sym c.in_ok-put_targets.ensures.value) _ a.rows.now _ same p.w_in_bounds.4 fresh
          (names-moved a.table.now _ same a.rows.now _ rows a.n a.k _ a.row.0 _ c.put_names.ensures);
      by_index =
          rowed_beside a.n a.used p.in_bounds.4 a.table.now _ a.rows.now c.put_names.new.rows
          same (names-targets a.table.now _ same a.rows.now _ rows a.n a.k _ a.row.0 _ c.put_names.ensures);
    }
