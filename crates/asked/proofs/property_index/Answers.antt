-- `asked::property_index` meets its contract. Assumes nothing.
use Prim.Native.Nat.{◌-◌, ◌<◌, ◌≤◌}
use native.Mathlib.Omega.{arith}
use mathlib.Core.Path.{◌≡◌, sym, ◌∙◌}
use lib.ListN.{length}
use Rattle.std.proofs.lemmas.Result.{err_from_is_err_and}
use Rattle.boxes.specs.Answer.{refuse, ◌>>=◌}
use Rattle.boxes.proofs.ToldLaws.{told-refused}
use Rattle.rules.specs.Joined.{associations_of}
use Rattle.views.specs.inner.View.{id_of}
use Rattle.declared.proofs.NamedLaws.{index_read}
use Rattle.asked.specs.Told.{told_asked, index_in}
use Rattle.asked.specs.inner.Told.{row_at}
use Rattle.asked.proofs.PicturedLaws.{row_told, listed_row}
use Rattle.asked.proofs.AskedLaws.{index_under, index_over, index_at}
use Rattle.asked.proofs.property_index.Goals as goal
use Rattle.asked.proofs.property_index.Goals.{then-k-lt1-via-then-k-lt1, then-k-lt1-via-else-k-lt1+then-record_word-k}

pub returns-in_err-row : goal.returns-in_err-row
unfolding told_asked index_in ◌>>=◌
returns-in_err-row c =
    let p = err_from_is_err_and c.from_residual.result c.from_residual.ensures.1 in
    λ head pl f v. rw (p.1, p.2, told-refused row_at _ _ (sym (c.in_err-row.ensures head pl f v)))

pub returns-then-k-lt1 : goal.returns-then-k-lt1
unfolding told_asked
returns-then-k-lt1 c =
    λ head pl f v.
    let e = row_told _ _ (c.in_ok-row.ensures head pl f v) in
    let l = listed_row f _ _ e in
    let q : index_in f c.args.id.0 c.args.k ≡ refuse 25 c.args.id.0 =
    elim c.then-k-lt1.branch [
      | then-k-lt1-via-then-k-lt1 w ↦ index_under f _ _ _ e w.if-k-lt1.true
      | then-k-lt1-via-else-k-lt1+then-record_word-k w ↦
          let m = (w.record_word.ensures (omega (arith, l, v.bounded.few-items)) ∙ v.named_count _ l) in
          index_over f _ _ _ e w.if-k-lt1.false (rw (← m) w.if-record_word-k.true)
    ] in
    rw (q, ← c.refusal.ensures.0, ← c.refusal.ensures.1)

pub returns : goal.returns
unfolding told_asked
returns c =
    λ head pl f v.
    let e = row_told _ _ (c.in_ok-row.ensures head pl f v) in
    let l = listed_row f _ _ e in
    let m = (c.record_word.ensures (omega (arith, l, v.bounded.few-items)) ∙ v.named_count _ l) in
    let h : c.args.k ≤ length (associations_of f (id_of f c.in_ok-row.row.0)) = rw (← m) c.if-record_word-k.false in
    let j : c.args.k - 1 < length (associations_of f (id_of f c.in_ok-row.row.0)) = omega arith in
    rw (
      index_at f _ _ _ e c.if-k-lt1.false h,
      ← (c.index_of.ensures ∙ index_read v _ _ j _ (c.association_of.ensures head pl f v l j)),
    )
