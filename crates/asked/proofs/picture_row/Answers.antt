-- `asked::picture_row` meets its contract. Assumes nothing.
use native.Mathlib.Omega.{arith}
use mathlib.Core.Path.{sym, ap, ◌∙◌}
use Rattle.std.proofs.lemmas.Result.{err_from_is_err_and}
use Rattle.boxes.specs.Answer.{◌>>=◌}
use Rattle.boxes.specs.Types.{image}
use Rattle.boxes.specs.Told.{told}
use Rattle.boxes.proofs.ToldLaws.{told-refused}
use Rattle.rules.specs.Opening.{pictured}
use Rattle.asked.specs.inner.Told.{row_at}
use Rattle.asked.proofs.PicturedLaws.{row_told, listed_row, picture_at, picture_opaque}
use Rattle.asked.proofs.picture_row.Goals as goal

pub returns-in_err-row : goal.returns-in_err-row
unfolding told pictured ◌>>=◌
returns-in_err-row c =
    let p = err_from_is_err_and c.from_residual.result c.from_residual.ensures.1 in
    λ head pl f v. rw (p.1, p.2, told-refused row_at _ _ (sym (c.in_err-row.ensures head pl f v)))

pub returns-then-is_image : goal.returns-then-is_image
unfolding told
returns-then-is_image c =
    λ head pl f v.
    let e = row_told _ _ (c.in_ok-row.ensures head pl f v) in
    let l = listed_row f _ _ e in
    rw (picture_at f _ _ e (sym (c.is_image.ensures ∙
    ap image (c.type_of.ensures (omega (arith, l, v.bounded.few-items)) ∙ v.type _ l)) ∙ c.if-is_image.true))

pub returns : goal.returns
unfolding told
returns c =
    λ head pl f v.
    let e = row_told _ _ (c.in_ok-row.ensures head pl f v) in
    let l = listed_row f _ _ e in
    rw (
      picture_opaque f _ _ e (sym (c.is_image.ensures ∙
          ap image (c.type_of.ensures (omega (arith, l, v.bounded.few-items)) ∙ v.type _ l)) ∙ c.if-is_image.false),
      ← c.refusal.ensures.0,
      ← c.refusal.ensures.1,
    )
