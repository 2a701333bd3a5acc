-- `seam::numbers_with` meets its contract. Assumes nothing.
use mathlib.Core.Path.{◌≡◌, sym, ap, ◌∙◌}
use Rattle.std.specs.Prelude.{Result, Ok}
use Rattle.boxes.specs.declared.Refusal.{Refusal}
use Rattle.traced.specs.declared.Traced.{Traced}
use Rattle.traced.specs.declared.Traced.TheVariants as traces
use Rattle.seam.proofs.NumbersLaws.{numbers_refused, numbers_pixel, numbers_fill}
use Rattle.seam.proofs.numbers_with.Goals as goal

abbrev told : Traced → Result Traced Refusal
told t = Ok t

pub returns-in-Ok-Pixel : goal.returns-in-Ok-Pixel
returns-in-Ok-Pixel c =
    let p = c.in-Ok-Pixel in
    let z : p.field-0 ≡ traces.Pixel p.item p.x p.y p.passed = rw p.is at p.field-0-is in
    λ m e h. rw (← numbers_pixel p.item p.x p.y p.passed m (sym (ap told z) ∙ sym p.is ∙ e))

pub returns-in-Ok-Fill : goal.returns-in-Ok-Fill
returns-in-Ok-Fill c =
    let p = c.in-Ok-Fill in
    let z : p.field-0 ≡ traces.Fill p.item p.x p.y p.passed = rw p.is at p.field-0-is in
    λ m e h. rw (← numbers_fill p.item p.x p.y p.passed m (sym (ap told z) ∙ sym p.is ∙ e))

pub returns-in-Err : goal.returns-in-Err
returns-in-Err c = λ m e h. rw (← numbers_refused m _ (sym c.in-Err.is ∙ e) h)
