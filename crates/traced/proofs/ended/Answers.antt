-- `traced::ended` meets its contract. Assumes nothing.
use native.Mathlib.Omega.{arith}
use mathlib.Core.Path.{sym, ◌∙◌}
use Rattle.traced.proofs.TraceLaws.{end-told}
use Rattle.traced.proofs.ended.Goals as goal

pub returns-in-Pixel : goal.returns-in-Pixel
returns-in-Pixel c =
    λ head pl f v x q h. end-told f x _ (sym c.in-Pixel.is ∙ q) _
    (λ i. let l = rw i at h in c.id_of.ensures (omega (arith, l, v.bounded.few-items)) ∙ v.id _ l)

pub returns-in-Fill : goal.returns-in-Fill
returns-in-Fill c =
    λ head pl f v x q h. end-told f x _ (sym c.in-Fill.is ∙ q) _
    (λ i. let l = rw i at h in c.id_of-in-Fill.ensures (omega (arith, l, v.bounded.few-items)) ∙ v.id _ l)
