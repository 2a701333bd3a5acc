-- `tracing::origin_of` meets its contract. Assumes nothing.
use Rattle.std.proofs.Common.{arith}
use Rattle.tracing.proofs.OriginLaws.{leads-stay, leads-left, leads-half, leads-right, leads_flip_x, leads_flip_y, leads-crop, leads_misfit}
use Rattle.tracing.proofs.origin_of.Goals as goal

pub returns-in-Stay : goal.returns-in-Stay
returns-in-Stay c =
    let a = c.args in
    leads-stay a.t a.s (omega arith) (omega arith) _ _ _ c.origin_by.ensures c.in-Stay.is
    c.on_from.ensures c.on_from-in-Stay.ensures

pub returns-in-Left : goal.returns-in-Left
returns-in-Left c =
    let a = c.args in
    leads-left a.t a.s (omega arith) (omega arith) _ _ _ c.origin_by-in-Left.ensures c.in-Left.is
    c.back_from.ensures c.on_from-in-Left.ensures

pub returns-in-Half : goal.returns-in-Half
returns-in-Half c =
    let a = c.args in
    leads-half a.t a.s (omega arith) (omega arith) _ _ _ c.origin_by-in-Half.ensures c.in-Half.is
    c.back_from-in-Half.ensures c.back_from-in-Half-2.ensures

pub returns-in-Right : goal.returns-in-Right
returns-in-Right c =
    let a = c.args in
    leads-right a.t a.s (omega arith) (omega arith) _ _ _ c.origin_by-in-Right.ensures c.in-Right.is
    c.on_from-in-Right.ensures c.back_from-in-Right.ensures

pub returns-in-FlipX : goal.returns-in-FlipX
returns-in-FlipX c =
    let a = c.args in
    leads_flip_x a.t a.s (omega arith) (omega arith) _ _ _ c.origin_by-in-FlipX.ensures c.in-FlipX.is
    c.back_from-in-FlipX.ensures c.on_from-in-FlipX.ensures

pub returns-in-FlipY : goal.returns-in-FlipY
returns-in-FlipY c =
    let a = c.args in
    leads_flip_y a.t a.s (omega arith) (omega arith) _ _ _ c.origin_by-in-FlipY.ensures c.in-FlipY.is
    c.on_from-in-FlipY.ensures c.back_from-in-FlipY.ensures

pub returns-in-Crop : goal.returns-in-Crop
returns-in-Crop c =
    let a = c.args in
    leads-crop a.t a.s (omega arith) (omega arith) _ _ _ c.origin_by-in-Crop.ensures _ _ _ _ c.in-Crop.is
    c.on_from-in-Crop.ensures c.on_from-in-Crop-2.ensures

pub returns-in-Misfit : goal.returns-in-Misfit
returns-in-Misfit c =
    let a = c.args in
    leads_misfit a.t a.s (omega arith) (omega arith) _ _ _ c.origin_by-in-Misfit.ensures c.in-Misfit.is
