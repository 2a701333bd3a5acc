-- `pictures::back_of` meets its contract. Assumes nothing.
use Rattle.pictures.proofs.BackLaws.{undoes_stay, undoes_left, undoes_half, undoes_right, undoes_flip_x, undoes_flip_y, undoes_crop}
use Rattle.std.proofs.Common.{arith}
use Rattle.pictures.proofs.back_of.Goals as goal

pub returns-in-Stay : goal.returns-in-Stay
returns-in-Stay c = let a = c.args in undoes_stay a.t a.s a.p c.in-Stay.is

pub returns-in-Left : goal.returns-in-Left
returns-in-Left c =
    let a = c.args in
    undoes_left a.t a.s a.p c.in-Left.is _ c.mirrored.ensures

pub returns-in-Half : goal.returns-in-Half
returns-in-Half c =
    let a = c.args in
    undoes_half a.t a.s a.p c.in-Half.is _ _ c.mirrored-in-Half.ensures
    c.mirrored-in-Half-2.ensures

pub returns-in-Right : goal.returns-in-Right
returns-in-Right c =
    let a = c.args in
    undoes_right a.t a.s a.p c.in-Right.is _ c.mirrored-in-Right.ensures

pub returns-in-FlipX : goal.returns-in-FlipX
returns-in-FlipX c =
    let a = c.args in
    undoes_flip_x a.t a.s a.p c.in-FlipX.is _ c.mirrored-in-FlipX.ensures

pub returns-in-FlipY : goal.returns-in-FlipY
returns-in-FlipY c =
    let a = c.args in
    undoes_flip_y a.t a.s a.p c.in-FlipY.is _ c.mirrored-in-FlipY.ensures

pub returns-in-Crop : goal.returns-in-Crop
returns-in-Crop c =
    let a = c.args in
    undoes_crop a.t a.s a.p _ _ _ _ c.in-Crop.is (omega arith) (omega arith)
