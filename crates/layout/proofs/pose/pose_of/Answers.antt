-- `layout::pose_of` meets its contract. Assumes nothing.
use Rattle.layout.specs.inner.Pose.{pose_of}
use Rattle.layout.proofs.pose.pose_of.Goals as goal

pub returns-in-Stay : goal.returns-in-Stay
unfolding pose_of
returns-in-Stay c = rw c.in-Stay.is

pub returns-in-Left : goal.returns-in-Left
unfolding pose_of
returns-in-Left c = rw c.in-Left.is

pub returns-in-Half : goal.returns-in-Half
unfolding pose_of
returns-in-Half c = rw c.in-Half.is

pub returns-in-Right : goal.returns-in-Right
unfolding pose_of
returns-in-Right c = rw c.in-Right.is

pub returns-in-FlipX : goal.returns-in-FlipX
unfolding pose_of
returns-in-FlipX c = rw c.in-FlipX.is

pub returns-in-FlipY : goal.returns-in-FlipY
unfolding pose_of
returns-in-FlipY c = rw c.in-FlipY.is

pub returns-in-Crop : goal.returns-in-Crop
unfolding pose_of
returns-in-Crop c = rw c.in-Crop.is

pub returns-in-Misfit : goal.returns-in-Misfit
unfolding pose_of
returns-in-Misfit c = rw c.in-Misfit.is
