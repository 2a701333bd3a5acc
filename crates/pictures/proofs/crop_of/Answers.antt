-- `pictures::crop_of` meets its contract. Assumes nothing.
use Rattle.pictures.proofs.TurnByLaws.{crop_off_x, crop_off_y, crop-on}
use Rattle.pictures.specs.Clap.{crop_of}
use Rattle.std.proofs.Common.{sym}
use Rattle.pictures.proofs.crop_of.Goals as goal

pub returns-in_default : goal.returns-in_default
unfolding crop_of
returns-in_default c = sym (crop_off_x _ _ (sym c.in_default.ensures))

pub returns-in_default-axis_of : goal.returns-in_default-axis_of
unfolding crop_of
returns-in_default-axis_of c = sym (crop_off_y _ _ _ (sym c.in-Some.ensures) (sym c.in_default-axis_of.ensures))

pub returns : goal.returns
unfolding crop_of
returns c = sym (crop-on _ _ _ _ (sym c.in-Some.ensures) (sym c.in-Some-axis_of.ensures))
