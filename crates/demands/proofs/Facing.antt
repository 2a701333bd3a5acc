-- Q-3, of the reader's answers: an orientation that is told is the one number of 1 to 8 that fits the picture's own
-- transforms, and no list is told for exactly the other numbers. Assumes nothing.
use Prim.Native.Nat.{ℕ, ◌≤◌, ◌<◌}
use mathlib.Core.Path.{◌≡◌, sym, ap, subst, ◌∙◌}
use mathlib.Core.List.{List}
use mathlib.Core.Logic.{◌⊎◌}
use lib.ListN.{length}
use borrow.Author.Tests.{not-true}
use Rattle.fields.specs.Lists.{member}
use Rattle.std.specs.Prelude.{Result, Ok, Err}
use Rattle.boxes.specs.declared.Refusal.{Refusal}
use Rattle.boxes.specs.Answer.{ok}
use Rattle.boxes.specs.Types.{clap}
use Rattle.boxes.proofs.AnswerLaws.{bind_ok, then_ok, check-ok, ok_inj}
use Rattle.contents.specs.File.{File}
use Rattle.pictures.specs.Scene.{picture_at}
use Rattle.rules.specs.Joined.{boxes_of, types_of}
use Rattle.rules.specs.Derivations.{scene_of}
use Rattle.rules.specs.Opening.{pictured}
use Rattle.faults.specs.Good.{GoodFile}
use Rattle.facing.specs.declared.TransformList.{TransformList}
use Rattle.facing.specs.Orientation.{Plain, orientation_in, transforms_in}
use Rattle.facing.specs.Told.{told_transforms}
use Rattle.facing.proofs.FitsLaws.{OneFits, one-fits}
use Rattle.facing.proofs.TurnsLaws.{turns-plain}
use Rattle.still.specs.Given.{OrientationGiven, TransformsGiven}
use Rattle.facing.proofs.OrientedLaws.{picture-turns}
use Rattle.demands.proofs.ToldLaws.{orientation-is, transforms-told}
use Rattle.demands.proofs.AskedLaws.{transforms-unmet, transforms_off}
use Rattle.demands.proofs.Demand2.{orientation-good}

pub orientation_meant : (total : ℕ) (head : List ℕ) (f : File) (id n : ℕ) → orientation_in (scene_of total head f) f id ≡ ok n
    → (r : ℕ) × (pictured f id ≡ ok r) × OneFits n (picture_at (scene_of total head f) r).turns
unfolding orientation_in
orientation_meant total head f id n e =
    let x = bind_ok _ _ n e in
    let y = then_ok _ _ n x.2 in
    let c = not-true (member clap (types_of f id)) (check-ok 26 id _ y.0 y.1) in
    let t = picture-turns total head f id x.0 x.1 in
    let plain = subst Plain (sym t) (turns-plain (boxes_of f id) c (picture_at (scene_of total head f) x.0).declared) in
    (x.0, x.1, subst (λ (m : ℕ). OneFits m (picture_at (scene_of total head f) x.0).turns) (ok_inj _ _ y.2) (one-fits _ plain))

-- the number that is told of a file that keeps the rules
pub orientation-fits : (head : List ℕ) (total : ℕ) (table : List ℕ) → 11280 ≤ length table → (f : File) →
    GoodFile total head f → (id n : ℕ) (left : List ℕ) → OrientationGiven head total table id (Ok n) left
    → (r : ℕ) × (pictured f id ≡ ok r) × OneFits n (picture_at (scene_of total head f) r).turns
orientation-fits head total table enough f good id n left g =
    orientation_meant total head f id n (orientation-is _ n (sym (orientation-good head total table enough f good id (Ok n) left g).0))

-- 27 at 0, exactly where the number is not 1 to 8
pub transforms-refused : (k : ℕ) (y : Refusal) → TransformsGiven k (Err y) → (y.number ≡ 27) × (y.place ≡ 0) × ((k ≡ 0) ⊎ (8 < k))
transforms-refused k y g = transforms-unmet k _ _ (transforms-told (transforms_in k) y (sym g))

pub transforms-refuses : (k : ℕ) → (k ≡ 0) ⊎ (8 < k) → (r : Result TransformList Refusal) → TransformsGiven k r → r ≡ Err (record { number = 27; place = 0 })
unfolding told_transforms
transforms-refuses k h r g = g ∙ ap told_transforms (transforms_off k h)
