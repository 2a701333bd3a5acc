-- Orientations over the table of an accepted file. Assumes nothing.
use Prim.Native.Nat.{ℕ}
use mathlib.Core.Path.{◌≡◌, refl, ap, ◌∙◌}
use mathlib.Core.List.{List}
use mathlib.Core.Bool.{Bool, true, false, not}
use Rattle.std.specs.Prelude.{Option, Some, None, ok_or}
use Rattle.fields.specs.Choice.{pick}
use Rattle.fields.specs.Lists.{member}
use Rattle.boxes.specs.Answer.{ok, check, ◌>>=◌, ◌>>◌}
use Rattle.boxes.specs.Types.{clap}
use Rattle.boxes.specs.declared.Refusal.{Refusal}
use Rattle.contents.specs.File.{File}
use Rattle.pictures.specs.declared.Size.{Size}
use Rattle.pictures.specs.Decode.{turns_of}
use Rattle.pictures.specs.Scene.{Scene, picture_at}
use Rattle.rules.specs.Joined.{boxes_of, types_of}
use Rattle.rules.specs.Derivations.{scene_of}
use Rattle.rules.specs.Opening.{pictured}
use Rattle.rules.proofs.SceneLaws.{turns_at}
use Rattle.views.specs.inner.View.{id_of}
use Rattle.asked.proofs.PicturedLaws.{picture-image, picture-id}
use Rattle.facing.specs.Facings.{number_of, chain_facing}
use Rattle.facing.specs.Orientation.{orientation_in}
use Rattle.facing.specs.Told.{told_faced, told_oriented}

-- pictured: the turns of the asked item are those of its boxes
pub picture-turns : (total : ℕ) (head : List ℕ) (f : File) (id r : ℕ) → pictured f id ≡ ok r
    → (picture_at (scene_of total head f) r).turns ≡ turns_of (picture_at (scene_of total head f) r).declared (boxes_of f id)
picture-turns total head f id r e = turns_at total head f r (picture-image f id r e) ∙
    ap (λ (i : ℕ). turns_of (picture_at (scene_of total head f) r).declared (boxes_of f i)) (picture-id f id r e)

-- orientation_in: x is what the item's properties tell, 26 where one of them is a `clap`
module _ (total : ℕ) (head : List ℕ) (f : File) (id r : ℕ) (e : pictured f id ≡ ok r) where
  abbrev s : Scene
  s = scene_of total head f

  pub oriented : (x : Option ℕ) → ((z : Size) → x ≡ told_faced f z (id_of f r)) → (y : Refusal) → y.number ≡ 26 → y.place ≡ id →
      ok_or x y ≡ told_oriented (orientation_in s f id)
  unfolding orientation_in ◌>>=◌ ◌>>◌ check told_oriented told_faced pick
  oriented x g y n p =
      let z = g (picture_at s r).declared ∙ ap (told_faced f (picture_at s r).declared) (picture-id f id r e) in
      let t = picture-turns total head f id r e in
      rw (e, z, t) (by (member clap (types_of f id)) (number_of (chain_facing (turns_of (picture_at s r).declared (boxes_of f id)))))
    where
      by : (t : Bool) (k : ℕ) → ok_or (pick t None (Some k)) y ≡ told_oriented (check 26 id (not t) >> ok k)
      by true k = rw (← n, ← p)
      by false k = refl
