-- From the answers about orientations to their eight numbers. Assumes nothing.
use Prim.Native.Nat.{ℕ}
use mathlib.Core.Path.{◌≡◌, refl}
use mathlib.Core.List.{List, [], ◌∷◌}
use Rattle.std.specs.Prelude.{Ok, Err}
use Rattle.boxes.specs.Answer.{Answer, ok, refuse}
use Rattle.boxes.specs.declared.Refusal.{Refusal}
use Rattle.facing.specs.declared.Transform as code
use Rattle.facing.specs.declared.Transform.TheVariants as transform
use Rattle.facing.specs.declared.TransformList.TheVariants as list
use Rattle.facing.specs.Orientation.{Transform, irot, imir}
use Rattle.facing.specs.Told.{told_oriented, told_transform, told_transforms}
use Rattle.out.specs.Out.{out_refused, out_orientation, kind_number, value_in, out_transforms}

-- out_orientation
pub orientation-refused : (m : Answer ℕ) (y : Refusal) → Err y ≡ told_oriented m → out_refused y.number y.place ≡ out_orientation m
unfolding told_oriented out_orientation
orientation-refused (ok n) y e = cc
orientation-refused (refuse n p) y e = let i : y.number ≡ n = cc in let j : y.place ≡ p = cc in rw (i, j)

pub orientation-told : (m : Answer ℕ) (n : ℕ) → Ok n ≡ told_oriented m → (0 ∷ 0 ∷ n ∷ 0 ∷ 0 ∷ 0 ∷ 0 ∷ 0 ∷ []) ≡ out_orientation m
unfolding told_oriented out_orientation
orientation-told (ok k) n e = let i : n ≡ k = cc in rw i
orientation-told (refuse k p) n e = cc

-- kind_number, value_in
pub irot-told : (x : Transform) (a : ℕ) → transform.Irot a ≡ told_transform x → (1 ≡ kind_number x) × (a ≡ value_in x)
unfolding told_transform kind_number value_in
irot-told (irot v) a e = (refl, (cc))
irot-told (imir v) a e = cc

pub imir-told : (x : Transform) (a : ℕ) → transform.Imir a ≡ told_transform x → (2 ≡ kind_number x) × (a ≡ value_in x)
unfolding told_transform kind_number value_in
imir-told (irot v) a e = cc
imir-told (imir v) a e = (refl, (cc))

-- out_transforms
pub transforms-refused : (m : Answer (List Transform)) (y : Refusal) → Err y ≡ told_transforms m → out_refused y.number y.place ≡ out_transforms m
unfolding told_transforms out_transforms
transforms-refused (ok []) y e = cc
transforms-refused (ok (a ∷ [])) y e = cc
transforms-refused (ok (a ∷ (b ∷ ts))) y e = cc
transforms-refused (refuse n p) y e = let i : y.number ≡ n = cc in let j : y.place ≡ p = cc in rw (i, j)

pub transforms-none : (m : Answer (List Transform)) → Ok list.None ≡ told_transforms m → (0 ∷ 0 ∷ 0 ∷ 0 ∷ 0 ∷ 0 ∷ 0 ∷ 0 ∷ []) ≡ out_transforms m
unfolding told_transforms out_transforms
transforms-none (ok []) e = refl
transforms-none (ok (a ∷ [])) e = cc
transforms-none (ok (a ∷ (b ∷ ts))) e = cc
transforms-none (refuse n p) e = cc

-- k and v are kind and value of the transform t
abbrev pub Numbered : code.Transform → ℕ → ℕ → Type 0
Numbered t k v = ((x : Transform) → t ≡ told_transform x → k ≡ kind_number x) × ((x : Transform) → t ≡ told_transform x → v ≡ value_in x)

pub transforms-one : (m : Answer (List Transform)) (t : code.Transform) → Ok (list.One t) ≡ told_transforms m → (k v : ℕ) →
    Numbered t k v → (0 ∷ 0 ∷ 1 ∷ k ∷ v ∷ 0 ∷ 0 ∷ 0 ∷ []) ≡ out_transforms m
unfolding told_transforms out_transforms
transforms-one (ok []) t e k v h = cc
transforms-one (ok (a ∷ [])) t e k v h = let q : t ≡ told_transform a = cc in rw (h.0 a q, h.1 a q)
transforms-one (ok (a ∷ (b ∷ ts))) t e k v h = cc
transforms-one (refuse n p) t e k v h = cc

pub transforms_two : (m : Answer (List Transform)) (t u : code.Transform) → Ok (list.Two t u) ≡ told_transforms m →
    (k v i w : ℕ) → Numbered t k v → Numbered u i w → (0 ∷ 0 ∷ 2 ∷ k ∷ v ∷ i ∷ w ∷ 0 ∷ []) ≡ out_transforms m
unfolding told_transforms out_transforms
transforms_two (ok []) t u e k v i w h g = cc
transforms_two (ok (a ∷ [])) t u e k v i w h g = cc
transforms_two (ok (a ∷ (b ∷ ts))) t u e k v i w h g = let q : t ≡ told_transform a = cc in
    let r : u ≡ told_transform b = cc in rw (h.0 a q, h.1 a q, g.0 b r, g.1 b r)
transforms_two (refuse n p) t u e k v i w h g = cc
