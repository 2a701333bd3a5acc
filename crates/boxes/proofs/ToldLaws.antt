-- What a told answer says of the answer it was told of. Assumes nothing.
--   told-ok       told by Ok: a value, and which
--   told-refused  told by Err: that refusal
use mathlib.Core.Path.{◌≡◌, refl, ap}
use Rattle.std.specs.Prelude.{Ok, Err}
use Rattle.boxes.specs.Answer.{Answer, ok, refuse}
use Rattle.boxes.specs.Told.{told}
use Rattle.boxes.specs.declared.Refusal.{Refusal}

pub told-ok : {A B : Type 0} (f : A → B) (m : Answer A) (b : B) → told f m ≡ Ok b → (a : A) × (m ≡ ok a) × (f a ≡ b)
unfolding told
told-ok f (ok a) b e = (a, refl, cc)
told-ok f (refuse n p) b e = cc

pub told-refused : {A B : Type 0} (f : A → B) (m : Answer A) (r : Refusal) → told f m ≡ Err r → m ≡ refuse r.number r.place
unfolding told
told-refused f (ok a) r e = cc
told-refused f (refuse n p) r e =
    let k : record { number = n; place = p } ≡ r = cc in
    ap (λ (x : Refusal). refuse x.number x.place) k
