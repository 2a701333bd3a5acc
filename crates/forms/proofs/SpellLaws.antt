-- What spells a form, line by line of its block: how to show it (in), and what it says (out). Assumes nothing.
use Prim.Native.Nat.{ℕ}
use mathlib.Core.Path.{◌≡◌, refl, sym, ap, ◌∙◌, subst}
use mathlib.Core.List.{List, [], ◌++◌, append-nil}
use mathlib.Core.Bool.{Bool, true}
use lib.ListN.{length}
use Rattle.fields.specs.Field.{be_at}
use Rattle.forms.specs.Form.{Form, Joined, give, demand, field, ◌>>=◌, ◌>>◌}

-- give
module _ {A : Type 0} (v w : A) where
  pub give_in : w ≡ v → (give v).Spells [] w
  unfolding give
  give_in e = (refl, e)

  pub give_out : (u : List ℕ) → (give v).Spells u w → (u ≡ []) × (w ≡ v)
  unfolding give
  give_out u h = h

-- demand, before other lines
module _ {A : Type 0} (n : ℕ) (c : Bool) (g : Form A) (u : List ℕ) (v : A) where
  pub demand_in : c ≡ true → g.Spells u v → (demand n c >> g).Spells u v
  unfolding ◌>>=◌ demand
  demand_in e h = record { value = tt; left = []; right = u; join = refl; first = (refl, e); then = h }

  pub demand_out : (demand n c >> g).Spells u v → (c ≡ true) × g.Spells u v
  unfolding ◌>>=◌ demand
  demand_out h = (
    h.first.1,
    subst (λ (r : List ℕ). g.Spells r v) (ap (λ (l : List ℕ). l ++ h.right) (sym h.first.0) ∙ h.join) h.then,
  )

-- field
module _ (n : ℕ) (u : List ℕ) (v : ℕ) where
  pub field_in : length u ≡ n → be_at u 0 n ≡ v → (field n).Spells u v
  unfolding field
  field_in l e = (l, e)

  pub field-long : (field n).Spells u v → length u ≡ n
  unfolding field
  field-long h = h.0

  pub field_is : (field n).Spells u v → be_at u 0 n ≡ v
  unfolding field
  field_is h = h.1

-- _>>=_
module _ {A B : Type 0} (f : Form A) (g : A → Form B) where
  pub bind_in : (a : A) (l r : List ℕ) (b : B) → f.Spells l a → (g a).Spells r b → (f >>= g).Spells (l ++ r) b
  unfolding ◌>>=◌
  bind_in a l r b x y = record { value = a; left = l; right = r; join = refl; first = x; then = y }

  pub bind_out : (u : List ℕ) (b : B) → (f >>= g).Spells u b → Joined f g u b
  unfolding ◌>>=◌
  bind_out u b h = h

  -- where what follows is spelled by nothing
  pub bind_last : (a : A) (u : List ℕ) (b : B) → f.Spells u a → (g a).Spells [] b → (f >>= g).Spells u b
  bind_last a u b x y = subst (λ (r : List ℕ). (f >>= g).Spells r b) (append-nil u) (bind_in a u [] b x y)
