-- A rule for each item in table order, item by item, as the code asks for its number alone. Assumes nothing.
--   Blames id m    what m refuses is at the item with the ID id, by a number that is not 0
--   from k         what the rule g says of the items from row k on
use Prim.Native.Nat.{ℕ, ◌+◌, ◌<◌, ◌≤◌}
use native.Mathlib.Numerals.{add-one}
use native.Mathlib.Omega.{arith}
use mathlib.Core.Path.{◌≡◌, refl, sym, ap, ◌∙◌}
use mathlib.Core.Bool.{Bool, true, false}
use Rattle.std.specs.Prelude.{Some, None}
use Rattle.std.proofs.lemmas.Option.{none-some, same_Some}
use lib.Seq.{drop-cons}
use lib.ListN.{length, drop, drop_of_length-le}
use Rattle.fields.proofs.FieldLaws.{both}
use Rattle.boxes.specs.Answer.{Answer, ok, refuse, check, ◌>>◌}
use Rattle.contents.specs.Iinf.{Item}
use Rattle.contents.specs.File.{File}
use Rattle.rules.specs.Joined.{no_item, item_at}
use Rattle.rules.specs.Rules.{in_order, rule15-29-16}
use Rattle.views.specs.inner.Told.{fault_of}

abbrev pub Blames : ℕ → Answer (Unit {0}) → Type 0
Blames id (ok u) = Unit {0}
Blames id (refuse n p) = (p ≡ id) × (0 < n)

pub check_blames : (n p : ℕ) (t : Bool) → 0 < n → Blames p (check n p t)
unfolding check
check_blames n p true h = tt
check_blames n p false h = (refl, h)

pub then_blames : (id : ℕ) (a b : Answer (Unit {0})) → Blames id a → Blames id b → Blames id (a >> b)
unfolding ◌>>◌
then_blames id (ok u) b x y = y
then_blames id (refuse n p) b x y = x

-- rule15-29-16
pub declared_blames : (f : File) (i : Item) → Blames i.id (rule15-29-16 f i)
unfolding rule15-29-16
declared_blames f i = both (Blames i.id) _ _ _ (λ e. then_blames i.id _ _ (then_blames i.id _ _
    (check_blames 15 _ _ (omega arith)) (check_blames 29 _ _ (omega arith))) (check_blames 16 _ _ (omega arith))) (λ e. tt)

-- no number is no fault, and a number is that of the item
fault_none : (m : Answer (Unit {0})) → None ≡ fault_of m → m ≡ ok tt
unfolding fault_of
fault_none (ok tt) e = refl
fault_none (refuse n p) e = absurd (none-some n e)

fault_some : (id n : ℕ) (m k : Answer (Unit {0})) → Blames id m → Some n ≡ fault_of m → (m >> k) ≡ refuse n id
unfolding fault_of ◌>>◌
fault_some id n (ok tt) k b e = absurd (none-some n (sym e))
fault_some id n (refuse m p) k b e = rw (same_Some n m e, b.0)

-- in_order
module _ (g : ℕ → Item → Answer (Unit {0})) (f : File) where
  abbrev pub from : ℕ → Answer (Unit {0})
  from k = in_order g k (drop k f.items)

  from_next : (k : ℕ) → k < length f.items → from k ≡ (g k (item_at f k) >> from (k + 1))
  unfolding in_order
  from_next k h = rw add-one (ap (in_order g k) (drop-cons f.items k no_item h))

  pub order_end : (k : ℕ) → length f.items ≤ k → from k ≡ ok tt
  unfolding in_order
  order_end k h = ap (in_order g k) (drop_of_length-le f.items h)

  -- the item in row k, which g passes, or refuses by the number n
  module _ (k : ℕ) (h : k < length f.items) where
    pub order_on : None ≡ fault_of (g k (item_at f k)) → from k ≡ from (k + 1)
    unfolding ◌>>◌
    order_on q = from_next k h ∙ rw (fault_none (g k (item_at f k)) q)

    pub order_off : (n : ℕ) → Blames (item_at f k).id (g k (item_at f k)) → Some n ≡ fault_of (g k (item_at f k)) → from k ≡ refuse n (item_at f k).id
    order_off n b q = from_next k h ∙ fault_some (item_at f k).id n (g k (item_at f k)) (from (k + 1)) b q
