-- Two items that are alike are told the same sizes and are configured alike. Assumes nothing.
--   AlikeTo f a b j    the first j associations of the items a and b are the same
use Prim.Native.Nat.{ℕ, ◌+◌, ◌<◌}
use native.Mathlib.Nat.{eq-or-lt_of_le}
use native.Mathlib.Omega.{arith}
use mathlib.Core.Path.{◌≡◌, refl, sym, ap, ◌∙◌, subst}
use mathlib.Core.List.{List}
use mathlib.Core.Bool.{Bool, true, false}
use mathlib.Core.Logic.{⊎_elim}
use lib.ListN.{length, get_or}
use lib.Seq.{ext_get_or}
use Rattle.fields.specs.Choice.{pick}
use Rattle.contents.specs.Ipma.{Association}
use Rattle.contents.specs.File.{File}
use Rattle.rules.specs.Joined.{associations_of, item_at, no_association}
use Rattle.rules.specs.Places.{Places}
use Rattle.rules.specs.Rules.{configured}
use Rattle.rules.specs.Words.{association_word}
use Rattle.views.specs.inner.View.{TableOf}
use Rattle.declared.specs.inner.Told.{Alike, told_sizes}

abbrev pub AlikeTo : File → ℕ → ℕ → ℕ → Type 0
AlikeTo f a b j = (i : ℕ) → i < j → get_or (associations_of f a) i no_association ≡ get_or (associations_of f b) i no_association

-- association_word says which association it is, where an index is below 32768
words_say : (i k : ℕ) (s t : Bool) → i < 32768 → k < 32768 → i + pick s 32768 0 ≡ k + pick t 32768 0 → (i ≡ k) × (s ≡ t)
unfolding pick
words_say i k true true h l e = (omega arith, refl)
words_say i k true false h l e = absurd (omega arith)
words_say i k false true h l e = absurd (omega arith)
words_say i k false false h l e = (omega arith, refl)

same_word : (a b : Association) → a.index < 32768 → b.index < 32768 → association_word a ≡ association_word b → a ≡ b
same_word a b h l e =
    let w = words_say a.index b.index a.essential b.essential h l e in
    ap (λ (i : ℕ). record { essential = a.essential; index = i }) w.0 ∙ ap (λ (s : Bool). record { essential = s; index = b.index }) w.1

-- the items a and b of a table, as far as number j
module _ {t head : List ℕ} {pl : Places} {f : File} (v : TableOf t head pl f) (a b j : ℕ) where
  -- w and u are the words of those with number j
  pub alike_more : j < length (associations_of f a) → j < length (associations_of f b) → (w u : ℕ) →
      w ≡ association_word (get_or (associations_of f a) j no_association) →
      u ≡ association_word (get_or (associations_of f b) j no_association) → w ≡ u
      → AlikeTo f a b j → AlikeTo f a b (j + 1)
  alike_more l m w u ew eu e s i h =
      ⊎_elim
      (λ z. subst (λ (k : ℕ). get_or (associations_of f a) k no_association ≡ get_or (associations_of f b) k no_association) (sym z)
      (same_word _ _ (omega (arith, v.sound.indexed a j l, v.bounded.few-properties))
      (omega (arith, v.sound.indexed b j m, v.bounded.few-properties)) (sym ew ∙ e ∙ eu)))
      (s i)
      (eq-or-lt_of_le {n = i} {m = j} (omega arith))

pub alike_all : (f : File) (a b j : ℕ) → j ≡ length (associations_of f a) → j ≡ length (associations_of f b) →
    AlikeTo f a b j → associations_of f a ≡ associations_of f b
alike_all f a b j h l s = ext_get_or no_association (associations_of f a) (associations_of f b) (sym h ∙ l) (λ i q. s i (omega arith))

-- told_sizes, configured: the items in the rows a and b
module _ (f : File) (a b : ℕ) (e : Alike f a b) where
  pub alike_told : told_sizes f (item_at f a).id ≡ told_sizes f (item_at f b).id
  unfolding told_sizes
  alike_told = rw e.1

  pub alike_configured : configured f (item_at f a) ≡ configured f (item_at f b)
  alike_configured = rw (e.0, e.1)
