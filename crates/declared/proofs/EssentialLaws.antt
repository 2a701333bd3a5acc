-- essential_known, association by association. Assumes nothing.
use Prim.Native.Nat.{ℕ, ◌+◌, ◌≤◌, ◌<◌}
use mathlib.Core.Path.{◌≡◌, sym, ap, ◌∙◌}
use mathlib.Core.List.{List, ◌∷◌}
use mathlib.Core.Bool.{Bool, true, false, ◌&&◌, ◌||◌, not}
use lib.ListN.{length, get_or, drop, drop_of_length-le}
use Rattle.boxes.specs.Types.{known_property}
use Rattle.boxes.specs.Box.{kind_of}
use Rattle.contents.specs.Ipma.{Association}
use Rattle.contents.specs.File.{File}
use Rattle.rules.specs.Joined.{associations_of, types_of, property_at, no_association}
use Rattle.rules.specs.Places.{Places}
use Rattle.rules.specs.Rules.{essential_known}
use Rattle.rules.specs.Words.{association_word}
use Rattle.views.specs.inner.View.{TableOf}
use Rattle.fields.proofs.ListLaws.{left-from}
use Rattle.declared.proofs.NamedLaws.{box-at, type_at, marked-read, plain-read}

module _ (f : File) (a : Association) (rest : List Association) where
  known-plain : a.essential ≡ false → essential_known f (a ∷ rest) ≡ essential_known f rest
  unfolding essential_known
  known-plain e = ap (λ (t : Bool). (not t || known_property (kind_of (property_at f a.index))) && essential_known f rest) e

  known-marked : (t : Bool) → a.essential ≡ true → known_property (kind_of (property_at f a.index)) ≡ t →
      essential_known f (a ∷ rest) ≡ (t && essential_known f rest)
  unfolding essential_known
  known-marked t e q =
      ap (λ (u : Bool). (not u || known_property (kind_of (property_at f a.index))) && essential_known f rest) e
      ∙ ap (λ (u : Bool). u && essential_known f rest) q

-- from the association with number j on, whose word is w
module _ {t head : List ℕ} {pl : Places} {f : File} (v : TableOf t head pl f) (id j : ℕ) where
  module _ (l : j < length (associations_of f id)) (w : ℕ) (e : w ≡ association_word (get_or (associations_of f id) j no_association)) where
    pub essential-not : w < 32768 → essential_known f (drop j (associations_of f id)) ≡ essential_known f (drop (j + 1) (associations_of f id))
    essential-not h = ap (essential_known f) (left-from (associations_of f id) j no_association l) ∙ known-plain f _ _ (plain-read v id j l w e h)

    module _ (h : 32768 ≤ w) (k : ℕ) (q : k ≡ get_or (types_of f id) j 0) (u : Bool) (z : u ≡ known_property k) where
      essential-is : essential_known f (drop j (associations_of f id)) ≡ (u && essential_known f (drop (j + 1) (associations_of f id)))
      essential-is =
          ap (essential_known f) (left-from (associations_of f id) j no_association l)
          ∙ known-marked f _ _ u (marked-read v id j l w e h) (sym (z ∙ ap known_property (q ∙ type_at f id j ∙ ap kind_of (box-at f id j))))

      pub essential-known : u ≡ true → essential_known f (drop j (associations_of f id)) ≡ essential_known f (drop (j + 1) (associations_of f id))
      essential-known y = essential-is ∙ ap (λ (x : Bool). x && essential_known f (drop (j + 1) (associations_of f id))) y

      pub essential-unknown : u ≡ false → essential_known f (drop j (associations_of f id)) ≡ false
      essential-unknown y = essential-is ∙ ap (λ (x : Bool). x && essential_known f (drop (j + 1) (associations_of f id))) y

pub essential-none : (f : File) (rest : List Association) (j : ℕ) → length rest ≤ j → essential_known f (drop j rest) ≡ true
unfolding essential_known
essential-none f rest j h = ap (essential_known f) (drop_of_length-le rest h)
