-- The declared size and the size through all transforms, box by box. Assumes nothing.
-- sizes_behind s d o bs    both sizes, by the boxes bs behind others: where s holds, those declared d and led to o, and
-- else they neither declared a size nor changed it
use Prim.Native.Nat.{ℕ, ◌+◌, ◌≤◌, ◌<◌}
use native.Mathlib.Omega.{arith}
use mathlib.Core.Path.{◌≡◌, refl, sym, ap, ◌∙◌}
use mathlib.Core.List.{List, [], ◌∷◌}
use mathlib.Core.Bool.{Bool, true, false}
use lib.ListN.{length, get_or, drop, drop_of_length-le}
use borrow.Author.Tests.{eq-eqb, ne_eqb}
use Rattle.fields.specs.Field.{be_at}
use Rattle.fields.proofs.FieldLaws.{pick_yes, pick_no}
use Rattle.boxes.specs.Types.{ispe}
use Rattle.boxes.specs.Box.{kind_of, body_of}
use Rattle.contents.specs.File.{File}
use Rattle.pictures.specs.declared.Size.{Size}
use Rattle.pictures.specs.declared.Turn.{Turn}
use Rattle.pictures.specs.Turn.{size, size_after, size_through}
use Rattle.pictures.specs.Decode.{transform, turn_of, turns_of, ispe_of}
use Rattle.pictures.specs.inner.Told.{LongAsAsked, turn_by}
use Rattle.pictures.proofs.TurnByLaws.{turn_by_lem}
use Rattle.rules.specs.Joined.{associations_of, boxes_of, types_of}
use Rattle.rules.specs.Places.{Places}
use Rattle.rules.specs.Derivations.{declared_in}
use Rattle.views.specs.inner.View.{TableOf}
use Rattle.fields.proofs.ListLaws.{left-from}
use Rattle.std.specs.Prelude.{Option}
use Rattle.declared.specs.declared.Sizes.{Sizes}
use Rattle.declared.specs.inner.Told.{are}
use Rattle.declared.proofs.NamedLaws.{type_at, boxes-many, box-held, held-ispe, held-sized}

abbrev pub through : Size → List (List ℕ) → Size
through s bs = size_through (turns_of s bs) s

unfoldable pub sizes_behind : Bool → Size → Size → List (List ℕ) → Option Sizes
sizes_behind true d o bs = are d (through o bs)
sizes_behind false d o bs = are (declared_in bs) (through (declared_in bs) bs)

-- declared_in, turns_of: the box b at the front
module _ (b : List ℕ) (bs : List (List ℕ)) where
  declared-here : kind_of b ≡ ispe → declared_in (b ∷ bs) ≡ ispe_of b
  unfolding declared_in
  declared-here e = pick_yes _ _ (eq-eqb (kind_of b) ispe e)

  declared-past : (kind_of b ≡ ispe → ⊥) → declared_in (b ∷ bs) ≡ declared_in bs
  unfolding declared_in
  declared-past n = pick_no _ _ (ne_eqb (kind_of b) ispe n)

  through_turn : (s : Size) → transform (kind_of b) ≡ true →
      size_through (turns_of s (b ∷ bs)) s ≡ size_through (turns_of (size_after (turn_of s b) s) bs)
      (size_after (turn_of s b) s)
  unfolding turns_of size_through
  through_turn s e = ap (λ (ts : List Turn). size_through ts s) (pick_yes _ _ e)

  through-other : (s : Size) → transform (kind_of b) ≡ false → size_through (turns_of s (b ∷ bs)) s ≡ size_through (turns_of s bs) s
  unfolding turns_of
  through-other s e = ap (λ (ts : List Turn). size_through ts s) (pick_no _ _ e)

-- from the box with number j on, whose type is k
module _ {t head : List ℕ} {pl : Places} {f : File} (v : TableOf t head pl f) (id j : ℕ) (l : j < length (associations_of f id))
    (k : ℕ) (e : k ≡ get_or (types_of f id) j 0) where
  pub boxes-left : drop j (boxes_of f id) ≡ get_or (boxes_of f id) j [] ∷ drop (j + 1) (boxes_of f id)
  boxes-left = left-from (boxes_of f id) j [] (omega (arith, boxes-many f id))

  pub kind_said : k ≡ kind_of (get_or (boxes_of f id) j [])
  kind_said = e ∙ type_at f id j

  declared-skip : (k ≡ ispe → ⊥) → declared_in (drop j (boxes_of f id)) ≡ declared_in (drop (j + 1) (boxes_of f id))
  declared-skip n = ap declared_in boxes-left ∙ declared-past _ _ (λ q. n (kind_said ∙ q))

  through-skip : (s : Size) → transform k ≡ false → through s (drop j (boxes_of f id)) ≡ through s (drop (j + 1) (boxes_of f id))
  through-skip s q =
      ap (through s) boxes-left
      ∙ through-other _ _ s (ap transform (sym kind_said) ∙ q)

  pub sizes-skip : (s : Bool) (d o : Size) → (k ≡ ispe → ⊥) → transform k ≡ false →
      sizes_behind s d o (drop j (boxes_of f id)) ≡ sizes_behind s d o (drop (j + 1) (boxes_of f id))
  unfolding sizes_behind
  sizes-skip true d o n q = ap (are d) (through-skip o q)
  sizes-skip false d o n q = rw (through-skip (declared_in (drop j (boxes_of f id))) q, declared-skip n)

  -- b is the box, and c its content
  module _ (b c : List ℕ) (eb : b ≡ get_or (boxes_of f id) j []) (ec : c ≡ body_of b) where
    content_said : c ≡ body_of (get_or (boxes_of f id) j [])
    content_said = ec ∙ ap body_of eb

    declared-read : (r : Size) → k ≡ ispe → (12 ≤ length c → r ≡ size (be_at c 4 4) (be_at c 8 4)) → r ≡ declared_in (drop j (boxes_of f id))
    declared-read r q g =
        let z = sym kind_said ∙ q in
        let n = held-ispe _ _ (box-held v id j l) z in
        g (omega (arith, ap length content_said, n))
        ∙ ap (λ (x : List ℕ). size (be_at x 4 4) (be_at x 8 4)) content_said
        ∙ sym (declared-here _ (drop (j + 1) (boxes_of f id)) z)
        ∙ sym (ap declared_in boxes-left)

    content_sized : transform k ≡ true → LongAsAsked k c
    content_sized q = rw (kind_said, content_said) (held-sized _ _ (box-held v id j l) (ap transform (sym kind_said) ∙ q))

    pub turn_read : (s : Size) (u : Turn) → transform k ≡ true → (LongAsAsked k c → u ≡ turn_by s k c) → u ≡ turn_of s (get_or (boxes_of f id) j [])
    turn_read s u q g = g (content_sized q) ∙ rw (kind_said, content_said) (sym (turn_by_lem s (get_or (boxes_of f id) j [])))

    through_read : (s r : Size) (u : Turn) → transform k ≡ true → (LongAsAsked k c → u ≡ turn_by s k c) → r ≡ size_after u s
        → through s (drop j (boxes_of f id)) ≡ through r (drop (j + 1) (boxes_of f id))
    through_read s r u q g er =
        ap (through s) boxes-left
        ∙ through_turn _ _ s (ap transform (sym kind_said) ∙ q)
        ∙ ap (λ (x : Size). through x (drop (j + 1) (boxes_of f id))) (sym (er ∙ ap (λ (y : Turn). size_after y s) (turn_read s u q g)))

    pub sizes-declared : (d o r : Size) → k ≡ ispe → (12 ≤ length c → r ≡ size (be_at c 4 4) (be_at c 8 4))
        → sizes_behind false d o (drop j (boxes_of f id)) ≡ sizes_behind true r r (drop (j + 1) (boxes_of f id))
    unfolding sizes_behind
    sizes-declared d o r q g = rw (← declared-read r q g) (ap (are r) (through-skip r (ap transform q)))

    pub sizes-turned : (d s r : Size) (u : Turn) → transform k ≡ true → (LongAsAsked k c → u ≡ turn_by s k c) → r ≡ size_after u s
        → sizes_behind true d s (drop j (boxes_of f id)) ≡ sizes_behind true d r (drop (j + 1) (boxes_of f id))
    unfolding sizes_behind
    sizes-turned d s r u q g er = ap (are d) (through_read s r u q g er)

pub sizes-all : (d o : Size) (bs : List (List ℕ)) → are (declared_in bs) (through (declared_in bs) bs) ≡ sizes_behind false d o bs
unfolding sizes_behind
sizes-all d o bs = refl

-- past the last box
pub sizes-end : (d o : Size) (bs : List (List ℕ)) (j : ℕ) → length bs ≤ j → sizes_behind true d o (drop j bs) ≡ are d o
unfolding sizes_behind turns_of size_through
sizes-end d o bs j h = ap (λ (r : List (List ℕ)). are d (through o r)) (drop_of_length-le bs h)
