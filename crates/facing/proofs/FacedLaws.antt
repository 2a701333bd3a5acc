-- The facing of an item's transforms, box by box from the last one on. Assumes nothing.
--   FacedFrom bs j m    no `clap` is among the boxes bs from number j on, and their transforms face by m
use Prim.Native.Nat.{ℕ, ◌+◌, ◌<◌, ◌≤◌}
use native.Mathlib.Omega.{arith}
use mathlib.Core.Path.{◌≡◌, refl, sym, ap, subst, ◌∙◌}
use mathlib.Core.List.{List, []}
use mathlib.Core.Bool.{true, false}
use lib.ListN.{length, get_or, drop, drop_of_length-le}
use Rattle.std.specs.Prelude.{Some, None}
use Rattle.fields.proofs.FieldLaws.{pick_yes, pick_no}
use Rattle.fields.proofs.TestLaws.{member-at}
use Rattle.boxes.specs.Box.{kind_of, body_of}
use Rattle.boxes.specs.Types.{clap}
use Rattle.contents.specs.File.{File}
use Rattle.pictures.specs.declared.Size.{Size}
use Rattle.pictures.specs.declared.Turn.{Turn}
use Rattle.pictures.specs.Turn.{size_after}
use Rattle.pictures.specs.Decode.{transform, turn_of, turns_of}
use Rattle.pictures.specs.inner.Told.{LongAsAsked, turn_by}
use Rattle.rules.specs.Joined.{associations_of, boxes_of, types_of}
use Rattle.rules.specs.Places.{Places}
use Rattle.views.specs.inner.View.{TableOf}
use Rattle.declared.proofs.NamedLaws.{types_many}
use Rattle.declared.proofs.SizeLaws.{boxes-left, kind_said, turn_read}
use Rattle.facing.specs.declared.Facing.{Facing}
use Rattle.facing.specs.Facings.{facing, turn_facing, joined_facing, chain_facing, number_of}
use Rattle.facing.specs.Told.{told_faced}
use Rattle.facing.proofs.TurnsLaws.{Clear, clear_more, turn_same}

abbrev pub FacedFrom : List (List ℕ) → ℕ → Facing → Type 0
FacedFrom bs j m = Clear (drop j bs) × ((s : Size) → m ≡ chain_facing (turns_of s (drop j bs)))

-- past the last box
pub faced_none : (bs : List (List ℕ)) (j : ℕ) → length bs ≤ j → (m : Facing) → m ≡ facing false false false → FacedFrom bs j m
unfolding turns_of chain_facing
faced_none bs j h m e = rw (drop_of_length-le bs h) (refl, λ s. e)

-- from the box with number j on, whose type is k
module _ {t head : List ℕ} {pl : Places} {f : File} (v : TableOf t head pl f) (id j : ℕ) (l : j < length (associations_of f id))
    (k : ℕ) (e : k ≡ get_or (types_of f id) j 0) where
  pub faced_clap : k ≡ clap → (s : Size) → None ≡ told_faced f s id
  unfolding told_faced
  faced_clap q s = sym (pick_yes _ _ (member-at clap (types_of f id) j (omega (arith, types_many f id)) (sym e ∙ q)))

  -- and no `clap`: i is the number of the next one, from which on the boxes face by m
  module _ (n : k ≡ clap → ⊥) (m : Facing) (i : ℕ) (g : i ≡ j + 1) (w : FacedFrom (boxes_of f id) i m) where
    h : FacedFrom (boxes_of f id) (j + 1) m
    h = subst (λ (i : ℕ). FacedFrom (boxes_of f id) i m) g w

    abbrev here : List ℕ
    here = get_or (boxes_of f id) j []

    abbrev behind : List (List ℕ)
    behind = drop (j + 1) (boxes_of f id)

    kind-here : k ≡ kind_of here
    kind-here = kind_said v id j l k e

    clear_here : Clear (drop j (boxes_of f id))
    clear_here = subst Clear (sym (boxes-left v id j l k e)) (clear_more here behind (λ q. n (kind-here ∙ q)) h.0)

    pub faced_skip : transform k ≡ false → FacedFrom (boxes_of f id) j m
    unfolding turns_of
    faced_skip q = (clear_here, λ s. h.1 s ∙ ap chain_facing (sym (ap (turns_of s) (boxes-left v id j l k e) ∙ pick_no _ _ (ap transform (sym kind-here) ∙ q))))

    -- b is the box, c its content and u what it does to a picture of size z
    pub faced_turn : (b c : List ℕ) → b ≡ here → c ≡ body_of b → (z : Size) (u : Turn) → transform k ≡ true → (LongAsAsked k c → u ≡ turn_by z k c)
        → (a r : Facing) → a ≡ turn_facing u → r ≡ joined_facing a m → FacedFrom (boxes_of f id) j r
    unfolding turns_of chain_facing
    faced_turn b c eb ec z u q o a r ea er =
        let y : transform (kind_of here) ≡ true = ap transform (sym kind-here) ∙ q in (
          clear_here,
          λ s.
              er
              ∙ (λ i. joined_facing ((ea ∙ ap turn_facing (turn_read v id j l k e b c eb ec z u q o ∙
              turn_same here (λ q. n (kind-here ∙ q)) y z s)) i) (h.1 (size_after (turn_of s here) s) i))
              ∙ ap chain_facing (sym (ap (turns_of s) (boxes-left v id j l k e) ∙ pick_yes _ _ y)),
        )

-- all boxes
pub faced_all : (f : File) (id : ℕ) (m : Facing) (j : ℕ) → j ≡ 0 → FacedFrom (boxes_of f id) j m → (s : Size) → Some (number_of m) ≡ told_faced f s id
unfolding told_faced
faced_all f id m j e w s =
    let h = subst (λ (j : ℕ). FacedFrom (boxes_of f id) j m) e w in
    ap (λ (m : Facing). Some (number_of m)) (h.1 s) ∙ sym (pick_no _ _ h.0)
