-- What lies beneath a point of a coded picture, and the end of a trace, step by step. Assumes nothing.
use Rattle.std.proofs.Common.{◌≡◌, ℕ, suc, ◌+◌, ◌-◌, ◌<◌, Bool, true, false, List, length, sym, refl, ap, ◌∙◌, ⊎_elim, arith, ne_eqb}
use Rattle.fields.proofs.FieldLaws.{pick_yes, pick_no}
use Rattle.fields.proofs.TestLaws.{untrue, or_either, member-all}
use Rattle.boxes.specs.Answer.{ok}
use Rattle.boxes.specs.Types.{iden, grid, iovl, coded, derived, image}
use Rattle.boxes.proofs.AnswerLaws.{then_ok, ok_inj}
use Rattle.contents.specs.Iinf.{Item}
use Rattle.contents.specs.File.{File}
use Rattle.table.specs.declared.ItemRow.{ItemRow}
use Rattle.pictures.specs.declared.Size.{Size}
use Rattle.pictures.specs.declared.Point.{Point}
use Rattle.pictures.specs.declared.Turn.{Turn}
use Rattle.pictures.specs.Turn.{Inside, AllFit, size_through}
use Rattle.pictures.specs.Turn as Turns
use Rattle.pictures.specs.Decode.{turns_of}
use Rattle.pictures.specs.Recipe.{Recipe, Coded, Opaque}
use Rattle.pictures.specs.Scene.{Picture, Scene, picture_at, output_of}
use Rattle.pictures.specs.inner.GoodScene.{GoodPicture}
use Rattle.pictures.specs.Trace.{here, blank, input, fill, Traced, source_by, source_of, follow, traced, undo_turns}
use Rattle.pictures.specs.Trace as Trace
use Rattle.pictures.proofs.TurnLaws.{inside-undone}
use Rattle.pictures.proofs.SourceLaws.{source_beneath}
use Rattle.pictures.proofs.PathLaws.{traced-here, traced-blank, traced-input, good-picture}
use Rattle.rules.specs.Joined.{boxes_of, item_at}
use Rattle.rules.specs.Derivations.{recipe_for, recipe_of, scene_of}
use Rattle.rules.proofs.DerivationLaws.{shaped-drawn, rule-17-ok}
use Rattle.rules.proofs.SceneLaws.{opaque-at, turns_at, recipe-ok, inputs-fed}
use Rattle.views.specs.inner.View.{SizesAre, id_of}
use Rattle.sizing.proofs.SizesLaws.{scene_many}
use Rattle.tracing.specs.inner.Told.{Shown, told_source, told_end_by, told_end}
use Rattle.tracing.specs.declared.Source.{Source}
use Rattle.tracing.specs.declared.Source.TheVariants as source
use Rattle.tracing.specs.declared.End.{End}
use Rattle.tracing.specs.declared.End.TheVariants as end

-- recipe_of of an image item that is not derived
plain-coded : (total : ℕ) (head : List ℕ) (f : File) (item : Item) (r : Recipe) → image item.type ≡ true →
    derived item.type ≡ false → recipe_of total head f item ≡ ok r → r ≡ Coded
unfolding recipe_for
plain-coded total head f item r i d m =
    let x = then_ok _ _ r (sym (pick_no _ _ d) ∙ rule-17-ok item.id (recipe_for total head f item) r m) in
    let c : coded item.type ≡ true = ⊎_elim (λ h. h) (λ h. untrue (sym d ∙ h)) (or_either (coded item.type) (derived item.type) i) in
    sym (sym (pick_yes _ _ c) ∙ ok_inj _ r x.2)

-- told_source
told_here : (x : Trace.Source) → source.Here ≡ told_source x → x ≡ here
unfolding told_source
told_here here e = refl
told_here blank e = let z : ◌≡◌ {A = ℕ} 0 1 = cc in absurd (omega arith)
told_here (input j q) e = let z : ◌≡◌ {A = ℕ} 0 1 = cc in absurd (omega arith)

told-blank : (x : Trace.Source) → source.Blank ≡ told_source x → x ≡ blank
unfolding told_source
told-blank here e = let z : ◌≡◌ {A = ℕ} 0 1 = cc in absurd (omega arith)
told-blank blank e = refl
told-blank (input j q) e = let z : ◌≡◌ {A = ℕ} 0 1 = cc in absurd (omega arith)

told-input : (x : Trace.Source) (j : ItemRow) (q : Point) → source.Input j q ≡ told_source x → x ≡ input j.0 q
unfolding told_source
told-input here j q e = let z : ◌≡◌ {A = ℕ} 0 1 = cc in absurd (omega arith)
told-input blank j q e = let z : ◌≡◌ {A = ℕ} 0 1 = cc in absurd (omega arith)
told-input (input k p) j q e =
    let a : j ≡ record { 0 = k } = cc in
    let b : q ≡ p = cc in
    rw (b, ap (λ (j : ItemRow). j.0) a)

-- traced: no derivation is left to go down
traced-last : (undo : Picture → Point → Point) (s : Scene) (n i : ℕ) (p : Point) (j : ℕ) (q : Point) →
    source_of s i p ≡ input j q → traced undo s 0 n i p ≡ record { end = fill i p; passed = n + 1 }
unfolding traced follow
traced-last undo s n i p j q e = rw e

-- Shown: the picture of an image item
module _ {t rows head : List ℕ} {total : ℕ} {f : File} (v : Shown t rows head total f) where
  abbrev s : Scene
  s = scene_of total head f

  -- what is drawn is an image item
  drawn-image : (j : ℕ) → ((picture_at s j).recipe ≡ Opaque → ⊥) → image (item_at f j).type ≡ true
  drawn-image j d = by (image (item_at f j).type) refl
    where
      by : (t : Bool) → image (item_at f j).type ≡ t → image (item_at f j).type ≡ true
      by true e = e
      by false e = absurd (d (opaque-at total head f j e))

  module _ (r : ℕ) (h : r < length f.items) (i : image (item_at f r).type ≡ true) where
    abbrev q : Picture
    q = picture_at s r

    kept-good : GoodPicture s r
    kept-good = good-picture s v.good (omega (arith, scene_many total head f)) (shaped-drawn _ _ (inputs-fed total head f r i (v.fed r h)).0)

    -- source_of of an item of none of the three derived types
    pub coded_source : ((item_at f r).type ≡ iden → ⊥) → ((item_at f r).type ≡ grid → ⊥) → ((item_at f r).type ≡ iovl → ⊥) →
        (p : Point) → source.Here ≡ told_source (source_of s r p)
    unfolding source_by told_source
    coded_source a b c p =
        let d : derived (item_at f r).type ≡ false = rw (ne_eqb _ iden a, ne_eqb _ grid b, ne_eqb _ iovl c) in
        let x = recipe-ok total head f r i (v.fed r h) in
        rw (x.2 ∙ plain-coded total head f (item_at f r) x.0 i d x.1)

    -- traced from the point p of the reconstructed picture, beneath which x lies
    module _ (d n : ℕ) (p : Point) (x : Source) (e : x ≡ told_source (source_of s r p)) where
      pub end-here : x ≡ source.Here → end.Pixel (record { 0 = r }) p (n + 1) ≡ told_end (traced undo_turns s d n r p)
      unfolding told_end_by
      end-here k = sym (ap (λ (t : Traced). told_end t) (traced-here undo_turns s n r p d (told_here _ (sym k ∙ e))))

      pub end-blank : x ≡ source.Blank → end.Fill (record { 0 = r }) p (n + 1) ≡ told_end (traced undo_turns s d n r p)
      unfolding told_end_by
      end-blank k = sym (ap (λ (t : Traced). told_end t) (traced-blank undo_turns s n r p d (told-blank _ (sym k ∙ e))))

      module _ (j : ItemRow) (a : Point) (k : x ≡ source.Input j a) where
        beneath : source_of s r p ≡ input j.0 a
        beneath = told-input _ j a (sym k ∙ e)

        pub end-last : d ≡ 0 → end.Fill (record { 0 = r }) p (n + 1) ≡ told_end (traced undo_turns s d n r p)
        unfolding told_end_by
        end-last z = rw z (sym (ap (λ (t : Traced). told_end t) (traced-last undo_turns s n r p j.0 a beneath)))

        -- y being the end of the trace from the input's output picture
        pub end-input : (d ≡ 0 → ⊥) → Inside q.declared p → (y : End)
            → (j.0 < length f.items → image (item_at f j.0).type ≡ true →
            Inside (output_of (picture_at s j.0)) a → y ≡ told_end
            (traced undo_turns s (d - 1) (n + 1) j.0 (undo_turns (picture_at s j.0) a)))
            → y ≡ told_end (traced undo_turns s d n r p)
        end-input z l y g =
            let u = source_beneath kept-good p l _ beneath in
            let w = member-all _ q.inputs kept-good.inputs-drawn j.0 u.0 in
            let m : d ≡ suc (d - 1) = omega (arith, z) in
            g (omega (arith, w.0, scene_many total head f)) (drawn-image j.0 w.1) u.1
            ∙ sym (ap (λ (d : ℕ). told_end (traced undo_turns s d n r p)) m ∙
            ap (λ (t : Traced). told_end t) (traced-input undo_turns s n r p (d - 1) j.0 a beneath))

    -- traced from the output pixel p: z is the size that the table has, a the point that the transforms lead back to
    module _ (d n : ℕ) (p : Point) (l : Inside (output_of q) p) (z : Size)
        (ez : (s : Scene) → SizesAre t s → r < length s → z ≡ (picture_at s r).declared) where
      declared-is : z ≡ q.declared
      declared-is = ez s v.sizes (omega (arith, scene_many total head f))

      abbrev turns : List Turn
      turns = turns_of z (boxes_of f (id_of f r))

      turns-is : turns ≡ q.turns
      turns-is = rw declared-is (sym (turns_at total head f r i))

      pub end-output : (a : Point) → (AllFit turns z → Inside (size_through turns z) p → a ≡ Turns.undone turns z p) →
          (y : End) → (Inside q.declared a → y ≡ told_end (traced undo_turns s d n r a)) →
          y ≡ told_end (traced undo_turns s d n r (undo_turns q p))
      unfolding output_of
      end-output a g y k =
          let b : a ≡ undo_turns q p = g (rw (turns-is, declared-is) kept-good.fit) (rw (turns-is, declared-is) l) ∙ rw (turns-is, declared-is) in
          k (rw b (inside-undone q.turns q.declared p kept-good.fit l)) ∙ ap (λ (a : Point). told_end (traced undo_turns s d n r a)) b
