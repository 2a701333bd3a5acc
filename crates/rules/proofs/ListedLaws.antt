-- A file that was read names no item in its derivations and links that is not listed. Assumes nothing.
--   Listed f, LinksListed f    every target of a derivation, of a link, is listed
use Prim.Native.Nat.{ℕ}
use mathlib.Core.Path.{◌≡◌, sym, subst}
use mathlib.Core.List.{List, [], ◌∷◌}
use mathlib.Core.Bool.{true}
use lib.Dec.{eqb}
use Rattle.fields.specs.Lists.{member, All}
use Rattle.fields.proofs.FieldLaws.{both}
use Rattle.boxes.specs.Answer.{ok}
use Rattle.boxes.specs.Types.{iref, iloc, dimg}
use Rattle.boxes.specs.Box.{kind_of, body_of}
use Rattle.boxes.specs.Children.{Through, of_kind}
use Rattle.boxes.proofs.AnswerLaws.{bind_ok, then_ok}
use Rattle.forms.specs.Form.{give, demand, ◌>>=◌}
use Rattle.forms.proofs.ManyLaws.{all_snoc, many-all}
use Rattle.contents.specs.Iinf.{ids_of}
use Rattle.contents.specs.Iref.{Reference, IrefContent, no_references, target_form, reference_form, kept_by}
use Rattle.contents.specs.File.{File, read_file}
use Rattle.contents.specs.Keeps.{ReferenceStep, Referred, Keeps}
use Rattle.contents.proofs.FileLaws.{file-sound}

abbrev pub Told : List ℕ → Reference → Type 0
Told ids d = All (λ (t : ℕ). member t ids ≡ true) d.targets

abbrev pub Listed : File → Type 0
Listed f = All (Told (ids_of f.items)) f.derivations

abbrev pub LinksListed : File → Type 0
LinksListed f = All (Told (ids_of f.items)) f.links

module _ (ids : List ℕ) where
  -- target-form
  target_told : (bytes : ℕ) (before u : List ℕ) (t : ℕ) → (target_form ids bytes before).Spells u t → member t ids ≡ true
  unfolding target_form ◌>>=◌ demand give
  target_told bytes before u t h = subst (λ (t : ℕ). member t ids ≡ true) (sym h.then.then.1) h.then.first.1

  -- reference-form
  reference-told : (bytes kind : ℕ) (before : IrefContent) (u : List ℕ) (d : Reference) →
      (reference_form ids bytes kind before).Spells u d → Told ids d
  unfolding reference_form ◌>>=◌ give
  reference-told bytes kind before u d h =
      let w = h.then.then.then.then.then.then in
      subst (Told ids) (sym w.then.1) (many-all (λ (t : ℕ). member t ids ≡ true) (target_form ids bytes) (target_told bytes) _ [] _ _ tt w.first)

  abbrev AllTold : IrefContent → Type 0
  AllTold c = All (Told ids) c.derivations × All (Told ids) c.links

  -- ReferenceStep
  step_told : (bytes : ℕ) (before after : IrefContent) (b : List ℕ) → ReferenceStep ids bytes before b after → AllTold before → AllTold after
  unfolding kept_by
  step_told bytes before after b h a =
      let t = reference-told bytes (kind_of b) before _ h.value h.spells in
      subst AllTold (sym h.kept)
      (both AllTold (eqb (kind_of b) dimg) _ _ (λ e. (all_snoc (Told ids) before.derivations h.value a.0 t, a.1))
      (λ e. both AllTold (eqb (kind_of b) iloc) _ _ (λ i. (a.0, all_snoc (Told ids) before.links h.value a.1 t)) (λ i. a)))

  through-told : (bytes : ℕ) (bs : List (List ℕ)) (before after : IrefContent) →
      Through (ReferenceStep ids bytes) before bs after → AllTold before → AllTold after
  through-told bytes [] before after h a = subst AllTold h a
  through-told bytes (b ∷ bs) before after h a = through-told bytes bs h.0 after h.2 (step_told bytes before h.0 b h.1 a)

  -- Referred
  referred-told : (bs : List (List ℕ)) (c : IrefContent) → Referred ids bs c → AllTold c
  referred-told [] c h = subst AllTold (sym h) (tt, tt)
  referred-told (b ∷ bs) c h = through-told _ h.then.boxes no_references c h.then.through (tt, tt)

-- Keeps
told-both : (s : List ℕ) (f : File) → Keeps s f → Listed f × LinksListed f
told-both s f k = referred-told (ids_of f.items) (of_kind iref k.then.boxes) _ k.then.spelled.in_iref

pub keeps-listed : (s : List ℕ) (f : File) → Keeps s f → Listed f
keeps-listed s f k = (told-both s f k).0

pub keeps-links-listed : (s : List ℕ) (f : File) → Keeps s f → LinksListed f
keeps-links-listed s f k = (told-both s f k).1

-- read_file
pub read-links-listed : (total : ℕ) (head : List ℕ) (f : File) → read_file total head ≡ ok f → LinksListed f
unfolding read_file
read-links-listed total head f e =
    let x = then_ok _ _ f e in let y = bind_ok _ _ f x.2 in keeps-links-listed (body_of y.0.box) f (file-sound _ _ _ f y.2)

pub read-listed : (total : ℕ) (head : List ℕ) (f : File) → read_file total head ≡ ok f → Listed f
unfolding read_file
read-listed total head f e = let x = then_ok _ _ f e in let y = bind_ok _ _ f x.2 in keeps-listed (body_of y.0.box) f (file-sound _ _ _ f y.2)
