-- The references of an `iref` are read exactly where its bytes spell them. Assumes nothing.
use Prim.Native.Nat.{ℕ, ◌+◌}
use mathlib.Core.Path.{◌≡◌, sym, ap, ◌∙◌}
use mathlib.Core.List.{List, [], ◌∷◌}
use Rattle.boxes.specs.Answer.{ok}
use Rattle.boxes.specs.Box.{head_of, kind_of, body_of}
use Rattle.boxes.proofs.AnswerLaws.{bind_ok, ok_bind, ok_inj}
use Rattle.boxes.proofs.ChildLaws.{contain-sound, contain-complete}
use Rattle.forms.proofs.WholeLaws.{whole-sound, whole-complete}
use Rattle.forms.proofs.LeadLaws.{lead-sound, lead-complete}
use Rattle.contents.specs.Full.{full, upto, id_bytes}
use Rattle.contents.specs.Iref.{IrefContent, no_references, reference_form, reference, references}
use Rattle.contents.specs.File.{referred}
use Rattle.contents.specs.Keeps.{ReferenceStep, References, Referred}

module _ (ids : List ℕ) where
  -- reference
  pub reference-sound : (bytes at : ℕ) (before : IrefContent) (b : List ℕ) (after : IrefContent) →
      reference ids bytes at before b ≡ ok after → ReferenceStep ids bytes before b after
  unfolding reference
  reference-sound bytes at before b after e =
      let f = reference_form ids bytes (kind_of b) before in
      let x = bind_ok _ _ after e in
      record { value = x.0; spells = whole-sound f at _ _ x.1; kept = sym (ok_inj _ _ x.2) }

  pub reference-complete : (bytes at : ℕ) (before : IrefContent) (b : List ℕ) (after : IrefContent) →
      ReferenceStep ids bytes before b after → reference ids bytes at before b ≡ ok after
  unfolding reference
  reference-complete bytes at before b after h =
      let f = reference_form ids bytes (kind_of b) before in
      ok_bind _ _ _ (whole-complete f at _ _ h.spells) ∙ ap ok (sym h.kept)

  -- references
  pub references-sound : (p at : ℕ) (s : List ℕ) (ds : IrefContent) → references ids p at s ≡ ok ds → References ids s ds
  unfolding references
  references-sound p at s ds e =
      lead-sound _ _ (full (upto 1)) (λ h a r. contain-sound _ (reference ids (id_bytes h.version))
      (reference-sound (id_bytes h.version)) p a no_references r) p at s ds e

  pub references-complete : (p at : ℕ) (s : List ℕ) (ds : IrefContent) → References ids s ds → references ids p at s ≡ ok ds
  unfolding references
  references-complete p at s ds h =
      lead-complete _ _ (full (upto 1)) (λ h a r. contain-complete _ (reference ids (id_bytes h.version))
      (reference-complete (id_bytes h.version)) p a no_references r) p at s ds h

  -- referred
  pub referred-sound : (p : ℕ) (bs : List (List ℕ)) (ds : IrefContent) → referred ids p bs ≡ ok ds → Referred ids bs ds
  unfolding referred
  referred-sound p [] ds e = sym (ok_inj no_references ds e)
  referred-sound p (b ∷ bs) ds e = references-sound p (p + head_of b) (body_of b) ds e

  pub referred-complete : (p : ℕ) (bs : List (List ℕ)) (ds : IrefContent) → Referred ids bs ds → referred ids p bs ≡ ok ds
  unfolding referred
  referred-complete p [] ds e = ap ok (sym e)
  referred-complete p (b ∷ bs) ds h = references-complete p (p + head_of b) (body_of b) ds h
