-- The first transform of an item, association by association. Assumes nothing.
use Rattle.std.proofs.Common.{◌≡◌, ℕ, suc, ◌+◌, ◌-◌, ◌*◌, ◌%◌, ◌<◌, ◌≤◌, true, false, List, length, get_or, drop, sym, refl, ap, ◌∙◌, arith, drop_of_length-le}
use Rattle.fields.proofs.FieldLaws.{pick_yes, pick_no}
use Rattle.fields.proofs.ListLaws.{left-from}
use Rattle.contents.specs.File.{File}
use Rattle.pictures.specs.Decode.{transform}
use Rattle.rules.specs.Joined.{associations_of, types_of, no_association}
use Rattle.rules.specs.Places.{Places}
use Rattle.rules.specs.Words.{association_word}
use Rattle.views.specs.inner.View.{TableOf, record_word, id_of}
use Rattle.views.proofs.TableLaws.{row_small, named-read, kind-none, kind-read}
use Rattle.declared.proofs.NamedLaws.{types_many, index_read, kind-named}
use Rattle.tracing.specs.inner.Told.{first_transform}

-- first_transform from place k on
module _ (ks : List ℕ) (k whole : ℕ) (inv : k + first_transform (drop k ks) ≡ whole) where
  first-end : length ks ≤ k → k ≡ whole
  unfolding first_transform
  first-end h = omega (arith, ap first_transform (drop_of_length-le ks {i = k} h))

  module _ (l : k < length ks) where
    first-here : transform (get_or ks k 0) ≡ true → k ≡ whole
    unfolding first_transform
    first-here e = let z : first_transform (drop k ks) ≡ 0 = ap first_transform (left-from ks k 0 l) ∙ pick_yes _ _ e in omega arith

    first_past : transform (get_or ks k 0) ≡ false → k + 1 + first_transform (drop (k + 1) ks) ≡ whole
    unfolding first_transform
    first_past e =
        let z : first_transform (drop k ks) ≡ suc (first_transform (drop (k + 1) ks)) = ap first_transform (left-from ks k 0 l) ∙ pick_no _ _ e in
        omega arith

-- an item's associations; n of them from `first` on, as the table says
module _ {t head : List ℕ} {pl : Places} {f : File} (v : TableOf t head pl f) (r : ℕ) (h : r < length f.items) (n : ℕ)
    (en : r < 256 → n ≡ record_word t r 4) where
  many : n ≡ length (types_of f (id_of f r))
  many = en (row_small v r h) ∙ v.named_count r h ∙ sym (types_many f (id_of f r))

  pub transforms-room : (first : ℕ) → (r < 256 → first ≡ record_word t r 3) → 2048 < first + n → ⊥
  transforms-room first ef l = omega (arith, ef (row_small v r h), many, types_many f (id_of f r), v.named-room r h)

  -- from number k on
  module _ (k whole : ℕ) (inv : k + first_transform (drop k (types_of f (id_of f r))) ≡ whole) where
    pub transforms-end : n ≤ k → k ≡ whole
    transforms-end l = first-end (types_of f (id_of f r)) k whole inv (omega (arith, many))

    -- i is the index in the word of association k
    module _ (l : k < n) (first : ℕ) (ef : r < 256 → first ≡ record_word t r 3) where
      abbrev i : ℕ
      i = get_or t (5136 + first + k) 0 % 32768

      there : k < length (associations_of f (id_of f r))
      there = omega (arith, many, types_many f (id_of f r))

      word_said : get_or t (5136 + first + k) 0 ≡ association_word (get_or (associations_of f (id_of f r)) k no_association)
      word_said = named-read v r h k first there ef _ (let e : 5136 + first + k ≡ 5136 + (first + k) = omega arith in ap (λ (a : ℕ). get_or t a 0) e)

      pub index-there : 256 < i → ⊥
      index-there m = omega (
        arith,
        index_read v (id_of f r) k there _ word_said,
        v.sound.indexed (id_of f r) k there,
        v.bounded.few-properties,
      )

      pub transforms-none : i < 1 → k + 1 + first_transform (drop (k + 1) (types_of f (id_of f r))) ≡ whole
      transforms-none z =
          let e = kind-named v (id_of f r) k there _ word_said i refl 0 (λ m. kind-none v i m (omega arith)) in
          first_past (types_of f (id_of f r)) k whole inv (omega (arith, many)) (ap transform (sym e))

      -- kind is the type of the property that is named
      module _ (some : 1 ≤ i) where
        abbrev kind : ℕ
        kind = get_or t (4108 + 4 * i) 0

        kind-there : kind ≡ get_or (types_of f (id_of f r)) k 0
        kind-there =
            let e : 4108 + 4 * i ≡ 4112 + 4 * (i - 1) = omega arith in
            kind-named v (id_of f r) k there _ word_said i refl kind
            (λ m. kind-read v i m (λ z. absurd (omega arith)) kind (ap (λ (a : ℕ). get_or t a 0) e))

        pub transforms-found : transform kind ≡ true → k ≡ whole
        transforms-found q = first-here (types_of f (id_of f r)) k whole inv (omega (arith, many)) (ap transform (sym kind-there) ∙ q)

        pub transforms-past : transform kind ≡ false → k + 1 + first_transform (drop (k + 1) (types_of f (id_of f r))) ≡ whole
        transforms-past q = first_past (types_of f (id_of f r)) k whole inv (omega (arith, many)) (ap transform (sym kind-there) ∙ q)
