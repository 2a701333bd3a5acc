-- What the steps of reading an `iprp` answer and leave: the contracts of the crate's own functions.
--   next_property, AddedIs        one property read, and the table afterwards
--   level_of bs                   the children of an `iprp` as far as the code keeps them
--   PropertiesLeft               the table afterwards, where a file is read into it
--   pair_shown                    the contents of an `ipco` and an `ipma`
use Rattle.std.specs.Prelude.{ℕ, ◌+◌, ◌*◌, ◌≡◌, List, [], ◌∷◌, ◌++◌, length, ltb, Result, Ok, Err}
use Rattle.std.proofs.lemmas.List.Edits.{sets}
use Rattle.boxes.specs.Answer.{Answer, ok, refuse, check}
use Rattle.boxes.specs.Answer as Ans
use Rattle.boxes.specs.declared.Refusal.{Refusal}
use Rattle.boxes.specs.Box.{head_of, kind_of}
use Rattle.boxes.specs.Children.{contain}
use Rattle.forms.specs.Form.{whole}
use Rattle.contents.specs.Ipco.{good_content, property_step}
use Rattle.contents.specs.Ipma.{ipma_form}
use Rattle.contents.specs.Iprp.{IprpContent}
use Rattle.contents.specs.File.{File}
use Rattle.rules.specs.Places.{Places}
use Rattle.records.specs.inner.Raw.{Bounded, raw_of}
use Rattle.records.specs.inner.Stage.{Kept, Ready, with_properties, with_names}
use Rattle.associations.specs.inner.Told.{KeptIds}
use Rattle.properties.specs.declared.Level.{Level}

-- a property of type kind with the content s, whose box is at `place`, behind n others; m is the answer of reading it
abbrev pub next_property : ℕ → ℕ → ℕ → List ℕ → Answer (Unit {0})
next_property n kind place s = Ans.◌>>◌ (check 9 place (ltb n 256)) (good_content kind place s)

abbrev pub AddedIs : Answer (Unit {0}) → ℕ → ℕ → ℕ → ℕ → List ℕ → List ℕ → Result (Unit {0}) Refusal → Type 0
AddedIs m n kind place size t u (Ok x) = (m ≡ ok tt) × (u ≡ sets t (4112 + 4 * n) (kind ∷ place ∷ size ∷ 0 ∷ []))
AddedIs m n kind place size t u (Err r) = (m ≡ refuse r.number r.place) × (u ≡ t)

-- the children of an `iprp`: how many, at most 3; of the first two the type, where the content begins and where they end
unfoldable pub level_of : List (List ℕ) → Level
level_of [] = record { count = 0; kind0 = 0; body0 = 0; end0 = 0; kind1 = 0; body1 = 0; end1 = 0 }
level_of (a ∷ []) = record { count = 1; kind0 = kind_of a; body0 = head_of a; end0 = length a; kind1 = 0; body1 = 0; end1 = 0 }
level_of (a ∷ b ∷ []) = record {
  count = 2;
  kind0 = kind_of a;
  body0 = head_of a;
  end0 = length a;
  kind1 = kind_of b;
  body1 = length a + head_of b;
  end1 = length a + length b;
}
level_of (a ∷ b ∷ c ∷ cs) = record {
  count = 3;
  kind0 = kind_of a;
  body0 = head_of a;
  end0 = length a;
  kind1 = kind_of b;
  body1 = length a + head_of b;
  end1 = length a + length b;
}

-- the table afterwards
pub record PropertiesLeft (s : List ℕ) (place base : ℕ) (t u : List ℕ) : Type 0 where
  pub same : KeptIds t u
  pub told : (pl : Places) (f : File) (x : List ℕ) (ps : List (List ℕ)) → pl.properties ≡ base → Bounded f →
      f.properties ≡ [] → contain property_step place base [] s ≡ ok ps → t ≡ raw_of [] pl f ++ x →
      u ≡ raw_of [] pl (with_properties f ps) ++ x

-- the content p of an `ipco` at `base`, whose header is h bytes long, and the content q of the `ipma` behind it, at `base` + e
unfoldable pub pair_shown : List ℕ → ℕ → ℕ → ℕ → List ℕ → List ℕ → Answer IprpContent
pair_shown ids base h e p q =
    Ans.◌>>=◌ (contain property_step base (base + h) [] p)
    (λ ps. Ans.◌>>=◌ (whole (ipma_form ids (length ps)) (base + e) q) (λ ns. ok (record { properties = ps; associations = ns })))

pub record PairLeft (m : Answer IprpContent) (base n : ℕ) (t u : List ℕ) : Type 0 where
  pub kept : Kept t u
  pub told : (pl : Places) (f : File) (x : List ℕ) (v : IprpContent) → pl.properties ≡ base → Ready f n →
      f.properties ≡ [] → f.associations ≡ [] → m ≡ ok v → t ≡ raw_of [] pl f ++ x →
      u ≡ raw_of [] pl (with_names (with_properties f v.properties) v.associations) ++ x
