-- What a form means, and what each line of a content means: how it is read, what spells a value, and what breaks it.
--   read p s       the value at the front of s, and what follows it; a refusal has the place p
--   Spells u v     the bytes u spell the value v
--   Breaks n s     the lines before some line are spelled by the front of s, and what follows breaks that line: refused by n
-- `sound` and `complete` say that values are read exactly where they are spelled, `breaks_sound` and `breaks_complete` that
-- reading is refused exactly where the form is broken, by that number and at the place of the box, whatever the place.
use Rattle.std.specs.Prelude.{ℕ, ◌≡◌, List, ◌++◌, Bool, true, false, drop}
use Rattle.fields.specs.Field.{be_at}
use Rattle.boxes.specs.Answer.{Answer, ok, refuse}

pub record Got (A : Type 0) : Type 0 where
  pub value : A
  pub rest : List ℕ

-- "fields in byte order, first fault given"
pub record Form (A : Type 0) : Type 1 where
  pub read : ℕ → List ℕ → Answer (Got A)
  pub Spells : List ℕ → A → Type 0
  pub Breaks : ℕ → List ℕ → Type 0
  pub sound : (p : ℕ) (s : List ℕ) (v : A) (t : List ℕ) → read p s ≡ ok (record { value = v; rest = t }) → (u : List ℕ) × (u ++ t ≡ s) × Spells u v
  pub complete : (p : ℕ) (u : List ℕ) (v : A) (t : List ℕ) → Spells u v → read p (u ++ t) ≡ ok (record { value = v; rest = t })
  pub breaks_sound : (p : ℕ) (s : List ℕ) (n q : ℕ) → read p s ≡ refuse n q → (q ≡ p) × Breaks n s
  pub breaks_complete : (p : ℕ) (s : List ℕ) (n : ℕ) → Breaks n s → read p s ≡ refuse n p

abbrev pub got : {A : Type 0} → A → List ℕ → Answer (Got A)
got v t = ok (record { value = v; rest = t })

-- a test: refused with number n unless it holds
unfoldable pub demand_of : Bool → ℕ → ℕ → List ℕ → Answer (Got (Unit {0}))
demand_of true n p s = got tt s
demand_of false n p s = refuse n p

-- "content ends inside a field" (8): a field of n bytes
unfoldable pub field_by : Bool → ℕ → ℕ → List ℕ → Answer (Got ℕ)
field_by true n p s = got (be_at s 0 n) (drop n s)
field_by false n p s = refuse 8 p

-- one form after another, which may go by the value of the first
module _ {A B : Type 0} (f : Form A) (g : A → Form B) where
  unfoldable pub onto : ℕ → Answer (Got A) → Answer (Got B)
  onto p (ok r) = (g r.value).read p r.rest
  onto p (refuse n q) = refuse n q

  pub record Joined (u : List ℕ) (w : B) : Type 0 where
    pub value : A
    pub left : List ℕ
    pub right : List ℕ
    pub join : left ++ right ≡ u
    pub first : f.Spells left value
    pub then : (g value).Spells right w

-- the first is broken; or it is spelled, and what follows breaks the second
pub data EitherBreaks {A B : Type 0} (f : Form A) (g : A → Form B) (n : ℕ) (s : List ℕ) : Type 0 where
  first_breaks : f.Breaks n s → EitherBreaks f g n s
  then_breaks : (v : A) (left right : List ℕ) → left ++ right ≡ s → f.Spells left v → (g v).Breaks n right →
      EitherBreaks f g n s
