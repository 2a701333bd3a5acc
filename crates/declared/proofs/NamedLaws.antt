-- What the associations of an item name: the property's type, its box, and how long its content is. Assumes nothing.
use Prim.Native.Nat.{ℕ, ◌+◌, ◌%◌, ◌≤◌, ◌<◌, ◌-◌}
use native.Mathlib.Omega.{arith}
use mathlib.Core.Path.{◌≡◌, refl, sym, ap, ◌∙◌, subst}
use mathlib.Core.List.{List, []}
use mathlib.Core.Bool.{Bool, true, false}
use lib.ListN.{length, get_or, length-append, length-map, get_or-map}
use lib.Dec.{eqb}
use borrow.Author.Tests.{eqb-true, eqb-false, ne_eqb}
use Rattle.fields.specs.Choice.{pick}
use Rattle.fields.proofs.FieldLaws.{both}
use Rattle.boxes.specs.Types.{ispe, clap, irot, imir}
use Rattle.boxes.specs.Box.{kind_of, body_of}
use Rattle.forms.specs.Form.{give, field, ◌>>=◌}
use Rattle.contents.proofs.PropertyLaws.{Good}
use Rattle.contents.specs.Full.{upto}
use Rattle.contents.specs.Ipco.{GoodContent, bytes_form, ispe_form}
use Rattle.contents.specs.Ipma.{Association}
use Rattle.contents.specs.File.{File}
use Rattle.pictures.specs.Decode.{transform}
use Rattle.pictures.specs.inner.Told.{LongAsAsked}
use Rattle.rules.specs.Joined.{associations_of, boxes_of, types_of, property_at, no_association}
use Rattle.rules.specs.Places.{Places}
use Rattle.rules.specs.Words.{association_word}
use Rattle.views.specs.inner.View.{TableOf}
use Rattle.views.proofs.PartLaws.{full-length}
use Rattle.views.proofs.TableLaws.{property-none, no_kind}

-- association_word, an index being below 32768
module _ (i : ℕ) (h : i < 32768) where
  word_index : (t : Bool) → (i + pick t 32768 0) % 32768 ≡ i
  unfolding pick
  word_index true = omega arith
  word_index false = omega arith

  word_marked : (t : Bool) → 32768 ≤ i + pick t 32768 0 → t ≡ true
  unfolding pick
  word_marked true l = refl
  word_marked false l = absurd (omega arith)

  word_plain : (t : Bool) → i + pick t 32768 0 < 32768 → t ≡ false
  unfolding pick
  word_plain true l = absurd (omega arith)
  word_plain false l = refl

-- boxes_of, types_of
pub box-at : (f : File) (id j : ℕ) → get_or (boxes_of f id) j [] ≡ property_at f (get_or (associations_of f id) j no_association).index
box-at f id j =
    subst (λ (d : List ℕ). get_or (boxes_of f id) j d ≡ property_at f (get_or (associations_of f id) j no_association).index) (property-none f 0 refl)
    (get_or-map (λ (a : Association). property_at f a.index) (associations_of f id) j no_association)

pub type_at : (f : File) (id j : ℕ) → get_or (types_of f id) j 0 ≡ kind_of (get_or (boxes_of f id) j [])
type_at f id j =
    subst (λ (d : ℕ). get_or (types_of f id) j d ≡ kind_of (get_or (boxes_of f id) j [])) no_kind
    (get_or-map (λ (b : List ℕ). kind_of b) (boxes_of f id) j [])

pub boxes-many : (f : File) (id : ℕ) → length (boxes_of f id) ≡ length (associations_of f id)
boxes-many f id = length-map (associations_of f id) (λ (a : Association). property_at f a.index)

pub types_many : (f : File) (id : ℕ) → length (types_of f id) ≡ length (associations_of f id)
types_many f id = length-map (boxes_of f id) (λ (b : List ℕ). kind_of b) ∙ boxes-many f id

-- bytes-form, ispe-form: a content has the length of its form
bytes-long : (n : ℕ) (s : List ℕ) → (bytes_form n).Spells s tt → length s ≡ n
unfolding bytes_form ◌>>=◌ field give
bytes-long n s h = omega (arith, ap length h.join, length-append h.left h.right, h.first.0, ap length h.then.0)

ispe-long : (s : List ℕ) → ispe_form.Spells s tt → length s ≡ 12
unfolding ispe_form ◌>>=◌ field give
ispe-long s h =
    let w = h.then in
    let v = w.then in
    omega (
      arith,
      ap length h.join,
      length-append h.left h.right,
      full-length (upto 0) h.left h.value h.first,
      ap length w.join,
      length-append w.left w.right,
      w.first.0,
      ap length v.join,
      length-append v.left v.right,
      v.first.0,
      ap length v.then.0,
    )

-- GoodContent
held-nothing : GoodContent (kind_of []) (body_of [])
held-nothing =
    record {
      of_ispe = λ e. absurd (omega (arith, no_kind, e));
      of_clap = λ e. absurd (omega (arith, no_kind, e));
      of_irot = λ e. absurd (omega (arith, no_kind, e));
      of_imir = λ e. absurd (omega (arith, no_kind, e));
    }

pub held-sized : (k : ℕ) (s : List ℕ) → GoodContent k s → transform k ≡ true → LongAsAsked k s
held-sized k s h e =
    record {
      of_irot = λ q. bytes-long 1 s (h.of_irot q);
      of_imir = λ q. bytes-long 1 s (h.of_imir q);
      of_clap = λ n m. bytes-long 32 s (h.of_clap (eqb-true k clap (rw (ne_eqb k irot n, ne_eqb k imir m) at e)));
    }

pub held-ispe : (k : ℕ) (s : List ℕ) → GoodContent k s → k ≡ ispe → length s ≡ 12
held-ispe k s h e = ispe-long s (h.of_ispe e)

-- a table's associations: w is the word of the one with number j
module _ {t head : List ℕ} {pl : Places} {f : File} (v : TableOf t head pl f) (id j : ℕ) where
  pub box-held : j < length (associations_of f id) → GoodContent (kind_of (get_or (boxes_of f id) j [])) (body_of (get_or (boxes_of f id) j []))
  unfolding property_at
  box-held l =
      let i = (get_or (associations_of f id) j no_association).index in
      let n = v.sound.indexed id j l in
      subst Good (sym (box-at f id j)) (both Good (eqb i 0) [] (get_or f.properties (i - 1) []) (λ e. held-nothing)
      (λ e. v.sound.held (i - 1) (omega (arith, eqb-false i 0 e))))

  module _ (l : j < length (associations_of f id)) (w : ℕ) (e : w ≡ association_word (get_or (associations_of f id) j no_association)) where
    index-small : (get_or (associations_of f id) j no_association).index < 32768
    index-small = omega (arith, v.sound.indexed id j l, v.bounded.few-properties)

    pub index_read : w % 32768 ≡ (get_or (associations_of f id) j no_association).index
    index_read = ap (λ (x : ℕ). x % 32768) e ∙ word_index _ index-small (get_or (associations_of f id) j no_association).essential

    pub marked-read : 32768 ≤ w → (get_or (associations_of f id) j no_association).essential ≡ true
    marked-read h = word_marked _ index-small _ (rw e at h)

    pub plain-read : w < 32768 → (get_or (associations_of f id) j no_association).essential ≡ false
    plain-read h = word_plain _ index-small _ (rw e at h)

    -- i is the index that the word says
    module _ (i : ℕ) (q : i ≡ w % 32768) where
      index_in : i ≤ length f.properties
      index_in = omega (arith, q, index_read, v.sound.indexed id j l)

      pub kind-named : (k : ℕ) → (i ≤ length f.properties → k ≡ kind_of (property_at f i)) → k ≡ get_or (types_of f id) j 0
      kind-named k g = g index_in ∙ ap (λ (x : ℕ). kind_of (property_at f x)) (q ∙ index_read) ∙ ap kind_of (sym (box-at f id j)) ∙ sym (type_at f id j)

      pub box-named : (b : List ℕ) → (i ≤ length f.properties → b ≡ property_at f i) → b ≡ get_or (boxes_of f id) j []
      box-named b g = g index_in ∙ ap (property_at f) (q ∙ index_read) ∙ sym (box-at f id j)
