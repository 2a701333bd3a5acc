-- What the steps of reading an `iref` answer and leave: the targets of a reference, the reference, all of them. t and u are the table
-- before and after, v and x the rows.
--   targets_from ids w k p s from   the k targets, of w bytes each, that stand in s from a place on, in a box at p
--   no_value                        the code's value for them, which is none;   TargetsLeft    the table after them
--   purpose_of kind                 what a reference of a box's type is read for
--   Marked t n ds                  the rows of the table t that have a target count are those of the items that ds derives
--   MarkedLinks t n ks v           the rows that v marks, from 2,048 on, are those of the items that have one of the links ks
--   second_by q t v row             whether a row has a reference that is read for q
--   stepped ids w kind p c s       the references c, and the one that the box of type kind with the content s, at p, adds
--   Stored                         the table after a `dimg`
-- PickedBy t n k target mark r   r is the row, of the first n of the table t, with the ID of the target that an extent's mark picks
-- from k targets; 256 where it picks none
--   NamedFrom, NamesPut            the rows after that was asked for some extents, and for those of a row
--   LinkStored                     the rows after an `iloc`;   Added    table and rows after a reference that is good
--   Put                            the answer, table and rows after a reference
--   ChildrenLeft                   table and rows after all of them, a being their answer
use Rattle.std.specs.Prelude.{ℕ, ◌+◌, ◌*◌, ◌<◌, ◌≤◌, ◌≡◌, List, [], ◌∷◌, ◌++◌, Bool, true, false, not, ◌⊎◌, length, get_or, set, drop, eqb, Result}
use Rattle.std.proofs.lemmas.List.Edits.{sets}
use Rattle.fields.specs.Choice.{pick}
use Rattle.fields.specs.Lists.{member}
use Rattle.boxes.specs.Answer.{Answer, ok, ◌>>=◌}
use Rattle.boxes.specs.declared.Refusal.{Refusal}
use Rattle.boxes.specs.Told.{told}
use Rattle.boxes.specs.Types.{dimg, iloc}
use Rattle.forms.specs.Form.{many, whole}
use Rattle.contents.specs.Iref.{Reference, IrefContent, referring_in, target_form, reference_form, kept_by}
use Rattle.contents.specs.File.{File}
use Rattle.rules.specs.Places as places
use Rattle.records.specs.inner.Raw.{raw_of}
use Rattle.records.specs.inner.Rows.{id_at, ids_in}
use Rattle.records.specs.inner.Named.{NamedRows}
use Rattle.records.specs.inner.Stage.{Kept, Ready, with_references}
use Rattle.references.specs.inner.Told.{target_count}
use Rattle.references.specs.declared.Purpose.{Purpose}
use Rattle.references.specs.declared.Purpose.TheVariants.{Derives, Places, Other}

abbrev pub targets_from : List ℕ → ℕ → ℕ → ℕ → List ℕ → ℕ → Answer (List ℕ)
targets_from ids w k p s from = whole (many (target_form ids w) k []) p (drop from s)

abbrev pub no_value : List ℕ → Unit {0}
no_value ts = tt

-- those of a `dimg` become the targets from number `used` on
pub record TargetsLeft (a : Answer (List ℕ)) (k : ℕ) (keep : Bool) (used : ℕ) (t u : List ℕ) : Type 0 where
  pub kept : Kept t u
  pub other : keep ≡ false → u ≡ t
  pub told : (ts : List ℕ) → a ≡ ok ts → (length ts ≡ k) × (u ≡ sets t (7184 + used) (pick keep ts []))

unfoldable pub purpose_of : ℕ → Purpose
purpose_of kind = pick (eqb kind dimg) Derives (pick (eqb kind iloc) Places Other)

abbrev pub Marked : List ℕ → ℕ → List Reference → Type 0
Marked t n ds = (k : ℕ) → k < n → member (id_at t k) (referring_in ds) ≡ not (eqb (get_or t (16 + 16 * k + 6) 0) 0)

abbrev pub MarkedLinks : List ℕ → ℕ → List Reference → List ℕ → Type 0
MarkedLinks t n ks v = (k : ℕ) → k < n → member (id_at t k) (referring_in ks) ≡ not (eqb (get_or v (2048 + k) 0) 0)

unfoldable pub second_by : Purpose → List ℕ → List ℕ → ℕ → Bool
second_by Derives t v row = not (eqb (get_or t (16 + 16 * row + 6) 0) 0)
second_by Places t v row = not (eqb (get_or v (2048 + row) 0) 0)
second_by Other t v row = false

unfoldable pub stepped : List ℕ → ℕ → ℕ → ℕ → IrefContent → List ℕ → Answer IrefContent
stepped ids w kind p before s = whole (reference_form ids w kind before) p s >>= (λ d. ok (kept_by kind before d))

-- its targets behind those before, and where they are in the record of its item, which had none
pub record Stored (n used : ℕ) (before : List Reference) (d : Reference) (t u : List ℕ) : Type 0 where
  pub row : ℕ
  pub listed : row < n
  pub its_id : id_at t row ≡ d.id
  pub fresh : member d.id (referring_in before) ≡ false
  pub some : 0 < length d.targets
  pub fits : used + length d.targets ≤ 2048
  pub is : u ≡ sets (sets t (7184 + used) d.targets) (16 + 16 * row + 5) (used ∷ length d.targets ∷ [])

-- a mark from 258 on picks a target, counted from 0
abbrev pub PickedBy : List ℕ → ℕ → ℕ → (ℕ → ℕ) → ℕ → ℕ → Type 0
PickedBy t n k target mark r =
    (mark < 258 → r ≡ 256) × (258 + k ≤ mark → r ≡ 256) × ((j : ℕ) → j < k → mark ≡ 258 + j → (r < n) × (id_at t r ≡ target j))

pub record NamedFrom (t : List ℕ) (n k : ℕ) (target : ℕ → ℕ) (first count : ℕ) (v x : List ℕ) : Type 0 where
  pub picked : (j : ℕ) → j < count → PickedBy t n k target (get_or v (2304 + first + j) 0) (get_or x (2304 + first + j) 0)
  pub apart : (i : ℕ) → (i < 2304 + first) ⊎ (2304 + first + count ≤ i) → get_or x i 0 ≡ get_or v i 0

-- words 7, 8 and 9 of an item's record: first extent, count, method
pub record NamesPut (t : List ℕ) (n k : ℕ) (target : ℕ → ℕ) (row : ℕ) (v x : List ℕ) : Type 0 where
  pub below : (i : ℕ) → i < 2304 → get_or x i 0 ≡ get_or v i 0
  pub named : get_or t (16 + 16 * row + 9) 0 ≡ 2 → get_or t (16 + 16 * row + 7) 0 + get_or t (16 + 16 * row + 8) 0 ≤ 512 →
      NamedFrom t n k target (get_or t (16 + 16 * row + 7) 0) (get_or t (16 + 16 * row + 8) 0) v x
  pub other : (get_or t (16 + 16 * row + 9) 0 ≡ 2 → ⊥) → x ≡ v

-- its item, which had none, is marked, and the item's extents have the rows that they name
pub record LinkStored (n : ℕ) (before : List Reference) (d : Reference) (t v x : List ℕ) : Type 0 where
  pub row : ℕ
  pub listed : row < n
  pub its_id : id_at t row ≡ d.id
  pub fresh : member d.id (referring_in before) ≡ false
  pub few : length d.targets < 65536
  pub names : NamesPut t n (length d.targets) (λ j. get_or d.targets j 0) row (set v (2048 + row) 1) x

pub record Added (kind n used : ℕ) (before : IrefContent) (d : Reference) (t u v x : List ℕ) : Type 0 where
  pub stored : eqb kind dimg ≡ true → Stored n used before.derivations d t u
  pub same : eqb kind dimg ≡ false → u ≡ t
  pub linked : eqb kind iloc ≡ true → LinkStored n before.links d t v x
  pub past : eqb kind iloc ≡ false → (i : ℕ) → 2048 ≤ i → get_or x i 0 ≡ get_or v i 0

pub record Put (w kind p : ℕ) (s : List ℕ) (n used : ℕ) (before : IrefContent) (t u v x : List ℕ) (r : Result ℕ Refusal) : Type 0 where
  pub answer : r ≡ told target_count (stepped (ids_in t n) w kind p before s)
  pub added : (d : Reference) → whole (reference_form (ids_in t n) w kind before) p s ≡ ok d → Added kind n used before d t u v x

pub record ChildrenLeft (a : Answer IrefContent) (n : ℕ) (t u v x : List ℕ) : Type 0 where
  pub kept : Kept t u
  pub told : (pl : places.Places) (f : File) (y : List ℕ) (c : IrefContent) → Ready f n → f.derivations ≡ [] →
      a ≡ ok c → t ≡ raw_of [] pl f ++ y → u ≡ raw_of [] pl (with_references f c) ++ y
  pub named : (pl : places.Places) (f : File) (y : List ℕ) (c : IrefContent) → Ready f n → f.derivations ≡ [] →
      a ≡ ok c → t ≡ raw_of [] pl f ++ y → NamedRows f.items f.locations [] v → NamedRows f.items f.locations c.links x
