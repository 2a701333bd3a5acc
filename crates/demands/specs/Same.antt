-- Document 02, Q-6: "Show that the new table is the old one rearranged and that every question has the same answer."
-- Old: the promise by document 01 alone, whose table has the records in the order of `iinf` (`file_after`). New: the promise
-- of today's functions (`after`). Two promises are compared, on the same head, total, table, IDs, numbers and lists, whatever
-- they are.
--   Found n old new                  an item is found under its ID in both tables of n items, with the same words
--   Moved head total table old new   the table that is left now beside the one that was left
--   Same head total table Given      a question whose promise is `Given`: its answer, and all that it leaves
--   Unmoved Given                    the same of a call that is refused before the file is read
--   AllSame, AllSameInC head total table     each question that reads a file, of both faces
use Rattle.std.specs.Prelude.{ℕ, ◌+◌, ◌*◌, ◌≤◌, ◌<◌, ◌≡◌, List, length, get_or, Result}
use Rattle.boxes.specs.Answer.{ok, refuse}
use Rattle.boxes.specs.declared.Refusal.{Refusal}
use Rattle.contents.specs.File.{File}
use Rattle.pictures.specs.declared.Point.{Point}
use Rattle.rules.specs.Opening.{opened, after, file_after}
use Rattle.arranged.specs.Rearranged.{Rearranged}
use Rattle.table.specs.declared.PropertyIndex.{PropertyIndex}
use Rattle.asked.specs.declared.Verdict.{Verdict}
use Rattle.asked.specs.declared.Sizes.{Sizes}
use Rattle.traced.specs.declared.Traced.{Traced}
use Rattle.seam.specs.declared.PointRecord.{PointRecord}
use Rattle.still_c.specs.Given as C
use Rattle.still.specs.Given.{VerdictBy, SizeBy, TraceBy, SourcesBy, BodyBy, OrientationBy, AskedBy, PropertyBy, PointsBy, PointNumbersBy}

-- the word c of the record in the row r
abbrev pub record_word : List ℕ → ℕ → ℕ → ℕ
record_word t r c = get_or t (16 + 16 * r + c) 0

-- Whoever looks for an ID finds it in both tables or in neither, and then the same fifteen words; the sixteenth is the row that
-- the item had.
pub record Found (n : ℕ) (old new : List ℕ) : Type 0 where
  pub there : (j : ℕ) → j < n → (k : ℕ) × ((k < n) × (record_word new k 0 ≡ record_word old j 0))
  pub here : (k : ℕ) → k < n → (j : ℕ) × ((j < n) × (record_word new k 0 ≡ record_word old j 0))
  pub words : (j k : ℕ) → j < n → k < n → record_word new k 0 ≡ record_word old j 0 → (c : ℕ) → c < 15 →
      record_word new k c ≡ record_word old j c
  pub place : (j k : ℕ) → j < n → k < n → record_word new k 0 ≡ record_word old j 0 → record_word new k 15 ≡ j

module _ (head : List ℕ) (total : ℕ) (table : List ℕ) where
  -- of an accepted file it is the old one rearranged; where 1 to 20, 29 or 30 refuse, there is nothing to rearrange
  pub record Moved (old new : List ℕ) : Type 0 where
    pub accepted : (f : File) → opened (length table) total head ≡ ok f →
        Rearranged (length f.items) old new × Found (length f.items) old new
    pub refused : (n p : ℕ) → opened (length table) total head ≡ refuse n p → new ≡ old

  -- a: what is returned (of a refusal, number and place), with all that is left in what was lent beside the table. What the
  -- old promise allows the new one does, and the other way round; there is but one such a.
  pub record Same {A : Type 0} (Given : (ℕ → List ℕ → List ℕ → List ℕ) → A → List ℕ → Type 0) : Type 0 where
    pub kept : (a : A) (old : List ℕ) → Given file_after a old → (new : List ℕ) × Given after a new
    pub no_other : (a : A) (new : List ℕ) → Given after a new → (old : List ℕ) × Given file_after a old
    pub same : (a b : A) (old new : List ℕ) → Given file_after a old → Given after b new → (a ≡ b) × Moved old new

  -- Q-7's 31 (or 1): the file is not read, so that of an accepted one, too, there is nothing to rearrange
  abbrev pub Unmoved : {A : Type 0} → ((ℕ → List ℕ → List ℕ → List ℕ) → A → List ℕ → Type 0) → Type 0
  Unmoved {A} Given = (a b : A) (old new : List ℕ) → Given file_after a old → Given after b new → (a ≡ b) × (new ≡ old)

  pub record AllSame : Type 0 where
    pub verdict : Same (λ by (r : Result Verdict Refusal) left. VerdictBy by head total table r left)
    pub size : (id : ℕ) → Same (λ by (r : Result Sizes Refusal) left. SizeBy by head total table id r left)
    pub trace : (id : ℕ) (p : Point) → Same (λ by (r : Result Traced Refusal) left. TraceBy by head total table id p r left)
    pub points : (id : ℕ) (records : List PointRecord) →
        Same (λ by (a : Result ℕ Refusal × List PointRecord) left. PointsBy by head total table id records a.0 a.1 left)
    pub point_numbers : (id : ℕ) (records : List (List ℕ)) →
        Same (λ by (a : Result ℕ Refusal × List (List ℕ)) left. PointNumbersBy by head total table id records a.0 a.1 left)
    pub sources : (id : ℕ) (list : List ℕ) →
        Same (λ by (a : Result ℕ Refusal × List ℕ) left. SourcesBy by head total table id list a.0 a.1 left)
    pub body : (id : ℕ) (buffer : List ℕ) → 16402 ≤ length buffer →
        Same (λ by (a : Result ℕ Refusal × List ℕ) left. BodyBy by head total table id buffer a.0 a.1 left)
    pub short-body : (id : ℕ) (buffer : List ℕ) → length buffer < 16402 →
        Unmoved (λ by (a : Result ℕ Refusal × List ℕ) left. BodyBy by head total table id buffer a.0 a.1 left)
    pub asked : (id k : ℕ) → Same (λ by (r : Result PropertyIndex Refusal) left. AskedBy by head total table id k r left)
    pub property : (id k : ℕ) →
        Same (λ by (a : List ℕ × List ℕ) left. PropertyBy by head total table id k a.0 a.1 left)
    pub orientation : (id : ℕ) → Same (λ by (r : Result ℕ Refusal) left. OrientationBy by head total table id r left)

  -- the exports: the eight numbers, and what was lent beside the table
  pub record AllSameInC : Type 0 where
    pub verdict : Same (λ by (out : List ℕ) left. C.VerdictBy by head total table out left)
    pub size : (id : ℕ) → Same (λ by (out : List ℕ) left. C.SizeBy by head total table id out left)
    pub trace : (id x y : ℕ) → Same (λ by (out : List ℕ) left. C.TraceBy by head total table id x y out left)
    pub points : (id : ℕ) (records : List (List ℕ)) →
        Same (λ by (a : List ℕ × List (List ℕ)) left. C.PointsBy by head total table id records a.0 a.1 left)
    pub sources : (id : ℕ) (list : List ℕ) →
        Same (λ by (a : List ℕ × List ℕ) left. C.SourcesBy by head total table id list a.0 a.1 left)
    pub body : (id : ℕ) (buffer : List ℕ) → 16402 ≤ length buffer →
        Same (λ by (a : List ℕ × List ℕ) left. C.BodyBy by head total table id buffer a.0 a.1 left)
    pub short-body : (id : ℕ) (buffer : List ℕ) → length buffer < 16402 →
        Unmoved (λ by (a : List ℕ × List ℕ) left. C.BodyBy by head total table id buffer a.0 a.1 left)
    pub property : (id k : ℕ) → Same (λ by (out : List ℕ) left. C.PropertyBy by head total table id k out left)
    pub orientation : (id : ℕ) → Same (λ by (out : List ℕ) left. C.OrientationBy by head total table id out left)
