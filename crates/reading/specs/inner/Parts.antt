-- The contents of `meta` in the order of reading, from each box on: the lines of `contents_of`, so that each function of the code has its own.
--   from_references, from_shown, from_locations, from_items, from_handler     from that box on
--   NamedOf m v      the rows after all stages, m being what reading comes to
--   read_words        what reading leaves in the table
use Rattle.std.specs.Prelude.{ℕ, ◌+◌, ◌≡◌, List, [], ◌++◌, map, Bool, true, false, ◌⊎◌, length, replicate, drop, leb, Result}
use Rattle.fields.specs.Choice.{pick}
use Rattle.boxes.specs.Answer.{Answer, ok, refuse, check, ◌>>=◌, ◌>>◌}
use Rattle.boxes.specs.Types.{hdlr, pitm, iinf, iloc, iprp, iref, idat, family}
use Rattle.boxes.specs.Box.{head_of, body_of, cut}
use Rattle.boxes.specs.Children.{of_kind, filled, place_of}
use Rattle.boxes.specs.inner.Where.{where_of}
use Rattle.boxes.specs.inner.Family.{spot_of}
use Rattle.boxes.specs.Told.{told}
use Rattle.boxes.specs.declared.Refusal.{Refusal}
use Rattle.boxes.specs.declared.Spot.{Spot}
use Rattle.forms.specs.Form.{whole, front}
use Rattle.contents.specs.Hdlr.{hdlr_form}
use Rattle.contents.specs.Pitm.{pitm_form}
use Rattle.contents.specs.Iinf.{Item, ids_of, items}
use Rattle.contents.specs.Iloc.{Location, extents_in, iloc_form}
use Rattle.contents.specs.Ipma.{associations_in}
use Rattle.contents.specs.Iprp.{IprpContent, iprp_content}
use Rattle.contents.specs.Iref.{IrefContent}
use Rattle.contents.specs.File.{File, referred, data_of, read_file}
use Rattle.rules.specs.Places.{first_of, places_at, places_in}
use Rattle.rules.specs.Words.{table_words, head_words}
use Rattle.records.specs.inner.Raw.{raw_of}
use Rattle.records.specs.inner.Stage.{Ready}
use Rattle.records.specs.inner.Named.{NamedIn}
use Rattle.reading.specs.declared.Counts.{Counts}
use Rattle.reading.specs.declared.Idat.{Idat}

-- bs the children, the first of them at `at`
module _ (at : ℕ) (bs : List (List ℕ)) where
  -- the box of a type, its content and where that begins
  abbrev pub content_of : ℕ → List ℕ
  content_of k = body_of (first_of k bs)

  abbrev pub begin_of : ℕ → ℕ
  begin_of k = place_of k at bs + head_of (first_of k bs)

  abbrev pub file_by : ℕ → List Item → List Location → IprpContent → IrefContent → File
  file_by primary is ls v c = record {
    primary = primary;
    items = is;
    locations = ls;
    properties = v.properties;
    associations = v.associations;
    derivations = c.derivations;
    links = c.links;
    idat = data_of (of_kind idat bs);
  }

  unfoldable pub from_references : ℕ → List Item → List Location → IprpContent → Answer File
  from_references primary is ls v = referred (ids_of is) (place_of iref at bs) (of_kind iref bs) >>= (λ c. ok (file_by primary is ls v c))

  unfoldable pub from_shown : ℕ → List Item → List Location → Answer File
  from_shown primary is ls = iprp_content (ids_of is) (place_of iprp at bs) (begin_of iprp) (content_of iprp) >>= (λ v. from_references primary is ls v)

  unfoldable pub from_locations : ℕ → List Item → Answer File
  from_locations primary is = whole (iloc_form (ids_of is)) (place_of iloc at bs) (content_of iloc) >>= (λ ls. from_shown primary is ls)

  unfoldable pub from_items : ℕ → Answer File
  from_items primary = items (place_of iinf at bs) (begin_of iinf) (content_of iinf) >>= (λ is. from_locations primary is)

  unfoldable pub from_handler : Answer File
  from_handler = front hdlr_form (place_of hdlr at bs) (content_of hdlr) >>
      (whole pitm_form (place_of pitm at bs) (content_of pitm) >>= (λ primary. from_items primary))

-- the code's value: where the content of `idat` begins and ends, both 0 where there is none
abbrev pub idat_in : ℕ → File → Idat
idat_in begin f = record { idat = begin; idat_end = begin + length f.idat }

abbrev pub told_file : ℕ → Answer File → Result Idat Refusal
told_file begin = told (idat_in begin)

-- a box of a type is there; the five that must be
abbrev pub Has : ℕ → List (List ℕ) → Type 0
Has k bs = filled (of_kind k bs) ≡ true

pub record Five (bs : List (List ℕ)) : Type 0 where
  pub has_hdlr : Has hdlr bs
  pub has_pitm : Has pitm bs
  pub has_iloc : Has iloc bs
  pub has_iinf : Has iinf bs
  pub has_iprp : Has iprp bs

-- the children that a content s is cut into
abbrev pub kids : List ℕ → List (List ℕ)
kids s = (cut s).boxes

-- the spots of the seven types among bs
abbrev pub spots_in : List (List ℕ) → List Spot
spots_in bs = map (λ k. spot_of (where_of k 0 bs)) family

-- one of the five is missing, or none is
abbrev pub Missing : List (List ℕ) → Bool → Type 0
Missing bs true = (k : ℕ) × ((k ≡ hdlr) ⊎ ((k ≡ pitm) ⊎ ((k ≡ iloc) ⊎ ((k ≡ iinf) ⊎ (k ≡ iprp))))) × (filled (of_kind k bs) ≡ false)
Missing bs false = Five bs

-- the content s of `meta`, behind version and flags, is children, the five among them, and the spots say where they stand
pub record Standing (s : List ℕ) (spots : List Spot) : Type 0 where
  pub rest : (cut s).rest ≡ []
  pub five : Five (kids s)
  pub spots_are : spots ≡ spots_in (kids s)

-- where the content of `idat` begins and ends, as the code says it
unfoldable pub told_spot : ℕ → List ℕ → Idat
told_spot at s = record {
  idat = (places_at at (kids s)).idat;
  idat_end = (places_at at (kids s)).idat + length (data_of (of_kind idat (kids s)));
}

-- before a stage: the table t is that of the file f as far as it is read, with n items and x behind it
pub record Before (s : List ℕ) (at n : ℕ) (f : File) (x t : List ℕ) : Type 0 where
  pub is : t ≡ raw_of [] (places_at at (kids s)) f ++ x
  pub ready : Ready f n

abbrev pub shown_of : File → IprpContent
shown_of f = record { properties = f.properties; associations = f.associations }

-- the same before the last stage, c the counts
pub record LastBefore (s : List ℕ) (at : ℕ) (c : Counts) (f : File) (x t : List ℕ) : Type 0 where
  pub before : Before s at c.items f x t
  pub none : f.derivations ≡ []
  pub no_links : f.links ≡ []
  pub properties : c.properties ≡ length f.properties
  pub associations : c.associations ≡ associations_in f.associations
  pub targets : c.targets ≡ 0
  pub extents : c.extents ≡ extents_in f.locations

-- after all stages: m what reading comes to, r the code's value, u the table, x what lies behind it
pub record After (s : List ℕ) (at total : ℕ) (m : Answer File) (r : Result Idat Refusal) (x u : List ℕ) : Type 0 where
  pub answer : r ≡ told_file (places_at at (kids s)).idat m
  pub left : (g : File) → m ≡ ok g → u ≡ raw_of (head_words total g) (places_at at (kids s)) g ++ x

-- the same for a whole head
pub record ReadLeft (total : ℕ) (head : List ℕ) (r : Result Idat Refusal) (x u : List ℕ) : Type 0 where
  pub answer : r ≡ told_file (places_in total head).idat (read_file total head)
  pub left : (g : File) → read_file total head ≡ ok g → u ≡ raw_of (head_words total g) (places_in total head) g ++ x

-- where m comes to a file, v has the rows that its extents name
abbrev pub NamedOf : Answer File → List ℕ → Type 0
NamedOf m v = (g : File) → m ≡ ok g → NamedIn g v

-- what reading answers: 1, then 2 to 11
unfoldable pub read_answer : ℕ → ℕ → List ℕ → Result Idat Refusal
read_answer n total head = told_file (places_in total head).idat (check 1 0 (leb table_words n) >> read_file total head)

-- "Refusal 1 writes nothing", 2 to 11 set the first 11,280 words to 0, and a file that is read leaves its records
unfoldable pub left_by_reading : ℕ → List ℕ → List ℕ → Answer File → List ℕ
left_by_reading total head table (ok f) = raw_of (head_words total f) (places_in total head) f ++ drop table_words table
left_by_reading total head table (refuse n p) = replicate table_words 0 ++ drop table_words table

unfoldable pub read_words : ℕ → List ℕ → List ℕ → List ℕ
read_words total head table = pick (leb table_words (length table)) (left_by_reading total head table (read_file total head)) table
