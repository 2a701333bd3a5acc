-- A file: what its `meta` says, as lists in file order. It holds no offset.
--   file_of p at s            the file in the content s, which begins at `at`, of the `meta` at p: the first fault of 6 to 11 (and 3), or the file
--   read_file total head      the whole reading: 2, then 3 to 5, then the `meta`
use Rattle.std.specs.Prelude.{ℕ, ◌+◌, List, [], ◌∷◌, ◌&&◌, length, leb}
use Rattle.boxes.specs.Answer.{Answer, ok, check, ◌>>=◌, ◌>>◌}
use Rattle.boxes.specs.Types.{hdlr, pitm, iinf, iloc, iprp, iref, idat, known}
use Rattle.boxes.specs.Box.{head_of, body_of}
use Rattle.boxes.specs.Children.{of_kind, children, the_one, place_of}
use Rattle.boxes.specs.Top.{meta_in}
use Rattle.forms.specs.Form.{whole, front}
use Rattle.forms.specs.Lead.{lead}
use Rattle.contents.specs.Full.{full, upto}
use Rattle.contents.specs.Hdlr.{hdlr_form}
use Rattle.contents.specs.Pitm.{pitm_form}
use Rattle.contents.specs.Iinf.{Item, ids_of, items}
use Rattle.contents.specs.Iloc.{Location, iloc_form}
use Rattle.contents.specs.Ipma.{IpmaEntry}
use Rattle.contents.specs.Iprp.{iprp_content}
use Rattle.contents.specs.Iref.{Reference, IrefContent, no_references, references}

pub record File : Type 0 where
  pub primary : ℕ
  pub items : List Item
  pub locations : List Location
  pub properties : List (List ℕ)
  pub associations : List IpmaEntry
  pub derivations : List Reference
  pub links : List Reference
  pub idat : List ℕ

-- the references of the `iref`, if there is one
unfoldable pub referred : List ℕ → ℕ → List (List ℕ) → Answer IrefContent
referred ids p [] = ok no_references
referred ids p (b ∷ bs) = references ids p (p + head_of b) (body_of b)

-- "the content of `idat` (length 0 if absent)"
unfoldable pub data_of : List (List ℕ) → List ℕ
data_of [] = []
data_of (b ∷ bs) = body_of b

-- "all its children (3 and doubles, first by offset; then missing); then the contents of `hdlr`, `pitm`, `iinf`,
-- `iloc`, `iprp`, `iref`, fields in byte order, first fault given"
unfoldable pub contents_of : ℕ → ℕ → List ℕ → Answer File
contents_of p at s = do
  bs ← children known p at s
  h ← the_one p hdlr bs
  m ← the_one p pitm bs
  l ← the_one p iloc bs
  i ← the_one p iinf bs
  r ← the_one p iprp bs
  front hdlr_form (place_of hdlr at bs) (body_of h)
  primary ← whole pitm_form (place_of pitm at bs) (body_of m)
  is ← items (place_of iinf at bs) (place_of iinf at bs + head_of i) (body_of i)
  ls ← whole (iloc_form (ids_of is)) (place_of iloc at bs) (body_of l)
  both ← iprp_content (ids_of is) (place_of iprp at bs) (place_of iprp at bs + head_of r) (body_of r)
  refs ← referred (ids_of is) (place_of iref at bs) (of_kind iref bs)
  ok (record {
    primary = primary;
    items = is;
    locations = ls;
    properties = both.properties;
    associations =
        both.associations;
    derivations = refs.derivations;
    links = refs.links;
    idat = data_of (of_kind idat bs);
  })

-- "Then the version of `meta`"
unfoldable pub file_of : ℕ → ℕ → List ℕ → Answer File
file_of p at s = lead (λ h a r. contents_of p a r) (full (upto 0)) p at s

-- "head over 65,536 bytes, or total below head length" (2)
unfoldable pub read_file : ℕ → List ℕ → Answer File
read_file total head = do
  check 2 0 (leb (length head) 65536 && leb (length head) total)
  m ← meta_in total head
  file_of m.place (m.place + head_of m.box) (body_of m.box)
