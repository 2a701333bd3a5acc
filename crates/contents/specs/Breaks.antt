-- A file that breaks the rules of 2 to 11: which rule is the first that it breaks, and where, said without reading. As in
-- Keeps.antt bytes and boxes are related to what they spell; what comes before the fault in the order of reading is kept.
--   InfeBreaks, ..               a box breaks its step in the list that it belongs to
--   IinfBreaks, ..               the content s, which begins at `at`, of a box at p is broken by n at q
--   Alone k at bs b q            b, which begins at q, is the only box of type k among bs, the first of which begins at `at`
--   OneOfEach at s               the children of a `meta`, each that it needs once
--   ContentsBreaks m n q         their contents are broken by n at q, in the order of reading
--   Broken total head n p        the head of a file of `total` bytes is broken by n at p: its first fault of 2 to 11
-- Where the rows of the refusal table stand: 2 in `Broken`; 4 and 5 in `TopBreaks`; 3 in `BadTop`, `BadBox` and
-- `spare_bytes`; 7 in `ChildTwice`, `one_missing` and `other-boxes`; 8 in `field`, `left_over`, `too_few` and `left_behind`;
-- 6, 9, 10 and 11 are lines `demand` of the forms, and 10 also `no_infe`, 9 also `too_many`.
use Rattle.std.specs.Prelude.{ℕ, ◌+◌, ◌≤◌, ◌<◌, ◌≡◌, List, [], ◌∷◌, ◌++◌, true, length}
use Rattle.fields.specs.Lists.{member, All}
use Rattle.boxes.specs.Types.{hdlr, pitm, iinf, iloc, iprp, iref, known, infe, ipco, ipma, ispe, clap, irot, imir}
use Rattle.boxes.specs.Box.{head_of, kind_of, body_of, IsBox, flat}
use Rattle.boxes.specs.Children.{Few, of_kind}
use Rattle.boxes.specs.Top.{FirstMeta}
use Rattle.forms.specs.Form.{Fronts, WholeBreaks}
use Rattle.forms.specs.Lead.{LeadBreaks}
use Rattle.contents.specs.Full.{full, upto, id_bytes}
use Rattle.contents.specs.Hdlr.{hdlr_form}
use Rattle.contents.specs.Pitm.{pitm_form}
use Rattle.contents.specs.Iinf.{Item, ids_of, infe_form, iinf-count}
use Rattle.contents.specs.Iloc.{Location, iloc_form}
use Rattle.contents.specs.Ipco.{ispe_form, bytes_form}
use Rattle.contents.specs.Ipma.{ipma_form}
use Rattle.contents.specs.Iprp.{IprpContent}
use Rattle.contents.specs.Iref.{IrefContent, no_references, reference_form}
use Rattle.contents.specs.Keeps.{ItemStep, Items, PropertyStep, Properties, Shows, ReferenceStep}
use Rattle.contents.specs.BoxBreaks.{ContainBreaks, ExactlyBreaks}
use Rattle.contents.specs.TopBreaks.{TopBreaks}

-- `iinf`: "another type is 10"; else a line of the `infe`
pub data InfeBreaks (before : List Item) (b : List ℕ) (n : ℕ) : Type 0 where
  no_infe : (kind_of b ≡ infe → ⊥) → n ≡ 10 → InfeBreaks before b n
  in_infe : kind_of b ≡ infe → (infe_form before).Breaks n (body_of b) → InfeBreaks before b n

abbrev pub IinfBreaks : ℕ → ℕ → List ℕ → ℕ → ℕ → Type 0
IinfBreaks p at s n q = LeadBreaks iinf-count (λ count a r. ExactlyBreaks ItemStep InfeBreaks p a count [] r) p at s n q

-- `ipco`: "a 257th property is 9, at its box, after 3"; "Content: `ispe` version 0, 12 bytes; `clap` 32; `irot` .. and
-- `imir` .. 1; other lengths 8."
pub data PropertyBreaks (before : List (List ℕ)) (b : List ℕ) (n : ℕ) : Type 0 where
  too_many : 256 ≤ length before → n ≡ 9 → PropertyBreaks before b n
  in_ispe : length before < 256 → kind_of b ≡ ispe → WholeBreaks ispe_form n (body_of b) → PropertyBreaks before b n
  in_clap : length before < 256 → kind_of b ≡ clap → WholeBreaks (bytes_form 32) n (body_of b) → PropertyBreaks before b n
  in_irot : length before < 256 → kind_of b ≡ irot → WholeBreaks (bytes_form 1) n (body_of b) → PropertyBreaks before b n
  in_imir : length before < 256 → kind_of b ≡ imir → WholeBreaks (bytes_form 1) n (body_of b) → PropertyBreaks before b n

-- `iprp`: any box at its level
abbrev pub AnyStep : List (List ℕ) → List ℕ → List (List ℕ) → Type 0
AnyStep before b after = after ≡ before ++ (b ∷ [])

abbrev pub NeverBreaks : List (List ℕ) → List ℕ → ℕ → Type 0
NeverBreaks before b n = ⊥

-- "exactly `ipco` then one `ipma`"
pub record IpcoIpma (s a b : List ℕ) : Type 0 where
  pub first-box : IsBox a
  pub second-box : IsBox b
  pub joined : a ++ b ≡ s
  pub first_kind : kind_of a ≡ ipco
  pub second-kind : kind_of b ≡ ipma

-- "else 7 at `iprp` (after 3 at its level, before their contents)"
pub data IprpBreaks (ids : List ℕ) (p at : ℕ) (s : List ℕ) (n q : ℕ) : Type 0 where
  at_its_level : ContainBreaks AnyStep NeverBreaks p at [] s n q → IprpBreaks ids p at s n q
  other-boxes : (bs : List (List ℕ)) → All IsBox bs → flat bs ≡ s → ((a b : List ℕ) → IpcoIpma s a b → ⊥) → n ≡ 7 → q ≡ p →
      IprpBreaks ids p at s n q
  in_ipco : (a b : List ℕ) → IpcoIpma s a b → ContainBreaks PropertyStep PropertyBreaks at (at + head_of a) [] (body_of a) n q →
      IprpBreaks ids p at s n q
  in_ipma : (a b : List ℕ) (ps : List (List ℕ)) → IpcoIpma s a b → Properties (body_of a) ps →
      WholeBreaks (ipma_form ids (length ps)) n (body_of b) → q ≡ at + length a → IprpBreaks ids p at s n q

-- `iref`
abbrev pub ReferenceBreaks : List ℕ → ℕ → IrefContent → List ℕ → ℕ → Type 0
ReferenceBreaks ids bytes before b n = WholeBreaks (reference_form ids bytes (kind_of b) before) n (body_of b)

abbrev pub IrefBreaks : List ℕ → ℕ → ℕ → List ℕ → ℕ → ℕ → Type 0
IrefBreaks ids p at s n q =
    LeadBreaks (full (upto 1)) (λ h a r.
    ContainBreaks (ReferenceStep ids (id_bytes h.version)) (ReferenceBreaks ids (id_bytes h.version)) p a no_references r) p at s n q

-- `meta`: "at most one" of each type that it names. 7: "box .. twice", at the "second box"
pub record ChildStep (before : List (List ℕ)) (b : List ℕ) (after : List (List ℕ)) : Type 0 where
  pub fresh : known (kind_of b) ≡ true → of_kind (kind_of b) before ≡ []
  pub kept : after ≡ before ++ (b ∷ [])

pub record ChildTwice (before : List (List ℕ)) (b : List ℕ) (n : ℕ) : Type 0 where
  pub of_family : known (kind_of b) ≡ true
  pub earlier : of_kind (kind_of b) before ≡ [] → ⊥
  pub number : n ≡ 7

-- "exactly one each of `hdlr`, `pitm`, `iloc`, `iinf`, `iprp`"
abbrev pub required : List ℕ
required = hdlr ∷ pitm ∷ iloc ∷ iinf ∷ iprp ∷ []

pub record Alone (k at : ℕ) (bs : List (List ℕ)) (b : List ℕ) (q : ℕ) : Type 0 where
  pub one : of_kind k bs ≡ b ∷ []
  pub before : List (List ℕ)
  pub behind : List (List ℕ)
  pub parted : bs ≡ before ++ (b ∷ behind)
  pub where_it_is : q ≡ at + length (flat before)

pub record OneOfEach (at : ℕ) (s : List ℕ) : Type 0 where
  pub boxes : List (List ℕ)
  pub all : All IsBox boxes
  pub joined : flat boxes ≡ s
  pub few : Few known boxes
  pub handler : List ℕ
  pub hdlr-at : ℕ
  pub one-hdlr : Alone hdlr at boxes handler hdlr-at
  pub primary : List ℕ
  pub pitm-at : ℕ
  pub one-pitm : Alone pitm at boxes primary pitm-at
  pub infos : List ℕ
  pub iinf-at : ℕ
  pub one-iinf : Alone iinf at boxes infos iinf-at
  pub locations : List ℕ
  pub iloc-at : ℕ
  pub one-iloc : Alone iloc at boxes locations iloc-at
  pub properties : List ℕ
  pub iprp-at : ℕ
  pub one-iprp : Alone iprp at boxes properties iprp-at

-- what is kept, as far as it is read: `hdlr`; `hdlr` and `pitm`; and so on
module _ {at : ℕ} {s : List ℕ} (m : OneOfEach at s) where
  abbrev pub KeptHdlr : Type 0
  KeptHdlr = Fronts hdlr_form (body_of m.handler) tt

  abbrev pub KeptPitm : ℕ → Type 0
  KeptPitm id = KeptHdlr × pitm_form.Spells (body_of m.primary) id

  abbrev pub KeptIinf : ℕ → List Item → Type 0
  KeptIinf id is = KeptPitm id × Items (body_of m.infos) is

  abbrev pub KeptIloc : ℕ → List Item → List Location → Type 0
  KeptIloc id is ls = KeptIinf id is × (iloc_form (ids_of is)).Spells (body_of m.locations) ls

  abbrev pub KeptIprp : ℕ → List Item → List Location → IprpContent → Type 0
  KeptIprp id is ls v = KeptIloc id is ls × Shows (ids_of is) (body_of m.properties) v

-- "then the contents of `hdlr`, `pitm`, `iinf`, `iloc`, `iprp`, `iref`, fields in byte order, first fault given"
pub data ContentsBreaks {at : ℕ} {s : List ℕ} (m : OneOfEach at s) (n q : ℕ) : Type 0 where
  in_hdlr : hdlr_form.Breaks n (body_of m.handler) → q ≡ m.hdlr-at → ContentsBreaks m n q
  in_pitm : KeptHdlr m → WholeBreaks pitm_form n (body_of m.primary) → q ≡ m.pitm-at → ContentsBreaks m n q
  in_iinf : (id : ℕ) → KeptPitm m id → IinfBreaks m.iinf-at (m.iinf-at + head_of m.infos) (body_of m.infos) n q →
      ContentsBreaks m n q
  in_iloc : (id : ℕ) (is : List Item) → KeptIinf m id is → WholeBreaks (iloc_form (ids_of is)) n (body_of m.locations) →
      q ≡ m.iloc-at → ContentsBreaks m n q
  in_iprp : (id : ℕ) (is : List Item) (ls : List Location) → KeptIloc m id is ls →
      IprpBreaks (ids_of is) m.iprp-at (m.iprp-at + head_of m.properties) (body_of m.properties) n q → ContentsBreaks m n q
  in_iref : (id : ℕ) (is : List Item) (ls : List Location) (v : IprpContent) → KeptIprp m id is ls v → (b : List ℕ) (p : ℕ) →
      Alone iref at m.boxes b p → IrefBreaks (ids_of is) p (p + head_of b) (body_of b) n q → ContentsBreaks m n q

-- "all its children (3 and doubles, first by offset; then missing)". 7: "box missing", at the "container"
pub data ChildrenBreaks (p at : ℕ) (s : List ℕ) (n q : ℕ) : Type 0 where
  among_them : ContainBreaks ChildStep ChildTwice p at [] s n q → ChildrenBreaks p at s n q
  one_missing : (bs : List (List ℕ)) → All IsBox bs → flat bs ≡ s → Few known bs → (k : ℕ) → member k required ≡ true →
      of_kind k bs ≡ [] → n ≡ 7 → q ≡ p → ChildrenBreaks p at s n q
  in_contents : (m : OneOfEach at s) → ContentsBreaks m n q → ChildrenBreaks p at s n q

-- "Then the version of `meta`; all its children"
abbrev pub MetaBreaks : ℕ → ℕ → List ℕ → ℕ → ℕ → Type 0
MetaBreaks p at s n q = LeadBreaks (full (upto 0)) (λ h a r. ChildrenBreaks p a r) p at s n q

-- 2: "head over 65,536 bytes, or total below head length"; then the top level, then the first `meta`
pub data Broken (total : ℕ) (head : List ℕ) (n p : ℕ) : Type 0 where
  head_too_long : 65536 < length head → n ≡ 2 → p ≡ 0 → Broken total head n p
  total_too_small : total < length head → n ≡ 2 → p ≡ 0 → Broken total head n p
  at_the_top : length head ≤ 65536 → length head ≤ total → TopBreaks total head n p → Broken total head n p
  in_meta : length head ≤ 65536 → length head ≤ total → (m : List ℕ) (place : ℕ) → FirstMeta total head m place →
      MetaBreaks place (place + head_of m) (body_of m) n p → Broken total head n p
