-- A file that keeps the rules of 2 to 11, said without reading: which bytes spell which structure. No order of reading,
-- no cursor; the only place is where `meta` stands.
--   ItemStep, ..            one box in the list that it belongs to
--   Properties s ps         the content s of an `ipco` is the properties ps
--   Shows ids s v           the content s of an `iprp` is properties and associations v
--   Spelled bs f            the children bs of a `meta` spell the file f
--   Keeps s f               the content s of a `meta` spells the file f
--   FileIn total head f     a head of a file of `total` bytes spells the file f
use Rattle.std.specs.Prelude.{ℕ, ◌≤◌, ◌<◌, ◌≡◌, List, [], ◌∷◌, ◌++◌, length}
use Rattle.fields.specs.Lists.{All}
use Rattle.boxes.specs.Types.{hdlr, pitm, iinf, iloc, iprp, iref, idat, infe, ipco, ipma}
use Rattle.boxes.specs.Box.{kind_of, body_of, IsBox, flat}
use Rattle.boxes.specs.Children.{Contains, of_kind}
use Rattle.boxes.specs.Exactly.{Exact}
use Rattle.boxes.specs.Top.{FirstMeta}
use Rattle.forms.specs.Form.{Fronts}
use Rattle.forms.specs.Lead.{Leads}
use Rattle.contents.specs.Full.{full, upto, id_bytes}
use Rattle.contents.specs.Hdlr.{hdlr_form}
use Rattle.contents.specs.Pitm.{pitm_form}
use Rattle.contents.specs.Iinf.{Item, ids_of, infe_form, iinf-count}
use Rattle.contents.specs.Iloc.{iloc_form}
use Rattle.contents.specs.Ipco.{GoodContent}
use Rattle.contents.specs.Ipma.{ipma_form}
use Rattle.contents.specs.Iprp.{IprpContent}
use Rattle.contents.specs.Iref.{Reference, IrefContent, no_references, reference_form, kept_by}
use Rattle.contents.specs.File.{File, data_of}

-- `iinf`: its fields, then as many `infe` as they count, each spelling the next item
pub record ItemStep (before : List Item) (b : List ℕ) (after : List Item) : Type 0 where
  pub item : Item
  pub kind : kind_of b ≡ infe
  pub spells : Fronts (infe_form before) (body_of b) item
  pub kept : after ≡ before ++ (item ∷ [])

abbrev pub Items : List ℕ → List Item → Type 0
Items s is = Leads iinf-count (λ n r. Exact ItemStep n [] r) s is

-- `ipco`: boxes, at most 256, each as long as its type asks
pub record PropertyStep (before : List (List ℕ)) (b : List ℕ) (after : List (List ℕ)) : Type 0 where
  pub room : length before < 256
  pub good : GoodContent (kind_of b) (body_of b)
  pub kept : after ≡ before ++ (b ∷ [])

pub record Properties (s : List ℕ) (ps : List (List ℕ)) : Type 0 where
  pub boxes : All IsBox ps
  pub joined : flat ps ≡ s
  pub good : All (λ (b : List ℕ). GoodContent (kind_of b) (body_of b)) ps
  pub few : length ps ≤ 256

-- `iprp`: an `ipco`, then an `ipma`
pub record Shows (ids : List ℕ) (s : List ℕ) (v : IprpContent) : Type 0 where
  pub first : List ℕ
  pub second : List ℕ
  pub first-box : IsBox first
  pub second-box : IsBox second
  pub joined : first ++ second ≡ s
  pub first_kind : kind_of first ≡ ipco
  pub second-kind : kind_of second ≡ ipma
  pub properties : Properties (body_of first) v.properties
  pub associations : (ipma_form ids (length v.properties)).Spells (body_of second) v.associations

-- `iref`: its version and flags, then references, of which the `dimg` and the `iloc` are kept
pub record ReferenceStep (ids : List ℕ) (bytes : ℕ) (before : IrefContent) (b : List ℕ) (after : IrefContent) : Type 0 where
  pub value : Reference
  pub spells : (reference_form ids bytes (kind_of b) before).Spells (body_of b) value
  pub kept : after ≡ kept_by (kind_of b) before value

abbrev pub References : List ℕ → List ℕ → IrefContent → Type 0
References ids s c = Leads (full (upto 1)) (λ h r. Contains (ReferenceStep ids (id_bytes h.version)) no_references r) s c

abbrev pub Referred : List ℕ → List (List ℕ) → IrefContent → Type 0
Referred ids [] c = c ≡ no_references
Referred ids (b ∷ bs) c = References ids (body_of b) c

-- "`meta` version 0 has exactly one each of `hdlr`, `pitm`, `iloc`, `iinf`, `iprp`; at most one `iref`, `idat`. Others are skipped."
pub record Spelled (bs : List (List ℕ)) (f : File) : Type 0 where
  pub handler : List ℕ
  pub one-hdlr : of_kind hdlr bs ≡ handler ∷ []
  pub primary : List ℕ
  pub one-pitm : of_kind pitm bs ≡ primary ∷ []
  pub locations : List ℕ
  pub one-iloc : of_kind iloc bs ≡ locations ∷ []
  pub infos : List ℕ
  pub one-iinf : of_kind iinf bs ≡ infos ∷ []
  pub properties : List ℕ
  pub one-iprp : of_kind iprp bs ≡ properties ∷ []
  pub few-iref : length (of_kind iref bs) ≤ 1
  pub few-idat : length (of_kind idat bs) ≤ 1
  pub in_hdlr : Fronts hdlr_form (body_of handler) tt
  pub in_pitm : pitm_form.Spells (body_of primary) f.primary
  pub in_iinf : Items (body_of infos) f.items
  pub in_iloc : (iloc_form (ids_of f.items)).Spells (body_of locations) f.locations
  pub in_iprp : Shows (ids_of f.items) (body_of properties) (record { properties = f.properties; associations = f.associations })
  pub in_iref : Referred (ids_of f.items) (of_kind iref bs) (record { derivations = f.derivations; links = f.links })
  pub in_idat : f.idat ≡ data_of (of_kind idat bs)

pub record ChildrenSpell (s : List ℕ) (f : File) : Type 0 where
  pub boxes : List (List ℕ)
  pub all : All IsBox boxes
  pub joined : flat boxes ≡ s
  pub spelled : Spelled boxes f

abbrev pub Keeps : List ℕ → File → Type 0
Keeps s f = Leads (full (upto 0)) (λ h r. ChildrenSpell r) s f

pub record FileIn (total : ℕ) (head : List ℕ) (f : File) : Type 0 where
  pub small : length head ≤ 65536
  pub within : length head ≤ total
  pub meta : List ℕ
  pub place : ℕ
  pub first : FirstMeta total head meta place
  pub keeps : Keeps (body_of meta) f
