-- What the steps of reading an `ipma` answer and leave: the contracts of the crate's own functions.
--   AssociatedIs, ListedIs, NamedPutIs    the answers of the functions that read one list, one list with its count and one entry, with the table afterwards
--   list-form                    the count of an entry and its associations
use Rattle.std.specs.Prelude.{ℕ, ◌+◌, ◌*◌, ◌<◌, ◌≤◌, ◌≡◌, List, [], ◌∷◌, map, length, drop, leb, eqb, Result, Ok, Err}
use Rattle.std.proofs.lemmas.List.Edits.{sets}
use Rattle.fields.specs.Choice.{pick}
use Rattle.boxes.specs.Answer.{Answer, refuse}
use Rattle.boxes.specs.declared.Refusal.{Refusal}
use Rattle.forms.specs.Form.{Form, Got, got, demand, field, many, ◌>>=◌, ◌>>◌}
use Rattle.contents.specs.Ipma.{Association, IpmaEntry, rises, association_form}
use Rattle.rules.specs.Words.{association_word}
use Rattle.records.specs.inner.Rows.{id_at}
use Rattle.associations.specs.inner.Told.{KeptIds}
use Rattle.associations.specs.declared.Listed.{Listed}
use Rattle.associations.specs.declared.NamedPut.{NamedPut}

-- k associations, which go into the table as the associations from `used` on; m is the answer of reading them
abbrev pub association_words : List Association → List ℕ
association_words l = map (λ (a : Association). association_word a) l

pub record AssociatedHere (m : Answer (Got (List Association))) (s : List ℕ) (k used : ℕ) (t u : List ℕ) (end : ℕ) : Type 0 where
  pub list : List Association
  pub read : m ≡ got list (drop end s)
  pub inside : end ≤ length s
  pub count-is : length list ≡ k
  pub stored : u ≡ sets t (5136 + used) (association_words list)

abbrev pub AssociatedIs : Answer (Got (List Association)) → List ℕ → ℕ → ℕ → List ℕ → List ℕ → Result ℕ Refusal → Type 0
AssociatedIs m s k used t u (Ok end) = AssociatedHere m s k used t u end
AssociatedIs m s k used t u (Err r) = (m ≡ refuse r.number r.place) × KeptIds t u

-- the first word and the count of an entry, in the record of a row
abbrev pub span_words : ℕ → ℕ → List ℕ
span_words used count = pick (eqb count 0) 0 used ∷ count ∷ []

unfoldable pub list_form : ℕ → ℕ → ℕ → Form (List Association)
list_form used most bytes = do
  n ← field 1
  demand 9 (leb (used + n) 2048)
  many (association_form bytes most) n []

pub record ListedHere (m : Answer (Got (List Association))) (s : List ℕ) (row used : ℕ) (t u : List ℕ) (end count : ℕ) : Type 0 where
  pub list : List Association
  pub read : m ≡ got list (drop end s)
  pub inside : end ≤ length s
  pub count-is : length list ≡ count
  pub fits : used + count ≤ 2048
  pub stored : u ≡ sets (sets t (5136 + used) (association_words list)) (16 + 16 * row + 3) (span_words used count)

abbrev pub ListedIs : Answer (Got (List Association)) → List ℕ → ℕ → ℕ → List ℕ → List ℕ → Result Listed Refusal → Type 0
ListedIs m s row used t u (Ok l) = ListedHere m s row used t u l.end l.k
ListedIs m s row used t u (Err r) = (m ≡ refuse r.number r.place) × KeptIds t u

-- an entry: x is above the IDs of the entries before it exactly from `above` on
abbrev pub Above : List IpmaEntry → ℕ → Type 0
Above before above = (x : ℕ) → rises x before ≡ leb above x

pub record NamedHere (m : Answer (Got IpmaEntry)) (s : List ℕ) (n above used : ℕ) (t u : List ℕ) (end count id row : ℕ) : Type 0 where
  pub list : List Association
  pub read : m ≡ got (record { id = id; list = list }) (drop end s)
  pub inside : end ≤ length s
  pub count-is : length list ≡ count
  pub fits : used + count ≤ 2048
  pub rising : above ≤ id
  pub found : (row < n) × (id_at t row ≡ id)
  pub stored : u ≡ sets (sets t (5136 + used) (association_words list)) (16 + 16 * row + 3) (span_words used count)

abbrev pub NamedPutIs : Answer (Got IpmaEntry) → List ℕ → ℕ → ℕ → ℕ → List ℕ → List ℕ → Result NamedPut Refusal → Type 0
NamedPutIs m s n above used t u (Ok x) = NamedHere m s n above used t u x.end x.k x.id x.row.0
NamedPutIs m s n above used t u (Err r) = (m ≡ refuse r.number r.place) × KeptIds t u
