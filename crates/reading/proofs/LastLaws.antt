-- `iref`, and the end of reading. Assumes nothing.
use Prim.Native.Nat.{ℕ, ◌+◌, ◌-◌, ◌/◌, ◌%◌, ◌≤◌, ◌<◌}
use native.Mathlib.Omega.{arith}
use mathlib.Core.Path.{◌≡◌, refl, sym, ap, ◌∙◌, subst}
use mathlib.Core.List.{List, [], ◌++◌}
use lib.ListN.{length, get_or, take, drop, set, length-set, length-take, length-drop}
use lib.Seq.{drop-set-lt}
use lib.Dec.{lit<}
use Rattle.std.specs.Prelude.{Result, Ok, Err}
use Rattle.boxes.specs.Answer.{Answer, ok, refuse}
use Rattle.boxes.specs.Told.{told}
use Rattle.boxes.proofs.ToldLaws.{told-ok, told-refused}
use Rattle.boxes.specs.Types.{iref}
use Rattle.boxes.specs.Box.{head_of, body_of}
use Rattle.boxes.specs.Children.{place_of}
use Rattle.boxes.specs.inner.Where.{where_of}
use Rattle.boxes.specs.inner.Family.{spot_of}
use Rattle.boxes.specs.declared.Spot.{Spot}
use Rattle.boxes.specs.declared.Refusal.{Refusal}
use Rattle.contents.specs.Iinf.{ids_of}
use Rattle.contents.specs.Iref.{IrefContent, no_references, targets_in, references}
use Rattle.contents.specs.File.{File}
use Rattle.rules.specs.Places.{first_of, places_at}
use Rattle.records.specs.inner.Raw.{raw_of}
use Rattle.records.specs.inner.Rows.{ids_in}
use Rattle.records.specs.inner.Stage.{Kept, with_references}
use Rattle.records.specs.inner.Named.{NamedRows}
use Rattle.references.specs.inner.Told.{ReferencesLeft}
use Rattle.records.proofs.KeptLaws.{kept_same}
use Rattle.reading.proofs.BoundLaws.{iref-few}
use Rattle.reading.specs.declared.Counts.{Counts}
use Rattle.reading.specs.declared.Idat.{Idat}
use Rattle.reading.specs.inner.Parts.{kids, Standing, LastBefore, After, NamedOf, shown_of, file_by, from_references, told_spot, Has}
use Rattle.reading.proofs.SpotLaws.{there, not_there, boxes-all, boxes-joined, spot_is, SpotIs}
use Rattle.reading.proofs.StageLaws.{ids_are, after_read, references-none, references-read, references_gone}
use Rattle.reading.proofs.NamedLaws.{file-named}

abbrev pub seat : List Spot → ℕ → Spot
seat spots j = get_or spots j (record { start = 0; body = 0; end = 0 })

-- the spot of a child that is there
module _ (s : List ℕ) (at : ℕ) (spots : List Spot) (st : Standing s spots) (j k : ℕ)
    (e : seat spots j ≡ spot_of (where_of k 0 (kids s))) (has : Has k (kids s)) where
  pub child_is : SpotIs s at k (kids s) (seat spots j)
  child_is = rw e (spot_is s (kids s) (boxes-all s at spots st) (boxes-joined s at spots st) at k has)

  pub child_within : at + length s ≤ 65536 → ((seat spots j).body ≤ (seat spots j).end) × ((seat spots j).end ≤ length s) ×
      (at + (seat spots j).start ≤ 65536) × (at + (seat spots j).body ≤ 65536)
  child_within l = let i = child_is in let a = i.head in let b = i.order in let d = i.upto in (b, d, omega arith, omega arith)

pub iref-within : (s : List ℕ) (at : ℕ) (spots : List Spot) → Standing s spots → at + length s ≤ 65536 →
    ((seat spots 5).end ≡ 0 → ⊥) → ((seat spots 5).body ≤ (seat spots 5).end) × ((seat spots 5).end ≤ length s) ×
    (at + (seat spots 5).start ≤ 65536) × (at + (seat spots 5).body ≤ 65536)
iref-within s at spots st l h =
    let e = ap (λ (y : List Spot). seat y 5) st.spots_are in
    child_within s at spots st 5 iref e (there iref (kids s) (λ z. h (ap (λ (p : Spot). p.end) e ∙ z))) l

-- a part begins where its place says and ends within the head
pub part_room : (s : List ℕ) (at : ℕ) (p : Spot) (l : at + length s ≤ 65536) → (p.body ≤ p.end) ×
    (p.end ≤ length s) × (at + p.start ≤ 65536) × (at + p.body ≤ 65536) →
    at + p.body + length (take (p.end - p.body) (drop p.body s)) ≤ 65536
part_room s at p l h = let e : length (take (p.end - p.body) (drop p.body s)) ≡ p.end - p.body =
    simp (length-take, length-drop) (omega arith) in omega arith

pub part-fits : (s : List ℕ) (at : ℕ) (p : Spot) (l : at + length s ≤ 65536) → (p.body ≤ p.end) ×
    (p.end ≤ length s) × (at + p.start ≤ 65536) × (at + p.body ≤ 65536) →
    at + p.body + length (take (p.end - p.body) (drop p.body s)) < 18446744073709551616
part-fits s at p l h = let e = part_room s at p l h in omega arith

-- Kept: stores into the first words
set-kept : (t u : List ℕ) (i v : ℕ) → i < 11280 → Kept t u → Kept t (set u i v)
set-kept t u i v h k = record { same_length = simp length-set k.same_length; past = drop-set-lt 11280 u i v h ∙ k.past }

pub head_kept : (t u : List ℕ) (a b c d e f g h : ℕ) → u ≡ set (set (set (set (set (set (set (set t 0 a) 1 b) 2 c) 3 d) 4 e) 5 f) 6 g) 7 h → Kept t u
head_kept t u a b c d e f g h w =
    let t1 : List ℕ = set t 0 a in
    let t2 : List ℕ = set t1 1 b in
    let t3 : List ℕ = set t2 2 c in
    let t4 : List ℕ = set t3 3 d in
    let t5 : List ℕ = set t4 4 e in
    let t6 : List ℕ = set t5 5 f in
    let t7 : List ℕ = set t6 6 g in
    subst (Kept t) (sym w)
    (set-kept t t7 7 h (lit< tt)
    (set-kept t t6 6 g (lit< tt)
    (set-kept t t5 5 f (lit< tt)
    (set-kept t t4 4 e (lit< tt)
    (set-kept t t3 3 d (lit< tt)
    (set-kept t t2 2 c (lit< tt)
    (set-kept t t1 1 b (lit< tt)
    (set-kept t t 0 a (lit< tt) (kept_same t)))))))))

pub counts_few : (s : List ℕ) (at : ℕ) (c : Counts) (f : File) (x t : List ℕ) → LastBefore s at c f x t →
    (c.items ≤ 256) × (c.properties ≤ 256) × (c.associations ≤ 2048) × (c.targets ≤ 2048) × (c.extents ≤ 512)
counts_few s at c f x t l =
    let b = l.before.ready.bounded in
    let i = b.few-items in let p = b.few-properties in let a = b.few-associations in let e = b.few-extents in
    let n = l.before.ready.count in let q = l.properties in let r = l.associations in let z = l.targets in let y = l.extents in
    (omega arith, omega arith, omega arith, omega arith, omega arith)

module _ (s : List ℕ) (at total primary : ℕ) (spots : List Spot) (st : Standing s spots) (c : Counts) (f : File)
    (x t : List ℕ) (l : LastBefore s at c f x t) where
  abbrev here : Spot
  here = seat spots 5

  here-is : here ≡ spot_of (where_of iref 0 (kids s))
  here-is = ap (λ (y : List Spot). seat y 5) st.spots_are

  abbrev result : Idat → List ℕ → Type 0
  result r u = After s at total (from_references at (kids s) primary f.items f.locations (shown_of f)) (Ok r) x u

  abbrev naming : List ℕ → Type 0
  naming v = NamedOf (from_references at (kids s) primary f.items f.locations (shown_of f)) v

  abbrev stored : ℕ → List ℕ → List ℕ
  stored n y = set (set (set (set (set (set (set (set y 0 c.items) 1 c.properties) 2 c.associations) 3 n) 4
      c.extents) 5 primary) 6 (total / 4294967296)) 7 (total % 4294967296)

  none_yet : raw_of [] (places_at at (kids s)) f ≡ raw_of [] (places_at at (kids s)) (with_references f no_references)
  unfolding raw_of
  none_yet = rw l.none refl

  module _ (h : here.end ≡ 0) where
    none_read : from_references at (kids s) primary f.items f.locations (shown_of f)
        ≡ ok (file_by at (kids s) primary f.items f.locations (shown_of f) no_references)
    none_read = references-none s at spots st primary f.items f.locations (shown_of f)
        (not_there iref (kids s) (boxes-all s at spots st) (ap (λ (p : Spot). p.end) (sym here-is) ∙ h))

    pub last_none : (u : List ℕ) → u ≡ stored c.targets t → (r : Idat) → r ≡ told_spot at s → result r u
    unfolding targets_in
    last_none u w r a =
        after_read s at total primary c f x t t u l no_references c.targets (sym l.targets) none_read
        (l.before.is ∙ ap (λ (y : List ℕ). y ++ x) none_yet) w r a

    pub last-none-named : (v : List ℕ) → NamedRows f.items f.locations [] v → naming v
    last-none-named v n = file-named _ _ v none_read n

  module _ (h : here.end ≡ 0 → ⊥) where
    has : Has iref (kids s)
    has = there iref (kids s) (λ z. h (ap (λ (p : Spot). p.end) here-is ∙ z))

    is-here : SpotIs s at iref (kids s) here
    is-here = child_is s at spots st 5 iref here-is has

    -- the answer of the code is that of the definition
    module _ (part : List ℕ) (pe : part ≡ take (here.end - here.body) (drop here.body s)) where
      abbrev meant : Answer IrefContent
      meant = references (ids_of f.items) (place_of iref at (kids s))
          (place_of iref at (kids s) + head_of (first_of iref (kids s))) (body_of (first_of iref (kids s)))

      same : references (ids_in t c.items) (at + here.start) (at + here.body) part ≡ meant
      same = rw (ids_are s at c.items f x t l.before, is-here.place, is-here.begin, pe, is-here.part) refl

      -- what the code answers
      abbrev told_here : Result ℕ Refusal
      told_here = told (λ (refs : IrefContent). targets_in refs.derivations) (references (ids_in t c.items) (at + here.start) (at + here.body) part)

      pub last_gone : (r : Refusal) → told_here ≡ Err r →
          from_references at (kids s) primary f.items f.locations (shown_of f) ≡ refuse r.number r.place
      last_gone r e = references_gone s at spots st primary f.items f.locations (shown_of f) has r (sym same ∙ told-refused _ _ r e)

      pub last-few : (k : ℕ) → told_here ≡ Ok k → k ≤ 2048
      last-few k e = let o = told-ok _ _ k e in let b = iref-few _ _ _ _ o.0 o.1 in omega (arith, o.2)

      same-ids : references (ids_in t c.items) (at + here.start) (at + here.body) part
          ≡ references (ids_of f.items) (at + here.start) (at + here.body) part
      same-ids = ap (λ (ids : List ℕ). references ids (at + here.start) (at + here.body) part) (ids_are s at c.items f x t l.before)

      pub last-read : (k : ℕ) → told_here ≡ Ok k → (v u : List ℕ) →
          ReferencesLeft part (at + here.start) (at + here.body) c.items t v → u ≡ stored k v → (r : Idat) →
          r ≡ told_spot at s → result r u
      last-read k e v u left w r a =
          let o = told-ok _ _ k e in
          let m : meant ≡ ok o.0 = sym same ∙ o.1 in
          after_read s at total primary c f x t v u l o.0 k o.2
          (references-read s at spots st primary f.items f.locations (shown_of f) has o.0 m)
          (left.told (places_at at (kids s)) f x o.0 l.before.ready l.none (sym same-ids ∙ o.1) l.before.is) w r a

      pub last-named : (k : ℕ) → told_here ≡ Ok k → (v : List ℕ) → ((refs : IrefContent) → references (ids_of f.items)
          (at + here.start) (at + here.body) part ≡ ok refs → NamedRows f.items f.locations refs.links v) →
          naming v
      last-named k e v named =
          let o = told-ok _ _ k e in
          file-named _ _ v
          (references-read s at spots st primary f.items f.locations (shown_of f) has o.0 (sym same ∙ o.1))
          (named o.0 (sym same-ids ∙ o.1))
