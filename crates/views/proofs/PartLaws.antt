-- The properties of a file that is read stand in the head where the places say, and so does the content of `idat`. Assumes nothing.
use Prim.Native.Nat.{ℕ, ◌+◌, ◌≤◌}
use native.Mathlib.Nat.{zero-add}
use native.Mathlib.Omega.{arith}
use mathlib.Core.Path.{◌≡◌, refl, sym, ap, ◌∙◌}
use mathlib.Core.List.{List, [], ◌∷◌, ◌++◌, append_assoc}
use mathlib.Core.Bool.{Bool}
use mathlib.Core.Logic.{◌⊎◌, inl, inr}
use lib.ListN.{length, drop, length-append}
use lib.Seq.{drop_at}
use Rattle.fields.specs.Choice.{pick}
use Rattle.fields.specs.Field.{be_at}
use Rattle.fields.specs.Lists.{All}
use Rattle.boxes.specs.Answer.{ok}
use Rattle.boxes.specs.Types.{iprp, idat}
use Rattle.boxes.specs.Box.{head_of, body_of, IsBox, flat, Cut, cut}
use Rattle.boxes.specs.Children.{of_kind, place_of}
use Rattle.boxes.specs.Top.{FirstMeta}
use Rattle.boxes.proofs.BoxLaws.{same_head, cut-only, full-cut, short_head}
use Rattle.boxes.proofs.TopLaws.{meta-complete}
use Rattle.forms.specs.Form.{give, demand, field, ◌>>=◌}
use Rattle.contents.specs.Full.{Full, full}
use Rattle.contents.specs.Iprp.{IprpContent}
use Rattle.contents.specs.Keeps.{Shows, Spelled}
use Rattle.contents.specs.File.{File, data_of, read_file}
use Rattle.contents.proofs.ReadLaws.{read-sound}
use Rattle.rules.specs.Places.{Places, places_at, places_by, places_in}
use Rattle.views.proofs.WordLaws.{PartsIn}
use Rattle.views.proofs.LieLaws.{Lies, PartIn, lies_part, lies_in, lies_front, lies_after, lies_body, lies_flat, first_of}

-- full
joined_length : (a b u : List ℕ) → a ++ b ≡ u → length u ≡ length a + length b
joined_length a b u e = rw (← e) (length-append a b)

pub full-length : (allowed : ℕ → Bool) (u : List ℕ) (v : Full) → (full allowed).Spells u v → length u ≡ 4
unfolding full ◌>>=◌ field demand give
full-length allowed u v s =
    let t = s.then in
    let w = t.then in
    omega (
      arith,
      joined_length s.left s.right u s.join,
      joined_length t.left t.right s.right t.join,
      joined_length w.left w.right t.right w.join,
      s.first.0,
      ap length t.first.0,
      w.first.0,
      ap length w.then.0,
    )

-- FirstMeta
module _ (total : ℕ) (head m : List ℕ) (place : ℕ) (h : FirstMeta total head m place) where
  meta_lies : Lies head place m
  meta_lies =
      record {
        before = h.first ++ flat h.before;
        behind = h.behind;
        joined = simp append_assoc h.joined;
        place = length-append h.first (flat h.before) ∙ sym h.where_it_is;
      }

  meta-header : head_of m ≤ length m
  meta-header = by h.size
    where
      by : IsBox m ⊎ ((be_at m 0 4 ≡ 0) × (8 ≤ length m) × (h.behind ≡ []) × (total ≡ length head)) → head_of m ≤ length m
      by (inl b) = b.header
      by (inr z) = omega (arith, (short_head m (λ q. omega (arith, z.0, q))).0, z.1)

-- read_file: the children of `meta`, and where they lie
pub record Sited (total : ℕ) (head : List ℕ) (f : File) : Type 0 where
  pub boxes : List (List ℕ)
  pub at : ℕ
  pub all : All IsBox boxes
  pub spelled : Spelled boxes f
  pub lies : Lies head at (flat boxes)
  pub places : places_in total head ≡ places_at at boxes

pub file_sited : (total : ℕ) (head : List ℕ) (f : File) → read_file total head ≡ ok f → Sited total head f
unfolding places_by
file_sited total head f e =
    let i = read-sound total head f e in
    let m = i.meta in
    let k = i.keeps in
    let c = k.then in
    let n = full-length _ k.fields k.value k.spells in
    let content : drop 4 (body_of m) ≡ k.boxes = rw (← k.joined) (drop_at k.fields k.boxes 4 n) in
    let found = meta-complete total head m i.place i.within i.first in
    record {
      boxes = c.boxes;
      at = i.place + head_of m + 4;
      all = c.all;
      spelled = c.spelled;
      lies =
          lies_in (lies_in (meta_lies total head m i.place i.first) (lies_body m (meta-header total head m i.place i.first)))
          (lies_after k.fields (flat c.boxes) (body_of m) 4 (ap (λ (s : List ℕ). k.fields ++ s) c.joined ∙ k.joined) n);
      places = ap places_by found ∙ ap (λ (s : List ℕ). places_at (i.place + head_of m + 4) (cut s).boxes) content ∙
          ap (λ (s : Cut). places_at (i.place + head_of m + 4) s.boxes)
          (cut-only _ _ _ (full-cut k.boxes c.boxes c.all c.joined));
    }

-- Shows: the properties lie behind the header of the `ipco`, with which the content of an `iprp` begins
properties_lie : (ids s : List ℕ) (v : IprpContent) → Shows ids s v → Lies s (head_of s) (flat v.properties)
properties_lie ids s v h =
    let a : List ℕ = h.first in
    let header = h.first-box.header in
    let same : head_of s ≡ head_of a = ap head_of (sym h.joined) ∙ same_head a h.second header in
    rw (same, h.properties.joined, ← h.joined) (rw zero-add at (lies_in (lies_front a h.second) (lies_body a header)))

-- places_at
module _ (at : ℕ) (bs : List (List ℕ)) where
  places_properties : (b : List ℕ) → of_kind iprp bs ≡ b ∷ [] → (places_at at bs).properties ≡ place_of iprp at bs + head_of b + head_of (body_of b)
  unfolding places_at
  places_properties b e = rw e

  places_idat : (b : List ℕ) (cs : List (List ℕ)) → of_kind idat bs ≡ b ∷ cs → (places_at at bs).idat ≡ place_of idat at bs + head_of b
  unfolding places_at pick
  places_idat b cs e = rw e

  places_none : of_kind idat bs ≡ [] → (places_at at bs).idat ≡ 0
  unfolding places_at pick
  places_none e = rw e

  module _ (head : List ℕ) (lies : Lies head at (flat bs)) (all : All IsBox bs) where
    -- the content of a box of a type
    body_lies : (k : ℕ) (b : List ℕ) (cs : List (List ℕ)) → of_kind k bs ≡ b ∷ cs → Lies head (place_of k at bs + head_of b) (body_of b)
    body_lies k b cs e =
        let p = first_of k at bs b cs all e in
        rw p.place (lies_in (lies_in lies p.lies) (lies_body b p.box.header))

    idat_lies : (l : List (List ℕ)) → of_kind idat bs ≡ l → PartIn head (places_at at bs).idat (data_of l)
    unfolding data_of
    idat_lies [] e = rw (places_none e) (record { room = omega arith; part = refl })
    idat_lies (b ∷ cs) e = rw (places_idat b cs e) (lies_part (body_lies idat b cs e))

-- places_in: the properties, and the content of `idat`
module _ (total : ℕ) (head : List ℕ) (f : File) (e : read_file total head ≡ ok f) where
  pub property_parts : PartsIn head (places_in total head) f
  property_parts k h =
      let i = file_sited total head f e in
      let c = i.spelled in
      let place : (places_in total head).properties ≡ place_of iprp i.at i.boxes + head_of c.properties + head_of (body_of c.properties) =
      ap (λ (p : Places). p.properties) i.places ∙ places_properties i.at i.boxes c.properties c.one-iprp in
      rw place
      (lies_part
      (lies_in
      (lies_in (body_lies i.at i.boxes head i.lies i.all iprp c.properties [] c.one-iprp) (properties_lie _ _ _ c.in_iprp))
      (lies_flat f.properties k h)))

  pub idat-part : PartIn head (places_in total head).idat f.idat
  idat-part =
      let i = file_sited total head f e in
      rw (i.spelled.in_idat, i.places) (idat_lies i.at i.boxes head i.lies i.all (of_kind idat i.boxes) refl)
