-- One stage after another. Assumes nothing.
use Prim.Native.Nat.{ℕ, zero, suc, ◌+◌, ◌/◌, ◌%◌, ◌≤◌, ◌<◌}
use native.Mathlib.Omega.{arith}
use mathlib.Core.Path.{◌≡◌, refl, sym, ap, ◌∙◌, subst}
use mathlib.Core.List.{List, [], ◌∷◌, ◌++◌}
use mathlib.Core.Bool.{false}
use lib.ListN.{length, get_or, take, set, length-map}
use lib.Seq.{take-suc, take_all}
use Rattle.boxes.specs.Answer.{Answer, ok, refuse, ◌>>=◌}
use Rattle.boxes.specs.Types.{iref}
use Rattle.boxes.specs.Box.{head_of, body_of}
use Rattle.boxes.specs.Children.{of_kind, filled, place_of}
use Rattle.boxes.specs.declared.Spot.{Spot}
use Rattle.boxes.specs.declared.Refusal.{Refusal}
use Rattle.std.specs.Prelude.{Result, Ok, Err, OnOk, IsErrAnd}
use Rattle.std.proofs.lemmas.Result.{err_from_is_err_and}
use Rattle.boxes.specs.Told.{told}
use Rattle.boxes.proofs.AnswerLaws.{ok_bind, ok_inj, refuse_bind}
use Rattle.boxes.proofs.ChildLaws.{nil_filled}
use Rattle.contents.specs.Iinf.{Item, ids_of}
use Rattle.contents.specs.Iloc.{Location}
use Rattle.contents.specs.Iprp.{IprpContent}
use Rattle.contents.specs.Iref.{IrefContent, no_references, targets_in, references}
use Rattle.contents.specs.File.{File, referred}
use Rattle.rules.specs.Places.{Places, first_of, places_at}
use Rattle.rules.specs.Words.{head_words}
use Rattle.records.specs.inner.Raw.{raw_of}
use Rattle.records.specs.inner.Rows.{id_at, ids_in}
use Rattle.records.specs.inner.Stage.{with_references}
use Rattle.records.proofs.RawLaws.{raw-id}
use Rattle.records.proofs.SaidLaws.{named_total, derived_total, located_total}
use Rattle.reading.specs.declared.Counts.{Counts}
use Rattle.reading.specs.declared.Idat.{Idat}
use Rattle.reading.specs.inner.Parts.{kids, Standing, Before, LastBefore, After, shown_of, file_by, from_references, told_file, told_spot, Has}
use Rattle.reading.proofs.SpotLaws.{has_first}
use Rattle.reading.proofs.TableLaws.{raw_head}

-- ids_in
ids-take : (t l : List ℕ) (n : ℕ) → n ≤ length l → ((k : ℕ) → k < n → id_at t k ≡ get_or l k 0) → ids_in t n ≡ take n l
unfolding ids_in
ids-take t l zero h e = refl
ids-take t l (suc n) h e = rw (ids-take t l n (omega arith) (λ k q. e k (omega arith)), e n (omega arith)) (sym (take-suc l n 0 h))

pub ids-read : (hw : List ℕ) (pl : Places) (x : List ℕ) → length hw ≤ 16 → (n : ℕ) (f : File) (t : List ℕ) → length f.items ≡ n →
    t ≡ raw_of hw pl f ++ x → ids_in t n ≡ ids_of f.items
ids-read hw pl x small n f t c e =
    let l : length (ids_of f.items) ≡ length f.items = simp length-map in
    ids-take t (ids_of f.items) n (omega arith) (λ k q. ap (λ (u : List ℕ). id_at u k) e ∙ raw-id hw pl x small f k (omega arith))
    ∙ take_all n (ids_of f.items) (omega arith)

pub ids_are : (s : List ℕ) (at n : ℕ) (f : File) (x t : List ℕ) → Before s at n f x t → ids_in t n ≡ ids_of f.items
ids_are s at n f x t b = ids-read [] (places_at at (kids s)) x (omega arith) n f t b.ready.count b.is

-- After: a refusal
pub after-refused : (s : List ℕ) (at total : ℕ) (m : Answer File) (r : Refusal) (x u : List ℕ) →
    m ≡ refuse r.number r.place → After s at total m (Err r) x u
unfolding told
after-refused s at total m r x u e =
    record {
      answer = sym (ap (told_file (places_at at (kids s)).idat) e);
      left = λ g q. let z : ◌≡◌ {A = Answer File} (refuse r.number r.place) (ok g) = sym e ∙ q in let w : ◌≡◌ {A = ℕ} 0 1 = cc in absurd (omega arith);
    }

-- what `?` hands on: y is the refusal r
pub handed : (y : Result Idat Refusal) (r : Refusal) → IsErrAnd y (λ f. f ≡ r) → y ≡ Err r
handed y r h = let p = err_from_is_err_and y h in p.1 ∙ ap Err p.2

pub after-handed : (s : List ℕ) (at total : ℕ) (m : Answer File) (y : Result Idat Refusal) (r : Refusal) (x u : List ℕ) → y ≡ Err r →
    m ≡ refuse r.number r.place → After s at total m y x u
after-handed s at total m y r x u q e = subst (λ (z : Result Idat Refusal). After s at total m z x u) (sym q) (after-refused s at total m r x u e)

pub on-handed : (P : Type 0) (y : Result Idat Refusal) (r : Refusal) → y ≡ Err r → OnOk y P
on-handed P y r q = rw q tt

-- After: of what comes to the same
pub after_same : (s : List ℕ) (at total : ℕ) (m k : Answer File) (r : Result Idat Refusal) (x u : List ℕ) → m ≡ k →
    After s at total k r x u → After s at total m r x u
after_same s at total m k r x u e a = subst (λ (y : Answer File). After s at total y r x u) (sym e) a

-- After: all is read, and the first words are stored
module _ (s : List ℕ) (at total primary : ℕ) (c : Counts) (f : File) (x t v u : List ℕ) (l : LastBefore s at c f x t)
    (refs : IrefContent) (n : ℕ) (count : targets_in refs.derivations ≡ n) where
  abbrev whole-file : File
  whole-file = file_by at (kids s) primary f.items f.locations (shown_of f) refs

  words_are : c.items ∷ c.properties ∷ c.associations ∷ n ∷ c.extents ∷ primary ∷ (total / 4294967296) ∷
      (total % 4294967296) ∷ [] ≡ head_words total whole-file
  words_are = rw (
    ← l.before.ready.count,
    l.properties,
    l.associations,
    ← count,
    l.extents,
    named_total f.associations,
    derived_total refs.derivations,
    located_total f.locations,
  ) refl

  same_lists : (hw : List ℕ) → raw_of hw (places_at at (kids s)) (with_references f refs) ≡ raw_of hw (places_at at (kids s)) whole-file
  unfolding raw_of
  same_lists hw = refl

  abbrev stored : List ℕ → List ℕ
  stored y = set (set (set (set (set (set (set (set y 0 c.items) 1 c.properties) 2 c.associations) 3 n) 4
      c.extents) 5 primary) 6 (total / 4294967296)) 7 (total % 4294967296)

  table_is : v ≡ raw_of [] (places_at at (kids s)) (with_references f refs) ++ x → u ≡ stored v →
      u ≡ raw_of (head_words total whole-file) (places_at at (kids s)) whole-file ++ x
  table_is i w =
      w
      ∙ ap stored i
      ∙ raw_head (places_at at (kids s)) (with_references f refs) x c.items c.properties c.associations n
      c.extents primary (total / 4294967296) (total % 4294967296)
      ∙ ap (λ (y : List ℕ). y ++ x) (ap (λ (hw : List ℕ). raw_of hw (places_at at (kids s)) (with_references f refs))
      words_are ∙ same_lists (head_words total whole-file))

  pub after_read : from_references at (kids s) primary f.items f.locations (shown_of f) ≡ ok whole-file →
      v ≡ raw_of [] (places_at at (kids s)) (with_references f refs) ++ x → u ≡ stored v → (r : Idat) →
      r ≡ told_spot at s → After s at total (from_references at (kids s) primary f.items f.locations (shown_of f)) (Ok r)
      x u
  unfolding told told_spot
  after_read e i w r a =
      record {
        answer = ap Ok a ∙ sym (ap (told_file (places_at at (kids s)).idat) e);
        left = λ g q. let h : whole-file ≡ g = ok_inj _ _ (sym e ∙ q) in
            subst (λ (y : File). u ≡ raw_of (head_words total y) (places_at at (kids s)) y ++ x) h (table_is i w);
      }

-- from_references
module _ (s : List ℕ) (at : ℕ) (spots : List Spot) (st : Standing s spots) (primary : ℕ) (is : List Item) (ls : List Location) (sh : IprpContent) where
  pub references-none : filled (of_kind iref (kids s)) ≡ false →
      from_references at (kids s) primary is ls sh ≡ ok (file_by at (kids s) primary is ls sh no_references)
  unfolding from_references referred ◌>>=◌
  references-none h = let n : of_kind iref (kids s) ≡ [] = nil_filled _ h in rw n

  referred-is : Has iref (kids s) → from_references at (kids s) primary is ls sh ≡
      (references (ids_of is) (place_of iref at (kids s)) (place_of iref at (kids s) + head_of (first_of iref (kids s)))
      (body_of (first_of iref (kids s))) >>= (λ refs. ok (file_by at (kids s) primary is ls sh refs)))
  unfolding from_references referred
  referred-is h = let o = has_first iref (kids s) h in rw o.1

  pub references-read : Has iref (kids s) → (refs : IrefContent) →
      references (ids_of is) (place_of iref at (kids s)) (place_of iref at (kids s) + head_of (first_of iref (kids s)))
      (body_of (first_of iref (kids s))) ≡ ok refs → from_references at (kids s) primary is ls sh ≡ ok
      (file_by at (kids s) primary is ls sh refs)
  references-read h refs e = referred-is h ∙ ok_bind _ _ refs e

  pub references_gone : Has iref (kids s) → (r : Refusal) →
      references (ids_of is) (place_of iref at (kids s)) (place_of iref at (kids s) + head_of (first_of iref (kids s)))
      (body_of (first_of iref (kids s))) ≡ refuse r.number r.place →
      from_references at (kids s) primary is ls sh ≡ refuse r.number r.place
  references_gone h r e = referred-is h ∙ refuse_bind _ _ _ e _
