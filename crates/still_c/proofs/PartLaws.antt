-- The property box that is asked for: its numbers, of any file; where it lies in the head. Assumes nothing.
use Prim.Native.Nat.{ℕ, zero, suc, ◌-◌, ◌<◌, ◌≤◌}
use native.Mathlib.Omega.{arith}
use mathlib.Core.Path.{◌≡◌, refl, sym, ap, ◌∙◌, subst}
use mathlib.Core.List.{List, [], ◌++◌}
use lib.ListN.{length}
use borrow.Author.Tests.{ne_eqb, leb-true}
use lib.Dec.{leb}
use Rattle.std.specs.Prelude.{Ok, Err}
use Rattle.fields.specs.Choice.{pick}
use Rattle.fields.proofs.TestLaws.{and_both}
use Rattle.boxes.specs.Answer.{ok}
use Rattle.boxes.proofs.AnswerLaws.{bind_ok, then_ok, check-ok, ok_inj}
use Rattle.boxes.specs.declared.Refusal.{Refusal}
use Rattle.table.specs.declared.PropertyIndex.{PropertyIndex}
use Rattle.contents.specs.File.{File, read_file}
use Rattle.rules.specs.Joined.{associations_of, property_at}
use Rattle.rules.specs.Places.{places_in, property_offset}
use Rattle.rules.specs.Derivations.{scene_of}
use Rattle.rules.specs.Words.{words_with, words_of}
use Rattle.rules.specs.Opening.{opened, after}
use Rattle.questions.specs.Questions.{Part, part_of, property_in, property}
use Rattle.rules.proofs.RuleLaws.{accepted-both}
use Rattle.records.specs.inner.Raw.{Bounded}
use Rattle.records.proofs.BoundLaws.{read_bounds}
use Rattle.views.proofs.LieLaws.{PartIn}
use Rattle.views.proofs.PartLaws.{property_parts}
use Rattle.views.proofs.SoundLaws.{read_makes_sure}
use Rattle.views.proofs.ViewLaws.{words-view}
use Rattle.views.proofs.LayoutLaws.{by-id-few, layout_left}
use Rattle.asked.specs.Told.{told_asked}
use Rattle.still.specs.Told.{index_of}
use Rattle.still.proofs.PropertyLaws.{property-refused, property-found, property-is, index-there}
use Rattle.out.specs.Out.{out_refused, out_part}

-- out_part of the property that was asked for; lent is the table as it was lent, t as it is left
module _ (total : ℕ) (head lent : List ℕ) (item k : ℕ) where
  pub asked-refused : (y : Refusal) → told_asked (index_of (length lent) total head item k) ≡ Err y →
      out_refused y.number y.place ≡ out_part (property (length lent) total head item k)
  unfolding out_part
  asked-refused y e = rw (property-refused total head lent item k y e)

  pub asked-found : (i : PropertyIndex) → told_asked (index_of (length lent) total head item k) ≡ Ok i →
      total < 18446744073709551616 → (t r : List ℕ) → t ≡ after total head lent
      → ((f : File) (records x : List ℕ) → t ≡ words_with records total head f ++ x → length records ≤ 4096 → Bounded f →
      i.0 ≤ length f.properties → r ≡ out_part (ok (part_of (places_in total head) f i.0)))
      → r ≡ out_part (property (length lent) total head item k)
  unfolding opened
  asked-found i e few t r left given =
      let found = property-found total head lent item k i e in
      let f = found.0 in
      let a = (then_ok _ _ f found.1).2 in
      let b = (read_bounds total head f (accepted-both total head f a).0).0 in
      given f _ _ (left ∙ layout_left words_of total head lent f found.1) (by-id-few f (scene_of total head f) b) b
      (index-there _ head (places_in total head) f item k i.0 (words-view total head f [] few a) found.2)
      ∙ ap out_part (sym (property-is total head lent item k f i.0 found.1 found.2))

-- property_offset, property_at: offset and length lead to the box, in the caller's own head
index_lies : (total : ℕ) (head : List ℕ) (f : File) → read_file total head ≡ ok f → (i : ℕ) →
    i ≤ length f.properties → PartIn head (property_offset (places_in total head) f i) (property_at f i)
unfolding property_offset property_at pick
index_lies total head f e zero h = record { room = omega arith; part = refl }
index_lies total head f e (suc i) h = let z : suc i - 1 ≡ i = omega arith in rw (ne_eqb (suc i) 0 (λ q. omega arith), z) (property_parts total head f e i h)

pub part_lies : (n total : ℕ) (head : List ℕ) (item k : ℕ) (p : Part) → property n total head item k ≡ ok p → PartIn head p.offset p.bytes
unfolding property opened property_in part_of
part_lies n total head item k p e =
    let a = bind_ok _ _ p e in
    let f = a.0 in
    let r = (accepted-both total head f (then_ok _ _ f a.1).2).0 in
    let b = then_ok _ _ p (bind_ok _ _ p a.2).2 in
    let t = and_both (leb 1 k) (leb k (length (associations_of f item))) (check-ok 25 item _ b.0 b.1) in
    let least = leb-true 1 k t.0 in
    let most = leb-true k (length (associations_of f item)) t.1 in
    subst (λ (q : Part). PartIn head q.offset q.bytes) (ok_inj _ _ b.2)
    (index_lies total head f r _ ((read_makes_sure total head f r).indexed item (k - 1) (omega arith)))
