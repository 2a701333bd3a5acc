-- Demand 1: a table's length, the words behind it, and the two numbers that carry a refusal. Assumes nothing.
use Prim.Native.Nat.{ℕ}
use native.Mathlib.Omega.{arith}
use mathlib.Core.Path.{◌≡◌, refl, sym, ap, subst, ◌∙◌}
use mathlib.Core.List.{List}
use mathlib.Core.Bool.{Bool, true, false}
use lib.ListN.{length, get_or, drop, replicate, length-replicate}
use lib.Seq.{drop_at}
use lib.Dec.{leb}
use Rattle.fields.specs.Choice.{pick}
use Rattle.fields.proofs.FieldLaws.{both}
use Rattle.fields.proofs.TestLaws.{untrue}
use Rattle.boxes.specs.Answer.{Answer, ok, refuse}
use Rattle.contents.specs.File.{File}
use Rattle.rules.specs.Words.{table_words, words_of}
use Rattle.rules.specs.Opening.{accepted, left_by, after_by, after}
use Rattle.rules.proofs.RuleLaws.{accepted-both}
use Rattle.questions.specs.Questions as Q
use Rattle.records.proofs.BoundLaws.{read_bounds}
use Rattle.views.proofs.LayoutLaws.{words-length}
use Rattle.bodied.specs.Body.{longest_body, room_left}
use Rattle.still.specs.Told.{told_fault}
use Rattle.still.specs.Given.{PropertyGiven}
use Rattle.faults.specs.Good.{GoodFile}
use Rattle.faults.proofs.GoodLaws.{good-accepted}
use Rattle.demands.specs.Numbers.{Among, property_numbers}
use Rattle.demands.proofs.Numbers.{property-number}

module _ (head : List ℕ) (total : ℕ) where
  pub accepted-long : (f : File) → accepted total head ≡ ok f → length (words_of total head f) ≡ 11280
  accepted-long f e = words-length total head f (read_bounds total head f (accepted-both total head f e).0).0

  -- the words of a file that keeps the rules are 11,280
  pub words_long : (f : File) → GoodFile total head f → length (words_of total head f) ≡ 11280
  words_long f g = accepted-long f (good-accepted total head f g)

  -- "Words past 11,280 are never written.", by any call, answered or refused
  pub words-behind : (table left : List ℕ) → left ≡ after total head table → drop 11280 left ≡ drop 11280 table
  unfolding after_by left_by pick
  words-behind table left is = by (leb 11280 (length table)) (accepted total head) refl is
    where
      by : (t : Bool) (m : Answer File) → accepted total head ≡ m → left ≡ pick t (left_by words_of total head table m) table →
          drop 11280 left ≡ drop 11280 table
      by false m a l = ap (drop 11280) l
      by true (ok f) a l = ap (drop 11280) l ∙ drop_at (words_of total head f) (drop 11280 table) 11280 (accepted-long f a)
      by true (refuse n p) a l = ap (drop 11280) l ∙
          drop_at (replicate 11280 0) (drop 11280 table) 11280 (length-replicate {A = ℕ} 11280 0)

  -- and by the question of a body, whose 31 sets the words before them to 0
  pub body-behind : (table left : List ℕ) (room : ℕ) → left ≡ room_left after room total head table → drop 11280 left ≡ drop 11280 table
  unfolding room_left
  body-behind table left room =
      both Kept (leb longest_body room) _ _ (λ t. words-behind table left)
      (λ t. both Kept (leb table_words (length table)) _ _
      (λ t e. ap (drop 11280) e ∙ drop_at (replicate 11280 0) (drop 11280 table) 11280 (length-replicate {A = ℕ} 11280 0))
      (λ t e. ap (drop 11280) e))
    where
      Kept : List ℕ → Type 0
      Kept l = left ≡ l → drop 11280 left ≡ drop 11280 table

-- no refusal of `property` can be lost: the first of the two numbers is 0 exactly where it is answered
pub property_carried : (head : List ℕ) (total : ℕ) (table : List ℕ) (id k : ℕ) (part told left : List ℕ) →
    PropertyGiven head total table id k part told left →
    (get_or told 0 0 ≡ 0 → (p : Q.Part) × (Q.property (length table) total head id k ≡ ok p)) ×
    ((p : Q.Part) → Q.property (length table) total head id k ≡ ok p → get_or told 0 0 ≡ 0)
unfolding told_fault
property_carried head total table id k part told left g = by (Q.property (length table) total head id k) refl g.1.0
  where
    by : (m : Answer Q.Part) → Q.property (length table) total head id k ≡ m → told ≡ told_fault m →
        (get_or told 0 0 ≡ 0 → (p : Q.Part) × (Q.property (length table) total head id k ≡ ok p)) ×
        ((p : Q.Part) → Q.property (length table) total head id k ≡ ok p → get_or told 0 0 ≡ 0)
    by (ok p) e t = (λ z. (p, e), λ q a. ap (λ (l : List ℕ). get_or l 0 0) t)
    by (refuse n p) e t = (
      λ z. absurd (none (sym (ap (λ (l : List ℕ). get_or l 0 0) t) ∙ z)),
      λ q a. never q (sym a ∙ e),
    )
      where
        none : n ≡ 0 → ⊥
        none z = untrue (subst (λ (i : ℕ). Among property_numbers i) z (property-number total head (length table) n p id k e))

        never : (q : Q.Part) → ok q ≡ refuse n p → get_or told 0 0 ≡ 0
        never q a = let z : ◌≡◌ {A = ℕ} 0 1 = cc in absurd (omega arith)
