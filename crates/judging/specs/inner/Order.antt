-- Refusals 13 to 20 as the code asks for them: each rule of each item in table order.
--   rule_by rule total head f      what a rule says of an item, with its row
--   places_judged                  13, 30 and 14;   rest_judged, pictures_judged    15 to 20, and 18 to 20
--   Read t head total f x         the table t is that of the file f as it was read, x lies behind it
--   Early, Ready                  what is known when a rule is asked: up to 17 the table as it was read, from 18 on the table with sizes
--   NoneDeeper t w                no record of the table t has a depth over w
--   told_judged m                  the code's value
--   RestBy .., PlacesBy .., JudgedBy ..    what judging from 15, from 13 and from 12 on answers and leaves in the table
use Rattle.std.specs.Prelude.{ℕ, ◌+◌, ◌≤◌, ◌<◌, ◌≡◌, List, ◌++◌, length, get_or, Result}
use Rattle.boxes.specs.Answer.{Answer, ok, ◌>>◌}
use Rattle.boxes.specs.Told.{told}
use Rattle.boxes.specs.declared.Refusal.{Refusal}
use Rattle.contents.specs.Iinf.{Item}
use Rattle.contents.specs.File.{File, read_file}
use Rattle.rules.specs.Places.{places_in}
use Rattle.rules.specs.Derivations.{scene_of}
use Rattle.rules.specs.Rules.{in_order, by_depth, rule13-30-14, rule15-29-16, rule17, rule18, rule19, judged}
use Rattle.rules.specs.Words.{head_words, file_words}
use Rattle.records.specs.inner.Raw.{raw_of}
use Rattle.views.specs.inner.View.{TableOf, Judging, record_word}
use Rattle.placed.specs.inner.Plain.{plain_rule}
use Rattle.derived.specs.inner.Told.{Resolved, Followed, RunsFor}
use Rattle.sizing.specs.inner.Drawn.{Drawn}
use Rattle.judging.specs.declared.Rule.{Rule}
use Rattle.judging.specs.declared.Rule.TheVariants.{Placed, Derived, Itself, Deep}

-- Placed: where it gives 30 the rule itself is asked, of all items
unfoldable pub rule_by : Rule → ℕ → List ℕ → File → ℕ → Item → Answer (Unit {0})
rule_by Placed total head f r i = plain_rule total head f i
rule_by Derived total head f r i = rule17 total head f i
rule_by Itself total head f r i = rule18 (scene_of total head f) r i
rule_by Deep total head f r i = rule19 (scene_of total head f) r i

abbrev pub places_judged : ℕ → List ℕ → File → Answer (Unit {0})
places_judged total head f = in_order (λ (r : ℕ) (i : Item). rule13-30-14 total head f i) 0 f.items

-- 18 to 20, and 15 to 20
unfoldable pub pictures_judged : ℕ → List ℕ → File → Answer (Unit {0})
pictures_judged total head f = in_order (rule_by Itself total head f) 0 f.items >>
    (in_order (rule_by Deep total head f) 0 f.items >> by_depth (scene_of total head f) f.items 17 0)

unfoldable pub rest_judged : ℕ → List ℕ → File → Answer (Unit {0})
rest_judged total head f = in_order (λ (r : ℕ) (i : Item). rule15-29-16 f i) 0 f.items >>
    (in_order (rule_by Derived total head f) 0 f.items >> pictures_judged total head f)

-- idat: where the content of `idat` ends in the head
pub record Early (t head : List ℕ) (total idat : ℕ) (f : File) : Type 0 where
  pub view : TableOf t head (places_in total head) f
  pub judging : Judging t f
  pub ends : (places_in total head).idat + length f.idat ≡ idat

-- runs: how far the extents of items that are made of others lie in the head
abbrev pub Ready : Rule → List ℕ → List ℕ → List ℕ → List ℕ → ℕ → ℕ → File → Type 0
Ready Placed t rows runs head total idat f = Early t head total idat f
Ready Derived t rows runs head total idat f = Followed t rows head total f × Resolved t rows f × RunsFor t rows (length head) f runs
Ready Itself t rows runs head total idat f = Drawn t rows head total f
Ready Deep t rows runs head total idat f = Drawn t rows head total f

abbrev pub NoneDeeper : List ℕ → ℕ → Type 0
NoneDeeper t w = (r : ℕ) → r < get_or t 0 0 → r < 256 → record_word t r 14 ≤ w

abbrev pub told_judged : Answer (Unit {0}) → Result (Unit {0}) Refusal
told_judged = told (λ (u : Unit {0}). u)

pub record Read (t head : List ℕ) (total idat : ℕ) (f : File) (x : List ℕ) : Type 0 where
  pub read : read_file total head ≡ ok f
  pub is : t ≡ raw_of (head_words total f) (places_in total head) f ++ x
  pub ends : (places_in total head).idat + length f.idat ≡ idat

pub record RestBy (head : List ℕ) (total : ℕ) (f : File) (x : List ℕ) (j : Result (Unit {0}) Refusal) (u : List ℕ) : Type 0 where
  pub answer : j ≡ told_judged (rest_judged total head f)
  pub left : rest_judged total head f ≡ ok tt → u ≡ file_words total head f ++ x

pub record PlacesBy (head : List ℕ) (total : ℕ) (f : File) (x : List ℕ) (j : Result (Unit {0}) Refusal) (u : List ℕ) : Type 0 where
  pub answer : j ≡ told_judged (places_judged total head f >> rest_judged total head f)
  pub left : (places_judged total head f >> rest_judged total head f) ≡ ok tt → u ≡ file_words total head f ++ x

pub record JudgedBy (head : List ℕ) (total : ℕ) (f : File) (x : List ℕ) (j : Result (Unit {0}) Refusal) (u : List ℕ) : Type 0 where
  pub answer : j ≡ told_judged (judged total head f)
  pub left : judged total head f ≡ ok tt → u ≡ file_words total head f ++ x
