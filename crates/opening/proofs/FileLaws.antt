-- From the answer of opening to the file: refused, or accepted and the table is its. Assumes nothing.
use Prim.Native.Nat.{ℕ, ◌<◌, ◌≤◌}
use mathlib.Core.Path.{◌≡◌, sym, ap, ◌∙◌}
use mathlib.Core.List.{List, ◌++◌}
use lib.ListN.{length, drop}
use borrow.Author.Tests.{leb-true}
use Rattle.std.specs.Prelude.{Ok, Err}
use Rattle.boxes.specs.Answer.{Answer, ok, refuse}
use Rattle.boxes.proofs.ToldLaws.{told-ok, told-refused}
use Rattle.boxes.specs.declared.Refusal.{Refusal}
use Rattle.boxes.proofs.AnswerLaws.{then_ok, check-ok}
use Rattle.contents.specs.File.{File, read_file}
use Rattle.rules.specs.Places.{places_in}
use Rattle.rules.specs.Derivations.{scene_of}
use Rattle.rules.specs.Words.{table_words, file_words, words_of}
use Rattle.rules.specs.Opening.{accepted, opened, left_by, file_after, after}
use Rattle.views.specs.inner.View.{TableOf, SizesAre}
use Rattle.rules.proofs.RuleLaws.{accepted-both}
use Rattle.views.proofs.ViewLaws.{words-view}
use Rattle.views.proofs.FillLaws.{words-sized}
use Rattle.opening.specs.Told.{told_opened}
use Rattle.opening.proofs.OpenedLaws.{opened-is, left_is, after_is}

-- told_opened
pub opened-refused : (m : Answer File) (y : Refusal) → told_opened m ≡ Err y → m ≡ refuse y.number y.place
opened-refused m y e = told-refused _ m y e

pub opened-file : (m : Answer File) → told_opened m ≡ Ok tt → (f : File) × (m ≡ ok f)
opened-file m e = let o = told-ok _ m tt e in (o.0, o.1)

module _ (total : ℕ) (head t : List ℕ) where
  -- accepted: the table is its
  module _ (few : total < 18446744073709551616) (file : File) (file-opened : opened (length t) total head ≡ ok file)
      (u : List ℕ) (a : u ≡ file_after total head t) where
    enough : 11280 ≤ length t
    unfolding opened
    enough = let x = then_ok _ _ file file-opened in leb-true table_words (length t) (check-ok 1 0 _ x.0 x.1)

    pub file-accepted : accepted total head ≡ ok file
    file-accepted = sym (opened-is total head t enough) ∙ file-opened

    pub file-read : read_file total head ≡ ok file
    file-read = (accepted-both total head file file-accepted).0

    pub table_is : u ≡ file_words total head file ++ drop 11280 t
    unfolding left_by
    table_is = a ∙ after_is total head t enough ∙ ap (left_by file_words total head t) file-accepted

    pub file-view : TableOf u head (places_in total head) file
    file-view = rw table_is (words-view total head file (drop 11280 t) few file-accepted)

    pub file-sizes : SizesAre u (scene_of total head file)
    file-sizes = rw table_is (words-sized total head file file-view.bounded (drop 11280 t))

    -- and once its records are in rising ID order
    pub arranged_is : (v : List ℕ) → v ≡ after total head t → v ≡ words_of total head file ++ drop 11280 t
    unfolding left_by
    arranged_is v e = e ∙ left_is total head t enough words_of ∙ ap (left_by words_of total head t) file-accepted
