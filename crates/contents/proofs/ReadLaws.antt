-- A head is read exactly where it spells a file. Assumes nothing.
use Prim.Native.Nat.{ℕ, ◌+◌}
use mathlib.Core.Path.{◌≡◌, sym, ◌∙◌}
use mathlib.Core.List.{List}
use lib.ListN.{length}
use lib.Dec.{leb}
use borrow.Author.Tests.{leb-true, le-leb}
use Rattle.boxes.specs.Answer.{ok}
use Rattle.boxes.specs.Box.{head_of, body_of}
use Rattle.boxes.proofs.TopLaws.{meta-sound, meta-complete}
use Rattle.boxes.proofs.AnswerLaws.{bind_ok, ok_bind, then_ok, ok-then, check-ok, ok-check, ok_inj}
use Rattle.contents.specs.File.{File, read_file}
use Rattle.contents.specs.Keeps.{FileIn}
use Rattle.fields.proofs.TestLaws.{and_both, both-and}
use Rattle.contents.proofs.FileLaws.{file-sound, file-complete}

-- read_file
pub read-sound : (total : ℕ) (head : List ℕ) (f : File) → read_file total head ≡ ok f → FileIn total head f
unfolding read_file
read-sound total head f e =
    let x = then_ok _ _ f e in
    let k = and_both (leb (length head) 65536) _ (check-ok 2 0 _ x.0 x.1) in
    let l = leb-true (length head) total k.1 in
    let y = bind_ok _ _ f x.2 in
    record {
      small = leb-true _ _ k.0;
      within = l;
      meta = y.0.box;
      place = y.0.place;
      first = meta-sound total head y.0 l y.1;
      keeps = file-sound _ _ _ f y.2;
    }

pub read-complete : (total : ℕ) (head : List ℕ) (f : File) → FileIn total head f → read_file total head ≡ ok f
unfolding read_file
read-complete total head f h =
    ok-then _ _ tt (ok-check 2 0 _ (both-and _ _ (le-leb _ _ h.small) (le-leb _ _ h.within)))
    ∙ ok_bind _ _ _ (meta-complete total head h.meta h.place h.within h.first)
    ∙ file-complete h.place (h.place + head_of h.meta) (body_of h.meta) f h.keeps

-- a head spells one file only
pub one_in : (total : ℕ) (head : List ℕ) (f g : File) → FileIn total head f → FileIn total head g → f ≡ g
one_in total head f g h k = ok_inj f g (sym (read-complete total head f h) ∙ read-complete total head g k)
