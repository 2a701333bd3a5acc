-- "Boxes after `meta` are not read": two heads that agree up to the end of the first `meta` spell the same file or are broken
-- alike, whatever follows it and however long the two files are. Assumes nothing.
use Prim.Native.Nat.{ℕ, ◌+◌, ◌≤◌}
use native.Mathlib.Omega.{arith}
use mathlib.Core.Path.{◌≡◌, sym, ap, ◌∙◌}
use mathlib.Core.List.{List, ◌++◌, append_assoc}
use mathlib.Core.Logic.{inl}
use lib.ListN.{length, take, drop, length-append, take-append-drop}
use lib.Seq.{take_at}
use borrow.Author.Tests.{le-leb}
use Rattle.fields.proofs.TestLaws.{both-and}
use Rattle.boxes.specs.Box.{head_of, body_of, IsBox, flat}
use Rattle.boxes.specs.Top.{FirstMeta}
use Rattle.boxes.proofs.AnswerLaws.{ok_bind, ok-then, ok-check}
use Rattle.boxes.proofs.TopLaws.{meta-complete}
use Rattle.contents.specs.File.{File, file_of, read_file}
use Rattle.contents.specs.Keeps.{FileIn}
use Rattle.contents.specs.Breaks.{Broken}
use Rattle.contents.proofs.ReadLaws.{read-sound, read-complete}
use Rattle.contents.proofs.BreakLaws.{read_broken, broken_read}

-- read_file, of a head with a first `meta`
meta-read : (total : ℕ) (head m : List ℕ) (place : ℕ) → length head ≤ 65536 → length head ≤ total → FirstMeta total head m place →
    read_file total head ≡ file_of place (place + head_of m) (body_of m)
unfolding read_file
meta-read total head m place a b f =
    ok-then _ _ tt (ok-check 2 0 _ (both-and _ _ (le-leb _ _ a) (le-leb _ _ b)))
    ∙ ok_bind _ _ _ (meta-complete total head m place b f)

module _ (total sum : ℕ) (head other m : List ℕ) (place : ℕ) (f : FirstMeta total head m place) (box : IsBox m)
    (same : take (place + length m) other ≡ take (place + length m) head) where
  -- what comes before the end of the `meta`
  abbrev walked : List ℕ
  walked = f.first ++ (flat f.before ++ m)

  long : place + length m ≡ length walked
  long =
      let p = f.where_it_is in
      let a = length-append f.first (flat f.before ++ m) in
      let b = length-append (flat f.before) m in
      omega arith

  parted : (r : List ℕ) → f.first ++ (flat f.before ++ (m ++ r)) ≡ walked ++ r
  parted r = sym (append_assoc f.first (flat f.before ++ m) r ∙ ap (λ (v : List ℕ). f.first ++ v) (append_assoc (flat f.before) m r))

  front : take (place + length m) head ≡ walked
  front = ap (take (place + length m)) (sym f.joined ∙ parted f.behind) ∙ take_at walked f.behind (place + length m) (sym long)

  still_first : FirstMeta sum other m place
  still_first = record {
    first = f.first;
    before = f.before;
    behind = drop (place + length m) other;
    box = f.box;
    brand = f.brand;
    all = f.all;
    none = f.none;
    joined =
        parted (drop (place + length m) other)
        ∙ ap (λ (v : List ℕ). v ++ drop (place + length m) other) (sym (same ∙ front))
        ∙ take-append-drop (place + length m) other;
    kind = f.kind;
    where_it_is = f.where_it_is;
    size = inl box;
  }

  module _ (a : length head ≤ 65536) (b : length head ≤ total) (c : length other ≤ 65536) (d : length other ≤ sum) where
    alike : read_file total head ≡ read_file sum other
    alike = meta-read total head m place a b f ∙ sym (meta-read sum other m place c d still_first)

    pub broken_alike : (n p : ℕ) → Broken total head n p → Broken sum other n p
    broken_alike n p h = read_broken sum other n p (sym alike ∙ broken_read total head n p h)

    pub spelled_alike : (g : File) → FileIn total head g → FileIn sum other g
    spelled_alike g h = read-sound sum other g (sym alike ∙ read-complete total head g h)
