-- From reading and judging to the answer, 1 to 20, and to what is left in the table. Assumes nothing.
use Prim.Native.Nat.{ℕ, ◌<◌, ◌≤◌}
use native.Mathlib.Omega.{arith}
use mathlib.Core.Path.{◌≡◌, refl, sym, ap, ◌∙◌, subst}
use mathlib.Core.List.{List, ◌++◌}
use mathlib.Core.Bool.{Bool, true, false}
use lib.ListN.{length, drop, replicate}
use lib.Seq.{drop_at}
use lib.Dec.{leb}
use borrow.Author.Tests.{leb-true, le-leb, le-ltb}
use Rattle.fields.proofs.FieldLaws.{pick_yes, pick_no}
use Rattle.table.specs.inner.Clear.{cleared}
use Rattle.std.specs.Prelude.{Result, Ok, Err, OnOk}
use Rattle.boxes.specs.Answer.{ok, refuse, check, ◌>>=◌, ◌>>◌}
use Rattle.boxes.specs.Told.{told}
use Rattle.boxes.proofs.ToldLaws.{told-ok, told-refused}
use Rattle.boxes.proofs.AnswerLaws.{then_ok, check-ok, ok_inj}
use Rattle.boxes.specs.declared.Refusal.{Refusal}
use Rattle.contents.specs.File.{File, read_file}
use Rattle.rules.specs.Places.{places_in}
use Rattle.rules.specs.Rules.{judged}
use Rattle.rules.specs.Words.{table_words, head_words, file_words}
use Rattle.rules.specs.Opening.{accepted, opened, left_by, after_by, file_after}
use Rattle.records.specs.inner.Raw.{raw_of}
use Rattle.records.specs.inner.Rows.{Rowed}
use Rattle.records.proofs.RawLaws.{raw-length}
use Rattle.reading.specs.inner.Parts.{read_answer, read_words}
use Rattle.reading.specs.inner.Parts as Parts
use Rattle.reading.specs.declared.Idat.{Idat}
use Rattle.judging.specs.inner.Order.{told_judged, Read}
use Rattle.records.proofs.BoundLaws.{read_bounds}
use Rattle.rules.proofs.RuleLaws.{judged-each}
use Rattle.records.specs.inner.Named.{NamedIn}
use Rattle.derived.specs.inner.Told.{Resolved, Followed}
use Rattle.judging.proofs.JudgeLaws.{rowed_resolved, read_here, drawn}
use Rattle.arranged.specs.inner.Order.{InOrder}
use Rattle.opening.proofs.OrderLaws.{ordered_places}
use Rattle.opening.specs.Told.{told_opened}

-- what is refused promises nothing more
pub on-refused : (P : Type 0) (y : Result (Unit {0}) Refusal) (r : Refusal) → y ≡ Err r → OnOk y P
on-refused P y r e = rw e tt

module _ (total : ℕ) (head t : List ℕ) where
  -- a table of sufficient length
  module _ (enough : 11280 ≤ length t) where
    pub opened-is : opened (length t) total head ≡ accepted total head
    unfolding opened check ◌>>◌
    opened-is = rw (le-leb table_words (length t) enough)

    pub left_is : (words : ℕ → List ℕ → File → List ℕ) → after_by words total head t ≡ left_by words total head t (accepted total head)
    unfolding after_by
    left_is words = pick_yes _ _ (le-leb table_words (length t) enough)

    pub after_is : file_after total head t ≡ left_by file_words total head t (accepted total head)
    after_is = left_is file_words

    words_are : read_words total head t ≡ Parts.left_by_reading total head t (read_file total head)
    unfolding read_words
    words_are = pick_yes _ _ (le-leb table_words (length t) enough)

    -- what refuses leaves 0
    off : (y : Refusal) → accepted total head ≡ refuse y.number y.place →
        (Err y ≡ told_opened (opened (length t) total head)) ×
        (replicate 11280 0 ++ drop 11280 t ≡ file_after total head t)
    unfolding told left_by
    off y e = (ap told_opened (sym (opened-is ∙ e)), sym (after_is ∙ ap (left_by file_words total head t) e))

    refused : {y : Refusal} → read_file total head ≡ refuse y.number y.place → accepted total head ≡ refuse y.number y.place
    unfolding accepted ◌>>=◌
    refused g = rw g

  left-nothing : (y : Refusal) → Parts.left_by_reading total head t (refuse y.number y.place) ≡ replicate 11280 0 ++ drop 11280 t
  unfolding Parts.left_by_reading
  left-nothing y = refl

  short : leb table_words (length t) ≡ false → read_words total head t ≡ file_after total head t
  unfolding read_words after_by
  short q = pick_no _ _ q ∙ sym (pick_no _ _ q)

  -- reading refuses
  pub read_off : (y : Refusal) → read_answer (length t) total head ≡ Err y →
      (Err y ≡ told_opened (opened (length t) total head)) × (read_words total head t ≡ file_after total head t)
  unfolding read_answer opened told check ◌>>◌
  read_off y e = by (leb table_words (length t)) refl (told-refused _ _ y e)
    where
      by : (b : Bool) → leb table_words (length t) ≡ b → (check 1 0 (leb table_words (length t)) >> read_file total head) ≡ refuse y.number y.place
          → (Err y ≡ told_opened (opened (length t) total head)) × (read_words total head t ≡ file_after total head t)
      by true q r =
          let h = leb-true table_words (length t) q in
          let g : read_file total head ≡ refuse y.number y.place = sym (ap (λ (b : Bool). check 1 0 b >> read_file total head) q) ∙ r in
          let o = off h y (refused h g) in
          (o.0, words_are h ∙ ap (Parts.left_by_reading total head t) g ∙ left-nothing y ∙ o.1)
      by false q r =
          let g : refuse 1 0 ≡ refuse y.number y.place = sym (ap (λ (b : Bool). check 1 0 b >> read_file total head) q) ∙ r in
          (ap told_opened (sym (ap (λ (b : Bool). check 1 0 b >> accepted total head) q ∙ g)), short q)

  -- the file is read
  pub read-on : (d : Idat) (u : List ℕ) → read_answer (length t) total head ≡ Ok d → u ≡ read_words total head t →
      (11280 ≤ length t) × ((f : File) × Read u head total d.idat_end f (drop 11280 t))
  unfolding read_answer Parts.left_by_reading
  read-on d u h w =
      let m = told-ok _ _ d h in
      let c = then_ok _ _ m.0 m.1 in
      let l = leb-true table_words (length t) (check-ok 1 0 _ c.0 c.1) in
      (l, (m.0, record { read = c.2; is = w ∙ words_are l ∙ ap (Parts.left_by_reading total head t) c.2; ends = ap (λ (y : Idat). y.idat_end) m.2 }))

  -- what lies behind the table is still there
  pub read_behind : (u x : List ℕ) (e : ℕ) (f : File) → Read u head total e f x → drop 11280 u ≡ x
  read_behind u x e f w =
      ap (drop 11280) w.is ∙ drop_at (raw_of (head_words total f) (places_in total head) f) x 11280
      (raw-length (head_words total f) (places_in total head) f (omega arith) (read_bounds total head f w.read).0)

  -- and judged: refused, and the table cleared
  pub judged_off : 11280 ≤ length t → (f : File) → read_file total head ≡ ok f → (y : Refusal) →
      Err y ≡ told_judged (judged total head f) → (v z : List ℕ) → z ≡ cleared v →
      drop 11280 v ≡ drop 11280 t → 11280 ≤ length v
      → (Err y ≡ told_opened (opened (length t) total head)) × (z ≡ file_after total head t)
  unfolding cleared accepted ◌>>=◌ ◌>>◌
  judged_off h f r y j v z c d l =
      let e : accepted total head ≡ refuse y.number y.place = rw (r, told-refused _ (judged total head f) y (sym j)) in
      let o = off h y e in
      (o.0, c ∙ pick_no v (replicate 11280 0 ++ drop 11280 v) (le-ltb (length v) 11280 l) ∙ ap (λ (w : List ℕ). replicate 11280 0 ++ w) d ∙ o.1)

  -- or accepted
  pub judged-on : 11280 ≤ length t → (f : File) → read_file total head ≡ ok f →
      Ok tt ≡ told_judged (judged total head f) → (v : List ℕ) →
      (judged total head f ≡ ok tt → v ≡ file_words total head f ++ drop 11280 t)
      → (Ok tt ≡ told_opened (opened (length t) total head)) × (v ≡ file_after total head t)
  unfolding accepted ◌>>=◌ ◌>>◌ told left_by
  judged-on h f r j v w =
      let k = (told-ok _ (judged total head f) tt (sym j)).1 in
      let e : accepted total head ≡ ok f = rw (r, k) in
      (ap told_opened (sym (opened-is h ∙ e)), w k ∙ sym (after_is h ∙ ap (left_by file_words total head t) e))

-- of an accepted file the rows that were read beside the targets are still those of the items that they name: judging leaves the targets as
-- they were; and the others are the places in rising ID order
pub judged_rowed : (total : ℕ) (head : List ℕ) → total < 18446744073709551616 →
    (e : ℕ) (f : File) (u v x rows : List ℕ) → Read u head total e f x → Rowed u rows → 2816 ≤ length rows → NamedIn f rows →
    Ok tt ≡ told_judged (judged total head f) → (judged total head f ≡ ok tt → v ≡ file_words total head f ++ x)
    → (g : File) → read_file total head ≡ ok g → (Resolved v rows g × NamedIn g rows) × InOrder rows g
judged_rowed total head few e f u v x rows w r many named j l g q =
    let k = (told-ok _ (judged total head f) tt (sym j)).1 in
    let y = judged-each total head f k in
    let v₀ = read_here head u x total e f w in
    let follows : Followed u rows head total f =
    record { small = few; read = w.read; view = v₀; placed = y.by-13-30-14; many = many; named = named } in
    let d = drawn head u x total e f w rows follows y.by-17 v (l k) (rowed_resolved u rows head _ f v₀ r.0) in
    subst (λ (h : File). (Resolved v rows h × NamedIn h rows) × InOrder rows h) (ok_inj _ _ (sym w.read ∙ q))
    ((d.resolved, named), ordered_places rows v₀ r.1)
