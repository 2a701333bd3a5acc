-- Reading refuses by 2, 4 and 5 at 0 and by 3 and 6 to 11 at a box, line by line of each block. Assumes nothing.
use Prim.Native.Nat.{ℕ, zero, suc, ◌+◌, ◌-◌, ◌≤◌}
use native.Mathlib.Omega.{arith}
use mathlib.Core.Path.{◌≡◌, refl, sym, ◌∙◌}
use mathlib.Core.List.{List, [], ◌∷◌, ◌++◌}
use mathlib.Core.Bool.{Bool, true, false}
use lib.ListN.{length, take, drop, length-drop}
use lib.Dec.{leb, eqb}
use borrow.Author.Tests.{leb-true, eqb-false}
use Rattle.fields.proofs.TestLaws.{and_both}
use Rattle.fields.specs.Field.{be_at}
use Rattle.boxes.specs.Answer.{Answer, ok}
use Rattle.boxes.specs.Box.{kind_of}
use Rattle.boxes.specs.Children.{once, of_kind, first_or, place_of}
use Rattle.boxes.specs.Types.{meta, hdlr, pitm, iinf, iloc, iprp, iref, known}
use Rattle.boxes.specs.Top.{Look, short, bad, past, good, PlacedBox, look, branded, by_kind, by_look, walk_n, by_first, meta_in}
use Rattle.boxes.proofs.AnswerLaws.{check-ok}
use Rattle.boxes.proofs.BoxLaws.{front-box, front-kind}
use Rattle.boxes.proofs.ChildLaws.{children-sound}
use Rattle.boxes.proofs.TopLaws.{Seen, closed, open_end, look-seen, meta-sound}
use Rattle.contents.specs.Iinf.{Item, infe_step, items}
use Rattle.contents.specs.Ipco.{good_content, property_step}
use Rattle.contents.specs.Iprp.{pair_of, iprp_content}
use Rattle.contents.specs.Iref.{IrefContent, no_references, reference, references}
use Rattle.contents.specs.File.{referred, contents_of, file_of, read_file}
use Rattle.contents.proofs.PropertyLaws.{any-sound}
use Rattle.demands.specs.Places.{Passed, Opens, of_iprp, of_ipco, of_iref, Content, of_meta, BoxAt, at_top}
use Rattle.demands.proofs.PlaceLaws.{
  Each,
  each_first,
  each_next,
  each_none,
  content_each,
  Found,
  found_of,
  first-ok,
  pairs_of,
  found-box,
  found_content,
  found_plain,
  full-opens,
  count-opens,
  look-bad,
  branded-passed,
  meta-box,
}
use Rattle.demands.proofs.NumberLaws.{
  Only,
  only-ok,
  only-refuse,
  only-check,
  only-pick,
  Placed,
  at_zero,
  at-box,
  contain-only,
  exactly-only,
  first-only,
  from,
  behind,
  ◌>>=◌,
  ◌>>◌,
}
use Rattle.demands.proofs.FormNumbers.{
  whole-only,
  front-only,
  lead-only,
  full_reads,
  hdlr_reads,
  pitm_reads,
  infe_reads,
  count_reads,
  iloc_reads,
  ispe_reads,
  bytes_reads,
  ipma_reads,
  reference_reads,
}

-- the top level
module _ {total : ℕ} {head : List ℕ} where
  kind-only : (t : Bool) (k : ℕ → ℕ → List ℕ → Answer PlacedBox) (at n : ℕ) (s : List ℕ) (m : ℕ) → eqb (kind_of s) meta ≡ t →
      ((kind_of s ≡ meta → ⊥) → Only (Placed total head) (k (at + m) (n - m) (drop m s))) →
      Only (Placed total head) (by_kind t k at n s m)
  unfolding by_kind
  kind-only true k at n s m e h = only-ok
  kind-only false k at n s m e h = h (eqb-false (kind_of s) meta e)

  look-only : (k : ℕ → ℕ → List ℕ → Answer PlacedBox) →
      ((at n : ℕ) (s : List ℕ) → length s ≤ n → Each total head Passed s at → Only (Placed total head) (k at n s)) →
      (at n : ℕ) (s : List ℕ) (l : Look) → Seen n s l → look n s ≡ l → length s ≤ n → Each total head Passed s at →
      Only (Placed total head) (by_look k at n s l)
  unfolding by_look
  look-only k h at n s short v e i g = only-refuse (at_zero refl refl)
  look-only k h at n s bad v e i g = only-refuse (at-box refl (each_first s at g (look-bad n s e)))
  look-only k h at n s past v e i g = only-refuse (at_zero refl refl)
  look-only k h at n s (good m) (closed o q j) e i g = kind-only (eqb (kind_of s) meta) k at n s m refl (λ other.
      h (at + m) (n - m) (drop m s) (rw length-drop (omega arith)) (each_next s at m (at + m) o q refl
      (record { box = front-box s o; other = λ z. other (sym (front-kind s o) ∙ z) }) g))
  look-only k h at n s (good m) (open_end z l q j) e i g = kind-only (eqb (kind_of s) meta) k at n s m refl (λ other.
      h (at + m) (n - m) (drop m s) (rw length-drop (omega arith))
      (each_none (drop m s) (at + m) (rw length-drop (omega arith))))

  walk-only : (f at n : ℕ) (s : List ℕ) → length s ≤ n → Each total head Passed s at →
      Only (Placed total head) (walk_n f at n s)
  unfolding walk_n
  walk-only zero at n s i g = only-refuse (at_zero refl refl)
  walk-only (suc f) at n s i g = look-only _ (λ a m r j. walk-only f a m r j) at n s (look n s) (look-seen n s) refl i g

module _ (total : ℕ) (head : List ℕ) (fits : length head ≤ total) where
  top_each : Each total head Passed head 0
  top_each = λ t p w l. at_top t w l

  first-box-only : (l : Look) → Seen total head l → look total head ≡ l →
      Only (Placed total head) (by_first total head l)
  unfolding by_first
  first-box-only short v e = only-refuse (at_zero refl refl)
  first-box-only bad v e = only-refuse (at-box refl (each_first head 0 top_each (look-bad total head e)))
  first-box-only past v e = only-refuse (at_zero refl refl)
  first-box-only (good k) (closed o q j) e =
      behind (only-check 4 0 _ (at_zero refl refl)) (λ u c.
      let b = rw q at (check-ok 4 0 (branded (take k head)) u c) in
      walk-only _ k (total - k) (drop k head) (rw length-drop (omega arith))
      (each_next head 0 k k o q (omega arith) (branded-passed _ (front-box head o) b) top_each))
  first-box-only (good k) (open_end z l q j) e =
      only-check 4 0 _ (at_zero refl refl) >>
      walk-only _ k (total - k) (drop k head) (rw length-drop (omega arith))
      (each_none (drop k head) k (rw length-drop (omega arith)))

  meta-only : Only (Placed total head) (meta_in total head)
  unfolding meta_in
  meta-only = first-box-only (look total head) (look-seen total head) refl

-- the contents
module _ {total : ℕ} {head : List ℕ} where
  once-only : (known : ℕ → Bool) (at : ℕ) (before : List (List ℕ)) (b : List ℕ) → BoxAt total head at →
      Only (Placed total head) (once known at before b)
  unfolding once
  once-only known at before b i = only-check 7 at _ (at-box refl i) >> only-ok

  infe-only : (at : ℕ) (before : List Item) (b : List ℕ) → BoxAt total head at →
      Only (Placed total head) (infe_step at before b)
  unfolding infe_step
  infe-only at before b i = only-check 10 at _ (at-box refl i) >>
      (front-only (infe_reads before) at _ i >>= (λ x. only-ok))

  items-only : (p at : ℕ) (s : List ℕ) → BoxAt total head p →
      ((u r : List ℕ) → u ++ r ≡ s → Opens meta iinf u → Content total head iinf (at + length u) r) →
      Only (Placed total head) (items p at s)
  unfolding items
  items-only p at s i c = lead-only count_reads p s i at (λ u r v j x. c u r j (count-opens u v x))
      (λ n a r l. exactly-only infe-only p n a [] r i (content_each l))

  held-only : (k p : ℕ) (s : List ℕ) → BoxAt total head p → Only (Placed total head) (good_content k p s)
  unfolding good_content
  held-only k p s i = only-pick _ (whole-only ispe_reads p s i)
      (only-pick _ (whole-only (bytes_reads 32) p s i) (only-pick _ (whole-only (bytes_reads 1) p s i) only-ok))

  property-only : (at : ℕ) (before : List (List ℕ)) (b : List ℕ) → BoxAt total head at →
      Only (Placed total head) (property_step at before b)
  unfolding property_step
  property-only at before b i = only-check 9 at _ (at-box refl i) >> (held-only _ at _ i >> only-ok)

  pair_only : (p : ℕ) (bs : List (List ℕ)) → BoxAt total head p → Only (Placed total head) (pair_of p bs)
  unfolding pair_of
  pair_only p [] i = only-refuse (at-box refl i)
  pair_only p (a ∷ []) i = only-refuse (at-box refl i)
  pair_only p (a ∷ b ∷ []) i = only-check 7 p _ (at-box refl i) >> only-ok
  pair_only p (a ∷ b ∷ c ∷ cs) i = only-refuse (at-box refl i)

  shown-only : (ids : List ℕ) (p at : ℕ) (s : List ℕ) → BoxAt total head p → Content total head iprp at s →
      Only (Placed total head) (iprp_content ids p at s)
  unfolding iprp_content
  shown-only ids p at s i c =
      from (contain-only (λ a z b l. only-ok) p at [] s i (content_each c)) (λ bs e.
      let k = any-sound p at s bs e in
      from (pair_only p bs i) (λ two q.
      let w = pairs_of p at bs s two k.all k.joined q in
      do
        ps ← contain-only property-only at _ [] _ (found-box c w.0) (content_each (found_plain c w.0 of_ipco))
        ns ← whole-only (ipma_reads ids (length ps)) _ _ (found-box c w.1)
        only-ok))

  reference-only : (ids : List ℕ) (bytes at : ℕ) (before : IrefContent) (b : List ℕ) → BoxAt total head at →
      Only (Placed total head) (reference ids bytes at before b)
  unfolding reference
  reference-only ids bytes at before b i = whole-only (reference_reads ids bytes _ before) at _ i >>= (λ d. only-ok)

  references-only : (ids : List ℕ) (p at : ℕ) (s : List ℕ) → BoxAt total head p →
      ((u r : List ℕ) → u ++ r ≡ s → Opens meta iref u → Content total head iref (at + length u) r) →
      Only (Placed total head) (references ids p at s)
  unfolding references
  references-only ids p at s i c = lead-only (full_reads _) p s i at (λ u r v j x.
      let w = full-opens 1 u v x in c u r j (of_iref w.0 w.1))
      (λ h a r l. contain-only (reference-only ids _) p a no_references r i (content_each l))

  module _ {at : ℕ} {s : List ℕ} (c : Content total head meta at s) where
    referred-only : (ids : List ℕ) (p : ℕ) (bs : List (List ℕ)) →
        ((b : List ℕ) (cs : List (List ℕ)) → bs ≡ b ∷ cs → Found s iref at p b) →
        Only (Placed total head) (referred ids p bs)
    unfolding referred
    referred-only ids p [] h = only-ok
    referred-only ids p (b ∷ bs) h = references-only ids p _ _ (found-box c (h b bs refl))
        (found_content c (h b bs refl))

    contents_only : (p : ℕ) → BoxAt total head p → Only (Placed total head) (contents_of p at s)
    unfolding contents_of
    contents_only p i =
        from (contain-only (once-only known) p at [] s i (content_each c)) (λ bs e.
        let k = children-sound known p at s bs e in
        let its : (j : ℕ) (b : List ℕ) → first_or p (of_kind j bs) ≡ ok b → Found s j at (place_of j at bs) b =
        λ j b x. let y = first-ok p (of_kind j bs) b x in found_of j at bs s b y.0 k.all k.joined y.1 in
        from (first-only p _ i) (λ h eh.
        from (first-only p _ i) (λ m em.
        from (first-only p _ i) (λ l el.
        from (first-only p _ i) (λ b eb.
        from (first-only p _ i) (λ r er.
        do
          front-only hdlr_reads _ _ (found-box c (its hdlr h eh))
          primary ← whole-only pitm_reads _ _ (found-box c (its pitm m em))
          is ← items-only _ _ _ (found-box c (its iinf b eb)) (found_content c (its iinf b eb))
          ls ← whole-only (iloc_reads _) _ _ (found-box c (its iloc l el))
          both ← shown-only _ _ _ _ (found-box c (its iprp r er)) (found_plain c (its iprp r er) of_iprp)
          refs ← referred-only _ _ (of_kind iref bs) (λ b cs q. found_of iref at bs s b cs k.all k.joined q)
          only-ok))))))

  file-only : (p at : ℕ) (s : List ℕ) → BoxAt total head p →
      ((u r : List ℕ) → u ++ r ≡ s → be_at u 0 1 ≡ 0 → length u ≡ 4 → Content total head meta (at + length u) r) →
      Only (Placed total head) (file_of p at s)
  unfolding file_of
  file-only p at s i c = lead-only (full_reads _) p s i at (λ u r v j x.
      let w = full-opens 0 u v x in let l = w.0 in c u r j (omega arith) w.1) (λ h a r l. contents_only l p i)

pub read_only : (total : ℕ) (head : List ℕ) → Only (Placed total head) (read_file total head)
unfolding read_file
read_only total head =
    behind (only-check 2 0 _ (at_zero refl refl)) (λ u e.
    let small = and_both (leb (length head) 65536) (leb (length head) total) (check-ok 2 0 _ u e) in
    let fits = leb-true (length head) total small.1 in
    from (meta-only total head fits) (λ m q.
    let f = meta-sound total head m fits q in
    file-only _ _ _ (meta-box f) (λ u r j v l. of_meta u f j v l)))
