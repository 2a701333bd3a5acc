-- Stored: the table after a `dimg`, as what is read from it and as the table of a file. Assumes nothing.
use Prim.Native.Nat.{ℕ, suc, ◌+◌, ◌*◌, ◌<◌, ◌≤◌}
use native.Mathlib.Omega.{arith}
use native.Mathlib.Decide.{dec_le}
use mathlib.Core.Path.{◌≡◌, sym, ap, ◌∙◌}
use mathlib.Core.List.{List, [], ◌∷◌, ◌++◌, map-append}
use mathlib.Core.Bool.{not}
use lib.ListN.{length, get_or, set}
use lib.Seq.{sets, length-sets}
use lib.Dec.{eqb}
use borrow.Author.Tests.{ne_eqb}
use Rattle.fields.specs.Choice.{pick}
use Rattle.fields.specs.Lists.{member}
use Rattle.fields.proofs.FieldLaws.{pick_no}
use Rattle.contents.specs.Iinf.{ids_of}
use Rattle.contents.specs.Iref.{Reference, IrefContent, referring_in, targets_in, with_derivation}
use Rattle.contents.specs.File.{File}
use Rattle.rules.specs.Places.{Places}
use Rattle.records.specs.inner.Raw.{Bounded, raw_of}
use Rattle.records.specs.inner.Rows.{id_at, ids_in, Distinct}
use Rattle.records.specs.inner.Stage.{Ready, with_references}
use Rattle.records.proofs.MemberLaws.{member-last, member-other}
use Rattle.records.proofs.RawLaws.{raw-id, raw_derivation}
use Rattle.records.proofs.SetsLaws.{sets_below, sets-above, sets_in}
use Rattle.records.proofs.IdLaws.{distinct-rows}
use Rattle.references.specs.inner.Steps.{Marked, Stored}

-- sets: a run of two
pub sets_two : (t : List ℕ) (a b x y : ℕ) → a ≡ b → set (set t (a + 5) x) (a + 6) y ≡ sets t (b + 5) (x ∷ y ∷ [])
sets_two t a b x y e = let z : b + 6 ≡ suc (b + 5) = omega arith in rw (e, z)

module _ (n used : ℕ) (before : List Reference) (d : Reference) (t u : List ℕ) (few : n ≤ 256)
    (room : 11280 ≤ length t) (x : Stored n used before d t u) where
  abbrev targets_in_lem : List ℕ
  targets_in_lem = sets t (7184 + used) d.targets

  abbrev its_span : List ℕ
  its_span = used ∷ length d.targets ∷ []

  -- a word before the row's span, and one past it
  word_below : (i : ℕ) → i < 16 + 16 * x.row + 5 → i < 7184 → get_or u i 0 ≡ get_or t i 0
  word_below i h l = ap (λ (v : List ℕ). get_or v i 0) x.is ∙
      sets_below its_span targets_in_lem (16 + 16 * x.row + 5) i h ∙
      sets_below d.targets t (7184 + used) i (omega arith)

  word_above : (i : ℕ) → 16 + 16 * x.row + 7 ≤ i → i < 7184 → get_or u i 0 ≡ get_or t i 0
  word_above i h l = ap (λ (v : List ℕ). get_or v i 0) x.is ∙
      sets-above its_span targets_in_lem (16 + 16 * x.row + 5) i (omega arith) ∙
      sets_below d.targets t (7184 + used) i (omega arith)

  -- the row's count
  word_count : get_or u (16 + 16 * x.row + 6) 0 ≡ length d.targets
  word_count =
      let e : 16 + 16 * x.row + 6 ≡ 16 + 16 * x.row + 5 + 1 = omega arith in
      let l = x.listed in
      ap (λ (v : List ℕ). get_or v (16 + 16 * x.row + 6) 0) x.is
      ∙ ap (λ (i : ℕ). get_or (sets targets_in_lem (16 + 16 * x.row + 5) its_span) i 0) e
      ∙ sets_in its_span targets_in_lem (16 + 16 * x.row + 5) 1 (omega arith) (rw (length-sets t (7184 + used) d.targets) (omega arith))

  pub stored-ids : (k : ℕ) → k < n → id_at u k ≡ id_at t k
  stored-ids k h = elim (dec_le k x.row) [
    | yes l ↦ word_below (16 + 16 * k) (omega arith) (omega arith)
    | no l ↦
        word_above (16 + 16 * k) (omega (arith, l)) (omega arith)
  ]

  module _ (distinct : Distinct (ids_in t n)) (marked : Marked t n before) where
    grown_in : referring_in (before ++ (d ∷ [])) ≡ referring_in before ++ (d.id ∷ [])
    grown_in = map-append (λ (e : Reference). e.id) before (d ∷ [])

    mark_here : (k : ℕ) → k ≡ x.row → member (id_at u k) (referring_in (before ++ (d ∷ []))) ≡ not (eqb (get_or u (16 + 16 * k + 6) 0) 0)
    mark_here k e =
        let s = x.some in
        rw (
          e,
          grown_in,
          stored-ids x.row x.listed ∙ x.its_id,
          word_count,
          ne_eqb (length d.targets) 0 (omega arith),
        ) (member-last d.id (referring_in before))

    mark_other : (k : ℕ) → k < n → (k ≡ x.row → ⊥) → get_or u (16 + 16 * k + 6) 0 ≡ get_or t (16 + 16 * k + 6) 0 →
        member (id_at u k) (referring_in (before ++ (d ∷ []))) ≡ not (eqb (get_or u (16 + 16 * k + 6) 0) 0)
    mark_other k h apart e =
        rw (grown_in, stored-ids k h, e)
        (member-other (id_at t k) d.id (referring_in before) (λ q. apart
        (distinct-rows t n distinct k x.row h x.listed (q ∙ sym x.its_id))) ∙ marked k h)

    pub stored-marked : Marked u n (before ++ (d ∷ []))
    stored-marked k h =
        elim (dec_le (suc k) x.row) [
          | yes l ↦ mark_other k h (λ q. omega arith) (word_below (16 + 16 * k + 6) (omega arith) (omega arith))
          | no l ↦ elim (dec_le (suc x.row) k) [
            | yes m ↦ mark_other k h (λ q. omega arith) (word_above (16 + 16 * k + 6) (omega arith) (omega arith))
            | no m ↦ mark_here k (omega (arith, l, m))
          ]
        ]

-- the table of a file
module _ (n used : ℕ) (before : IrefContent) (d : Reference) (t u : List ℕ) (x : Stored n used before.derivations d t u)
    (count : used ≡ targets_in before.derivations) where
  pub stored-raw : (pl : Places) (f : File) (y : List ℕ) → Ready f n → t ≡ raw_of [] pl (with_references f before) ++
      y → u ≡ raw_of [] pl (with_references f (with_derivation before d)) ++ y
  stored-raw pl f y r e =
      let b = r.bounded in
      let z = x.fits in
      let l = x.listed in
      let h : x.row < length f.items = omega (arith, r.count) in
      let bounded : Bounded (with_references f before) =
      record {
        few-items = b.few-items;
        few-extents = b.few-extents;
        few-properties = b.few-properties;
        few-associations = b.few-associations;
        few-targets = omega arith;
      } in
      let i : get_or (ids_of f.items) x.row 0 ≡ d.id =
      sym (raw-id [] pl y (omega arith) (with_references f before) x.row h) ∙ ap (λ (v : List ℕ). id_at v x.row) (sym e) ∙ x.its_id in
      let p : pick (eqb (length d.targets) 0) 0 (targets_in before.derivations) ≡ targets_in before.derivations =
      pick_no 0 (targets_in before.derivations) (ne_eqb (length d.targets) 0 (omega (arith, x.some))) in
      let raw : List ℕ = raw_of [] pl (with_references f before) ++ y in
      x.is
      ∙ ap (λ (v : List ℕ). sets (sets v (7184 + used) d.targets) (16 + 16 * x.row + 5) (used ∷ length d.targets ∷ [])) e
      ∙ ap (λ (k : ℕ). sets (sets raw (7184 + k) d.targets) (16 + 16 * x.row + 5) (k ∷ length d.targets ∷ [])) count
      ∙ ap (λ (k : ℕ). sets (sets raw (7184 + targets_in before.derivations) d.targets) (16 + 16 * x.row + 5) (k ∷ length d.targets ∷ [])) (sym p)
      ∙ sym (raw_derivation [] pl y (omega arith) (with_references f before) bounded x.row r.distinct h d i x.fresh (omega arith))
