-- RowedTo: the rows kept beside the targets, through the stores into the table and into the rows. Assumes nothing.
use Prim.Native.Nat.{ℕ, ◌+◌, ◌*◌, ◌<◌, ◌≤◌}
use native.Mathlib.Nat.{eq-or-lt_of_le}
use native.Mathlib.Omega.{arith}
use mathlib.Core.Path.{◌≡◌, refl, sym, ap, ◌∙◌}
use mathlib.Core.List.{List, [], ◌∷◌}
use mathlib.Core.Bool.{Bool, true, false}
use mathlib.Core.Logic.{⊎_elim}
use lib.ListN.{length, get_or}
use Rattle.std.specs.Prelude.{Result, Ok, Err, Some}
use lib.Seq.{sets, length-sets, get_or-set_same}
use native.Mathlib.Decide.{dec_le}
use Rattle.fields.specs.Choice.{pick}
use Rattle.boxes.specs.declared.Refusal.{Refusal}
use Rattle.records.specs.inner.Rows.{id_at, FoundIs, RowedTo}
use Rattle.records.proofs.SetsLaws.{sets_below, sets-above}
use Rattle.table.specs.declared.ItemRow.{ItemRow}

module _ (n m : ℕ) (few : n ≤ 256) (t v : List ℕ) (rowed : RowedTo n m t v) where
  -- one more target, and the row with its ID
  pub rowed_more : 7184 + m < length t → m < length v → (row id : ℕ) → row < n → id_at t row ≡ id →
      RowedTo n (m + 1) (sets t (7184 + m) (id ∷ [])) (sets v m (row ∷ []))
  rowed_more h l row id listed its j i = ⊎_elim (λ e. last j e) (λ b. earlier j b) (eq-or-lt_of_le {n = j} {m = m} (omega arith))
    where
      u : List ℕ
      u = sets t (7184 + m) (id ∷ [])

      x : List ℕ
      x = sets v m (row ∷ [])

      last : (j : ℕ) → j ≡ m → (get_or x j 0 < n) × (id_at u (get_or x j 0) ≡ get_or u (7184 + j) 0)
      last j e =
          let r : get_or x m 0 ≡ row = get_or-set_same v m row 0 l in
          let q : id_at u row ≡ get_or u (7184 + m) 0 = sets_below (id ∷ []) t (7184 + m) (16 + 16 * row) (omega arith) ∙
          its ∙ sym (get_or-set_same t (7184 + m) id 0 h) in
          rw e (omega (arith, r), ap (id_at u) r ∙ q)

      earlier : (j : ℕ) → j < m → (get_or x j 0 < n) × (id_at u (get_or x j 0) ≡ get_or u (7184 + j) 0)
      earlier j b =
          let r : get_or x j 0 ≡ get_or v j 0 = sets_below (row ∷ []) v m j b in
          let k = (rowed j b).0 in (
            omega (arith, r, k),
            ap (id_at u) r ∙ sets_below (id ∷ []) t (7184 + m) (16 + 16 * get_or v j 0)
                (omega (arith, k)) ∙ (rowed j b).1 ∙ sym (sets_below (id ∷ []) t (7184 + m) (7184 + j) (omega arith)),
          )

  -- the span of a row is neither an ID nor a target
  pub rowed_span : (row a b : ℕ) → row < 256 → (u : List ℕ) → u ≡ sets t (16 + 16 * row + 5) (a ∷ b ∷ []) → RowedTo n m u v
  rowed_span row a b h u e j i =
      let k = (rowed j i).0 in
      let s : List ℕ = a ∷ b ∷ [] in
      let q : id_at (sets t (16 + 16 * row + 5) s) (get_or v j 0) ≡ id_at t (get_or v j 0) =
      elim (dec_le (get_or v j 0) row) [
        | yes l ↦ sets_below s t (16 + 16 * row + 5) (16 + 16 * get_or v j 0)
            (omega (arith, l))
        | no l ↦ sets-above s t (16 + 16 * row + 5) (16 + 16 * get_or v j 0) (omega (arith, l))
      ] in (
        k,
        ap (λ (l : List ℕ). id_at l (get_or v j 0)) e ∙ q ∙ (rowed j i).1 ∙
            sym (sets-above s t (16 + 16 * row + 5) (7184 + j) (omega arith)) ∙
            ap (λ (l : List ℕ). get_or l (7184 + j) 0) (sym e),
      )

-- what the loop over the targets of a reference keeps of the rows: j targets are read into the table u and the rows x, which were t and v
pub record Beside (n used : ℕ) (keep : Bool) (t v : List ℕ) (j : ℕ) (u x : List ℕ) : Type 0 where
  pub long : length x ≡ length v
  pub other : keep ≡ false → x ≡ v
  pub rowed : keep ≡ true → RowedTo n used t v → RowedTo n (used + j) u x
  pub above : (i : ℕ) → 2048 ≤ i → get_or x i 0 ≡ get_or v i 0

-- a row that is kept stands below 2,048
kept_above : (keep : Bool) (x : List ℕ) (k row i : ℕ) → (keep ≡ true → k < 2048) → 2048 ≤ i → get_or (sets x k (pick keep (row ∷ []) [])) i 0 ≡ get_or x i 0
unfolding pick
kept_above true x k row i h l = let m = h refl in sets-above (row ∷ []) x k i (omega arith)
kept_above false x k row i h l = refl

module _ (n used : ℕ) (keep : Bool) (t v : List ℕ) where
  pub beside_none : Beside n used keep t v 0 t v
  beside_none = record { long = refl; other = λ e. refl; rowed = λ e r i h. r i (omega arith); above = λ i h. refl }

  module _ (j : ℕ) (u x : List ℕ) (so : Beside n used keep t v j u x) where
    pub beside_more : n ≤ 256 → 11280 ≤ length u → 2048 ≤ length v → (keep ≡ true → used + j < 2048) →
        (id : ℕ) (row : ItemRow) → FoundIs u n id (Some row) → (u' x' : List ℕ) →
        u' ≡ sets u (7184 + used + j) (pick keep (id ∷ []) []) → x' ≡ sets x (used + j) (pick keep (row.0 ∷ []) []) →
        Beside n used keep t v (j + 1) u' x'
    unfolding pick
    beside_more few room wide fits id row g u' x' e q =
        record {
          long = ap length q ∙ length-sets x (used + j) (pick keep (row.0 ∷ []) []) ∙ so.long;
          other = λ y. q ∙ rw y (so.other y);
          rowed = λ y r. grown y (so.rowed y r);
          above = λ i h. ap (λ (l : List ℕ). get_or l i 0) q ∙ kept_above keep x (used + j) row.0 i fits h ∙ so.above i h;
        }
      where
        grown : keep ≡ true → RowedTo n (used + j) u x → RowedTo n (used + (j + 1)) u' x'
        grown y r i h =
            let k = fits y in
            let b = so.long in
            let f : u' ≡ sets u (7184 + (used + j)) (id ∷ []) = e ∙ (let z : 7184 + used + j ≡ 7184 + (used + j) = omega arith in rw (y, z)) in
            let p : x' ≡ sets x (used + j) (row.0 ∷ []) = q ∙ rw y in
            rw (f, p) (rowed_more n (used + j) few u x r (omega arith) (omega arith) row.0 id g.0 g.1 i (omega arith))

    -- what the code promises of the rows: a refusal promises nothing more than the other references
    pub beside_refused : (k : ℕ) (z : Refusal) → (keep ≡ false → x ≡ v) ×
        (keep ≡ true → ◌≡◌ {A = Result (Unit {0}) Refusal} (Err z) (Ok tt) → RowedTo n used t v → RowedTo n (used + k) u x) ×
        ((i : ℕ) → 2048 ≤ i → get_or x i 0 ≡ get_or v i 0)
    beside_refused k z = (so.other, λ y e. cc, so.above)

    pub beside_done : (k : ℕ) → k ≤ j → (keep ≡ false → x ≡ v) ×
        (keep ≡ true → ◌≡◌ {A = Result (Unit {0}) Refusal} (Ok tt) (Ok tt) → RowedTo n used t v → RowedTo n (used + k) u x) ×
        ((i : ℕ) → 2048 ≤ i → get_or x i 0 ≡ get_or v i 0)
    beside_done k h = (so.other, λ y e r i l. so.rowed y r i (omega arith), so.above)

-- what the code promises of the rows after a reference, which has m targets behind it: nothing where it refuses
pub no_targets : {P : Type 0} (z : Refusal) (m : ℕ) → ◌≡◌ {A = Result ℕ Refusal} (Err z) (Ok m) → P
no_targets z m e = cc

-- the code answers k, and m
abbrev Answers : ℕ → ℕ → Type 0
Answers k m = ◌≡◌ {A = Result ℕ Refusal} (Ok k) (Ok m)

rowed_as : (n k m : ℕ) (u x : List ℕ) → Answers k m → RowedTo n k u x → RowedTo n m u x
rowed_as n k m u x e r = let i : k ≡ m = cc in rw (← i) r

-- a reference of another type leaves table and rows as they are
pub rowed_passed : (n used : ℕ) (t u v x : List ℕ) → u ≡ t → x ≡ v → (m : ℕ) → Answers used m → RowedTo n used t v → RowedTo n m u x
rowed_passed n used t u v x e q m i r = rowed_as n used m u x i (rw (e, q) r)

-- a `dimg`: its targets, whose rows are beside them in the table u, then its span
pub rowed_stored : (n used k row : ℕ) → n ≤ 256 → row < 256 → (t u w v x : List ℕ) →
    w ≡ sets u (16 + 16 * row + 5) (used ∷ k ∷ []) → (RowedTo n used t v → RowedTo n (used + k) u x) → (m : ℕ) →
    Answers (used + k) m → RowedTo n used t v → RowedTo n m w x
rowed_stored n used k row few h t u w v x e f m i r = rowed_as n (used + k) m w x i (rowed_span n (used + k) few u x (f r) row used k h w e)

-- an `iloc`: the table is the same, and so are the rows of the targets
pub rowed_beside : (n used : ℕ) → used ≤ 2048 → (t u v x : List ℕ) → u ≡ t → ((i : ℕ) → i < 2048 → get_or x i 0 ≡ get_or v i 0) →
    (m : ℕ) → Answers used m → RowedTo n used t v → RowedTo n m u x
rowed_beside n used few t u v x e q m i r = rowed_as n used m u x i (λ j h. let z = q j (omega arith) in rw (e, z) (r j h))

-- what the loop over the references keeps of the rows, which were v
pub record Rowing (n used : ℕ) (v u x : List ℕ) : Type 0 where
  pub long : length x ≡ length v
  pub rowed : RowedTo n used u x

pub rowing_none : (n : ℕ) (v u : List ℕ) → Rowing n 0 v u v
rowing_none n v u = record { long = refl; rowed = λ j h. absurd (omega arith) }

pub rowing_end : (n used : ℕ) (v u x : List ℕ) → Rowing n used v u x → (m : ℕ) → Answers used m → RowedTo n m u x
rowing_end n used v u x so m i = rowed_as n used m u x i so.rowed
