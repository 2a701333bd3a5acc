-- The runs of a row's extents, put from the last one on, and those of a level. Assumes nothing.
use Prim.Native.Nat.{ℕ, suc, ◌+◌, ◌-◌, ◌≤◌, ◌<◌}
use native.Mathlib.Nat.{eq-or-lt_of_le}
use native.Mathlib.Omega.{arith}
use mathlib.Core.Path.{◌≡◌, refl, sym, ap, subst, ◌∙◌}
use mathlib.Core.List.{List}
use mathlib.Core.Bool.{true}
use mathlib.Core.Logic.{⊎_elim}
use lib.ListN.{get_or, set, length}
use lib.Seq.{get_or-set_same, get_or-set_other}
use lib.Dec.{ltb}
use Rattle.std.specs.Prelude.{min}
use Rattle.fields.specs.Choice.{pick}
use Rattle.linking.specs.inner.Links.{first_extent, extents, offset_at, size_at, chained, level, sum_from, LinksIn}
use Rattle.linking.specs.inner.Bytes.{LinksAre}
use Rattle.joining.specs.inner.Lies.{source_place, leading, run_of, RunsIn, RunsTo, Sourced}
use Rattle.joining.proofs.RunLaws.{run_past, run_joined, runs-kept}

-- the extents of row r from e on have their runs; f and past are where they begin and end
pub record RowRuns (t v : List ℕ) (end r f past e behind : ℕ) (old new : List ℕ) : Type 0 where
  pub next : (m : ℕ) → Sourced t v m → r < m → RunsTo (level t v r) t v end m old →
      behind ≡ run_of 8 t v end r (sum_from t (first_extent t r) (e - first_extent t r))
  pub done : (m : ℕ) → Sourced t v m → r < m → RunsTo (level t v r) t v end m old → (j : ℕ) → j < extents t r → e ≤ first_extent t r + j →
      get_or new (first_extent t r + j) 0 ≡ run_of 8 t v end r (sum_from t (first_extent t r) j)
  pub other : (x : ℕ) → (f ≤ x → x < past → ⊥) → get_or new x 0 ≡ get_or old x 0

module _ (t v : List ℕ) (end r f past : ℕ) (fe : r < 256 → f ≡ first_extent t r) (pe : r < 256 → past ≡ first_extent t r + extents t r) where
  pub row-none : (l : List ℕ) → end ≤ 18446744073709551616 → RowRuns t v end r f past past 0 l l
  row-none l b =
      record {
        next = λ m w rl known. let few = w.links.few in
            let p = pe (omega arith) in
            let z : past - first_extent t r ≡ extents t r = omega arith in
            let s = ap (sum_from t (first_extent t r)) z in
            run_past t v end 8 r (sum_from t (first_extent t r) (past - first_extent t r)) b (omega arith);
        done = λ m w rl known j h o. let few = w.links.few in let p = pe (omega arith) in absurd (omega arith);
        other = λ x o. refl;
      }

  module _ (e behind : ℕ) (old new : List ℕ) (s : RowRuns t v end r f past e behind old new) where
    pub row_other : r < 256 → (x : ℕ) → ((j : ℕ) → j < extents t r → x ≡ first_extent t r + j → ⊥) → get_or new x 0 ≡ get_or old x 0
    row_other h x o =
        let a = fe h in
        let b = pe h in
        s.other x (λ p q. o (x - first_extent t r) (omega arith) (omega arith))

    -- what the row is made of keeps its runs
    row-known : (m : ℕ) → Sourced t v m → r < m → RunsTo (level t v r) t v end m old → RunsTo (level t v r) t v end m new
    row-known m w rl known q ql low =
        let few = w.links.few in
        runs-kept t v end m w r q old new rl ql (λ z. let y = ap (level t v) z in absurd (omega arith)) (row_other (omega arith)) (known q ql low)

    pub row-all : e ≤ f → (m : ℕ) → Sourced t v m → r < m → RunsTo (level t v r) t v end m old → RunsIn t v end r new
    row-all l m w rl known j h =
        let few = w.links.few in
        let a = fe (omega arith) in
        s.done m w rl known j h (omega arith)

    -- one extent more
    pub row_more : (here size b : ℕ) → f < e → e ≤ past → past ≤ 512 → length new ≡ 512 → size ≡ size_at t (e - 1) →
        ((m k j : ℕ) → Sourced t v m → r < m → chained 8 t v r ≡ true → RunsTo k t v end m new → level t v r ≤ k → j < extents t r →
        e - 1 ≡ first_extent t r + j → 0 ≤ size_at t (e - 1) →
        here ≡ leading (λ i. ltb (source_place 8 t v r (e - 1) (offset_at t (e - 1) + (0 + i))) end) 16403) →
        b ≡ pick (ltb here size) here (min (size + behind) 16403) →
        RowRuns t v end r f past (e - 1) b old (set new (e - 1) b)
    row_more here size b fl pl room long z run be =
        record {
          next = joined;
          done = λ m w rl known j h o. let few = w.links.few in
              let a = fe (omega arith) in
              let p = pe (omega arith) in
              ⊎_elim (λ y. let q : j ≡ e - 1 - first_extent t r = omega arith in
              ap (λ (i : ℕ). get_or (set new (e - 1) b) i 0) (sym y) ∙ get_or-set_same new (e - 1) b 0 (omega arith)
              ∙ joined m w rl known ∙ ap (λ (i : ℕ). run_of 8 t v end r (sum_from t (first_extent t r) i)) (sym q))
              (λ y. get_or-set_other new (e - 1) (first_extent t r + j) b 0 (λ q. absurd (omega arith)) ∙ s.done m w rl known j h (omega arith))
              (eq-or-lt_of_le {n = e - 1} {m = first_extent t r + j} o);
          other = λ x o. get_or-set_other new (e - 1) x b 0 (λ q. o (omega arith) (omega arith)) ∙ s.other x o;
        }
      where
        joined : (m : ℕ) → Sourced t v m → r < m → RunsTo (level t v r) t v end m old →
            b ≡ run_of 8 t v end r (sum_from t (first_extent t r) (e - 1 - first_extent t r))
        joined m w rl known =
            let few = w.links.few in
            let a = fe (omega arith) in
            let p = pe (omega arith) in
            let j : ℕ = e - 1 - first_extent t r in
            let y : e - first_extent t r ≡ suc j = omega arith in
            let x : e - 1 ≡ first_extent t r + j = omega arith in
            be ∙ run_joined t v end r j (e - 1) 0 (sum_from t (first_extent t r) j) here size behind (w.ends r rl) (omega arith) x (omega arith)
            (omega arith) (run m (level t v r) j w rl (w.ends r rl) (row-known m w rl known) (omega arith) (omega arith) x (omega arith))
            (omega arith) (s.next m w rl known ∙ ap (λ (i : ℕ). run_of 8 t v end r (sum_from t (first_extent t r) i)) y)

-- of n rows those of a level below k have their runs, and those of level k as far as row i
pub record LevelRuns (t v : List ℕ) (end n k i : ℕ) (links old new : List ℕ) : Type 0 where
  pub below : Sourced t v n → LinksAre t v n links → RunsTo k t v end n old → RunsTo k t v end n new
  pub here : Sourced t v n → LinksAre t v n links → RunsTo k t v end n old → (x : ℕ) → x < i → x < n → level t v x ≡ k → RunsIn t v end x new

module _ (t v : List ℕ) (end n k : ℕ) (links : List ℕ) where
  pub level-none : (l : List ℕ) → LevelRuns t v end n k 0 links l l
  level-none l = record { below = λ w a known. known; here = λ w a known x h. absurd (omega arith) }

  pub level-end : (i : ℕ) (old new : List ℕ) → n ≤ i → LevelRuns t v end n k i links old new → Sourced t v n → LinksAre t v n links →
      RunsTo k t v end n old → RunsTo (k + 1) t v end n new
  level-end i old new h s w a known x l low =
      ⊎_elim (λ z. s.here w a known x (omega arith) l z) (λ z. s.below w a known x l z) (eq-or-lt_of_le {n = level t v x} {m = k} (omega arith))

  module _ (i b : ℕ) (old new : List ℕ) (l : i < n) (s : LevelRuns t v end n k i links old new)
      (told : (t v : List ℕ) (n : ℕ) → LinksIn t v n → LinksAre t v n links → i < n → b ≡ level t v i) where
    pub level-not : (b ≡ k → ⊥) → LevelRuns t v end n k (i + 1) links old new
    level-not o =
        record {
          below = s.below;
          here = λ w a known x h j e. ⊎_elim
              (λ z. absurd (o (told t v n w.links a l ∙ ap (level t v) (sym z) ∙ e))) (λ z. s.here w a known x z j e)
              (eq-or-lt_of_le {n = x} {m = i} (omega arith));
        }

    pub level-put : (u : List ℕ) → b ≡ k →
        ((m : ℕ) → Sourced t v m → i < m → RunsTo (level t v i) t v end m new → RunsIn t v end i u) →
        (i < 256 → (e : ℕ) → ((j : ℕ) → j < extents t i → e ≡ first_extent t i + j → ⊥) → get_or u e 0 ≡ get_or new e 0) →
        LevelRuns t v end n k (i + 1) links old u
    level-put u e put same =
        record {
          below = λ w a known q ql low. let z = told t v n w.links a l in
              let few = w.links.few in
              runs-kept t v end n w i q new u l ql (λ y. let x = ap (level t v) y in absurd (omega arith)) (same (omega arith))
              (s.below w a known q ql low);
          here = λ w a known x h j f. let z = told t v n w.links a l in
              let few = w.links.few in
              ⊎_elim (λ y. subst (λ (q : ℕ). RunsIn t v end q u) (sym y)
              (put n w l (λ q ql low. s.below w a known q ql (omega arith))))
              (λ y. runs-kept t v end n w i x new u l j (λ q. absurd (omega arith)) (same (omega arith)) (s.here w a known x y j f))
              (eq-or-lt_of_le {n = x} {m = i} (omega arith));
        }
