-- Marks spread from inputs to what rests on them, and what is marked is never derived from itself. Assumes nothing.
use Prim.Native.Nat.{ℕ, ◌+◌, ◌*◌, ◌<◌}
use native.Mathlib.Nat.{eq-or-lt_of_le}
use native.Mathlib.Omega.{arith}
use mathlib.Core.Path.{◌≡◌, refl, sym, ap, subst, ◌∙◌}
use mathlib.Core.List.{List}
use mathlib.Core.Bool.{Bool, true, false, ◌||◌}
use mathlib.Core.Logic.{⊎_elim}
use lib.ListN.{length, get_or, replicate}
use Rattle.pictures.specs.Scene.{Scene}
use Rattle.pictures.specs.Depth.{Derives, from, over, derives_itself}
use Rattle.pictures.proofs.DepthLaws.{itself_derives}
use Rattle.depths.specs.inner.Inputs.{InputsAre}
use Rattle.depths.specs.inner.Rounds.{inputs, input_at}
use Rattle.marks.specs.inner.Marks.{Marked, Bits, Among, IsInput, Spread}
use Rattle.marks.specs.inner.Grounds.{Grounded, Ground}
use Rattle.depths.proofs.InputLaws.{member-inside}
use Rattle.marks.proofs.MemberLaws.{member-input}
use Rattle.marks.proofs.MarkLaws.{grown-same, grown-both, unmarked}

-- Among: what holds of each so far, and of one more
pub among-more : (P : ℕ → Type 0) (g : ℕ → ℕ) (k x : ℕ) → ((y : ℕ) → Among g k y → P y) → x ≡ g k → P x → (y : ℕ) → Among g (k + 1) y → P y
among-more P g k x h e p y (j, l, q) = ⊎_elim (λ z. subst P (e ∙ ap g (sym z) ∙ q) p) (λ z. h y (j, z, q)) (eq-or-lt_of_le {n = j} {m = k} (omega arith))

-- the inputs of a row, by the count and the first place that were read
pub inputs-by : (t rows : List ℕ) (r k first : ℕ) (P : ℕ → Type 0) → k ≡ inputs t r → first ≡ get_or t (21 + 16 * r) 0 →
    ((x : ℕ) → Among (λ i. get_or rows (first + i) 0) k x → P x) → (x : ℕ) → IsInput t rows r x → P x
inputs-by t rows r k first P e f h x =
    subst (λ (n : ℕ). Among (input_at t rows r) n x → P x) e (subst (λ (o : ℕ). Among (λ i. get_or rows (o + i) 0) k x → P x) f (h x))

-- what holds of all rows so far, and of one more
pub rows_more : (P : ℕ → Type 0) (r : ℕ) → ((j : ℕ) → j < r → P j) → P r → (j : ℕ) → j < r + 1 → P j
rows_more P r h p j l = ⊎_elim (λ z. subst P (sym z) p) (h j) (eq-or-lt_of_le {n = j} {m = r} (omega arith))

module _ (t rows : List ℕ) where
  -- Grounded
  pub grounded_none : (n : ℕ) → Grounded t rows n (replicate 256 0)
  grounded_none n = record { closed = λ r x m. unmarked r m; apart = λ s e i r h m. unmarked r m }

  module _ (n : ℕ) (marks : List ℕ) (g : Grounded t rows n marks) (s : Scene) (e : length s ≡ n) (i : InputsAre t rows s) where
    -- derivations lead from marked rows to marked ones alone
    stays_marked : {r j : ℕ} → r < length s → Marked marks r → Derives s r j → Marked marks j
    stays_marked {r} {j} h m (from w) = g.closed r j m (member-input t rows s i r h j w)
    stays_marked {r} {j} h m (over {k = k} w d) = stays_marked (member-inside t rows s i r h k w) (g.closed r k m (member-input t rows s i r h k w)) d

    -- so a row that is not marked, but whose inputs are, never comes back to itself
    module _ (r : ℕ) (h : r < length s) (z : get_or marks r 0 ≡ 0) (w : (x : ℕ) → IsInput t rows r x → Marked marks x) where
      new_apart : Derives s r r → ⊥
      new_apart (from m) = let k = w r (member-input t rows s i r h r m) in absurd (omega arith)
      new_apart (over {k = k} m d) = let q = stays_marked (member-inside t rows s i r h k m) (w k (member-input t rows s i r h k m)) d in absurd (omega arith)

  -- Ground
  pub ground_same : (l : List ℕ) → Bits l → Ground t rows l l false
  ground_same l b = record { grown = grown-same l b; kept = λ n g. g }

  pub ground_both : (a b c : List ℕ) (p q r : Bool) → r ≡ (q || p) → Ground t rows a b p → Ground t rows b c q → Ground t rows a c r
  ground_both a b c p q r e g h = record { grown = rw e (grown-both a b c p g.grown q h.grown); kept = λ n k. h.kept n (g.kept n k) }

  pub ground_marked : (r : ℕ) (old new : List ℕ) (grew : Bool) → get_or old r 0 ≡ 0 →
      ((x : ℕ) → IsInput t rows r x → Marked old x) → Spread (λ y. r ≡ y) old new grew → Ground t rows old new grew
  ground_marked r old new grew z w u = record {
    grown = u.grown;
    kept = λ n g. record {
      closed = λ j x m k. u.grown.stay x (⊎_elim (λ o. g.closed j x o k) (λ e. w x (subst (λ (y : ℕ). IsInput t rows y x) (sym e) k)) (u.only j m));
      apart = λ s e i j h m d. ⊎_elim
          (λ o. g.apart s e i j h o d)
          (λ q. new_apart n old g s e i r (omega (arith, q)) z w (subst (λ (y : ℕ). Derives s y y) (sym q) d))
          (u.only j m);
    };
  }

  -- where every row is marked no picture is derived from itself
  pub grounded_all : (n : ℕ) (marks : List ℕ) → Grounded t rows n marks → ((r : ℕ) → r < n → Marked marks r) →
      (s : Scene) → length s ≡ n → InputsAre t rows s → (r : ℕ) → r < n → derives_itself s r ≡ false
  grounded_all n marks g a s e i r h = by (derives_itself s r) refl
    where
      by : (b : Bool) → derives_itself s r ≡ b → derives_itself s r ≡ false
      by true q = absurd (g.apart s e i r h (a r h) (itself_derives s r q))
      by false q = q
