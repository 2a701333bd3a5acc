-- The boxes of a type: what holds of them, the only one among others, and what they become where each box becomes
-- another. Assumes nothing.
--   Without k bs    none of bs is of type k
--   Split k b bs    b stands among bs, and none before it or behind it is of type k
use Prim.Native.Nat.{ℕ, ◌+◌}
use native.Mathlib.Omega.{arith}
use mathlib.Core.Path.{◌≡◌, refl, sym, ap, ◌∙◌, subst}
use mathlib.Core.List.{List, [], ◌∷◌, ◌++◌, map}
use mathlib.Core.Bool.{Bool, true, false}
use lib.ListN.{length, get_or, drop, length-append}
use lib.Dec.{eqb}
use borrow.Author.Tests.{eqb-true, eqb-false}
use Rattle.fields.specs.Lists.{All}
use Rattle.boxes.specs.Box.{kind_of, flat}
use Rattle.boxes.specs.Children.{of_kind}
use Rattle.boxes.proofs.ChildLaws.{of_yes, of_no, of_nil}

abbrev pub Without : ℕ → List (List ℕ) → Type 0
Without k bs = All (λ (b : List ℕ). eqb (kind_of b) k ≡ false) bs

-- of_kind
module _ (k : ℕ) where
  pub of_is : (bs : List (List ℕ)) → All (λ (b : List ℕ). kind_of b ≡ k) (of_kind k bs)
  of_is [] = rw (of_nil k) tt
  of_is (b ∷ bs) = go (eqb (kind_of b) k) refl (of_is bs)
    where
      go : (c : Bool) → eqb (kind_of b) k ≡ c → All (λ (b : List ℕ). kind_of b ≡ k) (of_kind k bs) →
          All (λ (b : List ℕ). kind_of b ≡ k) (of_kind k (b ∷ bs))
      go true e h = rw (of_yes k b bs (eqb-true _ _ e)) (eqb-true _ _ e, h)
      go false e h = rw (of_no k b bs e) h

  -- what holds of each box holds of those of the type, and what holds of those holds of each box that is of it
  pub of_each : (P : List ℕ → Type 0) (bs : List (List ℕ)) → All P bs → All P (of_kind k bs)
  of_each P [] a = rw (of_nil k) tt
  of_each P (b ∷ bs) a = go (eqb (kind_of b) k) refl (of_each P bs a.1)
    where
      go : (c : Bool) → eqb (kind_of b) k ≡ c → All P (of_kind k bs) → All P (of_kind k (b ∷ bs))
      go true e h = rw (of_yes k b bs (eqb-true _ _ e)) (a.0, h)
      go false e h = rw (of_no k b bs e) h

  pub of_all : (P : List ℕ → Type 0) (bs : List (List ℕ)) → All P (of_kind k bs) →
      All (λ (b : List ℕ). kind_of b ≡ k → P b) bs
  of_all P [] a = tt
  of_all P (b ∷ bs) a = go (eqb (kind_of b) k) refl (of_all P bs)
    where
      go : (c : Bool) → eqb (kind_of b) k ≡ c → (All P (of_kind k bs) → All (λ (b : List ℕ). kind_of b ≡ k → P b) bs) →
          (kind_of b ≡ k → P b) × All (λ (b : List ℕ). kind_of b ≡ k → P b) bs
      go true e rec = let x = subst (All P) (of_yes k b bs (eqb-true _ _ e)) a in ((λ z. x.0), rec x.1)
      go false e rec = ((λ z. absurd (eqb-false _ _ e z)), rec (subst (All P) (of_no k b bs e) a))

  pub of_none : (bs : List (List ℕ)) → of_kind k bs ≡ [] → Without k bs
  of_none [] e = tt
  of_none (b ∷ bs) e = go (eqb (kind_of b) k) refl (of_none bs)
    where
      go : (c : Bool) → eqb (kind_of b) k ≡ c → (of_kind k bs ≡ [] → Without k bs) → Without k (b ∷ bs)
      go true q rec = let z = ap length (sym (of_yes k b bs (eqb-true _ _ q)) ∙ e) in absurd (omega arith)
      go false q rec = (q, rec (sym (of_no k b bs q) ∙ e))

  -- Split
  pub record Split (b : List ℕ) (bs : List (List ℕ)) : Type 0 where
    pub before : List (List ℕ)
    pub behind : List (List ℕ)
    pub split : bs ≡ before ++ (b ∷ behind)
    pub none_before : Without k before
    pub none-behind : Without k behind

  pub split_one : (b : List ℕ) (bs : List (List ℕ)) → of_kind k bs ≡ b ∷ [] → Split b bs
  split_one b [] e = let z = ap length (sym e ∙ of_nil k) in absurd (omega arith)
  split_one b (c ∷ bs) e = go (eqb (kind_of c) k) refl (split_one b bs)
    where
      go : (t : Bool) → eqb (kind_of c) k ≡ t → (of_kind k bs ≡ b ∷ [] → Split b bs) → Split b (c ∷ bs)
      go true q rec =
          let h : c ∷ of_kind k bs ≡ b ∷ [] = sym (of_yes k c bs (eqb-true _ _ q)) ∙ e in
          record {
            before = [];
            behind = bs;
            split = ap (λ (d : List ℕ). d ∷ bs) (ap (λ (l : List (List ℕ)). get_or l 0 []) h);
            none_before = tt;
            none-behind = of_none bs (ap (drop 1) h);
          }
      go false q rec =
          let r = rec (sym (of_no k c bs q) ∙ e) in
          record {
            before = c ∷ r.before;
            behind = r.behind;
            split = ap (λ (l : List (List ℕ)). c ∷ l) r.split;
            none_before = (q, r.none_before);
            none-behind = r.none-behind;
          }

-- of_kind, where each box b becomes r b
module _ (r : List ℕ → List ℕ) (k : ℕ) where
  -- of the same type: those of the type are what they become
  pub of_map : (bs : List (List ℕ)) → All (λ (b : List ℕ). kind_of (r b) ≡ kind_of b) bs →
      of_kind k (map r bs) ≡ map r (of_kind k bs)
  of_map [] a = of_nil k ∙ ap (map r) (sym (of_nil k))
  of_map (b ∷ bs) a = go (eqb (kind_of b) k) refl (of_map bs a.1)
    where
      go : (c : Bool) → eqb (kind_of b) k ≡ c → of_kind k (map r bs) ≡ map r (of_kind k bs) →
          of_kind k (r b ∷ map r bs) ≡ map r (of_kind k (b ∷ bs))
      go true e h =
          of_yes k (r b) (map r bs) (a.0 ∙ eqb-true _ _ e)
          ∙ ap (λ (l : List (List ℕ)). r b ∷ l) h
          ∙ ap (map r) (sym (of_yes k b bs (eqb-true _ _ e)))
      go false e h = of_no k (r b) (map r bs) (rw a.0 e) ∙ h ∙ ap (map r) (sym (of_no k b bs e))

  -- those of other types as long as before: how long all are changes by those of the type alone
  abbrev Even : List (List ℕ) → Type 0
  Even bs =
      length (flat (map r bs)) + length (flat (of_kind k bs)) ≡ length (flat bs) + length (flat (map r (of_kind k bs)))

  pub of_long : (bs : List (List ℕ)) → All (λ (b : List ℕ). eqb (kind_of b) k ≡ false → length (r b) ≡ length b) bs →
      length (flat (map r bs)) + length (flat (of_kind k bs)) ≡ length (flat bs) + length (flat (map r (of_kind k bs)))
  unfolding flat
  of_long [] a = rw (of_nil k) refl
  of_long (b ∷ bs) a = go (eqb (kind_of b) k) refl (of_long bs a.1)
    where
      go : (c : Bool) → eqb (kind_of b) k ≡ c → Even bs → Even (b ∷ bs)
      go true e h =
          rw (of_yes k b bs (eqb-true _ _ e))
          (omega (
            arith,
            length-append (r b) (flat (map r bs)),
            length-append b (flat bs),
            length-append b (flat (of_kind k bs)),
            length-append (r b) (flat (map r (of_kind k bs))),
          ))
      go false e h =
          rw (of_no k b bs e)
          (omega (arith, a.0 e, length-append (r b) (flat (map r bs)), length-append b (flat bs)))
