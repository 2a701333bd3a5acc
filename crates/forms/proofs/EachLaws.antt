-- Many values of which each becomes another, written anew in its own width: what is written spells them. Assumes nothing.
--   widths width xs    how many bytes the values xs take, each its width
--   Anew .. n before w l    w is the bytes of n values behind `before`, and l all of them; where P holds of the n,
--                      `each` of their bytes spells by g what m makes of them
use Prim.Native.Nat.{ℕ, zero, suc, ◌+◌, ◌*◌}
use native.Mathlib.Omega.{arith}
use mathlib.Core.Path.{◌≡◌, sym, ap, ◌∙◌, subst}
use mathlib.Core.List.{List, [], ◌∷◌, ◌++◌, append_assoc, append-nil, map, map-append}
use lib.ListN.{length, length-append}
use Rattle.fields.specs.Lists.{All}
use Rattle.forms.specs.Form.{Form, give, many, ◌>>=◌}

-- widths
unfoldable pub widths : {X : Type 0} → (X → ℕ) → List X → ℕ
widths width [] = 0
widths width (x ∷ xs) = width x + widths width xs

pub same_width : {X : Type 0} (k : ℕ) (xs : List X) → widths (λ x. k) xs ≡ length xs * k
unfolding widths
same_width k [] = omega arith
same_width k (x ∷ xs) = let h = same_width k xs in omega arith

-- many: a value x by f becomes m x by g, and its bytes w become write x w
module _ {X : Type 0} (width : X → ℕ) (each : List X → List ℕ → List ℕ) (m : X → X) (g : List X → Form X)
    (P : X → Type 0) where
  pub record Anew (n : ℕ) (before : List X) (w : List ℕ) (l : List X) : Type 0 where
    pub values : List X
    pub all : l ≡ before ++ values
    pub long : length w ≡ widths width values
    pub anew : All P values → (many g n (map m before)).Spells (each values w) (map m l)

  -- by the two clauses that such a function has
  module _ (write : X → List ℕ → List ℕ) (none : (s : List ℕ) → each [] s ≡ [])
      (more : (x : X) (xs : List X) (l r : List ℕ) → length l ≡ width x → each (x ∷ xs) (l ++ r) ≡ write x l ++ each xs r)
      (f : List X → Form X)
      (one : (before : List X) (w : List ℕ) (x : X) → (f before).Spells w x →
      (length w ≡ width x) × (P x → (g (map m before)).Spells (write x w) (m x))) where
    pub many_anew : (n : ℕ) (before : List X) (w : List ℕ) (l : List X) → (many f n before).Spells w l → Anew n before w l
    unfolding many ◌>>=◌ give widths
    many_anew zero before w l h =
        record {
          values = [];
          all = h.1 ∙ sym (append-nil before);
          long = ap length h.0;
          anew = λ p. (none w, ap (map m) h.1);
        }
    many_anew (suc n) before w l h =
        let x = h.value in
        let o = one before h.left x h.first in
        let r = many_anew n (before ++ (x ∷ [])) h.right l h.then in
        record {
          values = x ∷ r.values;
          all = r.all ∙ append_assoc before (x ∷ []) r.values;
          long =
              ap length (sym h.join) ∙ length-append h.left h.right
              ∙ (let a = o.0 in let b = r.long in omega arith);
          anew =
              λ p.
              record {
                value = m x;
                left = write x h.left;
                right = each r.values h.right;
                join = sym (more x r.values h.left h.right o.0) ∙ ap (each (x ∷ r.values)) h.join;
                first = o.1 p.0;
                then =
                    subst (λ (b : List X). (many g n b).Spells (each r.values h.right) (map m l))
                    (map-append m before (x ∷ [])) (r.anew p.1);
              };
        }
