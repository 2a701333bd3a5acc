-- Runs of stores into lists that are one after another, and into a region. A single store is a run of one: `set l i v` is `sets l i (v ∷ [])`. Assumes nothing.
use Prim.Native.Nat.{ℕ, zero, suc, ◌+◌, ◌-◌, ◌<◌, ◌≤◌}
use native.Mathlib.Nat.{add-zero, zero-add, suc-add, not-suc-le-zero}
use native.Mathlib.Omega.{arith}
use mathlib.Core.Path.{◌≡◌, refl, sym, ap, ◌∙◌}
use mathlib.Core.List.{List, [], ◌∷◌, ◌++◌, append_assoc, append-nil}
use lib.ListN.{length, get_or, set, replicate, length-append, length-set, length-replicate, drop_of_length-le, get_or-append, replicate-append-replicate}
use lib.Seq.{sets, sets-eq, length-sets, set-append_left, get_or-append-add, get_or-set_same, get_or-set_other}
use Rattle.rules.specs.Words.{region}

-- set
pub set_past : (a x : List ℕ) (i v : ℕ) → set (a ++ x) (length a + i) v ≡ a ++ set x i v
set_past [] x i v = rw zero-add
set_past (y ∷ a) x i v = rw (suc-add, set_past a x i v)

pub set_middle : (a b c : List ℕ) (i v : ℕ) → i < length b → set (a ++ (b ++ c)) (length a + i) v ≡ a ++ (set b i v ++ c)
set_middle a b c i v h = set_past a (b ++ c) i v ∙ ap (λ (l : List ℕ). a ++ l) (set-append_left b c i v h)

-- sets: in the first of two lists, past the first, and in the middle of three
pub sets_first : (vs a x : List ℕ) (i : ℕ) → i + length vs ≤ length a → sets (a ++ x) i vs ≡ sets a i vs ++ x
sets_first [] a x i h = refl
sets_first (v ∷ vs) a x i h = rw (set-append_left a x i v (omega arith)) (sets_first vs (set a i v) x (suc i) (rw length-set (omega arith)))

pub sets-past : (vs a x : List ℕ) (i : ℕ) → sets (a ++ x) (length a + i) vs ≡ a ++ sets x i vs
sets-past [] a x i = refl
sets-past (v ∷ vs) a x i =
    ap (λ (l : List ℕ). sets l (suc (length a + i)) vs) (set_past a x i v)
    ∙ (let e : suc (length a + i) ≡ length a + suc i = omega arith in ap (λ (k : ℕ). sets (a ++ set x i v) k vs) e)
    ∙ sets-past vs a (set x i v) (suc i)

pub sets_middle : (vs a b c : List ℕ) (i : ℕ) → i + length vs ≤ length b → sets (a ++ (b ++ c)) (length a + i) vs ≡ a ++ (sets b i vs ++ c)
sets_middle vs a b c i h = sets-past vs a (b ++ c) i ∙ ap (λ (l : List ℕ). a ++ l) (sets_first vs b c i h)

-- the same where the length of the first is known by another name
pub sets-from : (vs a x : List ℕ) (n i k : ℕ) → length a ≡ n → k ≡ n + i → sets (a ++ x) k vs ≡ a ++ sets x i vs
sets-from vs a x n i k e q = let z : k ≡ length a + i = omega arith in ap (λ (j : ℕ). sets (a ++ x) j vs) z ∙ sets-past vs a x i

-- sets of all of a list
pub sets-all : (vs l : List ℕ) → length l ≡ length vs → sets l 0 vs ≡ vs
sets-all vs l e = sets-eq vs l 0 (omega arith) ∙ ap (λ (r : List ℕ). vs ++ r) (drop_of_length-le l {i = 0 + length vs} (omega arith)) ∙ append-nil vs

-- sets of all of the second of three lists
pub sets_over : (vs a b c : List ℕ) (n : ℕ) → length a ≡ n → length b ≡ length vs → sets (a ++ (b ++ c)) n vs ≡ a ++ (vs ++ c)
sets_over vs a b c n e q =
    sets-from vs a (b ++ c) n 0 n e (omega arith)
    ∙ ap (λ (l : List ℕ). a ++ l) (sets_first vs b c 0 (omega arith) ∙ ap (λ (l : List ℕ). l ++ c) (sets-all vs b q))

-- get_or: past the first of two lists, whose length is known by another name, and in the middle of three
pub get_or-from : (a x : List ℕ) (n i k : ℕ) → length a ≡ n → k ≡ n + i → get_or (a ++ x) k 0 ≡ get_or x i 0
get_or-from a x n i k e q = let z : k ≡ length a + i = omega arith in ap (λ (j : ℕ). get_or (a ++ x) j 0) z ∙ get_or-append-add a x i 0

pub get_or_middle : (a b c : List ℕ) (i : ℕ) → i < length b → get_or (a ++ (b ++ c)) (length a + i) 0 ≡ get_or b i 0
get_or_middle a b c i h = get_or-append-add a (b ++ c) i 0 ∙ get_or-append b c 0 i h

-- sets: what is read after a run of stores
pub sets_below : (vs l : List ℕ) (i k : ℕ) → k < i → get_or (sets l i vs) k 0 ≡ get_or l k 0
sets_below [] l i k h = refl
sets_below (v ∷ vs) l i k h = sets_below vs (set l i v) (suc i) k (omega arith) ∙ get_or-set_other l i k v 0 (omega arith)

pub sets-above : (vs l : List ℕ) (i k : ℕ) → i + length vs ≤ k → get_or (sets l i vs) k 0 ≡ get_or l k 0
sets-above [] l i k h = refl
sets-above (v ∷ vs) l i k h = sets-above vs (set l i v) (suc i) k (omega arith) ∙ get_or-set_other l i k v 0 (omega arith)

pub sets_in : (vs l : List ℕ) (i j : ℕ) → j < length vs → i + length vs ≤ length l → get_or (sets l i vs) (i + j) 0 ≡ get_or vs j 0
sets_in [] l i j h b = absurd (not-suc-le-zero h)
sets_in (v ∷ vs) l i zero h b = rw add-zero (sets_below vs (set l i v) (suc i) i (omega arith) ∙ get_or-set_same l i v 0 (omega arith))
sets_in (v ∷ vs) l i (suc j) h b =
    ap (λ (k : ℕ). get_or (sets (set l i v) (suc i) vs) k 0) (omega arith)
    ∙ sets_in vs (set l i v) (suc i) j (omega arith) (rw length-set (omega arith))

-- two runs that meet are one
pub sets_append : (xs ys l : List ℕ) (i : ℕ) → sets l i (xs ++ ys) ≡ sets (sets l i xs) (i + length xs) ys
sets_append [] ys l i = rw add-zero
sets_append (x ∷ xs) ys l i = sets_append xs ys (set l i x) (suc i) ∙ ap (λ (k : ℕ). sets (sets (set l i x) (suc i) xs) k ys) (omega arith)

-- region
abbrev pub zeros : ℕ → List ℕ
zeros n = replicate n 0

pub region-length : (n : ℕ) (ws : List ℕ) → length ws ≤ n → length (region n ws) ≡ n
unfolding region
region-length n ws h = rw (length-append, length-replicate) (omega arith)

pub region-sets : (n : ℕ) (ws vs : List ℕ) (i : ℕ) → i + length vs ≤ length ws → sets (region n ws) i vs ≡ region n (sets ws i vs)
unfolding region
region-sets n ws vs i h = rw length-sets (sets_first vs ws (replicate (n - length ws) 0) i h)

pub region-more : (n : ℕ) (ws vs : List ℕ) → length ws + length vs ≤ n → sets (region n ws) (length ws) vs ≡ region n (ws ++ vs)
unfolding region
region-more n ws vs h =
    let z = length vs in
    let k = n - length (ws ++ vs) in
    let e : n - length ws ≡ z + k = rw length-append (omega arith) in
    let q : zeros (n - length ws) ≡ zeros z ++ zeros k = ap (λ (j : ℕ). zeros j) e ∙ sym (replicate-append-replicate z k 0) in
    ap (λ (r : List ℕ). sets (ws ++ r) (length ws) vs) q
    ∙ sets-from vs ws (zeros z ++ zeros k) (length ws) 0 (length ws) refl (omega arith)
    ∙ ap (λ (l : List ℕ). ws ++ l)
    (sets_first vs (zeros z) (zeros k) 0 (rw length-replicate (omega arith))
    ∙ ap (λ (l : List ℕ). l ++ zeros k) (sets-all vs (zeros z) (length-replicate z 0)))
    ∙ sym (append_assoc ws vs (zeros k))

pub region-set : (n : ℕ) (ws : List ℕ) (i v : ℕ) → i < length ws → set (region n ws) i v ≡ region n (set ws i v)
region-set n ws i v h = region-sets n ws (v ∷ []) i (omega arith)

pub region_snoc : (n : ℕ) (ws : List ℕ) (v : ℕ) → length ws < n → set (region n ws) (length ws) v ≡ region n (ws ++ (v ∷ []))
region_snoc n ws v h = region-more n ws (v ∷ []) (omega arith)

pub region-get_or : (n : ℕ) (ws : List ℕ) (i : ℕ) → i < length ws → get_or (region n ws) i 0 ≡ get_or ws i 0
unfolding region
region-get_or n ws i h = get_or-append ws _ 0 i h

pub region-front : (n : ℕ) (ws x : List ℕ) (i : ℕ) → i < length ws → get_or (region n ws ++ x) i 0 ≡ get_or ws i 0
unfolding region
region-front n ws x i h = rw append_assoc (get_or-append ws _ 0 i h)

-- a region is the same with some of its zeros written out, and stores into those go past the words before them
pub region_zeros : (n : ℕ) (ws : List ℕ) (k : ℕ) → length ws + k ≤ n → region n (ws ++ zeros k) ≡ region n ws
unfolding region
region_zeros n ws k h =
    let e : k + (n - length (ws ++ zeros k)) ≡ n - length ws = rw (length-append, length-replicate) (omega arith) in
    rw (append_assoc, replicate-append-replicate, e)

pub region-set-past : (n : ℕ) (ws zs : List ℕ) (k v : ℕ) → k < length zs → set (region n (ws ++ zs)) (length ws + k) v ≡ region n (ws ++ set zs k v)
region-set-past n ws zs k v h = region-set n (ws ++ zs) (length ws + k) v (rw length-append (omega arith)) ∙ ap (region n) (set_past ws zs k v)

-- words added at the end, whose place is known by another name
pub region_add : (n : ℕ) (ws vs : List ℕ) (k : ℕ) → length ws ≡ k → k + length vs ≤ n → region n (ws ++ vs) ≡ sets (region n ws) k vs
region_add n ws vs k e h = rw (← e) (sym (region-more n ws vs (omega arith)))
