-- Marks spread from row to input; what is marked at last is what a row is derived from, or what it needs. Assumes nothing.
--   Reaching ..    what holds while rows are left in the list whose inputs are to be marked
--   Found t rows n I marks    what holds of the marks when none is left, of n rows, from the rows I on
use Prim.Native.Nat.{ℕ, zero, suc, ◌+◌, ◌*◌, ◌≤◌, ◌<◌}
use native.Mathlib.Decide.{dec_lt}
use native.Mathlib.Nat.{eq-or-lt_of_le, le_of_suc-le-suc}
use native.Mathlib.Omega.{arith}
use mathlib.Core.Path.{◌≡◌, refl, sym, ap, subst, ◌∙◌}
use mathlib.Core.List.{List, [], ◌∷◌}
use mathlib.Core.Bool.{Bool, true, false, ◌||◌}
use mathlib.Core.Logic.{inl, inr, ⊎_elim}
use lib.ListN.{length, get_or, set, replicate}
use lib.Seq.{get_or-set_same, get_or-set_other}
use lib.Dec.{eqb}
use borrow.Author.Tests.{eq-eqb, ne_eqb, eqb-true}
use Rattle.fields.specs.Choice.{pick}
use Rattle.fields.specs.Lists.{member}
use Rattle.fields.proofs.TestLaws.{untrue, or_either}
use Rattle.pictures.specs.Scene.{Scene, picture_at}
use Rattle.pictures.specs.Depth.{Derives, from, over, reaches, derives_itself, depth}
use Rattle.pictures.specs.Sources.{needs}
use Rattle.pictures.proofs.DepthLaws.{reaches_derives, derives_reaches, shallow-reaches, itself_derives, derives_itself_lem}
use Rattle.depths.specs.inner.Inputs.{InputsAre}
use Rattle.depths.specs.inner.Rounds.{at, inputs, input_at}
use Rattle.marks.specs.inner.Marks.{Marked, Bits, bare, Among, IsInput, InputOf, Passes, Grown, Spread, Reached, Listing, Closed}
use Rattle.depths.proofs.InputLaws.{member-inside}
use Rattle.marks.proofs.MemberLaws.{input-member, member-input}
use Rattle.depths.proofs.RoundLaws.{zeros}
use Rattle.depths.proofs.SweepLaws.{set_cases}

-- whether a loop that adds has added: what it notes where a turn adds some, and where it adds none
pub or_took : (p : Bool) {q r : Bool} → q ≡ true → r ≡ true → r ≡ (q || p)
or_took p e f = rw e f

pub or_left : (p : Bool) {q r : Bool} → q ≡ false → r ≡ p → r ≡ (q || p)
or_left p e f = rw e f

either_second : (p q : Bool) → q ≡ true → (p || q) ≡ true
either_second true q e = refl
either_second false q e = e

-- bare
bare_set : (l : List ℕ) (x : ℕ) → x < length l → get_or l x 0 ≡ 0 → bare (set l x 1) < bare l
unfolding bare pick
bare_set [] x h e = absurd (omega arith)
bare_set (y ∷ ys) zero h e = rw (eq-eqb y 0 e) (omega arith)
bare_set (y ∷ ys) (suc x) h e = by (eqb y 0) (bare_set ys x (le_of_suc-le-suc h) e)
  where
    by : (t : Bool) → bare (set ys x 1) < bare ys → pick t (suc (bare (set ys x 1))) (bare (set ys x 1)) < pick t (suc (bare ys)) (bare ys)
    by true h = omega arith
    by false h = omega arith

bare-length : (l : List ℕ) → bare l ≤ length l
unfolding bare pick
bare-length [] = omega arith
bare-length (y ∷ ys) = by (eqb y 0) (bare-length ys)
  where
    by : (t : Bool) → bare ys ≤ length ys → pick t (suc (bare ys)) (bare ys) ≤ suc (length ys)
    by true h = omega arith
    by false h = omega arith

-- Grown
pub grown-same : (l : List ℕ) → Bits l → Grown l l false
grown-same l b = record { bits = b; stay = λ x m. m; quiet = λ e. refl; more = λ e. untrue e }

bare_le : (a b : List ℕ) (p : Bool) → Grown a b p → bare b ≤ bare a
bare_le a b true g = omega (arith, g.more refl)
bare_le a b false g = omega (arith, ap bare (g.quiet refl))

module _ (a b c : List ℕ) (p : Bool) (g : Grown a b p) where
  -- two after one another: some are added where either adds some
  pub grown-both : (q : Bool) → Grown b c q → Grown a c (q || p)
  grown-both true h = record {
    bits = h.bits;
    stay = λ x m. h.stay x (g.stay x m);
    quiet = λ e. untrue (sym e);
    more = λ e. omega (arith, h.more refl, bare_le a b p g);
  }
  grown-both false h = record {
    bits = h.bits;
    stay = λ x m. h.stay x (g.stay x m);
    quiet = λ e. h.quiet refl ∙
        g.quiet e;
    more = λ e. omega (arith, ap bare (h.quiet refl), g.more e);
  }

-- a turn of a loop that ends when nothing is added
pub grown-less : (old new : List ℕ) (p q : Bool) → p ≡ true → Grown old new q → bare new + pick q 1 0 < bare old + pick p 1 0
unfolding pick
grown-less old new p true e g = rw e (omega (arith, g.more refl))
grown-less old new p false e g = rw e (omega (arith, ap bare (g.quiet refl)))

-- Spread: one row
module _ (l : List ℕ) (x : ℕ) (b : Bits l) where
  pub spread_same : (x < length l → Marked l x) → Spread (λ y. x ≡ y) l l false
  spread_same h = record {
    grown = grown-same l b;
    all = λ y e k. subst (Marked l) e (h (rw e k));
    only = λ y m. inl m;
  }

  module _ (h : x < length l) (z : get_or l x 0 ≡ 0) where
    pub spread_set : Spread (λ y. x ≡ y) l (set l x 1) true
    spread_set = record {
      grown = record {
        bits = λ y. ⊎_elim (λ w. omega (arith, w.1)) (λ e. omega (arith, e, b y)) (set_cases l x 1 h y);
        stay = λ y m. ⊎_elim (λ w. w.1) (λ e. e ∙ m) (set_cases l x 1 h y);
        quiet = λ e. untrue (sym e);
        more = λ e. bare_set l x h z;
      };
      all = λ y e k. subst (Marked (set l x 1)) e (get_or-set_same l x 1 0 h);
      only = λ y m. ⊎_elim (λ w. inr w.0) (λ e. inl (sym e ∙ m)) (set_cases l x 1 h y);
    }

-- Reached: one row
module _ (x : ℕ) (a b l : List ℕ) (e : ℕ) (grew : Bool) (u : Spread (λ y. x ≡ y) a b grew) where
  pub reached_idle : grew ≡ false → Reached (λ y. x ≡ y) a b l l e e
  reached_idle f =
      record {
        bits = u.grown.bits;
        stay = u.grown.stay;
        all = u.all;
        room = omega (arith, ap bare (u.grown.quiet f));
        on = omega arith;
        front = λ j h. refl;
        back = λ j h k. absurd (omega arith);
        listed = λ y m. inl (subst (λ (c : List ℕ). Marked c y) (u.grown.quiet f) m);
      }

  pub reached_set : grew ≡ true → e < length l → Reached (λ y. x ≡ y) a b l (set l e x) e (e + 1)
  reached_set f r =
      record {
        bits = u.grown.bits;
        stay = u.grown.stay;
        all = u.all;
        room = omega (arith, u.grown.more f);
        on = omega arith;
        front = λ j h. get_or-set_other l e j x 0 (λ z. absurd (omega arith));
        back = λ j h k. let z : j ≡ e = omega arith in subst (λ (i : ℕ). x ≡ get_or (set l e x) i 0) (sym z) (sym (get_or-set_same l e x 0 r));
        listed = λ y m. ⊎_elim (λ o. inl o) (λ z. inr (e, omega arith, get_or-set_same l e x 0 r ∙ z)) (u.only y m);
      }

-- Reached: one after another
pub reached_none : (g : ℕ → ℕ) (a l : List ℕ) (e : ℕ) → Bits a → Reached (Among g 0) a a l l e e
reached_none g a l e b =
    record {
      bits = b;
      stay = λ x m. m;
      all = λ x w k. absurd (omega (arith, w.1));
      room = omega arith;
      on = omega arith;
      front = λ j h. refl;
      back = λ j h k. absurd (omega arith);
      listed = λ x m. inl m;
    }

pub reached_more : (g : ℕ → ℕ) (k x : ℕ) (a b c l m o : List ℕ) (e d f : ℕ) → length b ≡ length a → x ≡ g k →
    Reached (Among g k) a b l m e d → Reached (λ y. x ≡ y) b c m o d f → Reached (Among g (k + 1)) a c l o e f
reached_more g k x a b c l m o e d f same z s u =
    record {
      bits = u.bits;
      stay = λ y n. u.stay y (s.stay y n);
      all = λ y w h. ⊎_elim (λ i. u.all y (z ∙ ap g (sym i) ∙ w.2) (omega arith))
          (λ i. u.stay y (s.all y (w.0, i, w.2) h)) (eq-or-lt_of_le {n = w.0} {m = k} (omega (arith, w.1)));
      room = omega (arith, s.room, u.room);
      on = omega (arith, s.on, u.on);
      front = λ j h. u.front j (omega (arith, s.on)) ∙ s.front j h;
      back = λ j h i. elim (dec_lt j d) [
        | yes p ↦ let w = s.back j h p in (w.0, omega (arith, w.1), w.2 ∙ sym (u.front j p))
        | no p ↦ (k, omega arith, sym z ∙ u.back j (omega (arith, p)) i)
      ];
      listed = λ y n. ⊎_elim (λ p. ⊎_elim (λ q. inl q) (λ q. inr
          (q.0, omega (arith, q.1, u.on), u.front q.0 q.1 ∙ q.2)) (s.listed y p)) (λ p. inr p) (u.listed y
          n);
    }

-- the inputs of a row, by the count and the first place that were read
pub reached_inputs : (t rows : List ℕ) (r k first : ℕ) (a b l m : List ℕ) (e d : ℕ) → k ≡ inputs t r →
    first ≡ get_or t (21 + 16 * r) 0 → Reached (Among (λ i. get_or rows (first + i) 0) k) a b l m e d →
    Reached (IsInput t rows r) a b l m e d
reached_inputs t rows r k first a b l m e d f g s =
    subst (λ (n : ℕ). Reached (Among (input_at t rows r) n) a b l m e d) f (subst (λ (o : ℕ). Reached (Among (λ i. get_or rows (o + i) 0) k) a b l m e d) g s)

-- the inputs of a listed row, if it is one of n
module _ (t rows : List ℕ) (n r w : ℕ) (a b l m : List ℕ) (e d : ℕ) (z : r ≡ w) where
  pub reached_of : r < n → Reached (IsInput t rows r) a b l m e d → Reached (InputOf t rows n w) a b l m e d
  reached_of h s =
      subst (λ (y : ℕ). Reached (InputOf t rows n y) a b l m e d) z
      (record {
        bits = s.bits;
        stay = s.stay;
        all = λ x v. s.all x v.1;
        room = s.room;
        on = s.on;
        front =
            s.front;
        back = λ j i k. (h, s.back j i k);
        listed = s.listed;
      })

  pub reached_off : n ≤ r → Bits a → Reached (InputOf t rows n w) a a l l e e
  reached_off h b =
      record {
        bits = b;
        stay = λ x v. v;
        all = λ x v k. absurd (omega (arith, v.0));
        room = omega arith;
        on = omega arith;
        front = λ j k. refl;
        back = λ j i k. absurd (omega arith);
        listed = λ x v. inl v;
      }

-- Reaching: what holds while the list from place k on is left to do
pub record Reaching (t rows : List ℕ) (n : ℕ) (old before : List ℕ) (start : ℕ) (marks list : List ℕ) (e k : ℕ) : Type 0 where
  pub bits : Bits marks
  pub stay : (x : ℕ) → Marked old x → Marked marks x
  pub follow : (Q : ℕ → Bool) → Passes t rows n Q → ((j : ℕ) → j < start → Q (get_or before j 0) ≡ true) → (j : ℕ) → j < e → Q (get_or list j 0) ≡ true
  pub room : e + bare marks ≤ length before
  pub listed : (x : ℕ) → Marked marks x → Among (at list) e x
  pub done : (j x : ℕ) → j < k → InputOf t rows n (get_or list j 0) x → x < length old → Marked marks x
  pub passed : k ≤ e

module _ (t rows : List ℕ) (n : ℕ) (a l : List ℕ) (s : ℕ) where
  pub reaching_first : Listing a l s → Reaching t rows n a l s a l s 0
  reaching_first w = record {
    bits = w.bits;
    stay = λ x m. m;
    follow = λ Q f h. h;
    room = w.room;
    listed = w.listed;
    done = λ j x h. absurd (omega arith);
    passed = omega arith;
  }

  module _ (b m : List ℕ) (e k : ℕ) (r : Reaching t rows n a l s b m e k) where
    pub reaching_next : (c o : List ℕ) (f : ℕ) → k < e → length b ≡ length a →
        Reached (InputOf t rows n (get_or m k 0)) b c m o e f → Reaching t rows n a l s c o f (k + 1)
    reaching_next c o f p same u =
        record {
          bits = u.bits;
          stay = λ x v. u.stay x (r.stay x v);
          follow = λ Q w h j i. let known = r.follow Q w h in
              elim (dec_lt j e) [
                | yes q ↦ subst (λ (y : ℕ). Q y ≡ true) (sym (u.front j q)) (known j q)
                | no q ↦ let v = u.back j (omega (arith, q)) i in w (get_or m k 0) (get_or o j 0) v.0 (known k p) v.1
              ];
          room = omega (arith, r.room, u.room);
          listed = λ x v. ⊎_elim (λ z. let q = r.listed x z in (q.0, omega (arith, q.1, u.on), u.front q.0 q.1 ∙ q.2)) (λ z. z) (u.listed x v);
          done = λ j x i w h. ⊎_elim
              (λ z. u.all x (subst (λ (y : ℕ). InputOf t rows n y x) (ap (at o) z ∙ u.front k p) w) (omega arith))
              (λ z. u.stay x (r.done j x z (subst (λ (y : ℕ). InputOf t rows n y x) (u.front j (omega arith)) w) h))
              (eq-or-lt_of_le {n = j} {m = k} (omega arith));
          passed = omega (arith, u.on);
        }

    pub reaching_last : e ≤ k → Closed t rows n a l s b
    reaching_last p =
        record {
          stay = r.stay;
          sound = λ Q w h x v. let q = r.listed x v in subst (λ (y : ℕ). Q y ≡ true) q.2 (r.follow Q w h q.0 q.1);
          closed = λ i x h v w g. let q = r.listed i v in
              r.done q.0 x (omega (arith, q.1)) (subst (λ (y : ℕ). InputOf t rows n y x) (sym q.2) (h, w)) g;
        }

-- the marks where all is marked that follows from the rows I
pub record Found (t rows : List ℕ) (n : ℕ) (I : ℕ → Type 0) (marks : List ℕ) : Type 0 where
  pub first : (x : ℕ) → I x → x < 256 → Marked marks x
  pub sound : (Q : ℕ → Bool) → Passes t rows n Q → ((x : ℕ) → I x → Q x ≡ true) → (x : ℕ) → Marked marks x → Q x ≡ true
  pub closed : (i x : ℕ) → i < n → Marked marks i → IsInput t rows i x → x < 256 → Marked marks x

pub zeros_bits : Bits (replicate 256 0)
zeros_bits x = omega (arith, zeros 256 x)

pub zeros_room : 0 + bare (replicate 256 0) ≤ 256
zeros_room = let z : bare (replicate 256 0) ≤ 256 = bare-length (replicate 256 0) in omega arith

-- no word of an empty list of marks is 1
pub unmarked : {A : Type 0} (x : ℕ) → Marked (replicate 256 0) x → A
unmarked x m = let z = zeros 256 x in absurd (omega arith)

module _ (t rows : List ℕ) (n : ℕ) (I : ℕ → Type 0) (marks l m : List ℕ) (e : ℕ) (r : Reached I (replicate 256 0) marks l m 0 e) where
  pub listing_first : length m ≡ 256 → Listing marks m e
  listing_first z = record { bits = r.bits; room = omega (arith, r.room, zeros_room); listed = λ x v. ⊎_elim (unmarked x) (λ p. p) (r.listed x v) }

  pub found_all : (new : List ℕ) → length marks ≡ 256 → Closed t rows n marks m e new → Found t rows n I new
  found_all new z c = record {
    first = λ x w h. c.stay x (r.all x w h);
    sound = λ Q p h. c.sound Q p (λ j i. h (get_or m j 0) (r.back j (omega arith) i));
    closed = λ i x h v w g. c.closed i x h v w (omega arith);
  }

-- Derives: one derivation more at the end
derives_on : (s : Scene) {i k j : ℕ} → Derives s i k → member j (picture_at s k).inputs ≡ true → Derives s i j
derives_on s (from m) n = over m (from n)
derives_on s (over m d) n = over m (derives_on s d n)

module _ (t rows : List ℕ) (s : Scene) (i : InputsAre t rows s) (marks : List ℕ) where
  -- all that a row is derived from is marked where its inputs are, and nothing is left to mark
  derives_marked : (I : ℕ → Type 0) → Found t rows (length s) I marks → (k : ℕ) {j : ℕ} → k < length s →
      ((x : ℕ) → IsInput t rows k x → x < 256 → Marked marks x) → Derives s k j → Marked marks j
  derives_marked I f k {j} l w (from m) = w j (member-input t rows s i k l j m) (omega (arith, member-inside t rows s i k l j m, i.few))
  derives_marked I f k {j} l w (over {k = o} m d) =
      let p = member-inside t rows s i k l o m in
      derives_marked I f o p (λ x. f.closed o x p (w o (member-input t rows s i k l o m) (omega (arith, i.few)))) d

  module _ (r : ℕ) (h : r < length s) where
    -- from the inputs of a row: nothing is marked that it is not derived from
    module _ (f : Found t rows (length s) (IsInput t rows r) marks) where
      marked_derives : (x : ℕ) → Marked marks x → Derives s r x
      marked_derives x m =
          reaches_derives s (length s) r x
          (f.sound (λ y. reaches (length s) s r y)
          (λ k y l q w. derives_reaches s (derives_on s (reaches_derives s (length s) r k q) (input-member t rows s i k l y w)))
          (λ y w. derives_reaches s (from (input-member t rows s i r h y w))) x m)

      itself_marked : (b : Bool) → derives_itself s r ≡ b → eqb (get_or marks r 0) 1 ≡ b
      itself_marked true e = eq-eqb (get_or marks r 0) 1 (derives_marked (IsInput t rows r) f r h f.first (itself_derives s r e))
      itself_marked false e = ne_eqb (get_or marks r 0) 1 (λ m. untrue (sym e ∙ derives_itself_lem s r (marked_derives r m)))

    -- from the row itself: what it needs is marked, and nothing else
    module _ (f : Found t rows (length s) (λ y. r ≡ y) marks) where
      needed_marked : (c : ℕ) → c < length s → needs s r c ≡ true → Marked marks c
      needed_marked c l e =
          ⊎_elim (λ q. f.first c (eqb-true r c q) (omega (arith, i.few)))
          (λ q. derives_marked (λ y. r ≡ y) f r h (λ x. f.closed r x h (f.first r refl (omega (arith, i.few)))) (reaches_derives s 16 r c q))
          (or_either (eqb r c) (reaches 16 s r c) e)

      module _ (low : depth s r ≤ 16) where
        needs-derived : (c : ℕ) → Derives s r c → needs s r c ≡ true
        needs-derived c d = either_second (eqb r c) (reaches 16 s r c) (shallow-reaches s low d)

        needs-input : (k c : ℕ) → needs s r k ≡ true → member c (picture_at s k).inputs ≡ true → needs s r c ≡ true
        needs-input k c e m =
            needs-derived c
            (⊎_elim (λ q. from (subst (λ (o : ℕ). member c (picture_at s o).inputs ≡ true) (sym (eqb-true r k q)) m))
            (λ q. derives_on s (reaches_derives s 16 r k q) m) (or_either (eqb r k) (reaches 16 s r k) e))

        marked_needed : (c : ℕ) → Marked marks c → needs s r c ≡ true
        marked_needed =
            f.sound (needs s r)
            (λ k c l q w. needs-input k c q (input-member t rows s i k l c w))
            (λ c e. rw (eq-eqb r c e))

        needed_found-by : (c : ℕ) → c < length s → (b : Bool) → needs s r c ≡ b → eqb (get_or marks c 0) 1 ≡ b
        needed_found-by c l true e = eq-eqb (get_or marks c 0) 1 (needed_marked c l e)
        needed_found-by c l false e = ne_eqb (get_or marks c 0) 1 (λ m. untrue (sym e ∙ marked_needed c m))

-- the mark of the row itself is the answer
pub itself_found : (t rows : List ℕ) (n r : ℕ) (marks : List ℕ) (w : ℕ) → Found t rows n (IsInput t rows r) marks →
    w ≡ get_or marks r 0 → (s : Scene) → length s ≡ n → InputsAre t rows s → r < n → eqb w 1 ≡ derives_itself s r
itself_found t rows n r marks w f z s l i h = rw z
    (itself_marked t rows s i marks r (omega arith) (subst (λ (m : ℕ). Found t rows m (IsInput t rows r) marks) (sym l)
    f) (derives_itself s r) refl)

-- the marks are on what the row needs
pub needed_found : (t rows : List ℕ) (n r : ℕ) (marks : List ℕ) → Found t rows n (λ y. r ≡ y) marks → (s : Scene) →
    length s ≡ n → InputsAre t rows s → r < n → depth s r ≤ 16 → (c : ℕ) → c < n → eqb (get_or marks c 0) 1 ≡ needs s r c
needed_found t rows n r marks f s l i h low c k =
    needed_found-by t rows s i marks r (omega arith) (subst (λ (m : ℕ). Found t rows m (λ y. r ≡ y) marks) (sym l) f)
    low c (omega arith) (needs s r c) refl
