-- Judging gives the first fault, and no refusal exactly where there is none. Assumes nothing.
use Prim.Native.Nat.{ℕ, zero, suc, ◌+◌, ◌≤◌, ◌<◌}
use native.Mathlib.Nat.{add-zero, zero-add}
use native.Mathlib.Decide.{dec_lt}
use native.Mathlib.Omega.{arith}
use mathlib.Core.Path.{◌≡◌, refl, sym, ap, subst, ◌∙◌}
use mathlib.Core.List.{List, [], ◌∷◌}
use mathlib.Core.Bool.{Bool, true, false, ◌&&◌}
use mathlib.Core.Logic.{◌⊎◌, inl, inr}
use lib.ListN.{length, get_or}
use lib.Dec.{leb, eqb}
use borrow.Author.Tests.{leb-true, eqb-true, eq-eqb}
use Rattle.fields.specs.Choice.{pick}
use Rattle.fields.proofs.FieldLaws.{both}
use Rattle.fields.proofs.TestLaws.{untrue, and_both, both-and}
use Rattle.boxes.specs.Answer.{Answer, ok, refuse, ◌>>◌}
use Rattle.boxes.specs.Types.{image}
use Rattle.boxes.proofs.AnswerLaws.{then_ok, check-ok}
use Rattle.contents.specs.Iinf.{Item}
use Rattle.contents.specs.File.{File}
use Rattle.pictures.specs.Turn.{AllFit}
use Rattle.pictures.specs.Scene.{Scene, picture_at, output_of, good_size}
use Rattle.pictures.specs.Depth.{depth, derives_itself}
use Rattle.pictures.proofs.DecodeLaws.{turns_fit}
use Rattle.pictures.proofs.DepthLaws.{itself_derives, derives_itself_lem}
use Rattle.rules.specs.Joined.{location_of, boxes_of, types_of, item_at}
use Rattle.rules.specs.Bytes.{good_method, chained}
use Rattle.rules.specs.Derivations.{scene_of}
use Rattle.rules.specs.Rules.{in_order, by_depth, rule12, rule13-30-14, rule15-29-16, rule17, rule18, rule19, rule20, judged}
use Rattle.rules.proofs.SceneLaws.{turns_at}
use Rattle.faults.specs.Fault.{Number, n12, n13, n30, n14, n15, n29, n16, n17, n18, n19, n20, rule_of, Fault}
use Rattle.faults.specs.Order.{Earlier, order_of, First}
use Rattle.faults.proofs.TellsLaws.{Tells, tells_as, tells_not, tells_most}
use Rattle.faults.proofs.FaultLaws.{tells_primary, tells_place, tells_chained, tells_bytes, tells_readable, tells_configured, tells_ispe}
use Rattle.faults.proofs.DerivationLaws.{rule-17-there, rule-17-absent}
use Rattle.faults.proofs.SizeLaws.{tells_sizes}
use Rattle.faults.proofs.FirstLaws.{
  order_stage,
  order_lap,
  Finds,
  Examines,
  Just,
  examines_one,
  examines_check,
  just_apart,
  examines_none,
  examines_then,
  examines_as,
  Within,
  Rows,
  examines_rows,
}

-- Earlier: of two lists as long as each other, one is earlier or they are the same
ordered : (xs ys : List ℕ) → length xs ≡ length ys → Earlier xs ys ⊎ ((xs ≡ ys) ⊎ Earlier ys xs)
ordered [] [] e = inr (inl refl)
ordered [] (y ∷ ys) e = absurd (omega arith)
ordered (x ∷ xs) [] e = absurd (omega arith)
ordered (x ∷ xs) (y ∷ ys) e = elim (dec_lt x y) [
  | yes l ↦ inl (inl l)
  | no n ↦ elim (dec_lt y x)
      [ yes l ↦ inr (inr (inl l)) | no m ↦ same (omega (arith, n, m)) (ordered xs ys (omega arith)) ]
]
  where
    same : x ≡ y → Earlier xs ys ⊎ ((xs ≡ ys) ⊎ Earlier ys xs) → Earlier (x ∷ xs) (y ∷ ys) ⊎ (((x ∷ xs) ≡ (y ∷ ys)) ⊎ Earlier (y ∷ ys) (x ∷ xs))
    same q (inl e) = inl (inr (q, e))
    same q (inr (inl e)) = inr (inl (cc))
    same q (inr (inr e)) = inr (inr (inr (sym q, e)))

-- Number: a stage and a rank name one rule
abbrev of_turn : ℕ → ℕ → Number
of_turn stage rank =
    pick (eqb stage 0) n12 (pick (eqb stage 1) (pick (eqb rank 0) n13 (pick (eqb rank 1) n30 n14))
    (pick (eqb stage 2) (pick (eqb rank 0) n15 (pick (eqb rank 1) n29 n16))
    (pick (eqb stage 3) n17 (pick (eqb stage 4) n18 (pick (eqb stage 5) n19 n20)))))

module _ (total : ℕ) (head : List ℕ) (f : File) where
  turned : (n : Number) → of_turn (rule_of total head f n).stage (rule_of total head f n).rank ≡ n
  unfolding pick
  turned n12 = refl
  turned n13 = refl
  turned n30 = refl
  turned n14 = refl
  turned n15 = refl
  turned n29 = refl
  turned n16 = refl
  turned n17 = refl
  turned n18 = refl
  turned n19 = refl
  turned n20 = refl

  one_number : (n m : Number) → (rule_of total head f n).stage ≡ (rule_of total head f m).stage →
      (rule_of total head f n).rank ≡ (rule_of total head f m).rank → n ≡ m
  one_number n m a b = sym (turned n) ∙ ap (λ (k : ℕ). of_turn k (rule_of total head f n).rank) a ∙
      ap (of_turn (rule_of total head f m).stage) b ∙ turned m

module _ (total : ℕ) (head : List ℕ) (f : File) where
  abbrev s : Scene
  s = scene_of total head f

  abbrev F : Number → ℕ → Type 0
  F n r = Fault total head f n r

  abbrev Ex : Answer (Unit {0}) → (Number → ℕ → Type 0) → Type 0
  Ex m In = Examines total head f m In

  abbrev J : Number → ℕ → Number → ℕ → Type 0
  J n r m q = Just total head f n r m q

  -- a fault of a listed row is told by the test of its rule
  told : (n : Number) (r : ℕ) {t : Bool} → r < (rule_of total head f n).rows → Tells t ((rule_of total head f n).Wrong r) → Tells t (F n r)
  told n r l k = tells_as (λ w. record { listed = l; there = w }) (λ w. w.there) k

  just_fault : (n : Number) (r : ℕ) (m : Number) (q : ℕ) → J n r m q → F m q → F n r
  just_fault n r m q i w = subst (λ (q : ℕ). F n q) i.1 (subst (λ (m : Number). F m q) i.0 w)

  just_within : (n : Number) (stage lap r : ℕ) → (rule_of total head f n).stage ≡ stage →
      (rule_of total head f n).lap r ≡ lap → Within total head f stage lap r (J n r)
  just_within n stage lap r a b =
      record {
        stage_is = λ m q i. ap (λ (m : Number). (rule_of total head f m).stage) i.0 ∙ a;
        lap-is = λ m q i. ap (λ (m : Number). (rule_of total head f m).lap q) i.0 ∙ ap (rule_of total head f n).lap i.1 ∙ b;
        row_is = λ m q i. i.1;
      }

  -- the faults of two and of three numbers in one row
  abbrev Two : Number → Number → ℕ → Number → ℕ → Type 0
  Two a b r m q = J a r m q ⊎ J b r m q

  abbrev Three : Number → Number → Number → ℕ → Number → ℕ → Type 0
  Three a b c r m q = Two a b r m q ⊎ J c r m q

  either_within : (A B : Number → ℕ → Type 0) (stage lap r : ℕ) → Within total head f stage lap r A →
      Within total head f stage lap r B → Within total head f stage lap r (λ m q. A m q ⊎ B m q)
  either_within A B stage lap r x y = record { stage_is = st; lap-is = la; row_is = ro }
    where
      st : (m : Number) (q : ℕ) → A m q ⊎ B m q → (rule_of total head f m).stage ≡ stage
      st m q (inl i) = x.stage_is m q i
      st m q (inr i) = y.stage_is m q i

      la : (m : Number) (q : ℕ) → A m q ⊎ B m q → (rule_of total head f m).lap q ≡ lap
      la m q (inl i) = x.lap-is m q i
      la m q (inr i) = y.lap-is m q i

      ro : (m : Number) (q : ℕ) → A m q ⊎ B m q → q ≡ r
      ro m q (inl i) = x.row_is m q i
      ro m q (inr i) = y.row_is m q i

  -- 20, of a picture of depth d
  abbrev At : ℕ → ℕ → Number → ℕ → Type 0
  At d r m q = J n20 r m q × (depth s r ≡ d)

  at-within : (d r : ℕ) → Within total head f 6 d r (At d r)
  at-within d r =
      record {
        stage_is = λ m q i. ap (λ (m : Number). (rule_of total head f m).stage) i.0.0;
        lap-is = λ m q i. ap (λ (m : Number). (rule_of total head f m).lap q) i.0.0 ∙ ap (depth s) i.0.1 ∙ i.1;
        row_is = λ m q i. i.0.1;
      }

  module _ (r : ℕ) (l : r < length f.items) where
    -- 14 comes behind 13 and 30
    bytes_apart : (n : Number) (a : ℕ) (m : Number) (q : ℕ) → Two n13 n30 r n a → J n14 r m q →
        Earlier (order_of total head f m q) (order_of total head f n a) → ⊥
    bytes_apart n a m q (inl i) = just_apart total head f n13 n14 r (omega arith) (omega arith) (omega arith) n a m q i
    bytes_apart n a m q (inr i) = just_apart total head f n30 n14 r (omega arith) (omega arith) (omega arith) n a m q i

    placed_examined : Ex (rule13-30-14 total head f (item_at f r)) (Three n13 n30 n14 r)
    unfolding rule13-30-14
    placed_examined =
        examines_then total head f _ _ (Two n13 n30 r) (J n14 r) bytes_apart
        (examines_then total head f _ _ (J n13 r) (J n30 r) (just_apart total head f n13 n30 r (omega arith) (omega arith) (omega arith))
        (examines_check total head f n13 r _ (told n13 r l (tells_place (location_of f (item_at f r).id))))
        (λ e. examines_check total head f n30 r _ (told n30 r l (tells_chained f (item_at f r).id))))
        (λ e. let x = then_ok _ _ tt e in
        let p = and_both (good_method (location_of f (item_at f r).id)) _ (check-ok 13 _ _ x.0 x.1) in
        let m = and_both (leb (location_of f (item_at f r).id).method 2) _ p.0 in
        examines_check total head f n14 r _
        (told n14 r l (tells_bytes total head f (item_at f r) (leb-true _ 2 m.0) (check-ok 30 _ _ tt x.2))))

    -- no fault of image items in an opaque one's row
    opaque_three : image (item_at f r).type ≡ false → (m : Number) (q : ℕ) → Three n15 n29 n16 r m q → F m q → ⊥
    opaque_three e m q (inl (inl i)) w = untrue (sym e ∙ (just_fault n15 r m q i w).there.0)
    opaque_three e m q (inl (inr i)) w = untrue (sym e ∙ ap image (just_fault n29 r m q i w).there.0)
    opaque_three e m q (inr i) w = untrue (sym e ∙ (just_fault n16 r m q i w).there.0)

    -- 16 comes behind 15 and 29
    last_apart : (n : Number) (a : ℕ) (m : Number) (q : ℕ) → Two n15 n29 r n a → J n16 r m q →
        Earlier (order_of total head f m q) (order_of total head f n a) → ⊥
    last_apart n a m q (inl i) = just_apart total head f n15 n16 r (omega arith) (omega arith) (omega arith) n a m q i
    last_apart n a m q (inr i) = just_apart total head f n29 n16 r (omega arith) (omega arith) (omega arith) n a m q i

    declared_examined : Ex (rule15-29-16 f (item_at f r)) (Three n15 n29 n16 r)
    unfolding rule15-29-16
    declared_examined =
        both (λ (m : Answer (Unit {0})). Ex m (Three n15 n29 n16 r)) (image (item_at f r).type) _ _
        (λ e. examines_then total head f _ _ (Two n15 n29 r) (J n16 r) last_apart
        (examines_then total head f _ _ (J n15 r) (J n29 r) (just_apart total head f n15 n29 r (omega arith) (omega arith) (omega arith))
        (examines_check total head f n15 r _ (told n15 r l (tells_as (λ w. (e, w)) (λ w. w.1) (tells_readable f (item_at f r)))))
        (λ e. examines_check total head f n29 r _ (told n29 r l (tells_configured f (item_at f r)))))
        (λ q. examines_check total head f n16 r _ (told n16 r l (tells_as (λ w. (e, w)) (λ w. w.1) (tells_ispe (types_of f (item_at f r).id))))))
        (λ e. examines_none total head f _ (opaque_three e))

    derived_examined : chained 8 f (item_at f r).id ≡ true → Ex (rule17 total head f (item_at f r)) (J n17 r)
    derived_examined good =
        examines_one total head f n17 r _
        (λ e w. rule-17-absent total head f (item_at f r) good e w.there)
        (λ k p e. let x = rule-17-there total head f (item_at f r) good k p e in (x.0, record { listed = l; there = x.1 }))

    itself_examined : Ex (rule18 s r (item_at f r)) (J n18 r)
    unfolding rule18
    itself_examined = examines_check total head f n18 r _
        (told n18 r l (tells_as (itself_derives s r) (derives_itself_lem s r) (tells_not (derives_itself s r))))

    deep_examined : Ex (rule19 s r (item_at f r)) (J n19 r)
    unfolding rule19
    deep_examined = examines_check total head f n19 r _ (told n19 r l (tells_most (depth s r) 16))

    sizes_tell : image (item_at f r).type ≡ true → good_size (output_of (picture_at s r)) ≡ true → AllFit (picture_at s r).turns (picture_at s r).declared
    unfolding output_of
    sizes_tell e g = rw (turns_at total head f r e) (turns_fit (boxes_of f (item_at f r).id) (picture_at s r).declared (rw (turns_at total head f r e) at g))

    sized_examined : (d : ℕ) → Ex (rule20 s d r (item_at f r)) (At d r)
    unfolding rule20
    sized_examined d =
        both (λ (m : Answer (Unit {0})). Ex m (At d r)) (image (item_at f r).type && eqb (depth s r) d) _ _
        (λ e. let k = and_both (image (item_at f r).type) _ e in
        examines_as total head f _ (J n20 r) (At d r) (λ m q i. (i, eqb-true _ _ k.1)) (λ m q w i. i.0)
        (examines_check total head f n20 r _ (told n20 r l (tells_as (λ w. (k.0, w)) (λ w. w.1) (tells_sizes s (picture_at s r) (sizes_tell k.0))))))
        (λ e. examines_none total head f _ (λ m q i w. untrue (sym e ∙ both-and _ _ (just_fault n20 r m q i.0 w).there.0 (eq-eqb _ _ i.1))))

  -- in_order: the rules of a stage, row by row
  abbrev Stage : (ℕ → Number → ℕ → Type 0) → Number → ℕ → Type 0
  Stage In m q = Rows total head f In 0 (length f.items) m q

  stage_examined : (g : ℕ → Item → Answer (Unit {0})) (In : ℕ → Number → ℕ → Type 0) (stage lap : ℕ) →
      ((r : ℕ) → Within total head f stage lap r (In r)) → ((r : ℕ) → r < length f.items →
      Ex (g r (item_at f r)) (In r)) → Ex (in_order g 0 f.items) (Stage In)
  stage_examined g In stage lap w h = examines_rows total head f g In stage lap w 0 f.items (λ j l. rw zero-add (h j l))

  -- by_depth
  abbrev Laps : ℕ → ℕ → Number → ℕ → Type 0
  Laps n d m q = (e : ℕ) × (e < n) × Stage (At (d + e)) m q

  depths_examined : (n d : ℕ) → Ex (by_depth s f.items n d) (Laps n d)
  unfolding by_depth
  depths_examined zero d = examines_none total head f _ (λ m q i w. let z = i.1 in omega arith)
  depths_examined (suc n) d =
      examines_as total head f _ _ _ to from
      (examines_then total head f _ _ (Stage (At d)) (Laps n (suc d)) apart
      (stage_examined (rule20 s d) (At d) 6 d (at-within d) (λ r l. sized_examined r l d))
      (λ e. depths_examined n (suc d)))
    where
      apart : (a : Number) (r : ℕ) (m : Number) (q : ℕ) → Stage (At d) a r → Laps n (suc d) m q →
          Earlier (order_of total head f m q) (order_of total head f a r) → ⊥
      apart a r m q i j y =
          let x = at-within d (0 + i.0) in
          let z = at-within (suc d + j.0) (0 + j.2.0) in
          let xs = x.stage_is a r i.2 in
          let zs = z.stage_is m q j.2.2 in
          let xl = x.lap-is a r i.2 in
          let zl = z.lap-is m q j.2.2 in
          let h = order_lap total head f m q a r (omega arith) y in
          omega arith

      to : (m : Number) (q : ℕ) → Stage (At d) m q ⊎ Laps n (suc d) m q → Laps (suc n) d m q
      to m q (inl i) = (0, (omega arith), rw add-zero i)
      to m q (inr j) = let z : suc d + j.0 ≡ d + suc j.0 = omega arith in (suc j.0, (omega (arith, j.1)), rw z at j.2)

      from : (m : Number) (q : ℕ) → F m q → Laps (suc n) d m q → Stage (At d) m q ⊎ Laps n (suc d) m q
      from m q w c = by c.0 c.1 c.2
        where
          by : (e : ℕ) → e < suc n → Stage (At (d + e)) m q → Stage (At d) m q ⊎ Laps n (suc d) m q
          by zero l i = inl (rw add-zero at i)
          by (suc e) l i = let z : d + suc e ≡ suc d + e = omega arith in inr (e, (omega arith), rw z at i)

  -- one stage after the others
  abbrev Below : ℕ → (Number → ℕ → Type 0) → Type 0
  Below k In = (n : Number) (r : ℕ) → In n r → (rule_of total head f n).stage < k

  abbrev IsStage : ℕ → (Number → ℕ → Type 0) → Type 0
  IsStage k In = (n : Number) (r : ℕ) → In n r → (rule_of total head f n).stage ≡ k

  rows-stage : (In : ℕ → Number → ℕ → Type 0) (k lap : ℕ) → ((r : ℕ) → Within total head f k lap r (In r)) → IsStage k (Stage In)
  rows-stage In k lap w n r i = (w (0 + i.0)).stage_is n r i.2

  laps_stage : IsStage 6 (Laps 17 0)
  laps_stage n r i = (at-within (0 + i.0) (0 + i.2.0)).stage_is n r i.2.2

  next_stage : (k : ℕ) (a b : Answer (Unit {0})) (A B : Number → ℕ → Type 0) → Ex a A × Below k A → (a ≡ ok tt → Ex b B) →
      IsStage k B → Ex (a >> b) (λ n r. A n r ⊎ B n r) × Below (suc k) (λ n r. A n r ⊎ B n r)
  next_stage k a b A B x y st = (
    examines_then total head f a b A B
        (λ n r m q i j e. let h = order_stage total head f m q n r e in let g = x.1 n r i in let z = st m q j in
        omega arith) x.0 y,
    low,
  )
    where
      low : Below (suc k) (λ n r. A n r ⊎ B n r)
      low n r (inl i) = let g = x.1 n r i in omega arith
      low n r (inr j) = let z = st n r j in omega arith

  -- judged
  abbrev Early : Number → ℕ → Type 0
  Early n r = ((((J n12 0 n r ⊎ Stage (Three n13 n30 n14) n r) ⊎ Stage (Three n15 n29 n16) n r) ⊎ Stage (J n17) n r) ⊎ Stage (J n18) n r) ⊎ Stage (J n19) n r

  abbrev Asked : Number → ℕ → Type 0
  Asked n r = Early n r ⊎ Laps 17 0 n r

  primary_examined : Ex (rule12 f) (J n12 0)
  unfolding rule12
  primary_examined = examines_check total head f n12 0 _ (told n12 0 (omega arith) (tells_primary f))

  three_within : (a b c : Number) (stage r : ℕ) → Within total head f stage 0 r (J a r) → Within total head f stage 0 r (J b r) →
      Within total head f stage 0 r (J c r) → Within total head f stage 0 r (Three a b c r)
  three_within a b c stage r x y z =
      either_within (Two a b r) (J c r) stage 0 r (either_within (J a r) (J b r) stage 0 r x y) z

  placed-within : (r : ℕ) → Within total head f 1 0 r (Three n13 n30 n14 r)
  placed-within r =
      three_within n13 n30 n14 1 r (just_within n13 1 0 r refl refl) (just_within n30 1 0 r refl refl) (just_within n14 1 0 r refl refl)

  declared-within : (r : ℕ) → Within total head f 2 0 r (Three n15 n29 n16 r)
  declared-within r =
      three_within n15 n29 n16 2 r (just_within n15 2 0 r refl refl) (just_within n29 2 0 r refl refl) (just_within n16 2 0 r refl refl)

  -- the stages before 17; where they are passed every chain is good
  abbrev Stored : Number → ℕ → Type 0
  Stored n r = (J n12 0 n r ⊎ Stage (Three n13 n30 n14) n r) ⊎ Stage (Three n15 n29 n16) n r

  abbrev stored : Answer (Unit {0})
  stored =
      rule12 f >> in_order (λ r i. rule13-30-14 total head f i) 0 f.items >> in_order (λ r i. rule15-29-16 f i) 0 f.items

  stored_examined : Ex stored Stored × Below 3 Stored
  stored_examined =
      next_stage 2 _ _ _ _
      (next_stage 1 _ _ _ _ (primary_examined, (λ n r i. let z = ap (λ (n : Number). (rule_of total head f n).stage) i.0 in omega arith))
      (λ e. stage_examined _ _ 1 0 placed-within placed_examined) (rows-stage _ 1 0 placed-within))
      (λ e. stage_examined _ _ 2 0 declared-within declared_examined) (rows-stage _ 2 0 declared-within)

  stored-chained : stored ≡ ok tt → (r : ℕ) → r < length f.items → chained 8 f (item_at f r).id ≡ true
  stored-chained e r l = by (chained 8 f (item_at f r).id) refl
    where
      by : (t : Bool) → chained 8 f (item_at f r).id ≡ t → t ≡ true
      by true q = refl
      by false q =
          absurd (stored_examined.0.good e n30 r (inl (inr (r, l, inl (inr (refl, (omega arith))))))
          (record { listed = l; there = (tells_chained f (item_at f r).id).there q }))

  early_examined : Ex (stored >> in_order (λ r i. rule17 total head f i) 0 f.items >>
      in_order (rule18 s) 0 f.items >> in_order (rule19 s) 0 f.items) Early × Below 6 Early
  early_examined =
      next_stage 5 _ _ _ _
      (next_stage 4 _ _ _ _
      (next_stage 3 _ _ _ _ stored_examined
      (λ e. stage_examined _ _ 3 0 (λ r. just_within n17 3 0 r refl refl) (λ r l. derived_examined r l (stored-chained e r l)))
      (rows-stage _ 3 0 (λ r. just_within n17 3 0 r refl refl)))
      (λ e. stage_examined _ _ 4 0 (λ r. just_within n18 4 0 r refl refl) itself_examined) (rows-stage _ 4 0 (λ r. just_within n18 4 0 r refl refl)))
      (λ e. stage_examined _ _ 5 0 (λ r. just_within n19 5 0 r refl refl) deep_examined) (rows-stage _ 5 0 (λ r. just_within n19 5 0 r refl refl))

  judged_examined : Ex (judged total head f) Asked
  unfolding judged
  judged_examined = (next_stage 6 _ _ _ _ early_examined (λ e. depths_examined 17 0) laps_stage).0

  -- every fault is asked for, but 20 of pictures deeper than 16
  asked-all : (n : Number) (r : ℕ) → F n r → Asked n r ⊎ ((n ≡ n20) × (16 < depth s r))
  asked-all n12 r w = let l = w.listed in inl (inl (inl (inl (inl (inl (inl (refl, (omega arith))))))))
  asked-all n13 r w = inl (inl (inl (inl (inl (inl (inr (r, w.listed, inl (inl (refl, (omega arith))))))))))
  asked-all n30 r w = inl (inl (inl (inl (inl (inl (inr (r, w.listed, inl (inr (refl, (omega arith))))))))))
  asked-all n14 r w = inl (inl (inl (inl (inl (inl (inr (r, w.listed, inr (refl, (omega arith)))))))))
  asked-all n15 r w = inl (inl (inl (inl (inl (inr (r, w.listed, inl (inl (refl, (omega arith)))))))))
  asked-all n29 r w = inl (inl (inl (inl (inl (inr (r, w.listed, inl (inr (refl, (omega arith)))))))))
  asked-all n16 r w = inl (inl (inl (inl (inl (inr (r, w.listed, inr (refl, (omega arith))))))))
  asked-all n17 r w = inl (inl (inl (inl (inr (r, w.listed, (refl, (omega arith)))))))
  asked-all n18 r w = inl (inl (inl (inr (r, w.listed, (refl, (omega arith))))))
  asked-all n19 r w = inl (inl (inr (r, w.listed, (refl, (omega arith)))))
  asked-all n20 r w =
      elim (dec_lt (depth s r) 17) [
        | yes h ↦ inl (inr (depth s r, h, (r, w.listed, ((refl, (omega arith)), ap (depth s) (zero-add r) ∙ sym (zero-add (depth s r))))))
        | no h ↦ inr (refl, (omega (arith, h)))
      ]

  -- no refusal, no fault
  pub judged-good : judged total head f ≡ ok tt → (n : Number) (r : ℕ) → F n r → ⊥
  judged-good e n r w = by (asked-all n r w)
    where
      by : Asked n r ⊎ ((n ≡ n20) × (16 < depth s r)) → ⊥
      by (inl i) = judged_examined.good e n r i w
      by (inr d) = judged_examined.good e n19 r (inl (inr (r, deep.listed, (refl, (omega arith))))) deep
        where
          deep : F n19 r
          deep = record { listed = subst (λ (n : Number). r < (rule_of total head f n).rows) d.0 w.listed; there = d.1 }

  last-stage : (n : Number) (r : ℕ) → Asked n r → (rule_of total head f n).stage ≤ 6
  last-stage n r (inl i) = let z = early_examined.1 n r i in omega arith
  last-stage n r (inr i) = let z = laps_stage n r i in omega arith

  -- a refusal is the first fault
  shallow : (n : Number) (r : ℕ) → Asked n r → 6 ≤ (rule_of total head f n).stage → (rule_of total head f n).lap r < 17
  shallow n r (inl i) h = let z = early_examined.1 n r i in absurd (omega arith)
  shallow n r (inr i) h = let z = (at-within (0 + i.0) (0 + i.2.0)).lap-is n r i.2.2 in let y = i.1 in omega arith

  pub judged-first : (k p : ℕ) → judged total head f ≡ refuse k p → (n : Number) × (r : ℕ) × First total head f n r ×
      (k ≡ (rule_of total head f n).number) × (p ≡ (rule_of total head f n).place r)
  judged-first k p e = (x.number, x.row, record { present = x.there; none_before = λ m q y w. by m q y w (asked-all m q w) }, x.number_is, x.place_is)
    where
      x : Finds total head f Asked k p
      x = judged_examined.first k p e

      by : (m : Number) (q : ℕ) → Earlier (order_of total head f m q) (order_of total head f x.number x.row) → F m q →
          Asked m q ⊎ ((m ≡ n20) × (16 < depth s q)) → ⊥
      by m q y w (inl i) = x.none_before m q i y w
      by m q y w (inr d) =
          let st = ap (λ (m : Number). (rule_of total head f m).stage) d.0 in
          let la = ap (λ (m : Number). (rule_of total head f m).lap q) d.0 in
          let a = order_stage total head f m q x.number x.row y in
          let b = shallow x.number x.row x.among (omega arith) in
          let low = last-stage x.number x.row x.among in
          let c = order_lap total head f m q x.number x.row (omega arith) y in
          let z = d.1 in
          omega arith

  -- and the other way round: where no fault is, nothing is refused, and the first fault is what is refused
  pub good-judged : ((n : Number) (r : ℕ) → F n r → ⊥) → judged total head f ≡ ok tt
  good-judged none = by (judged total head f) refl
    where
      by : (m : Answer (Unit {0})) → judged total head f ≡ m → m ≡ ok tt
      by (ok u) e = refl
      by (refuse k p) e = let x = judged-first k p e in absurd (none x.0 x.1 x.2.present)

  pub one-first : (n : Number) (r : ℕ) (m : Number) (q : ℕ) → First total head f n r → First total head f m q → (n ≡ m) × (r ≡ q)
  one-first n r m q x y = by (ordered (order_of total head f n r) (order_of total head f m q) refl)
    where
      by : Earlier (order_of total head f n r) (order_of total head f m q) ⊎
          ((order_of total head f n r ≡ order_of total head f m q) ⊎
          Earlier (order_of total head f m q) (order_of total head f n r)) → (n ≡ m) × (r ≡ q)
      by (inl e) = absurd (y.none_before n r e x.present)
      by (inr (inl e)) = (
        one_number total head f n m (ap (λ (l : List ℕ). get_or l 0 0) e) (ap (λ (l : List ℕ). get_or l 3 0) e),
        ap (λ (l : List ℕ). get_or l 2 0) e,
      )
      by (inr (inr e)) = absurd (x.none_before m q e y.present)

  pub first-judged : (n : Number) (r : ℕ) → First total head f n r →
      judged total head f ≡ refuse (rule_of total head f n).number ((rule_of total head f n).place r)
  first-judged n r x = by (judged total head f) refl
    where
      by : (m : Answer (Unit {0})) → judged total head f ≡ m → m ≡ refuse (rule_of total head f n).number ((rule_of total head f n).place r)
      by (ok u) e = absurd (judged-good e n r x.present)
      by (refuse k p) e =
          let y = judged-first k p e in
          let z = one-first y.0 y.1 n r y.2 x in
          ap (λ (k : ℕ). refuse k p) y.3 ∙ ap (refuse (rule_of total head f y.0).number) y.4 ∙
          (ap (λ (n : Number). refuse (rule_of total head f n).number ((rule_of total head f n).place y.1)) z.0
          ∙ ap (λ (r : ℕ). refuse (rule_of total head f n).number ((rule_of total head f n).place r)) z.1)
