-- Each test of rules 12 to 20, 29 and 30 tells its fault: 14 of an item that 13 and 30 let pass, as only such an item is asked.
-- Assumes nothing.
use Prim.Native.Nat.{ℕ, zero, suc, ◌+◌, ◌≤◌, ◌<◌}
use native.Mathlib.Omega.{arith}
use native.Mathlib.Nat.{zero-add}
use mathlib.Core.Path.{◌≡◌, refl, sym, ap, ◌∙◌}
use mathlib.Core.List.{List, [], ◌∷◌, ◌++◌}
use mathlib.Core.Bool.{Bool, true, false, ◌&&◌, ◌||◌, not}
use mathlib.Core.Logic.{◌⊎◌, inl, inr}
use lib.ListN.{length, get_or-eq_default}
use lib.Dec.{leb, eqb}
use borrow.Author.Tests.{eqb-true, eqb-false, eq-eqb}
use Rattle.fields.specs.Choice.{pick}
use Rattle.fields.specs.Lists.{member}
use Rattle.fields.proofs.FieldLaws.{both}
use Rattle.fields.proofs.TestLaws.{untrue, and_both, both-and, member-there}
use Rattle.boxes.specs.Answer.{ok}
use Rattle.boxes.specs.Types.{ispe, hvc1, known_property, coded, image}
use Rattle.boxes.specs.Box.{kind_of}
use Rattle.contents.specs.Iinf.{Item}
use Rattle.contents.specs.Iloc.{Extent, Location}
use Rattle.contents.specs.Ipma.{Association}
use Rattle.contents.specs.File.{File}
use Rattle.pictures.specs.Decode.{transform}
use Rattle.rules.specs.Joined.{location_of, associations_of, property_at, row_of, no_item, item_at}
use Rattle.rules.specs.Bytes.{all_extents, good_method, good_lengths, named, chained, length_of, names_past, source_of, byte_of, within}
use Rattle.rules.specs.inner.Direct.{store_of}
use Rattle.rules.specs.Links.{Among, BadChain}
use Rattle.rules.specs.Derivations.{nothing_in}
use Rattle.rules.specs.Rules.{good_primary, has_bytes, essential_known, configurations, one_marked, configured, count_of, ispe_before, good_ispe}
use Rattle.rules.proofs.ChainLaws.{thirty, names-past, named-link}
use Rattle.rules.proofs.ByteLaws.{named-size, other-size}
use Rattle.faults.specs.Fault.{
  Any,
  Not,
  PrimaryWrong,
  unlisted,
  opaque,
  hidden,
  WrongPlace,
  method,
  reference,
  no_length,
  end_of,
  WrongBytes,
  past-file,
  past-idat,
  past-item,
  past_sum,
  without,
  NotReadable,
  protected,
  unknown,
  WrongConfiguration,
  unmarked,
  WrongIspe,
  not-one,
  late,
}
use Rattle.faults.proofs.TellsLaws.{
  Tells,
  tells_as,
  tells_and,
  tells_itself,
  tells_not,
  tells_where,
  tells_if,
  tells_equal,
  tells_other,
  tells_most,
  tells_each,
}

-- 12, good_primary
pub tells_primary : (f : File) → Tells (good_primary f) (PrimaryWrong f)
tells_primary f = tells_as to from (tells_and (image i.type) (eqb i.hidden 0) (tells_itself _) (tells_equal _ 0))
  where
    i : Item
    i = item_at f (row_of f.primary f.items)

    to : (image i.type ≡ false) ⊎ Not (i.hidden ≡ 0) → PrimaryWrong f
    to (inl e) = opaque e
    to (inr h) = hidden h

    from : PrimaryWrong f → (image i.type ≡ false) ⊎ Not (i.hidden ≡ 0)
    from (unlisted l) = inl (ap (λ (x : Item). image x.type) (get_or-eq_default f.items no_item {n = row_of f.primary f.items} l))
    from (opaque e) = inl e
    from (hidden h) = inr h

-- 13, good_method and good_lengths
tells_extents : (t : Extent → Bool) (P : Extent → Type 0) → ((e : Extent) → Tells (t e) (P e)) → (es : List Extent) → Tells (all_extents t es) (Any P es)
unfolding all_extents
tells_extents t P = tells_each t P (all_extents t) refl (λ x xs. refl)

pub tells_place : (l : Location) → Tells (good_method l && good_lengths l) (WrongPlace l)
tells_place l =
    tells_as to from
    (tells_and (good_method l) (good_lengths l) (tells_and (leb l.method 2) (eqb l.reference 0) (tells_most _ 2)
    (tells_equal _ 0)) (tells_extents _ (λ (e : Extent). e.size ≡ 0) (λ e. tells_other e.size 0) l.extents))
  where
    to : ((2 < l.method) ⊎ Not (l.reference ≡ 0)) ⊎ Any (λ (e : Extent). e.size ≡ 0) l.extents → WrongPlace l
    to (inl (inl m)) = method m
    to (inl (inr r)) = reference r
    to (inr a) = no_length a

    from : WrongPlace l → ((2 < l.method) ⊎ Not (l.reference ≡ 0)) ⊎ Any (λ (e : Extent). e.size ≡ 0) l.extents
    from (method m) = inl (inl m)
    from (reference r) = inl (inr r)
    from (no_length a) = inr a

-- 30, chained
pub tells_chained : (f : File) (id : ℕ) → Tells (chained 8 f id) (BadChain f id)
tells_chained f id = tells_as (thirty f id).0 (thirty f id).1 (tells_itself (chained 8 f id))

-- Any, of what is known of each
any_as : (P Q : Extent → Type 0) (es : List Extent) → ((e : Extent) → Among e es → P e → Q e) → Any P es → Any Q es
any_as P Q [] h a = elim a [ ]
any_as P Q (x ∷ es) h (inl p) = inl (h x (inl refl) p)
any_as P Q (x ∷ es) h (inr a) = inr (any_as P Q es (λ e i. h e (inr i)) a)

nothing-here : {A : Type 0} (l : List A) → nothing_in l ≡ true → l ≡ []
nothing-here [] e = refl
nothing-here (x ∷ xs) e = untrue e

-- 14, names_past, within and has_bytes
module _ (total : ℕ) (head : List ℕ) (f : File) (i : Item) where
  abbrev l : Location
  l = location_of f i.id

  abbrev source_size : Extent → ℕ
  source_size e = (source_of total head f (byte_of total head f 8) i.id e).size

  abbrev Past : Extent → Type 0
  Past e = source_size e < end_of l e

  abbrev PastFile : Extent → Type 0
  PastFile e = total < end_of l e

  abbrev PastIdat : Extent → Type 0
  PastIdat e = length f.idat < end_of l e

  abbrev PastItem : Extent → Type 0
  PastItem e = (j : ℕ) × (named f i.id e ≡ ok j) × (length_of f j < end_of l e)

  abbrev Wrong : Type 0
  Wrong = WrongBytes total f i.id l i.type

  -- how long the source is, by the method
  stored-size : (e : Extent) (m : ℕ) → l.method ≡ m → eqb m 2 ≡ false →
      source_size e ≡ (store_of total head f m).size
  stored-size e m q t =
      other-size total head f _ i.id e (ap (λ (m : ℕ). eqb m 2) q ∙ t) ∙ ap (λ (m : ℕ). (store_of total head f m).size) q

  file-size : (e : Extent) → l.method ≡ 0 → source_size e ≡ total
  unfolding pick
  file-size e q = stored-size e 0 q refl

  idat-size : (e : Extent) → l.method ≡ 1 → source_size e ≡ length f.idat
  unfolding pick
  idat-size e q = stored-size e 1 q refl

  item-size : (e : Extent) (j : ℕ) → l.method ≡ 2 → named f i.id e ≡ ok j → source_size e ≡ length_of f j
  item-size e j q z = named-size total head f _ i.id e j (ap (λ (m : ℕ). eqb m 2) q) z

  -- an extent past its source, by the method
  past-there : l.method ≤ 2 → chained 8 f i.id ≡ true → Any Past l.extents → Wrong
  past-there few good a = by l.method refl
    where
      by : (m : ℕ) → l.method ≡ m → Wrong
      by zero q = past-file q (any_as Past PastFile l.extents (λ e k p. let z = file-size e q in omega arith) a)
      by (suc zero) q = past-idat q (any_as Past PastIdat l.extents (λ e k p. let z = idat-size e q in omega arith) a)
      by (suc (suc zero)) q =
          past-item q (any_as Past PastItem l.extents (λ e k p. let x = named-link f 7 i.id e good (ap (λ (m : ℕ). eqb m 2) q) k in
          let z = item-size e x.0 q x.1 in (x.0, x.1, omega arith)) a)
      by (suc (suc (suc m))) q = absurd (omega arith)

  pub tells_bytes : l.method ≤ 2 → chained 8 f i.id ≡ true →
      Tells (not (names_past 8 f i.id) && (within total head f i.id && has_bytes f i)) Wrong
  tells_bytes few good =
      tells_as to from
      (tells_and (not (names_past 8 f i.id)) _ (tells_not _)
      (tells_and (within total head f i.id) (has_bytes f i)
      (tells_extents _ Past (λ e. tells_most (end_of l e) (source_size e)) l.extents) (tells_not _)))
    where
      to : (names_past 8 f i.id ≡ true) ⊎ (Any Past l.extents ⊎ ((coded i.type && nothing_in l.extents) ≡ true)) → Wrong
      to (inl e) = past_sum ((names-past f i.id good).0 e)
      to (inr (inl a)) = past-there few good a
      to (inr (inr e)) = let k = and_both (coded i.type) (nothing_in l.extents) e in without k.0 (nothing-here l.extents k.1)

      from : Wrong → (names_past 8 f i.id ≡ true) ⊎ (Any Past l.extents ⊎ ((coded i.type && nothing_in l.extents) ≡ true))
      from (past-file q a) = inr (inl (any_as PastFile Past l.extents (λ e k p. let z = file-size e q in omega arith) a))
      from (past-idat q a) = inr (inl (any_as PastIdat Past l.extents (λ e k p. let z = idat-size e q in omega arith) a))
      from (past-item q a) = inr (inl (any_as PastItem Past l.extents (λ e k p. let z = item-size e p.0 q p.1 in let w = p.2 in omega arith) a))
      from (past_sum w) = inl ((names-past f i.id good).1 w)
      from (without c e) = inr (inr (both-and (coded i.type) (nothing_in l.extents) c (ap nothing_in e)))

-- 15, essential_known
pub tells_readable : (f : File) (i : Item) → Tells (eqb i.protection 0 && essential_known f (associations_of f i.id)) (NotReadable f i)
unfolding essential_known
tells_readable f i =
    tells_as to from
    (tells_and (eqb i.protection 0) (essential_known f (associations_of f i.id)) (tells_equal _ 0)
    (tells_each (λ (a : Association). not a.essential || known_property (kind_of (property_at f a.index))) Unknown
    (essential_known f) refl (λ x xs. refl) (λ a. tells_if a.essential _) (associations_of f i.id)))
  where
    Unknown : Association → Type 0
    Unknown a = (a.essential ≡ true) × (known_property (kind_of (property_at f a.index)) ≡ false)

    to : Not (i.protection ≡ 0) ⊎ Any Unknown (associations_of f i.id) → NotReadable f i
    to (inl p) = protected p
    to (inr a) = unknown a

    from : NotReadable f i → Not (i.protection ≡ 0) ⊎ Any Unknown (associations_of f i.id)
    from (protected p) = inl p
    from (unknown a) = inr a

-- 29, configured
pub tells_marked : (marks : List Bool) → Tells (one_marked marks) (WrongConfiguration marks)
unfolding one_marked
tells_marked [] = record { there = λ e. not-one (λ l. omega arith); absent = λ e w. untrue e }
tells_marked (m ∷ []) = tells_as (λ e. unmarked (inl e)) from (tells_itself m)
  where
    from : WrongConfiguration (m ∷ []) → m ≡ false
    from (not-one n) = absurd (n refl)
    from (unmarked (inl e)) = e
    from (unmarked (inr x)) = absurd x
tells_marked (m ∷ (n ∷ ms)) = record { there = λ e. not-one (λ l. omega arith); absent = λ e w. untrue e }

pub tells_configured : (f : File) (i : Item) →
    Tells (configured f i) ((i.type ≡ hvc1) × WrongConfiguration (configurations f (associations_of f i.id)))
tells_configured f i =
    tells_as (λ w. (eqb-true _ _ w.0, w.1)) (λ w. (eq-eqb _ _ w.0, w.1))
    (tells_where (eqb i.type hvc1) _ (tells_marked (configurations f (associations_of f i.id))))

-- 16, count_of: none is counted where it is no member
pub tells_counted : (k : ℕ) (ks : List ℕ) → Tells (eqb (count_of k ks) 0) (member k ks ≡ true)
unfolding count_of pick
tells_counted k [] = record { there = λ e. untrue (sym e); absent = λ e w. untrue w }
tells_counted k (x ∷ xs) = by (eqb x k) refl (eqb k x) refl (tells_counted k xs)
  where
    by : (t : Bool) → eqb x k ≡ t → (u : Bool) → eqb k x ≡ u → Tells (eqb (count_of k xs) 0) (member k xs ≡ true) →
        Tells (eqb (pick t 1 0 + count_of k xs) 0) ((u || member k xs) ≡ true)
    by true p true q h = record { there = λ e. refl; absent = λ e w. let z : 1 + count_of k xs ≡ 0 = eqb-true _ 0 e in omega arith }
    by true p false q h = absurd (eqb-false k x q (sym (eqb-true x k p)))
    by false p true q h = absurd (eqb-false x k p (sym (eqb-true k x q)))
    by false p false q h = rw zero-add h

-- ispe_before
pub record Late (ks : List ℕ) : Type 0 where
  pub before : List ℕ
  pub turn : ℕ
  pub behind : List ℕ
  pub joined : before ++ (turn ∷ behind) ≡ ks
  pub turns : transform turn ≡ true
  pub again : member ispe behind ≡ true

member-behind : (k t : ℕ) (before behind : List ℕ) → member k behind ≡ true → member k (before ++ (t ∷ behind)) ≡ true
member-behind k t [] behind e = member-there k t behind e
member-behind k t (b ∷ bs) behind e = member-there k b (bs ++ (t ∷ behind)) (member-behind k t bs behind e)

pub tells_late : (ks : List ℕ) → Tells (ispe_before ks) (Late ks)
unfolding ispe_before
tells_late [] = record { there = λ e. untrue (sym e); absent = λ e w. by w.before _ _ w.joined }
  where
    by : (bs : List ℕ) (t : ℕ) (r : List ℕ) → bs ++ (t ∷ r) ≡ [] → ⊥
    by [] t r e = let z : ◌≡◌ {A = ℕ} 0 1 = cc in omega arith
    by (b ∷ bs) t r e = let z : ◌≡◌ {A = ℕ} 0 1 = cc in omega arith
tells_late (k ∷ ks) =
    both (λ (t : Bool). Tells t (Late (k ∷ ks))) (transform k) _ _
    (λ e. record {
      there = λ q. record { before = []; turn = k; behind = ks; joined = refl; turns = e; again = (tells_counted ispe ks).there q };
      absent = λ q w. (tells_counted ispe ks).absent q (in_rest w.before _ _ w.joined w.again);
    })
    (λ e. tells_as (λ w. record {
      before = k ∷ w.before;
      turn = w.turn;
      behind = w.behind;
      joined =
          ap (λ (l : List ℕ). k ∷ l) w.joined;
      turns = w.turns;
      again =
          w.again;
    }) (λ w. further e w.before w w.joined) (tells_late ks))
  where
    in_rest : (bs : List ℕ) (t : ℕ) (r : List ℕ) → bs ++ (t ∷ r) ≡ k ∷ ks → member ispe r ≡ true → member ispe ks ≡ true
    in_rest [] t r e m = let z : r ≡ ks = cc in rw z at m
    in_rest (b ∷ bs) t r e m = let z : bs ++ (t ∷ r) ≡ ks = cc in rw z at (member-behind ispe t bs r m)

    further : transform k ≡ false → (bs : List ℕ) (w : Late (k ∷ ks)) → bs ++ (w.turn ∷ w.behind) ≡ k ∷ ks → Late ks
    further e [] w j = let z : w.turn ≡ k = cc in untrue (sym e ∙ sym (ap transform z) ∙ w.turns)
    further e (b ∷ bs) w j = record {
      before = bs;
      turn = w.turn;
      behind = w.behind;
      joined = let z : bs ++
          (w.turn ∷ w.behind) ≡ ks = cc in z;
      turns = w.turns;
      again = w.again;
    }

pub tells_ispe : (ks : List ℕ) → Tells (good_ispe ks) (WrongIspe ks)
tells_ispe ks = tells_as to from (tells_and (eqb (count_of ispe ks) 1) (ispe_before ks) (tells_equal _ 1) (tells_late ks))
  where
    to : Not (count_of ispe ks ≡ 1) ⊎ Late ks → WrongIspe ks
    to (inl n) = not-one n
    to (inr w) = late w.before w.turn w.behind w.joined w.turns w.again

    from : WrongIspe ks → Not (count_of ispe ks ≡ 1) ⊎ Late ks
    from (not-one n) = inl n
    from (late b t r j k m) = inr (record { before = b; turn = t; behind = r; joined = j; turns = k; again = m })
