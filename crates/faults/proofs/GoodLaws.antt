-- Demand 2: a file is accepted exactly when it keeps the rules, its structure is the only one, and what is refused is
-- refused by the first fault. Assumes nothing.
use Prim.Native.Nat.{ℕ}
use mathlib.Core.Path.{◌≡◌, refl, sym, ap, subst, ◌∙◌}
use mathlib.Core.List.{List}
use mathlib.Core.Logic.{◌⊎◌, inl, inr}
use Rattle.boxes.specs.Answer.{Answer, ok, refuse, ◌>>◌}
use Rattle.boxes.proofs.AnswerLaws.{bind_ok, ok_bind, then_ok, ok-then, ok_inj, bind_refuse, with_then, refuse_bind, refuse-same, not-refused}
use Rattle.contents.specs.File.{File, read_file}
use Rattle.contents.proofs.ReadLaws.{read-sound, read-complete, one_in}
use Rattle.contents.proofs.BreakLaws.{read_broken, broken_read}
use Rattle.rules.specs.Rules.{judged}
use Rattle.rules.specs.Opening.{accepted}
use Rattle.faults.specs.Fault.{rule_of}
use Rattle.faults.specs.Good.{GoodFile, Refused, unread, at_fault}
use Rattle.faults.proofs.JudgedLaws.{judged-good, judged-first, good-judged, first-judged}

module _ (total : ℕ) (head : List ℕ) where
  -- accepted exactly when it keeps the rules
  pub accepted-good : (f : File) → accepted total head ≡ ok f → GoodFile total head f
  unfolding accepted
  accepted-good f e =
      let x = bind_ok _ _ f e in
      let y = then_ok _ _ f x.2 in
      subst (GoodFile total head) (ok_inj _ f y.2) (record
      { spelled = read-sound total head x.0 x.1; no_fault = judged-good total head x.0 y.1 })

  pub good-accepted : (f : File) → GoodFile total head f → accepted total head ≡ ok f
  unfolding accepted
  good-accepted f g = ok_bind _ _ f (read-complete total head f g.spelled) ∙ ok-then _ _ tt (good-judged total head f g.no_fault)

  pub one-good : (f g : File) → GoodFile total head f → GoodFile total head g → f ≡ g
  one-good f g x y = one_in total head f g x.spelled y.spelled

  pub refused-first : (n p : ℕ) → accepted total head ≡ refuse n p → Refused total head n p
  unfolding accepted
  refused-first n p e = by (bind_refuse (read_file total head) _ n p e)
    where
      by : (read_file total head ≡ refuse n p) ⊎ ((f : File) × (read_file total head ≡ ok f) ×
          ((judged total head f >> ok f) ≡ refuse n p)) → Refused total head n p
      by (inl e) = unread (read_broken total head n p e)
      by (inr (f, e, q)) =
          with_then (judged total head f) (ok f) n p q (λ z.
          let x = judged-first total head f n p z in at_fault f x.0 x.1 (read-sound total head f e) x.2 x.3 x.4)
          (λ u z y. not-refused f n p y)

  pub first-refused : (n p : ℕ) → Refused total head n p → accepted total head ≡ refuse n p
  unfolding accepted ◌>>◌
  first-refused n p (unread h) = refuse_bind _ n p (broken_read total head n p h) _
  first-refused n p (at_fault f k r i x a b) =
      ok_bind _ _ f (read-complete total head f i) ∙ ap (λ (m : Answer (Unit {0})). m >> ok f)
      (first-judged total head f k r x) ∙ (ap (λ (j : ℕ). refuse j ((rule_of total head f k).place r)) (sym a) ∙
      ap (refuse n) (sym b))

  -- so every file keeps the rules or is refused, and never both; it is refused by one number at one place
  pub good_or_refused : ((f : File) × GoodFile total head f) ⊎ ((n : ℕ) × (p : ℕ) × Refused total head n p)
  good_or_refused = by (accepted total head) refl
    where
      by : (m : Answer File) → accepted total head ≡ m → ((f : File) × GoodFile total head f) ⊎
          ((n : ℕ) × (p : ℕ) × Refused total head n p)
      by (ok f) e = inl (f, accepted-good f e)
      by (refuse n p) e = inr (n, p, refused-first n p e)

  pub good_unrefused : (f : File) (n p : ℕ) → GoodFile total head f → Refused total head n p → ⊥
  good_unrefused f n p g r = not-refused f n p (sym (good-accepted f g) ∙ first-refused n p r)

  pub one-refused : (n p k q : ℕ) → Refused total head n p → Refused total head k q → (n ≡ k) × (p ≡ q)
  one-refused n p k q r s = refuse-same k q n p (sym (first-refused k q s) ∙ first-refused n p r)
