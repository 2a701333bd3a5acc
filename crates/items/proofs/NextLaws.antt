-- The next box of an `iinf`, one way out at a time. Assumes nothing.
use Prim.Native.Nat.{ℕ, ◌+◌, ◌-◌, ◌≤◌, ◌<◌}
use native.Mathlib.Omega.{arith}
use mathlib.Core.Path.{◌≡◌, sym, ◌∙◌, subst}
use mathlib.Core.List.{List, [], ◌∷◌, ◌++◌}
use lib.ListN.{length, take, drop}
use Rattle.std.specs.Prelude.{Ok, Err}
use borrow.Author.Tests.{eq-eqb, ne_eqb}
use Rattle.boxes.specs.Answer.{ok, refuse, check, ◌>>=◌, ◌>>◌}
use Rattle.boxes.specs.Types.{infe}
use Rattle.boxes.specs.Box.{kind_of, body_of}
use Rattle.boxes.specs.inner.Header.{child_at}
use Rattle.boxes.specs.declared.Refusal.{Refusal}
use Rattle.boxes.specs.declared.Child.TheVariants as child
use Rattle.boxes.proofs.ContainLaws.{Stood, stood, stood_body}
use Rattle.forms.specs.Form.{front}
use Rattle.contents.specs.Iinf.{Item, infe_form, infe_step}
use Rattle.items.specs.declared.Keys.{Keys}
use Rattle.items.specs.declared.Info.{Info}
use Rattle.items.specs.inner.Told.{item_of, InfeIs, NextIs}
use Rattle.items.proofs.StepLaws.{exactly-box, exactly-bad, exactly_spare, exactly-none}

-- infe-step
module _ (at : ℕ) (before : List Item) (b : List ℕ) where
  step_kind : (kind_of b ≡ infe → ⊥) → infe_step at before b ≡ refuse 10 at
  unfolding infe_step check ◌>>◌
  step_kind h = rw (ne_eqb (kind_of b) infe h)

  module _ (k : kind_of b ≡ infe) where
    step_ok : (i : Item) → front (infe_form before) at (body_of b) ≡ ok i → infe_step at before b ≡ ok (before ++ (i ∷ []))
    unfolding infe_step check ◌>>◌ ◌>>=◌
    step_ok i e = rw (eq-eqb (kind_of b) infe k, e)

    step_refused : (n q : ℕ) → front (infe_form before) at (body_of b) ≡ refuse n q → infe_step at before b ≡ refuse n q
    unfolding infe_step check ◌>>◌ ◌>>=◌
    step_refused n q e = rw (eq-eqb (kind_of b) infe k, e)

-- child_at
pub child_room : (s : List ℕ) (at kind body end : ℕ) → child_at s at ≡ child.Whole kind body end → (at < body) × (body ≤ end) × (end ≤ length s)
child_room s at kind body end e = let w = stood s at kind body end e in (w.order.0, w.order.1, w.inside)

-- NextIs
module _ (s : List ℕ) (at p base : ℕ) (before : List Item) (held : Keys) where
  pub next_bad : child_at s at ≡ child.Bad → NextIs s at p base before held (Err (record { number = 3; place = base + at }))
  next_bad e = λ n. exactly-bad infe_step p base s n at before e

  pub next_spare : child_at s at ≡ child.Spare → NextIs s at p base before held (Err (record { number = 8; place = p }))
  next_spare e = λ n. exactly_spare infe_step p base s n at before e

  pub next_none : child_at s at ≡ child.End → NextIs s at p base before held (Err (record { number = 8; place = p }))
  next_none e = λ n. exactly-none infe_step p base s n at before e

  module _ (kind body end : ℕ) (e : child_at s at ≡ child.Whole kind body end) where
    abbrev box : List ℕ
    box = take (end - at) (drop at s)

    there : Stood s at kind body end
    there = stood s at kind body end e

    refused : (r : Refusal) → infe_step (base + at) before box ≡ refuse r.number r.place → NextIs s at p base before held (Err r)
    unfolding ◌>>=◌
    refused r q = λ n. exactly-box infe_step p base s n at before kind body end there ∙ rw q

    pub next_kind : (kind ≡ infe → ⊥) → NextIs s at p base before held (Err (record { number = 10; place = base + at }))
    next_kind h = refused (record { number = 10; place = base + at }) (step_kind (base + at) before box (λ q. h (sym there.its_kind ∙ q)))

    module _ (k : kind ≡ infe) where
      pub next_refused : (r : Refusal) → InfeIs before held (take (end - body) (drop body s)) (base + at) (Err r) → NextIs s at p base before held (Err r)
      next_refused r f = refused r (step_refused (base + at) before box (there.its_kind ∙ k) r.number r.place
          (subst (λ (l : List ℕ). InfeIs before held l (base + at) (Err r)) (stood_body s at kind body end there) f))

      pub next_is : (j : Info) → InfeIs before held (take (end - body) (drop body s)) (base + at) (Ok j) →
          NextIs s at p base before held (Ok (record { info = j; end = end }))
      unfolding ◌>>=◌
      next_is j f =
          let i = subst (λ (l : List ℕ). InfeIs before held l (base + at) (Ok j)) (stood_body s at kind body end there) f in
          let o = step_ok (base + at) before box (there.its_kind ∙ k) (item_of j) i.0 in
          let r = child_room s at kind body end e in
          (omega arith, r.2, (λ n. exactly-box infe_step p base s n at before kind body end there ∙ rw o), i.1)
