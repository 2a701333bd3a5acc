-- The items of an `iinf` are read exactly where its bytes spell them. Assumes nothing.
use Prim.Native.Nat.{ℕ}
use mathlib.Core.Path.{◌≡◌, sym, ap, ◌∙◌}
use mathlib.Core.List.{List, []}
use borrow.Author.Tests.{eqb-true, eq-eqb}
use Rattle.boxes.specs.Answer.{ok}
use Rattle.boxes.specs.Exactly.{exactly, Exact}
use Rattle.boxes.proofs.AnswerLaws.{bind_ok, ok_bind, then_ok, ok-then, check-ok, ok-check, ok_inj}
use Rattle.boxes.proofs.ExactlyLaws.{exactly-sound, exactly-complete}
use Rattle.forms.proofs.WholeLaws.{front-sound, front-complete}
use Rattle.forms.proofs.LeadLaws.{lead-sound, lead-complete}
use Rattle.contents.specs.Iinf.{Item, infe_form, infe_step, iinf-count, items}
use Rattle.contents.specs.Keeps.{ItemStep, Items}

-- infe-step
pub infe-sound : (at : ℕ) (before : List Item) (b : List ℕ) (after : List Item) → infe_step at before b ≡ ok after → ItemStep before b after
unfolding infe_step
infe-sound at before b after e =
    let x = then_ok _ _ after e in
    let y = bind_ok _ _ after x.2 in
    record {
      item = y.0;
      kind = eqb-true _ _ (check-ok 10 at _ x.0 x.1);
      spells = front-sound (infe_form before) at _ _ y.1;
      kept = sym (ok_inj _ _ y.2);
    }

pub infe-complete : (at : ℕ) (before : List Item) (b : List ℕ) (after : List Item) → ItemStep before b after → infe_step at before b ≡ ok after
unfolding infe_step
infe-complete at before b after h =
    ok-then _ _ tt (ok-check 10 at _ (eq-eqb _ _ h.kind))
    ∙ ok_bind _ _ _ (front-complete (infe_form before) at _ _ h.spells)
    ∙ ap ok (sym h.kept)

-- items
exact_complete : (p n at : ℕ) (s : List ℕ) (is : List Item) → Exact ItemStep n [] s is → exactly infe_step p n at [] s ≡ ok is
exact_complete p n at s is h = rw (← h.joined, ← h.count) (exactly-complete ItemStep infe_step p infe-complete at [] h.boxes is h.all h.through)

pub items-sound : (p at : ℕ) (s : List ℕ) (is : List Item) → items p at s ≡ ok is → Items s is
unfolding items
items-sound p at s is e = lead-sound _ _ iinf-count (λ n a r. exactly-sound ItemStep infe_step p infe-sound n a [] r) p at s is e

pub items-complete : (p at : ℕ) (s : List ℕ) (is : List Item) → Items s is → items p at s ≡ ok is
unfolding items
items-complete p at s is h = lead-complete _ _ iinf-count (exact_complete p) p at s is h
