-- The items of an `iinf` by what the code reads of its count. Assumes nothing.
use Prim.Native.Nat.{ℕ, ◌+◌, ◌-◌, ◌≤◌}
use native.Mathlib.Omega.{arith}
use mathlib.Core.Path.{◌≡◌, refl, sym, ap, ◌∙◌}
use mathlib.Core.List.{List, []}
use lib.ListN.{length, drop, length-drop}
use Rattle.boxes.specs.Answer.{Answer, refuse}
use Rattle.boxes.specs.Exactly.{exactly}
use Rattle.boxes.specs.declared.Refusal.{Refusal}
use Rattle.forms.specs.Form.{got}
use Rattle.forms.proofs.StepLaws.{lead_reads, reads_got, reads_refused}
use Rattle.contents.specs.Iinf.{Item, infe_step, iinf-count, items}
use Rattle.std.specs.Prelude.{Result, Ok, Err}
use Rattle.boxes.specs.Told.{told}
use Rattle.items.specs.declared.Count.{Count}
use Rattle.items.specs.inner.Told.{ItemsLeft, CountIs, Stored, KeysLeft}
use Rattle.items.proofs.FillLaws.{stored_refused, no_keys}

-- items
module _ (s : List ℕ) (place base : ℕ) where
  items_gone : (n p : ℕ) → iinf-count.read place s ≡ refuse n p → items place base s ≡ refuse n p
  unfolding items
  items_gone n p e = lead_reads iinf-count place s _ base ∙ reads_refused iinf-count place s _ n p e

  items-from : (n at : ℕ) → at ≤ length s → iinf-count.read place s ≡ got n (drop at s) →
      items place base s ≡ exactly infe_step place n (base + at) [] (drop at s)
  unfolding items
  items-from n at h e =
      let z : length s - length (drop at s) ≡ at = rw length-drop (omega arith) in
      lead_reads iinf-count place s _ base
      ∙ reads_got iinf-count place s _ n (drop at s) e
      ∙ ap (λ (k : ℕ). exactly infe_step place n (base + k) [] (drop at s)) z

  -- ItemsLeft
  left_by : (a : Answer (List Item)) (t u : List ℕ) → items place base s ≡ a → Stored a t u → ItemsLeft s place base t u
  left_by a t u e h = record { kept = h.kept; told = λ pl x is q. h.told pl x is (sym e ∙ q) }

  pub items_refused : (r : Refusal) (t m : List ℕ) → CountIs s place (Err r) →
      (Err r ≡ told length (items place base s)) × (ItemsLeft s place base t t × KeysLeft (items place base s) m)
  unfolding told
  items_refused r t m f =
      let q = items_gone r.number r.place f in (
        sym (ap (told length) q),
        (
          left_by _ t t q (stored_refused _ t t (record { same_length = refl; past = refl }) r.number r.place refl),
          no_keys _ r.number r.place q m,
        ),
      )

  -- from: the same place, as the code says it
  module _ (c : Count) (from : ℕ) (f : CountIs s place (Ok c)) (same : c.at ≡ from) where
    pub count_room : (from ≤ length s) × (c.count ≤ 256)
    count_room = (omega (arith, f.1), f.2)

    counted : items place base s ≡ exactly infe_step place c.count (base + from) [] (drop from s)
    counted = items-from c.count c.at f.1 f.0 ∙ ap (λ (k : ℕ). exactly infe_step place c.count (base + k) [] (drop k s)) same

    pub items-read : (r : Result ℕ Refusal) (t u m : List ℕ) →
        (r ≡ told length (exactly infe_step place c.count (base + from) [] (drop from s))) ×
        (Stored (exactly infe_step place c.count (base + from) [] (drop from s)) t u ×
        KeysLeft (exactly infe_step place c.count (base + from) [] (drop from s)) m) → (r ≡ told length (items place base s)) ×
        (ItemsLeft s place base t u × KeysLeft (items place base s) m)
    items-read r t u m h =
        (h.0 ∙ sym (ap (told length) counted), (left_by _ t u counted h.1.0, λ is q. h.1.1 is (sym counted ∙ q)))
