-- A body, where the table or the buffer is too short. Assumes nothing.
use Prim.Native.Nat.{ℕ, ◌≤◌, ◌<◌}
use native.Mathlib.Omega.{arith}
use native.Mathlib.Decide.{dec_lt}
use mathlib.Core.Path.{◌≡◌, sym, ap, ◌∙◌}
use mathlib.Core.List.{List}
use lib.ListN.{length}
use borrow.Author.Tests.{le-ltb}
use Rattle.fields.proofs.FieldLaws.{pick_no}
use Rattle.table.specs.inner.Clear.{cleared}
use Rattle.std.specs.Prelude.{Err}
use Rattle.boxes.specs.Answer.{◌>>=◌}
use Rattle.boxes.specs.declared.Refusal.{Refusal}
use Rattle.rules.specs.Opening.{after}
use Rattle.bodied.specs.Body.{body, buffer_after, room_left}
use Rattle.bodied.specs.Told.{told_bodied}
use Rattle.bodied.proofs.RoomLaws.{table_opened, short-opened, left_table, left-cleared}

refusal_is : (y : Refusal) (n p : ℕ) → y.number ≡ n → y.place ≡ p → y ≡ record { number = n; place = p }
refusal_is y n p e q = rw (← e, ← q)

module _ (total : ℕ) (head t : List ℕ) (id room : ℕ) where
  -- a buffer that is too short: 1, then 31
  pub table_short : length t < 11280 → (y : Refusal) → y.number ≡ 1 → y.place ≡ 0 →
      (Err y ≡ told_bodied (body (length t) room total head id)) × (t ≡ room_left after room total head t)
  unfolding body ◌>>=◌ told_bodied
  table_short h y n p =
      (rw (table_opened head total t room id h) (ap Err (refusal_is y 1 0 n p)), sym (left_table head total t room id h))

  pub buffer_short : 11280 ≤ length t → room < 16402 → (y : Refusal) → y.number ≡ 31 → y.place ≡ id → (u : List ℕ) → u ≡ cleared t →
      (Err y ≡ told_bodied (body (length t) room total head id)) × (u ≡ room_left after room total head t)
  unfolding body ◌>>=◌ told_bodied cleared
  buffer_short h l y n p u e = (
    rw (short-opened head total t room id h l) (ap Err (refusal_is y 31 id n p)),
    e ∙ pick_no _ _ (le-ltb (length t) 11280 h) ∙ sym (left-cleared head total t room id h l),
  )

  pub short-kept : room < 16402 → (buffer : List ℕ) → buffer ≡ buffer_after (body (length t) room total head id) buffer
  unfolding body ◌>>=◌ buffer_after
  short-kept l buffer = by (dec_lt (length t) 11280)
    where
      by : Dec (length t < 11280) → buffer ≡ buffer_after (body (length t) room total head id) buffer
      by (yes h) = rw (table_opened head total t room id h)
      by (no h) = rw (short-opened head total t room id (omega arith) l)
