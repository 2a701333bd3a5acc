-- `views::part` meets its contract. Assumes nothing.
use native.Mathlib.Nat.{add-sub_cancel_left}
use native.Mathlib.Omega.{arith}
use mathlib.Core.Path.{refl}
use Rattle.views.proofs.part.Goals as goal

pub returns-then-n-s : goal.returns-then-n-s
returns-then-n-s c = record { result_value = λ h. rw add-sub_cancel_left; result_value_2 = λ h. absurd (omega arith); lies_at = λ h. (refl, omega arith) }
