-- What opening says of the order of the records is what arranging them asks for. Assumes nothing.
use Prim.Native.Nat.{ℕ, ◌≤◌}
use mathlib.Core.Path.{◌≡◌, ap, ◌∙◌}
use mathlib.Core.List.{List}
use lib.ListN.{length}
use Rattle.std.specs.Prelude.{Result, OnOk}
use Rattle.boxes.specs.Answer.{ok}
use Rattle.boxes.specs.declared.Refusal.{Refusal}
use Rattle.boxes.specs.Told.{told}
use Rattle.contents.specs.File.{File, read_file}
use Rattle.rules.specs.Opening.{accepted, opened}
use Rattle.rules.proofs.RuleLaws.{accepted-both}
use Rattle.opening.specs.Told.{told_opened}
use Rattle.opening.proofs.OpenedLaws.{opened-is}

-- Resolves and Orders: what is said of the rows, of an accepted file
pub order_given : (total : ℕ) (head t : List ℕ) (Resolves Orders : File → Type 0) (r : Result (Unit {0}) Refusal) →
    r ≡ told_opened (opened (length t) total head) →
    ((f : File) → read_file total head ≡ ok f → OnOk r (Resolves f × Orders f)) →
    11280 ≤ length t → (f : File) → accepted total head ≡ ok f → Orders f
unfolding told
order_given total head t Resolves Orders r e found enough f q =
    (rw (e ∙ ap told_opened (opened-is total head t enough ∙ q)) at found f (accepted-both total head f q).0).1
