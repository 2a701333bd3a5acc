-- What is known of an accepted file's table. Assumes nothing.
use Prim.Native.Nat.{ℕ, ◌≤◌, ◌<◌}
use native.Mathlib.Omega.{arith}
use mathlib.Core.Path.{◌≡◌}
use mathlib.Core.List.{List}
use lib.ListN.{length}
use Rattle.boxes.specs.Answer.{ok}
use Rattle.contents.specs.File.{File, read_file}
use Rattle.rules.specs.Opening.{opened, file_after}
use Rattle.rules.proofs.RuleLaws.{judged-each, accepted-both}
use Rattle.rules.proofs.SceneLaws.{accepted_scene}
use Rattle.records.specs.inner.Named.{NamedIn}
use Rattle.derived.specs.inner.Told.{Resolved}
use Rattle.tracing.specs.inner.Told.{Shown}
use Rattle.opening.proofs.FileLaws.{file-accepted, file-read, file-view, file-sizes}

module _ (total : ℕ) (head t : List ℕ) where
  -- it shows all that a trace needs
  pub file-shown : total < 18446744073709551616 → (f : File) → opened (length t) total head ≡ ok f → (u : List ℕ) →
      u ≡ file_after total head t → (rows : List ℕ) (n : ℕ) → length rows ≡ n → 2816 ≤ n →
      (read_file total head ≡ ok f → Resolved u rows f × NamedIn f rows) → Shown u rows head total f
  file-shown few f o u a rows n e many found =
      let k = file-accepted total head t few f o u a in
      let j = judged-each total head f (accepted-both total head f k).1 in
      let read = file-read total head t few f o u a in
      record {
        followed =
            record {
              small = few;
              read = read;
              view = file-view total head t few f o u a;
              placed = j.by-13-30-14;
              many = omega (arith, e, many);
              named = (found read).1;
            };
        sizes = file-sizes total head t few f o u a;
        good = accepted_scene total head f k;
        fed = j.by-17;
        resolved = (found read).0;
      }
