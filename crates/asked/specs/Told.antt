-- The code's values for the answers that the table of an accepted file gives: "A refusal returns number and place".
--   told_verdict, told_sized, told_asked    the code's value for an answer
--   index_in f id k       which property the association k, from 1, of an item names; 21, then 25
use Rattle.std.specs.Prelude.{ℕ, ◌-◌, ◌&&◌, length, get_or, leb, Result, Ok, Err}
use Rattle.table.specs.declared.PropertyIndex.{PropertyIndex}
use Rattle.boxes.specs.Answer.{Answer, ok, refuse, check, ◌>>=◌, ◌>>◌}
use Rattle.boxes.specs.declared.Refusal.{Refusal}
use Rattle.contents.specs.File.{File}
use Rattle.rules.specs.Joined.{associations_of, no_association}
use Rattle.rules.specs.Opening as Opening
use Rattle.questions.specs.Questions as Q
use Rattle.asked.specs.declared.Verdict.{Verdict}
use Rattle.asked.specs.declared.Sizes.{Sizes}

unfoldable pub told_verdict : Answer Q.Verdict → Result Verdict Refusal
told_verdict (ok v) = Ok (record { items = v.items; primary = record { 0 = v.primary } })
told_verdict (refuse n p) = Err (record { number = n; place = p })

abbrev pub sizes_of : Q.Sized → Sizes
sizes_of s =
    record {
      wide = s.reconstructed.wide;
      high = s.reconstructed.high;
      output_wide = s.output.wide;
      output_high = s.output.high;
      depth = s.depth;
    }

unfoldable pub told_sized : Answer Q.Sized → Result Sizes Refusal
told_sized (ok s) = Ok (sizes_of s)
told_sized (refuse n p) = Err (record { number = n; place = p })

unfoldable pub index_in : File → ℕ → ℕ → Answer ℕ
index_in f id k = do
  r ← Opening.listed f id
  check 25 id (leb 1 k && leb k (length (associations_of f id)))
  ok (get_or (associations_of f id) (k - 1) no_association).index

unfoldable pub told_asked : Answer ℕ → Result PropertyIndex Refusal
told_asked (ok k) = Ok (record { 0 = k })
told_asked (refuse n p) = Err (record { number = n; place = p })
