-- Demand 3, of the reader's answer: in a file that keeps the rules, every pixel inside the output size of any picture
-- has one path; it ends in a coded picture's pixel or an overlay's fill, none of the pictures on the way nor anything
-- that they name is missing, and `trace` tells that end and the number of these pictures, at most one more than the
-- depth, so at most 17. Assumes nothing.
use Prim.Native.Nat.{ℕ, ◌+◌, ◌≤◌}
use mathlib.Core.Path.{◌≡◌, ap, ◌∙◌}
use mathlib.Core.List.{List}
use lib.ListN.{length, length-map}
use borrow.Author.Tests.{lt-ltb}
use Rattle.fields.proofs.TestLaws.{both-and}
use Rattle.std.specs.Prelude.{Result}
use Rattle.boxes.specs.declared.Refusal.{Refusal}
use Rattle.boxes.specs.Answer.{ok}
use Rattle.boxes.proofs.AnswerLaws.{ok_bind, ok-then, ok-check}
use Rattle.contents.specs.File.{File}
use Rattle.pictures.specs.declared.Point.{Point}
use Rattle.pictures.specs.Turn.{Inside}
use Rattle.pictures.specs.Scene.{Scene, output_of}
use Rattle.pictures.specs.Depth.{depth}
use Rattle.pictures.specs.Trace.{End, Traced, Path, trace}
use Rattle.pictures.proofs.PathLaws.{Ends, path_ends, one_path, Asked, has_path, trace-is}
use Rattle.rules.specs.Joined.{row_of}
use Rattle.rules.specs.Derivations.{scene_of}
use Rattle.rules.specs.Rules.{judged}
use Rattle.questions.specs.Questions.{trace_in, found_by}
use Rattle.rules.proofs.RuleLaws.{judged-each}
use Rattle.rules.proofs.SceneLaws.{judged-good, inputs-fed}
use Rattle.rules.proofs.DerivationLaws.{shaped-drawn}
use Rattle.traced.specs.declared.Traced.{Traced as Told}
use Rattle.traced.specs.Told.{told_traced}
use Rattle.still.specs.Given.{TraceGiven}
use Rattle.asked.proofs.PicturedLaws.{picture-listed}
use Rattle.faults.specs.Good.{GoodFile}
use Rattle.faults.proofs.JudgedLaws.{good-judged}
use Rattle.demands.specs.Call.{IsPicture, shown_as}
use Rattle.demands.specs.Met.{stops_of, MeetsOnly}
use Rattle.demands.proofs.AskedLaws.{pictured-is}
use Rattle.demands.proofs.MetLaws.{path_met, stops_counted}
use Rattle.demands.proofs.Demand2.{trace-good}

module _ (head : List ℕ) (total : ℕ) (table : List ℕ) (enough : 11280 ≤ length table) (f : File) (good : GoodFile total head f) (id : ℕ) (p : Point) where
  abbrev s : Scene
  s = scene_of total head f

  abbrev row : ℕ
  row = row_of id f.items

  pub record Followed (r : Result Told Refusal) : Type 0 where
    pub end : End
    pub passed : ℕ
    pub path : Path s row p passed end
    pub only : (k : ℕ) (e : End) → Path s row p k e → (end ≡ e) × (passed ≡ k)
    pub ends : Ends s end
    pub met : MeetsOnly f path
    pub met-each : length (stops_of path) ≡ passed
    pub few : passed ≤ depth s row + 1
    pub at-most-17 : passed ≤ 17
    pub told : r ≡ told_traced (ok (found_by f passed end))

  module _ (shown : IsPicture f id) (inside : Inside (output_of (shown_as s f id)) p) where
    is-judged : judged total head f ≡ ok tt
    is-judged = good-judged total head f good.no_fault

    asked : Asked s row p
    asked =
        let l = picture-listed f id row (pictured-is f id shown) in
        record {
          listed = rw length-map l;
          drawn = shaped-drawn _ _ (inputs-fed total head f row shown.1 ((judged-each total head f is-judged).by-17 row l)).0;
          on-output = inside;
        }

    answered : trace_in s f id p ≡ ok (found_by f (trace s row p).passed (trace s row p).end)
    unfolding trace_in
    answered = ok_bind _ _ row (pictured-is f id shown) ∙ ok-then _ _ tt
        (ok-check 23 id _ (both-and _ _ (lt-ltb _ _ inside.in_x) (lt-ltb _ _ inside.in_y)))

    pub trace-followed : (r : Result Told Refusal) (left : List ℕ) → TraceGiven head total table id p r left → Followed r
    trace-followed r left g =
        let scene = judged-good total head f is-judged in
        let x = has_path s scene asked in
        let y = trace-is s scene x.path in
        record {
          end = x.end;
          passed = x.count;
          path = x.path;
          only = λ k e w. one_path x.path w;
          ends = path_ends x.path;
          met = path_met total head f good x.path;
          met-each = stops_counted x.path;
          few = x.short;
          at-most-17 = y.1;
          told = (trace-good head total table enough f good id p r left g).0 ∙
              ap told_traced (answered ∙ ap (λ (t : Traced). ok (found_by f t.passed t.end)) y.0);
        }
