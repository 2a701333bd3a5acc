-- Sources over the table of an accepted file. Assumes nothing.
use Prim.Native.Nat.{ℕ, ◌<◌, ◌≤◌}
use native.Mathlib.Omega.{arith}
use mathlib.Core.Path.{◌≡◌, sym, ◌∙◌}
use mathlib.Core.List.{List, ◌++◌}
use mathlib.Core.Bool.{true, false}
use lib.ListN.{length, get_or, drop}
use lib.Dec.{leb, eqb}
use borrow.Author.Tests.{le-leb, lt-leb}
use Rattle.std.specs.Prelude.{Result, Ok, Err}
use Rattle.boxes.specs.Answer.{ok, refuse, check, ◌>>=◌, ◌>>◌}
use Rattle.boxes.specs.declared.Refusal.{Refusal}
use Rattle.contents.specs.File.{File}
use Rattle.pictures.specs.Scene.{Scene}
use Rattle.pictures.specs.Depth.{depth}
use Rattle.pictures.specs.Sources.{needs}
use Rattle.pictures.specs.Sources as Sources
use Rattle.pictures.proofs.PathLaws.{good-picture}
use Rattle.rules.specs.Places.{places_in}
use Rattle.rules.specs.Derivations.{scene_of}
use Rattle.rules.specs.Opening.{pictured}
use Rattle.questions.specs.Questions.{sources_in, list_after}
use Rattle.rules.proofs.DerivationLaws.{shaped-drawn}
use Rattle.rules.proofs.SceneLaws.{inputs-fed}
use Rattle.depths.specs.inner.Inputs.{InputsAre}
use Rattle.needed.specs.inner.Marked.{marked_of}
use Rattle.needed.proofs.SourcesLaws.{marked-sources}
use Rattle.judging.proofs.SceneLaws.{scene_long, inputs_are}
use Rattle.tracing.specs.inner.Told.{Shown}
use Rattle.asked.proofs.PicturedLaws.{picture-listed, picture-image}
use Rattle.sourced.specs.Told.{told_listed}

-- sources_in
module _ {t rows head : List ℕ} {total : ℕ} {f : File} (w : Shown t rows head total f) (id room : ℕ) (l : List ℕ) where
  abbrev s : Scene
  s = scene_of total head f

  -- what is answered, and what is left in the list
  abbrev Told : Result ℕ Refusal → List ℕ → Type 0
  Told x m = (x ≡ told_listed (sources_in s f id room)) × (m ≡ list_after (sources_in s f id room) l)

  pub sources_off : (y : Refusal) → pictured f id ≡ refuse y.number y.place → Told (Err y) l
  unfolding sources_in ◌>>=◌ told_listed list_after
  sources_off y e = (rw e, rw e)

  module _ (r : ℕ) (is_row : pictured f id ≡ ok r) where
    listed-row : r < length f.items
    listed-row = picture-listed f id r is_row

    -- the marks of needed_of leave the sources
    module _ (n : ℕ) (marks : List ℕ) (counted : n ≡ get_or t 0 0)
        (needed : (s : Scene) → length s ≡ n → InputsAre t rows s → r < n → depth s r ≤ 16 → (c : ℕ) → c < n →
        eqb (get_or marks c 0) 1 ≡ needs s r c) where
      pub sources_are : marked_of t marks n ≡ Sources.sources s r
      sources_are =
          let k : n ≡ length f.items = counted ∙ w.followed.view.items in
          let i = inputs_are total head f t rows (places_in total head) w.followed.view w.resolved w.fed in
          let g = good-picture s w.good (rw (scene_long total head f) listed-row)
          (shaped-drawn _ _ (inputs-fed total head f r (picture-image f id r is_row)
          (w.fed r listed-row)).0) in
          rw k (marked-sources t marks head total (places_in total head) f r w.followed.view w.fed
          (λ c h. needed s (scene_long total head f ∙ sym k) i (omega (arith, k, listed-row)) g.shallow c
          (omega (arith, k))))

      -- 24
      pub sources-over : room < length (marked_of t marks n) → (y : Refusal) → y.number ≡ 24 → y.place ≡ id → Told (Err y) l
      unfolding sources_in ◌>>=◌ ◌>>◌ check told_listed list_after
      sources-over h y a b =
          let z : leb (length (Sources.sources s r)) room ≡ false = lt-leb (length (Sources.sources s r)) room (rw (← sources_are) h) in
          (rw (is_row, z, ← a, ← b), rw (is_row, z))

      pub sources-fit : length (marked_of t marks n) ≤ room → (c : ℕ) (m : List ℕ) → c ≡ length (marked_of t marks n) →
          m ≡ marked_of t marks n ++ drop (length (marked_of t marks n)) l → Told (Ok c) m
      unfolding sources_in ◌>>=◌ ◌>>◌ check told_listed list_after
      sources-fit h c m a b =
          let z : leb (length (Sources.sources s r)) room ≡ true = le-leb (length (Sources.sources s r)) room (rw (← sources_are) h) in
          (rw (is_row, z, a, sources_are), rw (is_row, z, b, sources_are))
