-- A file in which some item is made of others: what the levels, the lengths and the runs of its rows make sure of. Assumes nothing.
use Prim.Native.Nat.{ℕ, ◌+◌, ◌≤◌, ◌<◌}
use native.Mathlib.Omega.{arith}
use mathlib.Core.Path.{◌≡◌, sym, subst}
use mathlib.Core.List.{List}
use lib.ListN.{length, get_or}
use mir.Val.{Val}
use denote.Laws.{Is}
use denote.Struct.Declared.{row}
use Rattle.contents.specs.File.{File}
use Rattle.rules.specs.Places.{places_in}
use Rattle.records.specs.inner.Raw.{capped}
use Rattle.records.specs.inner.Named.{NamedIn}
use Rattle.linking.specs.inner.Links.{first_extent, extents, length_sum}
use Rattle.linking.specs.inner.Bytes.{LinksAre}
use Rattle.linking.proofs.LinkLaws.{links-room}
use Rattle.placed.specs.declared.Ends.{Ends}
use Rattle.placed.specs.inner.Plain.{SourcesAre}
use Rattle.placed.specs.contracts.Ends.{the_type}
use Rattle.joining.specs.inner.Lies.{Sourced, RunsAre}
use Rattle.joining.proofs.FileLaws.{sourced}
use Rattle.derived.specs.inner.Told.{Followed, RunsFor}
use Rattle.judging.specs.inner.Order.{Early}

-- a struct's fields fit their types
pub few : (e : Ends) (vs : List Val) → Is (row the_type) e vs → e.total < 18446744073709551616
few e vs fits = fits.1.1.0.1

pub links_are : (t rows links : List ℕ) (n m : ℕ) → n ≡ m → LinksAre t rows n links → LinksAre t rows m links
links_are t rows links n m e l = subst (λ (k : ℕ). LinksAre t rows k links) e l

-- n is how many items the table has
module _ {t rows head : List ℕ} {total : ℕ} {f : File} (n : ℕ) (all : n ≡ length f.items) where
  pub sources_are : {idat : ℕ} → Early t head total idat f → NamedIn f rows → (sums : List ℕ) →
      ((r : ℕ) → r < n → first_extent t r + extents t r ≤ 512 → get_or sums r 0 ≡ capped (length_sum t r)) →
      SourcesAre t rows sums head (places_in total head) idat f
  sources_are w named sums h =
      record {
        view = w.view;
        named = named;
        lengths = λ r l. h r (omega arith) (links-room t head (places_in total head) f w.view r l);
        ends = w.ends;
      }

  pub runs_for : (k : Followed t rows head total f) (links runs : List ℕ) (size : ℕ) → LinksAre t rows n links →
      (11280 ≤ length t → 2816 ≤ length rows → n ≤ 256 → Sourced t rows n → LinksAre t rows n links → RunsAre t rows size n runs) →
      RunsFor t rows size f runs
  runs_for k links runs size l h r i m =
      let few = k.view.bounded.few-items in
      subst (λ (j : ℕ). RunsAre t rows size j runs) all (h k.view.enough k.many (omega arith)
      (subst (Sourced t rows) (sym all) (sourced total head f k.small k.read k.placed k.view rows k.named)) l)
