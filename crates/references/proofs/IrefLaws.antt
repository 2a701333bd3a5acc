-- An `iref` by its version and flags: what reading it answers and leaves. Assumes nothing.
use Prim.Native.Nat.{ℕ, ◌+◌, ◌-◌, ◌*◌, ◌<◌, ◌≤◌}
use native.Mathlib.Omega.{arith}
use mathlib.Core.Path.{◌≡◌, sym, ap, ◌∙◌}
use mathlib.Core.List.{List, [], ◌++◌}
use lib.ListN.{length, get_or, drop, length-drop}
use Rattle.std.specs.Prelude.{Result, Err}
use Rattle.boxes.specs.Answer.{ok, refuse}
use Rattle.boxes.specs.Told.{told}
use Rattle.boxes.specs.Children.{contain}
use Rattle.boxes.specs.declared.Refusal.{Refusal}
use Rattle.forms.proofs.StepLaws.{lead_reads, reads_got, reads_refused}
use Rattle.contents.specs.Full.{full, upto, id_bytes}
use Rattle.contents.specs.declared.Full as code
use Rattle.contents.specs.Iinf.{ids_of}
use Rattle.contents.specs.Iref.{Reference, IrefContent, no_references, reference, references}
use Rattle.contents.specs.File.{File}
use Rattle.contents.proofs.FullLaws.{FullHere}
use Rattle.rules.specs.Joined.{referred_from}
use Rattle.rules.specs.Places.{Places}
use Rattle.records.specs.inner.Raw.{raw_of}
use Rattle.records.specs.inner.Rows.{ids_in, Distinct}
use Rattle.records.specs.inner.Named.{NamedRows}
use Rattle.records.specs.inner.Stage.{Ready}
use Rattle.records.proofs.RawLaws.{raw-derived}
use Rattle.records.proofs.IdLaws.{raw_ids}
use Rattle.records.proofs.KeptLaws.{kept_same}
use Rattle.records.proofs.PickLaws.{named-same}
use Rattle.references.specs.inner.Told.{target_count, ReferencesLeft}
use Rattle.references.specs.inner.Steps.{ChildrenLeft}

-- references
module _ (ids : List ℕ) (p base : ℕ) (s : List ℕ) where
  references-by : (v : code.Full) → FullHere (upto 1) p s v → (w : ℕ) → id_bytes v.version ≡ w →
      references ids p base s ≡ contain (reference ids w) p (base + 4) no_references (drop 4 s)
  unfolding references
  references-by v h w e =
      let z : length s - length (drop 4 s) ≡ 4 = rw length-drop (omega (arith, h.room)) in
      lead_reads (full (upto 1)) p s _ base ∙ reads_got (full (upto 1)) p s _ _ _ h.read ∙ rw (z, e)

  references_gone : (m q : ℕ) → (full (upto 1)).read p s ≡ refuse m q → references ids p base s ≡ refuse m q
  unfolding references
  references_gone m q e = lead_reads (full (upto 1)) p s _ base ∙ reads_refused (full (upto 1)) p s _ m q e

-- t and v are the table and the rows before
module _ (s : List ℕ) (p base n : ℕ) (t v : List ℕ) where
  -- what the code promises of the rows that extents name, x being the rows
  abbrev pub NamedLeft : List ℕ → Type 0
  NamedLeft x = (pl : Places) (f : File) (y : List ℕ) (c : IrefContent) → Ready f n → f.derivations ≡ [] → f.links ≡ [] →
      references (ids_of f.items) p base s ≡ ok c → t ≡ raw_of [] pl f ++ y →
      NamedRows f.items f.locations [] v → NamedRows f.items f.locations c.links x

  -- what the code returns, u being the table
  abbrev pub Tells : List ℕ → List ℕ → Result ℕ Refusal → Type 0
  Tells u x r = (r ≡ told target_count (references (ids_in t n) p base s)) × ReferencesLeft s p base n t u × NamedLeft x

  pub tells_gone : (z : Refusal) → (full (upto 1)).read p s ≡ refuse z.number z.place → Tells t v (Err z)
  unfolding told
  tells_gone z e = (
    sym (ap (told target_count) (references_gone (ids_in t n) p base s _ _ e)),
    record { kept = kept_same t; told = λ pl f y c r o i j. never f c i },
    λ pl f y c r o l i j. never f c i,
  )
    where
      never : {P : Type 0} (f : File) (c : IrefContent) → references (ids_of f.items) p base s ≡ ok c → P
      never f c i = cc (references_gone (ids_of f.items) p base s _ _ e)

  -- the marks are cleared first: l are the rows then
  pub tells_by : (m : code.Full) → FullHere (upto 1) p s m → (w : ℕ) → id_bytes m.version ≡ w → (l : List ℕ) →
      ((i : ℕ) → 2304 ≤ i → get_or l i 0 ≡ get_or v i 0) → (u x : List ℕ) (r : Result ℕ Refusal) →
      r ≡ told target_count (contain (reference (ids_in t n) w) p (base + 4) no_references (drop 4 s))
      → ChildrenLeft (contain (reference (ids_in t n) w) p (base + 4) no_references (drop 4 s)) n t u l x → Tells u x r
  tells_by m h w e l same u x r a left = (
    a ∙ sym (ap (told target_count) (references-by (ids_in t n) p base s m h w e)),
    record { kept = left.kept; told = λ pl f y c z o i j. left.told pl f y c z o (as_read pl f y c z i j) j },
    λ pl f y c z o k i j b. left.named pl f y c z o (as_read pl f y c z i j) j (named-same f.items f.locations [] v l same b),
  )
    where
      as_read : (pl : Places) (f : File) (y : List ℕ) (c : IrefContent) → Ready f n → references (ids_of f.items) p base s ≡ ok c →
          t ≡ raw_of [] pl f ++ y → contain (reference (ids_in t n) w) p (base + 4) no_references (drop 4 s) ≡ ok c
      as_read pl f y c z i j = rw (raw_ids pl f y t n z.count j) (sym (references-by (ids_of f.items) p base s m h w e) ∙ i)

-- what read_references asks of the table, shown from what the stages before it leave
pub raw-fresh : (pl : Places) (f : File) (x : List ℕ) (n : ℕ) (t : List ℕ) → Ready f n → f.derivations ≡ [] → t ≡ raw_of [] pl f ++ x
    → Distinct (ids_in t n) × ((k : ℕ) → k < n → get_or t (16 + 16 * k + 6) 0 ≡ 0)
unfolding referred_from
raw-fresh pl f x n t r none e = (
  rw (raw_ids pl f x t n r.count e) r.distinct,
  λ k h. let c = r.count in
      rw e (raw-derived [] pl x (omega arith) f k (omega arith) ∙
      ap (λ (ds : List Reference). length (referred_from ds (get_or (ids_of f.items) k 0))) none),
)
