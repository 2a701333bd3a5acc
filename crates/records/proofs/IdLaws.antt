-- The IDs of a table's rows, as a list: what a lookup says of it, and what stores elsewhere leave of it. Assumes nothing.
use Prim.Native.Nat.{ℕ, zero, suc, ◌<◌}
use native.Mathlib.Omega.{arith}
use native.Mathlib.Nat.{eq-or-lt_of_le}
use mathlib.Core.Path.{◌≡◌, refl, sym, ap, ◌∙◌, subst}
use mathlib.Core.List.{List, [], ◌∷◌, ◌++◌}
use mathlib.Core.Bool.{true, false}
use mathlib.Core.Logic.{⊎_elim}
use lib.ListN.{length, get_or, length-append, get_or-append}
use lib.Seq.{ext_get_or, get_or_at}
use Rattle.fields.specs.Lists.{member}
use Rattle.fields.proofs.TestLaws.{member-at}
use Rattle.contents.specs.Iinf.{ids_of}
use Rattle.contents.specs.File.{File}
use Rattle.rules.specs.Places.{Places}
use Rattle.table.specs.declared.ItemRow.{ItemRow}
use Rattle.records.specs.inner.Raw.{raw_of}
use Rattle.records.specs.inner.Rows.{id_at, ids_in, Distinct, FoundIs}
use Rattle.std.specs.Prelude.{Option, Some, None}
use Rattle.records.proofs.MemberLaws.{member-none, distinct-place}
use Rattle.records.proofs.RawLaws.{raw-id, ids-long}

-- ids_in
pub ids-length : (t : List ℕ) (n : ℕ) → length (ids_in t n) ≡ n
unfolding ids_in
ids-length t zero = refl
ids-length t (suc n) = rw (length-append, ids-length t n) (omega arith)

pub ids_at : (t : List ℕ) (n k : ℕ) → k < n → get_or (ids_in t n) k 0 ≡ id_at t k
unfolding ids_in
ids_at t zero k h = absurd (omega arith)
ids_at t (suc n) k h =
    let l = ids-length t n in
    ⊎_elim
    (λ e. get_or_at (ids_in t n) (id_at t n) [] 0 k (omega arith) ∙ ap (id_at t) (sym e))
    (λ m. get_or-append (ids_in t n) (id_at t n ∷ []) 0 k (omega arith) ∙ ids_at t n k m)
    (eq-or-lt_of_le {n = k} {m = n} (omega arith))

pub ids-same : (t u : List ℕ) (n : ℕ) → ((k : ℕ) → k < n → id_at u k ≡ id_at t k) → ids_in u n ≡ ids_in t n
unfolding ids_in
ids-same t u zero h = refl
ids-same t u (suc n) h = rw (h n (omega arith), ids-same t u n (λ k l. h k (omega arith)))

-- FoundIs
module _ (t : List ℕ) (n id : ℕ) where
  pub row_listed : (r : ℕ) → r < n → id_at t r ≡ id → member id (ids_in t n) ≡ true
  row_listed r h e = let l = ids-length t n in member-at id (ids_in t n) r (omega arith) (ids_at t n r h ∙ e)

  pub row_missing : FoundIs t n id None → member id (ids_in t n) ≡ false
  row_missing f = let l = ids-length t n in member-none id (ids_in t n) (λ k h e. let m : k < n = omega arith in f k m (sym (ids_at t n k m) ∙ e))

  pub found-row : (x : Option ItemRow) (r : ItemRow) → FoundIs t n id x → x ≡ Some r → (r.0 < n) × (id_at t r.0 ≡ id)
  found-row x r f e = subst (FoundIs t n id) e f

  pub found_some : (x : Option ItemRow) (r : ItemRow) → FoundIs t n id x → x ≡ Some r → member id (ids_in t n) ≡ true
  found_some x r f e = let w = found-row x r f e in row_listed r.0 w.0 w.1

  pub found_none : (x : Option ItemRow) → FoundIs t n id x → x ≡ None → member id (ids_in t n) ≡ false
  found_none x f e = row_missing (subst (FoundIs t n id) e f)

-- Distinct: two rows with one ID are one
pub distinct-rows : (t : List ℕ) (n : ℕ) → Distinct (ids_in t n) → (j k : ℕ) → j < n → k < n → id_at t j ≡ id_at t k → j ≡ k
distinct-rows t n d j k h l e =
    distinct-place (ids_in t n) j k d (rw (ids-length t n) h) (rw (ids-length t n) l) (ids_at t n j h ∙ e ∙ sym (ids_at t n k l))

-- raw_of: the IDs of a file that is read into a table
pub raw_ids : (pl : Places) (f : File) (x t : List ℕ) (n : ℕ) → length f.items ≡ n → t ≡ raw_of [] pl f ++ x → ids_in t n ≡ ids_of f.items
raw_ids pl f x t n c e =
    let l = ids-length t n in
    let m = ids-long f.items in
    ext_get_or 0 (ids_in t n) (ids_of f.items) (omega arith) (λ k h. ids_at t n k (omega arith) ∙ rw e (raw-id [] pl x (omega arith) f k (omega arith)))
