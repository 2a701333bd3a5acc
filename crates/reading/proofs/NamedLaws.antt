-- What holds of the file that is read (its rows: NamedIn). Assumes nothing.
use Prim.Native.Nat.{ℕ}
use native.Mathlib.Omega.{arith}
use mathlib.Core.Path.{◌≡◌, sym, ◌∙◌, subst}
use mathlib.Core.List.{List}
use Rattle.boxes.specs.Answer.{Answer, ok, refuse}
use Rattle.boxes.proofs.AnswerLaws.{ok_inj}
use Rattle.contents.specs.File.{File}
use Rattle.records.specs.inner.Named.{NamedIn}
use Rattle.reading.specs.inner.Parts.{NamedOf}

-- there is one such file
pub file-named : (m : Answer File) (f : File) (v : List ℕ) → m ≡ ok f → NamedIn f v → NamedOf m v
file-named m f v e h g q = subst (λ (y : File). NamedIn y v) (ok_inj _ _ (sym e ∙ q)) h

-- of what comes to the same
pub same-named : {P : File → Type 0} (m k : Answer File) → m ≡ k → ((g : File) → k ≡ ok g → P g) → (g : File) → m ≡ ok g → P g
same-named m k e h g q = h g (sym e ∙ q)

-- where reading refuses there is none
pub no_file : {P : Type 0} (m : Answer File) (n p : ℕ) → m ≡ refuse n p → (g : File) → m ≡ ok g → P
no_file m n p e g q = let z : ◌≡◌ {A = Answer File} (refuse n p) (ok g) = sym e ∙ q in let w : ◌≡◌ {A = ℕ} 0 1 = cc in absurd (omega arith)

pub none-named : (m : Answer File) (n p : ℕ) (v : List ℕ) → m ≡ refuse n p → NamedOf m v
none-named m n p v e g q = no_file m n p e g q
