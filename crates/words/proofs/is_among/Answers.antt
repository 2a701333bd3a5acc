-- `words::is_among` answers `member`. Assumes nothing.
use Rattle.std.proofs.Common.{◌≡◌, ◌∙◌, ℕ, List, [], ◌∷◌, nat_eq, refl, arith}
use Rattle.std.proofs.lemmas.Bool.Decides.{nat_tests}
use Rattle.std.specs.List.{list_any}
use Rattle.fields.specs.Lists.{member}
use Rattle.words.proofs.is_among.Goals as goal

any-member : (n : ℕ) (xs : List ℕ) → list_any (λ y. nat_eq y n) xs ≡ member n xs
any-member n [] = refl
any-member n (x ∷ xs) =
    let e : nat_eq x n ≡ nat_eq n x = grind (arith, nat_tests) in
    let i = any-member n xs in
    rw (e, i)

pub returns : goal.returns
returns c = c.contains.ensures.value ∙ any-member c.args.number c.args.list.now
