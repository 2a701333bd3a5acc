-- Chains, computed: eight links pass and nine do not, a ring has no end, nor has a reference that is not there; a method 2 item
-- without extents counts 1. Assumes nothing.
use Prim.Native.Nat.{ℕ}
use mathlib.Core.Path.{◌≡◌, refl}
use mathlib.Core.List.{List, [], ◌∷◌, ◌++◌}
use lib.ListN.{replicate}
use Rattle.fields.specs.Choice.{pick}
use Rattle.linking.specs.inner.Links.{every, least, chained, level}

-- a record with so many extents from one on, by a method
abbrev record_of : ℕ → ℕ → ℕ → List ℕ
record_of first count method = replicate 7 0 ++ (first ∷ count ∷ method ∷ replicate 6 0)

-- nine items, each made of the next, and one in a file
abbrev nine : List ℕ
nine =
    replicate 16 0 ++ (record_of 0 1 2 ++ (record_of 1 1 2 ++ (record_of 2 1 2 ++ (record_of 3 1 2 ++ (record_of 4 1 2
    ++ (record_of 5 1 2 ++ (record_of 6 1 2 ++ (record_of 7 1 2 ++ (record_of 8 1 2 ++ record_of 9 1 0)))))))))

abbrev named : List ℕ → List ℕ
named l = replicate 2304 0 ++ l

pub eight_links : level nine (named (1 ∷ 2 ∷ 3 ∷ 4 ∷ 5 ∷ 6 ∷ 7 ∷ 8 ∷ 9 ∷ [])) 1 ≡ 8
unfolding level least chained every pick
eight_links = refl

pub nine_links : level nine (named (1 ∷ 2 ∷ 3 ∷ 4 ∷ 5 ∷ 6 ∷ 7 ∷ 8 ∷ 9 ∷ [])) 0 ≡ 9
unfolding level least chained every pick
nine_links = refl

pub ring : level nine (named (1 ∷ 0 ∷ [])) 0 ≡ 9
unfolding level least chained every pick
ring = refl

pub no_reference : level nine (named (9 ∷ 256 ∷ [])) 1 ≡ 9
unfolding level least chained every pick
no_reference = refl

pub one_link : level nine (named (9 ∷ 256 ∷ [])) 0 ≡ 1
unfolding level least chained every pick
one_link = refl

-- two extents, the second of which names an item of two links
pub second-deeper : level (replicate 16 0 ++ (record_of 0 2 2 ++ (record_of 2 1 2 ++ (record_of 3 1 2 ++ record_of 4 1 0))))
    (named (3 ∷ 1 ∷ 2 ∷ 3 ∷ [])) 0 ≡ 3
unfolding level least chained every pick
second-deeper = refl

pub without-extents : level (replicate 16 0 ++ record_of 0 0 2) (named []) 0 ≡ 1
unfolding level least chained every pick
without-extents = refl
