-- The definitions on small files, computed.
--   eight, nine               8 links pass, 9 do not;   ends-empty    an item of method 2 without extents counts 1
--   ring, into-ring           a chain that returns to itself, and one that leads into it
--   by_index                  the index counts from 1;   past-references, written-zero    an index past the references, and index 0
--   past-sum                  the lengths of a named item sum to 2^64: 14 for what names it, at any depth, and not for itself
--   camera                    a body of two extents of an opaque item that has two itself; what is not used need not be in the head
--   past-source               an extent past the end of the item that it names
-- Assumes nothing.
use Prim.Native.Nat.{ℕ, zero, suc}
use mathlib.Core.Path.{◌≡◌, refl}
use mathlib.Core.List.{List, [], ◌∷◌}
use mathlib.Core.Bool.{true, false}
use Rattle.fields.specs.Choice.{pick}
use Rattle.boxes.specs.Answer.{ok, refuse, check, ◌>>=◌, ◌>>◌}
use Rattle.contents.specs.Iloc.{Extent, Location}
use Rattle.contents.specs.Iref.{Reference}
use Rattle.contents.specs.File.{File}
use Rattle.rules.specs.Joined.{located_at, referred_from}
use Rattle.rules.specs.Bytes.{all_extents, named, chained, sizes_of, names_past, known, byte_in, named_source, source_of, byte_of, within, bytes_upto, body_of}

abbrev from : ℕ → ℕ → ℕ → Extent
from index offset size = record { index = index; offset = offset; size = size }

abbrev at : ℕ → ℕ → List Extent → Location
at id method es = record { id = id; method = method; reference = 0; base = 0; extents = es }

abbrev refers : ℕ → List ℕ → Reference
refers id targets = record { id = id; targets = targets }

abbrev linked : List Reference → List Location → File
linked ks ls = record { primary = 1; items = []; locations = ls; properties = []; associations = []; derivations = []; links = ks; idat = [] }

-- each item names the one before it, down to 0, which has no entry
abbrev rows : ℕ → List Location
rows zero = []
rows (suc n) = at (suc n) 2 (from 1 0 1 ∷ []) ∷ rows n

abbrev downward : ℕ → List Reference
downward zero = []
downward (suc n) = refers (suc n) (n ∷ []) ∷ downward n

eight : chained 8 (linked (downward 9) (rows 9)) 8 ≡ true
unfolding chained named all_extents located_at referred_from pick
eight = refl

nine : chained 8 (linked (downward 9) (rows 9)) 9 ≡ false
unfolding chained named all_extents located_at referred_from pick
nine = refl

-- item 0 is of method 2 and has no extents: seven links down to it pass, eight do not
abbrev empty_end : File
empty_end = linked (downward 8) (at 0 2 [] ∷ rows 8)

ends_empty : (chained 8 empty_end 7 ≡ true) × (chained 8 empty_end 8 ≡ false)
unfolding chained named all_extents located_at referred_from pick
ends_empty = (refl, refl)

-- 1 names 2 and 2 names 1; 3 names 1
abbrev round : File
round =
    linked (refers 1 (2 ∷ []) ∷ refers 2 (1 ∷ []) ∷ refers 3 (1 ∷ []) ∷ [])
    (at 1 2 (from 1 0 1 ∷ []) ∷ at 2 2 (from 1 0 1 ∷ []) ∷ at 3 2 (from 1 0 1 ∷ []) ∷ [])

ring : chained 8 round 1 ≡ false
unfolding chained named all_extents located_at referred_from pick
ring = refl

into_ring : chained 8 round 3 ≡ false
unfolding chained named all_extents located_at referred_from pick
into_ring = refl

-- index 2 of two references; then an extent beside it with index 3, or 0
by_index : named (linked (refers 1 (4 ∷ 5 ∷ []) ∷ []) []) 1 (from 2 0 1) ≡ ok 5
unfolding named referred_from pick
by_index = refl

past-references : chained 8 (linked (refers 1 (4 ∷ 5 ∷ []) ∷ []) (at 1 2 (from 2 0 1 ∷ from 3 0 1 ∷ []) ∷ [])) 1 ≡ false
unfolding chained named all_extents located_at referred_from pick
past-references = refl

written-zero : chained 8 (linked (refers 1 (4 ∷ 5 ∷ []) ∷ []) (at 1 2 (from 2 0 1 ∷ from 0 0 1 ∷ []) ∷ [])) 1 ≡ false
unfolding chained named all_extents located_at referred_from pick
written-zero = refl

-- 1 names 2, and 2 names 3, whose lengths sum to 2^64
abbrev long : File
long =
    linked (refers 1 (2 ∷ []) ∷ refers 2 (3 ∷ []) ∷ [])
    (at 1 2 (from 1 0 1 ∷ []) ∷ at 2 2 (from 1 0 1 ∷ []) ∷ at 3 0 (from 1 0 18446744073709551615 ∷ from 1 0 1 ∷ []) ∷ [])

past_sum : (names_past 8 long 1 ≡ true) × (names_past 8 long 2 ≡ true) × (names_past 8 long 3 ≡ false)
unfolding names_past named sizes_of all_extents located_at referred_from pick
past_sum = (refl, refl, refl)

-- item 7 is the bytes 2 to 4 and 6 to 7 of the file; item 1 is the last two of those and then the first
abbrev pointed : File
pointed =
    linked (refers 1 (7 ∷ []) ∷ refers 2 (7 ∷ []) ∷ refers 3 (7 ∷ []) ∷ [])
    (at 7 0 (from 1 2 3 ∷ from 1 6 2 ∷ []) ∷ at 1 2 (from 1 3 2 ∷ from 1 0 1 ∷ []) ∷ at 2 2 (from 1 0 4 ∷ []) ∷ at 3 2 (from 1 4 2 ∷ []) ∷ [])

camera : (body_of 10 (10 ∷ 11 ∷ 12 ∷ 13 ∷ 14 ∷ 15 ∷ 16 ∷ 17 ∷ []) pointed 1 ≡ ok (16 ∷ 17 ∷ 12 ∷ []))
    × (body_of 10 (10 ∷ 11 ∷ 12 ∷ 13 ∷ 14 ∷ 15 ∷ 16 ∷ []) pointed 1 ≡ refuse 17 0)
    × (body_of 10 (10 ∷ 11 ∷ 12 ∷ 13 ∷ 14 ∷ 15 ∷ 16 ∷ []) pointed 2 ≡ ok (12 ∷ 13 ∷ 14 ∷ 16 ∷ []))
unfolding bytes_upto byte_of byte_in source_of named_source known named sizes_of all_extents located_at referred_from pick check ◌>>=◌ ◌>>◌
camera = (refl, refl, refl)

-- item 3 goes past the end of item 7, whose length is 5
past_source : (within 10 [] pointed 2 ≡ true) × (within 10 [] pointed 3 ≡ false)
unfolding byte_of byte_in source_of named_source known named sizes_of all_extents located_at referred_from pick
past_source = (refl, refl)
