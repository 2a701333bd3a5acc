-- One more entry: how many extents, associations and targets there are then, and the IDs. Assumes nothing.
use Prim.Native.Nat.{◌+◌}
use native.Mathlib.Omega.{arith}
use mathlib.Core.Path.{◌≡◌}
use mathlib.Core.List.{List, [], ◌∷◌, ◌++◌, map-append}
use lib.ListN.{length}
use Rattle.contents.specs.Iinf.{Item, ids_of}
use Rattle.contents.specs.Iloc.{Location, located_in, extents_in}
use Rattle.contents.specs.Ipma.{IpmaEntry, associations_in}
use Rattle.contents.specs.Iref.{Reference, targets_in}

pub ids_more : (is : List Item) (i : Item) → ids_of (is ++ (i ∷ [])) ≡ ids_of is ++ (i.id ∷ [])
ids_more is i = map-append (λ (j : Item). j.id) is (i ∷ [])

pub located_in_lem : (ls : List Location) (l : Location) → located_in (ls ++ (l ∷ [])) ≡ located_in ls ++ (l.id ∷ [])
located_in_lem ls l = map-append (λ (m : Location). m.id) ls (l ∷ [])

pub extents-more : (ls : List Location) (l : Location) → extents_in (ls ++ (l ∷ [])) ≡ extents_in ls + length l.extents
unfolding extents_in
extents-more [] l = omega arith
extents-more (m ∷ ls) l = rw (extents-more ls l) (omega arith)

pub associations-more : (ns : List IpmaEntry) (n : IpmaEntry) → associations_in (ns ++ (n ∷ [])) ≡ associations_in ns + length n.list
unfolding associations_in
associations-more [] n = omega arith
associations-more (m ∷ ns) n = rw (associations-more ns n) (omega arith)

pub targets-more : (ds : List Reference) (d : Reference) → targets_in (ds ++ (d ∷ [])) ≡ targets_in ds + length d.targets
unfolding targets_in
targets-more [] d = omega arith
targets-more (e ∷ ds) d = rw (targets-more ds d) (omega arith)
