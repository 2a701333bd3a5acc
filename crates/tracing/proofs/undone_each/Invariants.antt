-- `tracing::undone_each` meets its contract. The loop's invariant: association k names a transform, where there is one, and what is
-- left from there on, undone and followed to where the pixels come from, is the whole undone. The measure is n - k. Assumes nothing.
use Rattle.std.proofs.Common.{◌≡◌, ◌-◌, ◌<◌, true, length, get_or, drop}
use Rattle.contents.specs.File.{File}
use Rattle.pictures.specs.Turn.{undone, size_through, Inside, AllFit}
use Rattle.pictures.specs.Decode.{transform, turns_of}
use Rattle.rules.specs.Joined.{associations_of, boxes_of, types_of}
use Rattle.rules.specs.Places.{Places}
use Rattle.views.specs.inner.View.{TableOf, id_of}
use Rattle.tracing.proofs.WalkedLaws.{Walked}
use Rattle.tracing.proofs.undone_each.Given as goal

abbrev pub invariant-loop-k : goal.invariant-loop-k
invariant-loop-k l =
    (pl : Places) (f : File) → TableOf l.table l.head pl f → l.row.0 < length f.items →
    transform (get_or (types_of f (id_of f l.row.0)) l.j 0) ≡ true →
    AllFit (turns_of l.initial.size (drop l.j (boxes_of f (id_of f l.row.0)))) l.initial.size →
    Inside (size_through (turns_of l.initial.size (drop l.j (boxes_of f (id_of f l.row.0)))) l.initial.size) l.p →
    (l.k < length (associations_of f (id_of f l.row.0)) → transform (get_or (types_of f (id_of f l.row.0)) l.k 0) ≡ true)
    × Walked (turns_of l.size (drop l.k (boxes_of f (id_of f l.row.0)))) l.size l.p
    (undone (turns_of l.initial.size (drop l.j (boxes_of f (id_of f l.row.0)))) l.initial.size l.p) l.origin

abbrev pub decreases-loop-k : goal.decreases-loop-k
decreases-loop-k l = l.n - l.k
