-- `views::property_box` meets its contract. Assumes nothing.
use Rattle.views.proofs.TableLaws.{property-none, index-small, part-read}
use Rattle.views.proofs.StandLaws.{part-stands}
use mathlib.Core.Path.{sym}
use native.Mathlib.Omega.{arith}
use Rattle.views.proofs.property_box.Goals as goal
use Rattle.views.proofs.property_box.Goals.{then-k-eq0-via-then-k-eq0, then-k-eq0-via-else-k-eq0+then-k-gt256}

pub returns-then-k-eq0 : goal.returns-then-k-eq0
returns-then-k-eq0 c =
    record {
      result_value = λ pl f v h. elim c.then-k-eq0.branch [
        | then-k-eq0-via-then-k-eq0 w ↦ sym (property-none f c.args.index.0 w.if-k-eq0.true)
        | then-k-eq0-via-else-k-eq0+then-k-gt256 w ↦ absurd (omega (arith, index-small v c.args.index.0 h))
      ];
      by_index = λ total x f w v h o. elim c.then-k-eq0.branch [
        | then-k-eq0-via-then-k-eq0 w ↦ absurd (o w.if-k-eq0.true)
        | then-k-eq0-via-else-k-eq0+then-k-gt256 w ↦ absurd (omega (arith, index-small v c.args.index.0 h))
      ];
    }

pub returns : goal.returns
returns c =
    record {
      result_value = λ pl f v h. part-read v c.args.index.0 h c.if-k-eq0.false _ _ _ c.word.ensures
          c.word-2.ensures c.part.ensures.result_value;
      by_index = λ total x f w v h o. part-stands total c.args.head.now
          x _ f w v c.args.index.0 h o _ _ _ _ c.word.ensures c.word-2.ensures
          c.part.ensures.lies_at;
    }
