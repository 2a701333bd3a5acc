-- `judging::judge_itself` meets its contract. Assumes nothing.
use Rattle.judging.proofs.JudgedLaws.{itself_grounded}
use Rattle.judging.proofs.judge_itself.Goals as goal

pub returns-then-all_grounded : goal.returns-then-all_grounded
returns-then-all_grounded c =
    λ f d. itself_grounded _ _ f d _ c.item_count-n.ensures
    (c.all_grounded.ensures c.if-all_grounded.true)
