-- `out::kind_number` meets its contract. Assumes nothing.
use mathlib.Core.Path.{sym, ◌∙◌}
use Rattle.out.proofs.OrientationLaws.{irot-told, imir-told}
use Rattle.out.proofs.kind_number.Goals as goal

pub returns-in-Irot : goal.returns-in-Irot
returns-in-Irot c = λ x e. (irot-told x _ (sym c.in-Irot.is ∙ e)).0

pub returns-in-Imir : goal.returns-in-Imir
returns-in-Imir c = λ x e. (imir-told x _ (sym c.in-Imir.is ∙ e)).0
