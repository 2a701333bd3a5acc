-- `asked::verdict_in` meets its contract. Assumes nothing.
use mathlib.Core.Path.{◌∙◌}
use Rattle.questions.specs.Questions.{verdict_in}
use Rattle.asked.specs.Told.{told_verdict}
use Rattle.asked.proofs.verdict_in.Goals as goal

pub returns : goal.returns
unfolding verdict_in told_verdict
returns c = λ head pl f v. let n = c.word.ensures ∙ v.items in let p = c.word-2.ensures ∙ v.primary in rw (n, p)
