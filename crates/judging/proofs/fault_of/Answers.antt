-- `judging::fault_of` meets its contract. Assumes nothing.
use Rattle.judging.specs.inner.Order.{rule_by}
use Rattle.judging.specs.declared.Rule.TheVariants.{Placed, Derived, Itself, Deep}
use Rattle.judging.proofs.OrderLaws.{by_rule}
use Rattle.judging.proofs.fault_of.Goals as goal

pub returns-in-Placed : goal.returns-in-Placed
unfolding rule_by
returns-in-Placed c =
    λ f h l. by_rule _ _ _ _ _ _ f _ Placed _ _ c.in-Placed.is
    (λ w. c.place_fault.ensures _ _ f w.view w.judging w.ends l) h

pub returns-in-Derived : goal.returns-in-Derived
unfolding rule_by
returns-in-Derived c =
    λ f h l. by_rule _ _ _ _ _ _ f _ Derived _ _ c.in-Derived.is
    (λ w. c.derived_fault.ensures _ f w.0 l w.1 w.2) h

pub returns-in-Itself : goal.returns-in-Itself
unfolding rule_by
returns-in-Itself c =
    λ f h l. by_rule _ _ _ _ _ _ f _ Itself _ _ c.in-Itself.is
    (λ w. c.itself_fault.ensures _ _ f w l) h

pub returns-in-Deep : goal.returns-in-Deep
unfolding rule_by
returns-in-Deep c =
    λ f h l. by_rule _ _ _ _ _ _ f _ Deep _ _ c.in-Deep.is (λ w. c.deep_fault.ensures _ _ _ f w l)
    h
