use Rattle.std.proofs.Common.{List, ℕ, ◌≡◌, subst, sym}
use Rattle.fault_lines.specs.Planned.{IsMet, AreSmall, rising_above}
use Rattle.fault_lines.proofs.PlannedLemmas.{IsMet-new}
use Rattle.fault_lines.proofs.carry_plan.CarryPlan.new.Goals as goal

-- of a copy
started : (numbers fails : List ℕ) → fails ≡ rising_above 0 numbers → AreSmall fails → IsMet fails 0 0
started numbers fails e small = subst (λ l. IsMet l 0 0) (sym e) (IsMet-new numbers (subst AreSmall e small))

pub invariant_of-result : goal.invariant_of-result
invariant_of-result c = started c.args.fails.now c.in_ok-rising.field-0.items c.in_ok-rising.ensures.copy c.in_ok-rising.ensures.small
