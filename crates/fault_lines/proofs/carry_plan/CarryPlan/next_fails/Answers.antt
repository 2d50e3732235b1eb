use Rattle.std.proofs.Common.{rules, ◌≡◌, ◌↔◌, IsTrue}
use Rattle.outer_traits.specs.Causes.{one_more}
use Rattle.fault_lines.specs.Planned.{IsMet, IsNext}
use Rattle.fault_lines.proofs.PlannedLemmas.{FollowsPlan-next}
use Rattle.fault_lines.proofs.carry_plan.CarryPlan.next_fails.Goals as goal

pub returns-then-fails-clause-plan : goal.returns-then-fails-clause-plan
returns-then-fails-clause-plan c =
    let met : IsMet c.args.self.now.fails c.args.self.now.carries c.args.self.now.count = search rules in
    let carry : c.saturating_add-carry.result ≡ one_more c.args.self.now.carries = search rules in
    let found : IsTrue c.is_next-fails.result ↔ IsNext c.args.self.now.fails c.args.self.now.count
    (one_more c.args.self.now.carries) = search rules in
    FollowsPlan-next c.args.self.now _ c.is_next-fails.result met found carry (search rules)

pub returns-else-fails-clause-plan : goal.returns-else-fails-clause-plan
returns-else-fails-clause-plan c =
    let met : IsMet c.args.self.now.fails c.args.self.now.carries c.args.self.now.count = search rules in
    let carry : c.saturating_add-carry.result ≡ one_more c.args.self.now.carries = search rules in
    let found : IsTrue c.is_next-fails.result ↔ IsNext c.args.self.now.fails c.args.self.now.count
    (one_more c.args.self.now.carries) = search rules in
    FollowsPlan-next c.args.self.now _ c.is_next-fails.result met found carry (search rules)
