use Rattle.std.proofs.Common.{arith}
use Rattle.image_maps.proofs.StandingLemmas.{few_bytes, line_ends, is_bad}
use Rattle.image_maps.proofs.standing.read_byte.Goals as goal

pub overflow_add-at : goal.overflow_add-at
overflow_add-at c = omega (arith, few_bytes c.args.block_count c.args.spans.now.items c.args.at.now c.requires)

pub overflow_add-at-in-Ends-3 : goal.overflow_add-at-in-Ends-3
overflow_add-at-in-Ends-3 c =
    omega (arith, few_bytes c.args.block_count c.args.spans.now.items c.args.at.now c.requires)

pub overflow_add-at-in-Ends-4 : goal.overflow_add-at-in-Ends-4
overflow_add-at-in-Ends-4 c =
    omega (arith, few_bytes c.args.block_count c.args.spans.now.items c.args.at.now c.requires)

pub returns-in_ok-push-in-Ends-clause-standing : goal.returns-in_ok-push-in-Ends-clause-standing
returns-in_ok-push-in-Ends-clause-standing c =
    line_ends c.args.block_count c.args.spans.now.items c.push.new.self.items c.args.at.now c.args.byte c.in-Ends.span
    _ c.requires c.in-Ends.ensures (omega arith)
    c.in_ok-push-in-Ends.ensures.items

pub returns-in-Bad-clause-refused : goal.returns-in-Bad-clause-refused
returns-in-Bad-clause-refused c =
    is_bad c.args.block_count c.args.spans.now.items c.args.at.now c.args.byte c.requires c.in-Bad.ensures
