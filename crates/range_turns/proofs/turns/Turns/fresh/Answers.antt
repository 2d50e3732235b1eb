use Rattle.std.proofs.Common.{ℕ, below_more, arith}
use Rattle.range_turns.proofs.Numbers.{IsTaken, taken_where_found, fresh_after}
use Rattle.range_turns.proofs.turns.Turns.fresh.Goals as goal

pub loop-number-preserved : goal.loop-number-preserved
loop-number-preserved c =
    below_more (λ (n : ℕ). IsTaken c.args.self.now.tickets n) _ c.loop-number.invariant
    (taken_where_found c.args.self.now.tickets _ c.place.result c.place.ensures.found c.if-is_none.ensures)

pub returns : goal.returns
returns c =
    fresh_after c.args.self.now.tickets c.len-most.result c.len-most.ensures
    (λ number below. c.loop-number.invariant number (omega arith))
