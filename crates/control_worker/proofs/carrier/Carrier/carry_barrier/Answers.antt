use Rattle.std.proofs.Common.{◌++◌}
use Rattle.std.specs.Prelude.{codes}
use Rattle.control_worker.proofs.FrameLemmas.{barrier_is_text}
use Rattle.control_worker.proofs.carrier.Carrier.carry_barrier.Goals as goal

pub carry_filled-requires-clause-asks : goal.carry_filled-requires-clause-asks
carry_filled-requires-clause-asks g c = (
  codes "snapshot " ++ c.args.name.now,
  barrier_is_text c.args.whole.now.op c.requires.barrier.0 c.args.name.now c.requires.barrier.1,
  c.fill_barrier.ensures.asks,
)
