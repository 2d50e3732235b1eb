use Rattle.control_worker.specs.Frames.{part_text}
use Rattle.control_worker.proofs.FrameLemmas.{part_is_text}
use Rattle.control_worker.proofs.carrier.Carrier.carry_whole.Goals as goal

pub carry_filled-requires-clause-asks : goal.carry_filled-requires-clause-asks
carry_filled-requires-clause-asks g c =
    (part_text c.args.whole.now.op, part_is_text c.args.whole.now.op, c.fill_part.ensures.asks)
