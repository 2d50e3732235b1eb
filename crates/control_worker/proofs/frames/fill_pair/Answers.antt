use Rattle.std.proofs.Common.{rules}
use Rattle.control_worker.proofs.FrameLemmas.{pair_asks}
use Rattle.control_worker.proofs.frames.fill_pair.Goals as goal

pub returns-clause-asks : goal.returns-clause-asks
returns-clause-asks c =
    pair_asks c.args.word.now c.args.first.now c.args.second.now c.fill.new.request.items
    c.extend_from_slice-2.new.self.items (search rules) (search rules) (search rules) (search rules) (search rules)
    (search rules)
