use Rattle.frame_wire.proofs.OneAnswer.{one_answer}
use Rattle.frame_wire.proofs.wire.decode.Goals as goal

pub returns-clause-only : goal.returns-clause-only
returns-clause-only c = λ other. one_answer c.args.bytes.now c.args.most _ other c.decoded.ensures
