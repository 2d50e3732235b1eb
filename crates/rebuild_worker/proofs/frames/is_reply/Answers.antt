use Rattle.std.proofs.Common.{ap, nat_eq}
use Rattle.rebuild_worker.proofs.frames.is_reply.Goals as goal

pub returns : goal.returns
returns c = λ h body fits is. ap (λ kind. nat_eq kind 2) (c.kind_of.ensures h body fits is)
