use Rattle.std.proofs.Common.{ap, arith}
use Rattle.volume_core.specs.State.{State}
use Rattle.stream_turns.proofs.Begun.{begun_blank}
use Rattle.stream_turns.proofs.serving.blank_world.Goals as goal

pub overflow_cast-streams : goal.overflow_cast-streams
overflow_cast-streams c = omega (arith, c.requires.few_streams, c.len-streams.ensures)

pub returns-clause-begun : goal.returns-clause-begun
returns-clause-begun c =
    begun_blank c.args.script.now c.len-streams.result c.in_ok-world.world c.in_ok-world.ensures.sound c.in_ok-world.ensures.begun
    c.requires.few_replicas c.len-streams.ensures

pub returns-clause-opening : goal.returns-clause-opening
returns-clause-opening c = ap (λ (x : State). x.book.opening) c.in_ok-world.ensures.begun.state
