use Rattle.std.proofs.Common.{arith}
use Rattle.stream_turns.proofs.Begun.{begun_opened}
use Rattle.opened_world.specs.Opening.{opened_opening}
use Rattle.volume_cli.proofs.begin.begin_on.Goals as goal

pub overflow_cast-streams : goal.overflow_cast-streams
overflow_cast-streams c = omega (arith, c.requires.good.few_streams, c.len-streams.ensures)

pub returns-clause-world : goal.returns-clause-world
returns-clause-world c =
    let many = c.requires.known.1.many in
    begun_opened c.args.script.now c.args.script.now.size c.len-streams.result
    (opened_opening c.args.opened.nodes.items c.deref.result.now) c.args.opened.nodes.items c.in_ok-world.world
    c.in_ok-world.ensures.sound c.in_ok-world.ensures.begun (omega (arith, many, c.requires.good.few_replicas)) c.len-streams.ensures many
