use Rattle.std.proofs.Common.{rules, ◌≡◌, ◌+◌, length, take, None, Some}
use Rattle.std.proofs.lemmas.List.{length-take-le}
use Rattle.frame_wire.specs.Spelling.{header_length}
use Rattle.client_worker.proofs.Writing.{reads_none, reads_some, reads_own, reads_ends}
use Rattle.client_worker.proofs.carrier.Carrier.serve_read.Goals as goal

pub returns-in_default-clause-ok : goal.returns-in_default-clause-ok
returns-in_default-clause-ok g c =
    let op = c.requires.waits in
    let no : c.in_ok-start.field-0 ≡ None = search rules in
    reads_none c.args.read.now.ticket c.args.read.now.offset c.args.read.now.count (g.C.ClientSteps.mine c.args.self.now.steps)
    (g.C.ClientSteps.mine c.begin_read.new.self.steps) c.in_ok-start.field-0 (op.0, op.1)
    (c.in_ok-start.ensures.ok op.0 op.1 op.3) no

pub carry_read-requires-clause-own : goal.carry_read-requires-clause-own
carry_read-requires-clause-own g c =
    let before = g.C.ClientSteps.mine c.args.self.now.steps in
    let begun = g.C.ClientSteps.mine c.begin_read.new.self.steps in
    let op = c.requires.waits in
    let yes : c.in_ok-start.field-0 ≡ Some c.in-Some.start = search rules in
    let reply = take (header_length + c.args.read.now.count) c.deref_mut.result.now in
    let long : length reply ≡ header_length + c.args.read.now.count = search (rules, length-take-le) in
    reads_own c.args.read.now before begun reply op.0 op.1 long
    (reads_some op.0 c.args.read.now.offset c.args.read.now.count before begun c.in_ok-start.field-0 c.in-Some.start
    (c.in_ok-start.ensures.ok op.0 op.1 op.3) yes)

pub returns-clause-ok : goal.returns-clause-ok
returns-clause-ok g c =
    let before = g.C.ClientSteps.mine c.args.self.now.steps in
    let begun = g.C.ClientSteps.mine c.begin_read.new.self.steps in
    let op = c.requires.waits in
    let yes : c.in_ok-start.field-0 ≡ Some c.in-Some.start = search rules in
    reads_ends c.args.read.now.ticket c.args.read.now.offset c.args.read.now.count before begun
    (g.C.ClientSteps.mine c.carry_read.new.self.steps) (op.0, op.1)
    (reads_some op.0 c.args.read.now.offset c.args.read.now.count before begun c.in_ok-start.field-0 c.in-Some.start
    (c.in_ok-start.ensures.ok op.0 op.1 op.3) yes) c.carry_read.ensures.done
