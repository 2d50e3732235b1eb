use Rattle.std.proofs.Common.{rules, ◌≡◌, length, None, Some}
use Rattle.client_worker.proofs.Writing.{begins_none, begins_some, begins_own, begins_ends}
use Rattle.client_worker.proofs.carrier.Carrier.serve_write.Goals as goal

pub returns-in_default-clause-ok : goal.returns-in_default-clause-ok
returns-in_default-clause-ok g c =
    let e : c.in_ok-job.field-0 ≡ None = search rules in
    begins_none c.args.write.now.ticket (length c.args.self.now.channels) (g.C.ClientSteps.mine c.args.self.now.steps)
    (g.C.ClientSteps.mine c.begin_write.new.self.steps) c.in_ok-job.field-0 c.begin_write.new.rooms c.in_ok-job.ensures.ok e

pub carry_write-requires : goal.carry_write-requires
carry_write-requires g c =
    let many = length c.args.self.now.channels in
    let before = g.C.ClientSteps.mine c.args.self.now.steps in
    let begun = g.C.ClientSteps.mine c.begin_write.new.self.steps in
    let e : c.in_ok-job.field-0 ≡ Some c.in-Some.job = search rules in
    let op = c.requires.waits in
    rw c.begin_write.ensures.stays.lines (record {
      own = begins_own c.args.write.now.ticket many c.in-Some.job before begun c.begin_write.new.rooms op.0 op.1
          (begins_some c.args.write.now.ticket many before begun c.in_ok-job.field-0 c.in-Some.job c.begin_write.new.rooms
          c.in_ok-job.ensures.ok e op.0 op.1);
    })

pub returns-clause-ok : goal.returns-clause-ok
returns-clause-ok g c =
    let many = length c.args.self.now.channels in
    let before = g.C.ClientSteps.mine c.args.self.now.steps in
    let begun = g.C.ClientSteps.mine c.begin_write.new.self.steps in
    let e : c.in_ok-job.field-0 ≡ Some c.in-Some.job = search rules in
    begins_ends c.args.write.now.ticket many c.in-Some.job before begun (g.C.ClientSteps.mine c.carry_write.new.self.steps)
    c.begin_write.new.rooms (begins_some c.args.write.now.ticket many before begun c.in_ok-job.field-0 c.in-Some.job
    c.begin_write.new.rooms c.in_ok-job.ensures.ok e) c.carry_write.ensures.done
