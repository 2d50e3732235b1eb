use Rattle.step_answers.specs.declared.whole_op.WholeOp.{WholeOp}
use Rattle.volume_core.specs.State.{State, state_of}
use Rattle.volume_maint.specs.Answers.{BeginsWith, BeginsWhole}
use Rattle.volume_maint.proofs.Barriers.{begins_plain, plain_of, ok_to}
use Rattle.volume_maint.proofs.whole.begin.Goals as goal

pub returns-in-Snapshot : goal.returns-in-Snapshot
returns-in-Snapshot c =
    let s : State = state_of c.args.world.now in
    let s2 : State = state_of c.begin_other.new.world in
    let op : WholeOp = c.args.op in
    record {
      ok = ok_to c.begin_other.result (BeginsWith s c.args.i op s2) (BeginsWhole s c.args.i op s2)
          (begins_plain s s2 c.args.i op (plain_of op c.in-Snapshot.is)) c.begin_other.ensures.ok;
      err = c.begin_other.ensures.err;
    }
