use Rattle.std.proofs.Common.{Err, subst}
use Rattle.std.proofs.lemmas.Result.{err_from_is_err_and}
use Rattle.serde_json.specs.View.{view}
use Rattle.script_head.specs.declared.member.Member.TheVariants.{Lines}
use Rattle.script_head.specs.Members.{HasLines}
use Rattle.script_head.specs.Refusals.{Reads}
use Rattle.script_head.proofs.Readers.{GoodBefore, refused_at_streams, refused_at_lines}
use Rattle.script_head.proofs.head.head_in.Goals as goal
use Rattle.script_head.proofs.head.head_in.Goals.{In_ok-now}

good : (c : In_ok-now) → GoodBefore (view c.args.line.now) c.in_ok-replicas.replicas
good c = record {
  volume = (_, c.in_ok-volume.ensures);
  size = (_, c.in_ok-size.ensures);
  replica_count = c.in_ok-replicas.ensures;
  opens = (_, c.in_ok-opens.ensures);
  saves = (_, c.in_ok-saves.ensures);
  now = (_, c.in_ok-now.ensures);
}

pub returns-in_err-streams : goal.returns-in_err-streams
returns-in_err-streams c =
    let p = err_from_is_err_and c.from_residual-in_err-streams.result c.from_residual-in_err-streams.ensures.1 in
    rw (p.1, p.2) (refused_at_streams (view c.args.line.now) _ _ (good (goal.at.returns-in_err-streams c).In_ok-now)
    c.in_err-streams.ensures)

pub returns-in_err-lines : goal.returns-in_err-lines
returns-in_err-lines c =
    let p = err_from_is_err_and c.from_residual-in_err-lines.result c.from_residual-in_err-lines.ensures.1 in
    let line = view c.args.line.now in
    let streams = c.in_ok-streams.streams in
    let replicas = c.in_ok-replicas.replicas in
    rw (p.1, p.2)
    (refused_at_lines line replicas streams _ (good (goal.at.returns-in_err-lines c).In_ok-now) c.in_ok-streams.ensures
    (subst (λ n. Reads Lines (HasLines line n replicas) (Err c.in_err-lines.field-0.0)) c.len.ensures c.in_err-lines.ensures))
