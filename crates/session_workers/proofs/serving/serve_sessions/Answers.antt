use Rattle.std.proofs.Common.{rules, ◌≡◌, true, length, replicate, All, sym, ap, subst, ◌∙◌, arith}
use Rattle.std.proofs.lemmas.List.{length-map}
use Rattle.desk_lock.specs.Seats.{known, made_of, last_of, told_of}
use Rattle.door_traits.specs.Sessions.{told_all}
use Rattle.replica_node.specs.Node.{blank}
use Rattle.volume_core.specs.Opened.{IsOpenedOn, blank_opening}
use Rattle.world_holder.specs.declared.kept.WorldOnDesk.{WorldOnDesk}
use Rattle.world_holder.specs.Laid.{laid}
use Rattle.stream_turns.proofs.Begun.{as_many_nodes}
use Rattle.session_workers.specs.Tasks.{IsTask}
use Rattle.session_workers.proofs.Outcome.{all_back, all_numbered, has_all, none_begun, are_cut_short, are_served}
use Rattle.session_workers.proofs.serving.serve_sessions.Goals as goal

pub do_tasks-tasks-requires-clause-tasks : goal.do_tasks-tasks-requires-clause-tasks
do_tasks-tasks-requires-clause-tasks g c κs within =
    let table = c.in-Ok.table in
    subst (λ k. All (IsTask k table.desk) c.deal.new.tasks.items)
    (as_many_nodes c.args.size c.args.replicas c.len-sessions.result (laid (last_of table.first)) c.in-Ok.ensures.begun)
    c.deal.ensures.tasks

pub take_all_in-requires-clause-back : goal.take_all_in-requires-clause-back
take_all_in-requires-clause-back g c =
    all_back g.I.Source.left g.I.Source.faults g.O.Sink.contents g.O.Sink.faults c.in-Ok.table.desk c.deal.new.tasks.items
    c.do_tasks-tasks.result.items c.do_tasks-tasks.ensures

pub take_all_in-requires-clause-numbered : goal.take_all_in-requires-clause-numbered
take_all_in-requires-clause-numbered g c =
    all_numbered g.I.Source.left g.I.Source.faults g.O.Sink.contents g.O.Sink.faults c.in-Ok.table.desk c.deal.new.tasks.items
    c.do_tasks-tasks.result.items c.do_tasks-tasks.ensures c.deal.ensures.numbered

pub close-requires-clause-all : goal.close-requires-clause-all
close-requires-clause-all g c =
    let dealt = c.deal.new.tasks.items in
    let tasks = c.do_tasks-tasks.result.items in
    let made : made_of c.take_all_in.new.first ≡ length tasks = omega (
      arith,
      c.take_all_in.ensures.same.0,
      c.deal.ensures.made,
      c.do_tasks-tasks.ensures.many,
      ap length c.deal.ensures.clients,
      length-map dealt (λ j. j.client),
    ) in
    has_all tasks (known c.take_all_in.new.first) (told_of c.take_all_in.new.first)
    (all_numbered g.I.Source.left g.I.Source.faults g.O.Sink.contents g.O.Sink.faults c.in-Ok.table.desk dealt tasks
    c.do_tasks-tasks.ensures c.deal.ensures.numbered) c.take_all_in.ensures.joined made

pub returns-clause-served : goal.returns-clause-served
returns-clause-served g c =
    let table = c.in-Ok.table in
    let clients = c.args.clients.items in
    let size = c.args.size in
    let replicas = c.args.replicas in
    let well : c.take_all_in.result ≡ true = search rules in
    let last = c.take_all_in.ensures.same.1 ∙ c.deal.ensures.fresh.1 in
    let count : c.len-sessions.result ≡ length clients =
    omega (arith, c.len-sessions.ensures, c.args.clients.ok.0) in
    let begun = subst (λ (x : WorldOnDesk). IsOpenedOn size (blank_opening replicas) (replicate replicas (blank size))
    (length clients) (laid x)) (sym last)
    (subst (λ n. IsOpenedOn size (blank_opening replicas) (replicate replicas (blank size)) n (laid (last_of table.first))) count
    c.in-Ok.ensures.begun) in
    let made = c.take_all_in.ensures.same.0 ∙ c.deal.ensures.made in
    are_served g.I.Source.left g.I.Source.faults g.O.Sink.contents g.O.Sink.faults table.desk clients c.deal.new.tasks.items
    c.do_tasks-tasks.result.items c.deal.ensures.numbered c.deal.ensures.clients c.do_tasks-tasks.ensures size replicas
    (known c.take_all_in.new.first) (told_of c.take_all_in.new.first) c.close.result c.take_all_in.ensures.first.1
    c.close.ensures.state made begun c.take_all_in.ensures.joined c.close.ensures.told _ (c.take_all_in.ensures.ended well)
    c.into_inner-world.ensures c.take_all_in.new.clients.items c.take_all_in.ensures.clients

pub returns-in-Err-clause-stopped : goal.returns-in-Err-clause-stopped
returns-in-Err-clause-stopped g c =
    none_begun (told_all g.I.Source.left g.I.Source.faults g.O.Sink.contents g.O.Sink.faults c.args.clients.items)

pub returns-then-not-take_all_in-clause-stopped : goal.returns-then-not-take_all_in-clause-stopped
returns-then-not-take_all_in-clause-stopped g c =
    are_cut_short g.I.Source.left g.I.Source.faults g.O.Sink.contents g.O.Sink.faults c.in-Ok.table.desk c.args.clients.items
    c.deal.new.tasks.items c.do_tasks-tasks.result.items c.deal.ensures.numbered c.deal.ensures.clients c.do_tasks-tasks.ensures
    c.take_all_in.new.clients.items c.take_all_in.ensures.clients
