use Rattle.std.proofs.Common.{◌≡◌, [], length, Some, refl, sym, ap, subst, ◌∙◌}
use Rattle.desk_lock.specs.declared.seats.Seat.{Seat}
use Rattle.desk_lock.specs.Seats.{last_of}
use Rattle.door_traits.specs.Sessions.{told}
use Rattle.world_holder.specs.declared.kept.WorldOnDesk.{WorldOnDesk}
use Rattle.world_holder.specs.Laid.{laid}
use Rattle.session_serve.specs.Sessions.{own_of}
use Rattle.session_workers.specs.Clients.{SessionComesTo}
use Rattle.stream_turns.proofs.Lists.{some_same}
use Rattle.session_workers.proofs.Stays.{no_answers}
use Rattle.session_workers.proofs.Working.{stopped_at_once, may_call, is_back, is_back_unserved}
use Rattle.session_workers.proofs.task.work.Goals as goal

pub returns-in_default : goal.returns-in_default
returns-in_default g c =
    let task = c.requires.task in
    let number = c.args.task.now.number in
    record {
      back = is_back_unserved c.args.replicas c.args.desk.now c.args.task.now _ task refl refl (λ seat. tt);
      number = refl;
      served = λ seat has.
          let same = some_same task.seat seat c.args.task.now.seat task.has has in
          stopped_at_once number _ _ (no_answers number (laid (last_of seat))
          (subst (λ (s : Seat WorldOnDesk). own_of number (laid (last_of s)) ≡ []) same task.none));
    }

pub serve_client-seat-requires-clause-may : goal.serve_client-seat-requires-clause-may
serve_client-seat-requires-clause-may g c =
    let task = c.requires.task in
    may_call c.args.replicas c.args.desk.now c.args.task.now task c.unwrap-seat.result c.new-session.result
    (some_same c.unwrap-seat.result task.seat c.take.result c.unwrap-seat.ensures (c.take.ensures.value ∙ task.has))
    (ap (λ x. x.number) c.new-session.ensures) (ap (λ x. length x.channels) c.new-session.ensures ∙ c.in-Ok.ensures)

pub serve_client-seat-requires-clause-fresh : goal.serve_client-seat-requires-clause-fresh
serve_client-seat-requires-clause-fresh g c =
    let task = c.requires.task in
    let seat = c.unwrap-seat.result in
    let number = c.new-session.result.number in
    let same = some_same seat task.seat c.take.result c.unwrap-seat.ensures (c.take.ensures.value ∙ task.has) in
    no_answers number (laid (last_of seat))
    (subst (λ (s : Seat WorldOnDesk). own_of number (laid (last_of s)) ≡ []) (sym same)
    (subst (λ n. own_of n (laid (last_of task.seat)) ≡ []) (sym (ap (λ x. x.number) c.new-session.ensures)) task.none))

pub returns : goal.returns
returns g c =
    let task = c.args.task.now in
    let served = c.serve_client-seat in
    let seat = served.result.0 in
    let number : c.new-session.result.number ≡ task.number = ap (λ x. x.number) c.new-session.ensures in
    let before = told (g.I.Source.left task.client.source) (g.I.Source.faults task.client.source)
    (g.O.Sink.contents task.client.sink) (g.O.Sink.faults task.client.sink) in
    let now = told (g.I.Source.left served.new.client.source) (g.I.Source.faults served.new.client.source)
    (g.O.Sink.contents served.new.client.sink) (g.O.Sink.faults served.new.client.sink) in
    record {
      back = is_back c.args.desk.now _ seat served.new.session refl served.ensures.again (served.ensures.number ∙ number)
          served.ensures.seen;
      number = refl;
      served = λ s has.
          subst (λ (s : Seat WorldOnDesk). SessionComesTo task.number before now (laid (last_of s)).book.entries served.result.1)
          (some_same seat s (Some seat) refl has)
          (subst (λ n. SessionComesTo n before now (laid (last_of seat)).book.entries served.result.1) number served.ensures.served);
    }
