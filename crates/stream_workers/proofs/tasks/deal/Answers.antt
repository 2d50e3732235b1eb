use Rattle.std.proofs.Common.{rules, ◌≡◌, ◌+◌, [], ◌∷◌, length, refl, sym, ap, ◌∙◌, arith}
use Rattle.std.proofs.lemmas.List.{length-append}
use Rattle.desk_lock.specs.Seats.{last_of}
use Rattle.stream_turns.specs.Turn.{IsTaken}
use Rattle.world_holder.specs.Laid.{laid}
use Rattle.stream_turns.proofs.Asks.{all_asked, one_worker_more}
use Rattle.stream_turns.proofs.Lists.{at_next, many_more, whole_next, whole_end}
use Rattle.stream_workers.proofs.Dealing.{is_task, tasks_more, numbers_more, streams_more}
use Rattle.stream_workers.proofs.tasks.deal.Goals as goal

pub loop-stream-preserved : goal.loop-stream-preserved
loop-stream-preserved g c =
    let items = c.loop-stream.tasks.items in
    let yielded = c.loop-stream.yielded in
    let inv = c.loop-stream.invariant in
    let split = c.split_off-at.ensures in
    let pushed = c.in_ok-push.ensures.items in
    let taken = at_next (λ k s. IsTaken c.args.replicas s) c.args.streams.items yielded c.next.new.self.rest.items
    c.loop-stream.stream-iterator.rest.items c.in-Some.stream inv.whole c.in-Some.ensures.steps.0 c.requires.taken in
    let next : c.loop-stream.number ≡ length items = inv.count ∙ sym inv.many in
    record {
      whole = whole_next c.args.streams.items yielded c.next.new.self.rest.items c.loop-stream.stream-iterator.rest.items
          c.in-Some.stream inv.whole c.in-Some.ensures.steps.0;
      seat = split.seat;
      first = ap (λ k. k.number) split.first ∙ inv.first;
      joined = ap (λ k. k.joined) split.first ∙ inv.joined;
      made = ap (λ k. k.made) split.first ∙ ap (λ n. n + 1) inv.made;
      last = ap (λ k. k.last) split.first ∙ inv.last;
      count = omega (arith, inv.count, length-append yielded (c.in-Some.stream ∷ []));
      many = many_more items c.push.new.self.items _ (length yielded) pushed inv.many ∙ sym (length-append yielded (c.in-Some.stream ∷ []));
      tasks = tasks_more g.V.Wrapped.Line.ends g.V.Wrapped.Line.count g.V.Wrapped.Line.carried c.args.desk.now items
          c.push.new.self.items _ pushed inv.tasks
          (is_task g.V.Wrapped.Line.ends g.V.Wrapped.Line.count g.V.Wrapped.Line.carried c.args.desk.now _
          c.split_off-at.result.seat (last_of c.loop-stream.first) c.args.replicas refl split.rests split.free split.last split.idle
          split.none taken
          (c.requires.replicas.0 ∙ sym (ap (λ w. length (laid w).nodes) inv.last)) c.requires.replicas.1 c.in_ok-channels.ensures.new);
      numbered = numbers_more g.V.Wrapped.Line.ends g.V.Wrapped.Line.count g.V.Wrapped.Line.carried c.args.desk.now items
          c.push.new.self.items _ pushed inv.numbered next;
      streams = streams_more g.V.Wrapped.Line.ends g.V.Wrapped.Line.count g.V.Wrapped.Line.carried c.args.desk.now items
          c.push.new.self.items _ yielded pushed inv.streams;
      asked = one_worker_more c.args.plans.now c.args.replicas c.args.replicas c.loop-stream.number (c.loop-stream.number + 1) _ _ _
          inv.asked c.in_ok-channels.ensures.asked refl refl;
    }

pub returns-clause-asked : goal.returns-clause-asked
returns-clause-asked g c =
    let none : length c.loop-stream.stream-iterator.rest.items ≡ 0 = search rules in
    let all = whole_end c.args.streams.items c.loop-stream.yielded c.loop-stream.stream-iterator.rest.items
    c.loop-stream.invariant.whole none in
    all_asked c.args.plans.now c.args.replicas c.loop-stream.number (length c.args.streams.items) _ _ c.loop-stream.invariant.asked
    (c.loop-stream.invariant.count ∙ ap length all)
