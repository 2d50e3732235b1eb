use Rattle.std.proofs.Common.{◌+◌, [], ◌∷◌, length, refl, sym, ap, ◌∙◌, arith}
use Rattle.std.proofs.lemmas.List.{length-append}
use Rattle.desk_lock.specs.Seats.{last_of}
use Rattle.world_holder.specs.Laid.{laid}
use Rattle.stream_turns.proofs.Lists.{many_more, whole_next}
use Rattle.session_workers.proofs.Dealing.{pushed, is_task, tasks_more, numbers_more, clients_more}
use Rattle.session_workers.proofs.tasks.deal.Goals as goal

pub loop-client-preserved : goal.loop-client-preserved
loop-client-preserved g c =
    let inv = c.loop-client.invariant in
    let desk = c.args.desk.now in
    let items = c.loop-client.tasks.items in
    let more = c.push.new.self.items in
    let yielded = c.loop-client.yielded in
    let split = c.split_off-at.ensures in
    let is = pushed items more _ c.push.result c.unwrap.result c.unwrap.ensures c.push.ensures.items in
    record {
      whole = whole_next c.args.clients.items yielded c.next.new.self.rest.items c.loop-client.client-iterator.rest.items
          c.in-Some.client inv.whole c.in-Some.ensures.steps.0;
      seat = split.seat;
      first = ap (λ k. k.number) split.first ∙ inv.first;
      joined = ap (λ k. k.joined) split.first ∙ inv.joined;
      made = ap (λ k. k.made) split.first ∙ ap (λ n. n + 1) inv.made;
      last = ap (λ k. k.last) split.first ∙ inv.last;
      count = omega (arith, inv.count, length-append yielded (c.in-Some.client ∷ []));
      many = many_more items more _ (length yielded) is inv.many ∙ sym (length-append yielded (c.in-Some.client ∷ []));
      room = omega (arith, inv.room, c.push.ensures.capacity);
      tasks = tasks_more (length (laid (last_of c.args.first.now)).nodes) desk items more _ is inv.tasks
          (is_task desk _ c.split_off-at.result.seat (last_of c.loop-client.first) (last_of c.args.first.now) refl split.rests
          split.free split.last split.idle split.none inv.last);
      numbered = numbers_more items more _ is inv.numbered (inv.count ∙ sym inv.many);
      clients = clients_more items more _ yielded is inv.clients;
    }
