use Rattle.std.proofs.Common.{rules, ◌≡◌, length, ap, sym, subst, ◌∙◌, All, arith}
use Rattle.desk_lock.specs.Seats.{known, number_of, told_of}
use Rattle.stream_turns.proofs.Lists.{at_next, whole_next, whole_end, map_snoc, some_same}
use Rattle.session_workers.specs.Tasks.{IsBack, IsIn}
use Rattle.session_workers.proofs.Dealing.{pushed}
use Rattle.session_workers.proofs.Taking.{more_in, ends_more}
use Rattle.session_workers.proofs.tasks.take_all_in.Goals as goal

pub loop-task-preserved : goal.loop-task-preserved
loop-task-preserved g c =
    let inv = c.loop-task.invariant in
    let task = c.in-Some.task in
    let yielded = c.loop-task.yielded in
    let rest = c.next.new.self.rest.items in
    let before = c.loop-task.task-iterator.rest.items in
    let steps = c.in-Some.ensures.steps.0 in
    let back = at_next (λ k j. IsBack c.args.desk.now j) c.args.tasks.items yielded rest before task inv.whole steps c.requires.back in
    let same = some_same back.seat c.unwrap.result task.seat back.has c.unwrap.ensures in
    let kept = c.join.ensures.kept task.number (ap number_of (sym same) ∙ back.number) in
    record {
      whole = whole_next c.args.tasks.items yielded rest before task inv.whole steps;
      seat = c.join.ensures.seat;
      first = ap (λ k. k.number) kept ∙ inv.first;
      made = ap (λ k. k.made) kept ∙ inv.made;
      last = ap (λ k. k.last) kept ∙ inv.last;
      joined = more_in task c.unwrap.result (known c.loop-task.first) (known c.join.new.seat) (told_of c.loop-task.first)
          (told_of c.join.new.seat) c.unwrap.ensures kept c.join.ensures.told yielded inv.joined;
      room = omega (arith, inv.room, c.push.ensures.capacity);
      clients = map_snoc (λ j. j.client) yielded task c.loop-task.clients.items c.push.new.self.items
          (pushed c.loop-task.clients.items c.push.new.self.items task.client c.push.result c.unwrap-in-loop-task.result
          c.unwrap-in-loop-task.ensures c.push.ensures.items) inv.clients;
      ended = λ is.
          let w = c.both-well.ensures is in
          let k = c.keep-kept.ensures w.1 in
          ends_more (λ j. j.ended) yielded task c.loop-task.ended.items c.keep-kept.new.ended.items k.0 k.1 k.2 (inv.ended w.0);
    }

pub returns-clause-joined : goal.returns-clause-joined
returns-clause-joined g c =
    let none : length c.loop-task.task-iterator.rest.items ≡ 0 = search rules in
    let all = whole_end c.args.tasks.items c.loop-task.yielded c.loop-task.task-iterator.rest.items c.loop-task.invariant.whole none in
    subst (All (IsIn (known c.loop-task.first).joined (told_of c.loop-task.first))) all c.loop-task.invariant.joined
