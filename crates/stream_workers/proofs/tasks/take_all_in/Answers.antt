use Rattle.std.proofs.Common.{rules, ◌≡◌, [], ◌∷◌, ◌++◌, length, ap, subst, ◌∙◌, All}
use Rattle.desk_lock.specs.Seats.{known}
use Rattle.stream_turns.specs.Volume.{heads_of}
use Rattle.stream_turns.proofs.Lists.{at_next, whole_next, whole_end, map_snoc}
use Rattle.stream_workers.specs.Tasks.{IsBack, IsIn}
use Rattle.stream_workers.proofs.Taking.{more_in, first_of}
use Rattle.stream_workers.proofs.tasks.take_all_in.Goals as goal

pub take_in-stream-requires-clause-back : goal.take_in-stream-requires-clause-back
take_in-stream-requires-clause-back g c κs within =
    at_next (λ k j. IsBack g.V.Wrapped.Line.ends g.V.Wrapped.Line.count g.V.Wrapped.Line.carried c.args.desk.now j)
    c.args.tasks.items c.loop-task.yielded c.next.new.self.rest.items c.loop-task.task-iterator.rest.items c.in-Some.task
    c.loop-task.invariant.whole c.in-Some.ensures.steps.0 c.requires.back

pub loop-task-preserved : goal.loop-task-preserved
loop-task-preserved g c =
    let take_in = c.take_in-stream in
    let inv = c.loop-task.invariant in
    let joins = take_in.ensures.joined in
    let rest = c.next.new.self.rest.items in
    let before = c.loop-task.task-iterator.rest.items in
    let steps = c.in-Some.ensures.steps.0 in
    record {
      whole = whole_next c.args.tasks.items c.loop-task.yielded rest before c.in-Some.task inv.whole steps;
      seat = take_in.ensures.first;
      first = ap (λ k. k.number) joins.is ∙ inv.first;
      made = ap (λ k. k.made) joins.is ∙ inv.made;
      last = ap (λ k. k.last) joins.is ∙ inv.last;
      joined = more_in g.V.Wrapped.Line.count g.V.Wrapped.Line.carried c.in-Some.task (known c.loop-task.first)
          (known take_in.new.first) (g.W.Wiring.counts c.loop-task.wiring) (g.W.Wiring.counts take_in.new.wiring)
          (g.W.Wiring.carried c.loop-task.wiring) (g.W.Wiring.carried take_in.new.wiring) joins take_in.ensures.counts
          take_in.ensures.carried c.loop-task.yielded
          (first_of (λ k j. j.number ≡ k) c.loop-task.yielded before c.args.tasks.items inv.whole c.requires.numbered)
          (at_next (λ k j. j.number ≡ k) c.args.tasks.items c.loop-task.yielded rest before c.in-Some.task inv.whole steps
          c.requires.numbered) inv.joined;
      asked = take_in.ensures.asked ∙ inv.asked;
      heads = λ is. let w = c.both-well.ensures is in
          map_snoc (λ j. heads_of j.stream) c.loop-task.yielded c.in-Some.task c.loop-task.heads.items _
          (c.keep_heads-kept.ensures w.1 ∙ ap (λ s. c.loop-task.heads.items ++ heads_of s ∷ []) take_in.ensures.stream)
          (inv.heads w.0);
    }

pub returns-clause-joined : goal.returns-clause-joined
returns-clause-joined g c =
    let none : length c.loop-task.task-iterator.rest.items ≡ 0 = search rules in
    let all = whole_end c.args.tasks.items c.loop-task.yielded c.loop-task.task-iterator.rest.items c.loop-task.invariant.whole none in
    subst (All (IsIn g.V.Wrapped.Line.count g.V.Wrapped.Line.carried (known c.loop-task.first).joined
    (g.W.Wiring.counts c.loop-task.wiring) (g.W.Wiring.carried c.loop-task.wiring))) all c.loop-task.invariant.joined
