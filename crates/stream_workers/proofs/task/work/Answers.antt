use Rattle.std.proofs.Common.{rules, ◌≡◌, ◌∙◌, length, map, subst, sym, ap, refl, arith, Some}
use Rattle.std.proofs.lemmas.List.{length-map}
use Rattle.outer_traits.specs.Lines.{AreLinesOf}
use Rattle.desk_lock.specs.Seats.{last_of}
use Rattle.world_holder.specs.Laid.{laid}
use Rattle.stream_turns.specs.Turn.{AreNewLines}
use Rattle.stream_turns.proofs.Lists.{some_same}
use Rattle.control_worker.specs.Store.{StoreSoFar}
use Rattle.stream_workers.specs.Tasks.{own_at}
use Rattle.stream_workers.proofs.task.work.Goals as goal

pub serve_stream-seat-requires-clause-lines : goal.serve_stream-seat-requires-clause-lines
serve_stream-seat-requires-clause-lines g c =
    let task = c.args.task.now in
    let took : c.replace-channels.result ≡ task.channels = search rules in
    let seat = some_same c.unwrap-seat.result c.requires.seat c.take.result c.unwrap-seat.ensures (c.take.ensures.value ∙ c.requires.has) in
    subst (λ v. AreNewLines task.number (length (laid (last_of c.unwrap-seat.result)).nodes)
    (map (λ x. g.L.Line.ends x.line) v.items) (map (λ x. g.L.Line.count x.line) v.items)
    (map (λ x. g.L.Line.carried x.line) v.items)) (sym took)
    (subst (λ s. AreNewLines task.number (length (laid (last_of s)).nodes)
    (map (λ x. g.L.Line.ends x.line) task.channels.items) (map (λ x. g.L.Line.count x.line) task.channels.items)
    (map (λ x. g.L.Line.carried x.line) task.channels.items)) (sym seat) c.requires.lines)

pub returns-clause-done : goal.returns-clause-done
returns-clause-done g c =
    let task = c.args.task.now in
    let took : c.replace-channels.result ≡ task.channels = search rules in
    let done = c.serve_stream-seat.ensures in
    let seat = some_same c.unwrap-seat.result c.requires.seat c.take.result c.unwrap-seat.ensures (c.take.ensures.value ∙ c.requires.has) in
    record {
      back = λ is. record {
        seat = c.serve_stream-seat.result.0;
        has = refl;
        of_desk = (done.seat is).0;
        number = (done.seat is).1;
        lined = subst (AreLinesOf task.number 0) (sym (done.ends ∙ ap (λ v. map (λ x. g.L.Line.ends x.line) v.items) took))
            c.requires.lines.lined;
        many = omega (
          arith,
          done.count,
          ap (λ v. length v.items) took,
          length-map task.channels.items (λ x. g.L.Line.ends x.line),
          c.requires.lines.many,
          done.replicas is,
          ap (λ s. length (laid (last_of s)).nodes) seat,
        );
        ended = done.served is;
      };
      number = refl;
      stream = refl;
    }

pub returns-clause-lent : goal.returns-clause-lent
returns-clause-lent g c =
    let done = c.serve_stream-seat.ensures in
    record {
      later = done.later;
      told = done.told;
      store = λ is some tells seat has.
          let same = some_same c.serve_stream-seat.result.0 seat (Some c.serve_stream-seat.result.0) refl has in
          subst (λ s. StoreSoFar (g.T.Target.holds c.args.target.now) (g.T.Target.faults c.args.target.now)
          (g.T.Target.holds c.serve_stream-seat.new.target) (g.T.Target.faults c.serve_stream-seat.new.target) c.args.volume.now
          (own_at c.args.task.now.number s)) same (done.store is some tells);
    }
