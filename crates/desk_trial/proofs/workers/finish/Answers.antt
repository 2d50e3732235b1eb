use Rattle.std.proofs.Common.{rules, ◌≡◌, [], ◌∷◌, ◌++◌, OnOk, OnErr}
use Rattle.desk_lock.specs.Seats.{last_of}
use Rattle.desk_trial.specs.Books.{note_of, notes_in, streams_of}
use Rattle.desk_trial.proofs.Finishes.{may_leave, still_inside, one_more, none_more}
use Rattle.desk_trial.proofs.workers.finish.Goals as goal

pub leave-requires-clause-may : goal.leave-requires-clause-may
leave-requires-clause-may g c = may_leave c.args.seat.now c.enter-guard.result.seat.now c.enter-guard.result.state
    c.finish-done.new.self c.args.stream c.requires.begun.0 c.finish-done.result
    c.enter-guard.ensures.turn.0 c.requires.seat.1 c.enter-guard.ensures.state c.requires.begun.1 (search rules)
    c.finish-done.ensures.ok c.finish-done.ensures.err

pub returns-clause-inside : goal.returns-clause-inside
returns-clause-inside g c =
    let end = still_inside c.args.seat.now c.enter-guard.result.seat.now c.enter-guard.result.state c.finish-done.new.self
    c.args.stream c.requires.begun.0 c.finish-done.result
    c.enter-guard.ensures.turn.0 c.requires.seat.1 c.enter-guard.ensures.state c.requires.begun.1 (search rules)
    c.finish-done.ensures.ok c.finish-done.ensures.err c.leave.new.self.1.0 c.leave.ensures in
    let is : streams_of (last_of c.leave.new.self.1.0) ≡ streams_of (last_of c.args.seat.now) = end in search rules

pub returns-clause-mine : goal.returns-clause-mine
returns-clause-mine g c = λ z at.
    let more : OnOk c.finish-done.result
    (notes_in c.args.stream (last_of c.leave.new.self.1.0) ≡ notes_in c.args.stream (last_of c.args.seat.now)
    ++ note_of c.args.stream z ∷ []) =
    one_more c.args.seat.now c.enter-guard.result.seat.now c.enter-guard.result.state c.finish-done.new.self c.args.stream
    c.requires.begun.0 c.finish-done.result
    c.enter-guard.ensures.turn.0 c.requires.seat.1 c.enter-guard.ensures.state c.requires.begun.1 (search rules)
    c.finish-done.ensures.ok c.finish-done.ensures.err c.leave.new.self.1.0 c.leave.ensures z at in
    search rules

pub returns-clause-err : goal.returns-clause-err
returns-clause-err g c =
    let none : OnErr c.finish-done.result
    (notes_in c.args.stream (last_of c.leave.new.self.1.0) ≡ notes_in c.args.stream (last_of c.args.seat.now)) =
    none_more c.args.seat.now c.enter-guard.result.seat.now c.enter-guard.result.state c.finish-done.new.self c.args.stream
    c.requires.begun.0 c.finish-done.result
    c.enter-guard.ensures.turn.0 c.requires.seat.1 c.enter-guard.ensures.state c.requires.begun.1 (search rules)
    c.finish-done.ensures.ok c.finish-done.ensures.err c.leave.new.self.1.0 c.leave.ensures in
    search rules
