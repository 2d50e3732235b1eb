use Rattle.std.proofs.Common.{sym, ap, ◌∙◌}
use Rattle.desk_lock.specs.Rule.{is_live, number_in, made_in, told_in}
use Rattle.desk_lock.specs.Seats.{known, told_of}
use Rattle.desk_lock.proofs.Turned.{is_known, known_is, number_known, made_known, turn_known}
use Rattle.desk_lock.proofs.guard.put_in.Goals as goal

pub put-requires-clause-may : goal.put-requires-clause-may
put-requires-clause-may g c = let s = c.args.seat.now in let holds = turn_known s.pass.me.0 s.live c.requires.turn.1 in
    (known s, holds.0, (told_of s, is_known s.pass.me.0 s.live), holds.1, c.requires.may)

pub invariant_of-seat : goal.invariant_of-seat
invariant_of-seat g c = let s = c.args.seat.now in
    let now = ap (λ m. m.0) (c.put.ensures.left (known s) (told_of s) (is_known s.pass.me.0 s.live)) in record {
      live = ap is_live now;
      numbered = ap number_in now ∙ (sym (number_known s.pass.me.0 s.live) ∙ s.numbered);
      counted = ap made_in now ∙ (sym (made_known s.pass.me.0 s.live) ∙ s.counted);
    }

pub returns : goal.returns
returns g c = let s = c.args.seat.now in let now = c.put.ensures.left (known s) (told_of s) (is_known s.pass.me.0 s.live) in
    (c.put.ensures.same.0, known_is _ _ _ _ (ap (λ m. m.0) now), ap (λ m. m.1) now, ap (λ m. told_in m.0) now)
