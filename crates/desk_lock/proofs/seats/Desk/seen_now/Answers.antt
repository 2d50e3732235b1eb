use Rattle.std.proofs.Common.{rules, sym, ap, ◌∙◌}
use Rattle.desk_lock.specs.Rule.{is_live, number_in, made_in, told_in}
use Rattle.desk_lock.specs.Seats.{known, told_of}
use Rattle.desk_lock.proofs.Looks.{learns}
use Rattle.desk_lock.proofs.Turned.{is_known, known_is, number_known, made_known}
use Rattle.desk_lock.proofs.seats.Desk.seen_now.Goals as goal

pub load-requires : goal.load-requires
load-requires g c = let s = c.args.seat.now in (
  search rules,
  search rules,
  learns g.S.Kept.account _ _ _ (known s) (told_of s, is_known s.pass.me.0 s.live) c.requires.1.0,
)

pub invariant_of-seat : goal.invariant_of-seat
invariant_of-seat g c = let s = c.args.seat.now in
    let now = (c.load.ensures.2.1 (known s) (told_of s) (is_known s.pass.me.0 s.live)).2 in record {
      live = ap is_live now;
      numbered = ap number_in now ∙ (sym (number_known s.pass.me.0 s.live) ∙ s.numbered);
      counted = ap made_in now ∙ (sym (made_known s.pass.me.0 s.live) ∙ s.counted);
    }

pub returns-clause-seat : goal.returns-clause-seat
returns-clause-seat g c = let s = c.args.seat.now in
    let same = known_is _ _ _ _ (c.load.ensures.2.1 (known s) (told_of s) (is_known s.pass.me.0 s.live)).2 in (
      (c.load.ensures.0 ∙ c.requires.0, (ap (λ v. v.stage) same ∙ c.requires.1.0, c.load.ensures.2.0 ∙ c.requires.1.1)),
      same,
    )

pub returns-clause-told : goal.returns-clause-told
returns-clause-told g c = let s = c.args.seat.now in let heard = c.load.ensures.2.1 (known s) (told_of s) (is_known s.pass.me.0 s.live) in
    (ap told_in heard.2, heard.0)

pub returns-clause-seen : goal.returns-clause-seen
returns-clause-seen g c = let s = c.args.seat.now in (c.load.ensures.2.1 (known s) (told_of s) (is_known s.pass.me.0 s.live)).1
