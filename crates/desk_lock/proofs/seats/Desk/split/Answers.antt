use Rattle.std.proofs.Common.{rules, ap, arith}
use Rattle.desk_lock.proofs.Looks.{recalls}
use Rattle.desk_lock.proofs.Turned.{is_known, splits_at}
use Rattle.desk_lock.specs.Seats.{known, told_of}
use Rattle.desk_lock.proofs.seats.Desk.split.Goals as goal

pub load-requires : goal.load-requires
load-requires g c = (search rules, search rules, recalls g.S.Kept.account _ _ _)

pub split_seat-pass-requires : goal.split_seat-pass-requires
split_seat-pass-requires g c = let room = c.requires.room in let few = c.args.self.now.few in (
  search rules,
  search rules,
  splits_at g.S.Kept.account _ _ c.args.seat.now.live _ (ap (λ m. m.0) c.load.ensures.2.0) c.requires.seat.1 (omega arith),
)

pub returns-clause-silent : goal.returns-clause-silent
returns-clause-silent g c = let s = c.args.seat.now in
    c.load.ensures.2.1 (known s) (told_of s) (is_known s.pass.me.0 s.live) c.requires.seat.1 _ (search rules)
