use Rattle.std.proofs.Common.{rules}
use Rattle.desk_lock.proofs.Turned.{has_number_of, joins_at}
use Rattle.desk_lock.proofs.seats.Desk.join.Goals as goal

pub join_seat-requires : goal.join_seat-requires
join_seat-requires g c = let other = c.requires.other in let n = has_number_of _ other.1 in (
  search rules,
  search rules,
  search rules,
  search rules,
  joins_at g.S.Kept.account _ _ c.args.seat.now.live _ _ c.args.other.live n.0 c.requires.seat.1 n.1 other.0.1.0,
)
