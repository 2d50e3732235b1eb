use Rattle.std.proofs.Common.{rules}
use Rattle.desk_lock.proofs.Turned.{opens_at}
use Rattle.desk_lock.proofs.seats.Desk.new.Goals as goal

pub new-requires : goal.new-requires
new-requires g c = opens_at g.S.Kept.account c.args.state _ _ c.requires.sound c.requires.blank.0 c.requires.blank.1
    c.in_ok-slots.ensures (search rules)
