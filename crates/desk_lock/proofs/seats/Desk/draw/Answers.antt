use Rattle.std.proofs.Common.{rules, refl, ap, ◌∙◌}
use Rattle.desk_lock.proofs.Draws.{draws}
use Rattle.desk_lock.proofs.seats.Desk.draw.Goals as goal

pub compare_exchange-requires : goal.compare_exchange-requires
compare_exchange-requires g c = let idle = c.requires.1 in (
  search rules,
  search rules,
  draws g.S.Kept.account _ _ _ _ _ idle.0 refl (idle.1.0, ap (λ m. m.0) c.loop.invariant.2 ∙ idle.1.1) idle.2,
)
