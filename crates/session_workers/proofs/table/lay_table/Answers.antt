use Rattle.std.proofs.Common.{subst, sym}
use Rattle.volume_core.specs.declared.world.World.{World}
use Rattle.volume_core.specs.Sound.{NoneGaveUp}
use Rattle.volume_core.specs.State.{state_of}
use Rattle.stream_turns.proofs.Begun.{none_gave_up_yet}
use Rattle.session_workers.proofs.table.lay_table.Goals as goal

pub lay_down-requires-clause-given_up : goal.lay_down-requires-clause-given_up
lay_down-requires-clause-given_up g c =
    subst (λ (w : World). NoneGaveUp w.gave_up.items) (sym c.in_ok-held.ensures.ok)
    (none_gave_up_yet c.args.size c.args.sessions _ _ (state_of c.in_ok-world.world) c.in_ok-world.ensures.begun)
