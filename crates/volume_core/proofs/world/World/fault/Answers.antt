use Rattle.std.proofs.Common.{◌≢◌, ◌<◌, sym, subst, rules}
use Rattle.volume_model.specs.declared.mode.Mode.TheVariants.{Err}
use Rattle.volume_model.specs.Faults.{last_count}
use Rattle.volume_model.specs.Modes.{mode_of}
use Rattle.volume_core.specs.State.{state_of, modes_in}
use Rattle.volume_core.specs.Sound.{IsSound}
use Rattle.volume_core.proofs.FallsKept.{faulted_kept}
use Rattle.volume_core.proofs.Appends.{fault_may, fault_sees}
use Rattle.volume_core.proofs.Moves.{may_same, stays_same}
use Rattle.volume_core.proofs.world.World.fault.Goals as goal

pub returns-clause-sound : goal.returns-clause-sound
returns-clause-sound c =
    let up : mode_of (modes_in (state_of c.args.self.now)) c.args.replica ≢ Err = search rules in
    let above : last_count c.args.stream c.args.replica c.args.self.now.journal.entries < c.args.count = search rules in
    subst IsSound (sym c.mark_fault.ensures)
    (faulted_kept (state_of c.args.self.now) c.args.stream c.args.replica c.args.count c.requires.sound up above)

pub returns-clause-may : goal.returns-clause-may
returns-clause-may c = fault_may c.args.stream (state_of c.args.self.now) (state_of c.mark_fault.new.self) c.args.replica
    c.args.count c.mark_fault.ensures (returns-clause-sound c)

pub returns-clause-sees : goal.returns-clause-sees
returns-clause-sees c = fault_sees c.args.stream (state_of c.args.self.now) (state_of c.mark_fault.new.self) c.args.replica
    c.args.count c.mark_fault.ensures

pub returns-then-eq-clause-may : goal.returns-then-eq-clause-may
returns-then-eq-clause-may c = may_same c.args.stream (state_of c.args.self.now) c.requires.sound

pub returns-then-count-last-clause-may : goal.returns-then-count-last-clause-may
returns-then-count-last-clause-may c = may_same c.args.stream (state_of c.args.self.now) c.requires.sound

pub returns-then-eq-clause-stays : goal.returns-then-eq-clause-stays
returns-then-eq-clause-stays c = stays_same c.args.stream (state_of c.args.self.now)

pub returns-then-count-last-clause-stays : goal.returns-then-count-last-clause-stays
returns-then-count-last-clause-stays c = stays_same c.args.stream (state_of c.args.self.now)
