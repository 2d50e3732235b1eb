use Rattle.std.proofs.Common.{rules, ◌≡◌, ◌≢◌, ◌<◌, ◌^◌, length}
use Rattle.volume_model.specs.declared.mode.Mode.TheVariants.{Err}
use Rattle.volume_model.specs.Modes.{mode_of}
use Rattle.open_calls.specs.Calls.{open_at}
use Rattle.volume_core.specs.State.{state_of, modes_in}
use Rattle.volume_maint.specs.Steps.{whole_parted}
use Rattle.volume_maint.proofs.Owes.{parted_goes}
use Rattle.volume_maint.proofs.WholeSound.{OwesPart, owes_fits, owes_kept, if_whole}
use Rattle.volume_core.proofs.Moves.{may_same}
use Rattle.volume_maint.proofs.whole.part.Goals as goal

pub part_on-requires-clause-fit : goal.part_on-requires-clause-fit
part_on-requires-clause-fit c =
    let s = state_of c.args.world.now in
    let owes : OwesPart s c.args.t c.args.replica = search rules in
    let few : length s.book.entries < 2 ^ 63 = search rules in
    let up : mode_of (modes_in s) c.args.replica ≢ Err = search rules in
    owes_fits s c.args.t c.args.replica c.requires.sound owes few up

pub returns-clause-sound : goal.returns-clause-sound
returns-clause-sound c =
    let s = state_of c.args.world.now in
    let owes : OwesPart s c.args.t c.args.replica = search rules in
    owes_kept s c.args.t c.args.replica c.requires.sound owes (state_of c.part_on.new.world) c.part_on.ensures

pub returns-clause-may : goal.returns-clause-may
returns-clause-may c = λ i stands.
    let s = state_of c.args.world.now in
    let s2 = state_of c.part_on.new.world in
    let owes : OwesPart s c.args.t c.args.replica = search rules in
    let is : s2 ≡ whole_parted s owes.0 c.args.replica =
    if_whole s.whole owes.0 (λ w. s2 ≡ whole_parted s w c.args.replica) owes.2.is c.part_on.ensures in
    parted_goes (open_at s.calls i).stream s s2 (returns-clause-sound c) owes.0 c.args.replica is

pub returns-then-eq-clause-may : goal.returns-then-eq-clause-may
returns-then-eq-clause-may c = λ at stands. may_same _ (state_of c.args.world.now) c.requires.sound

pub returns-then-not-owes_part-clause-may : goal.returns-then-not-owes_part-clause-may
returns-then-not-owes_part-clause-may c = λ at stands. may_same _ (state_of c.args.world.now) c.requires.sound
