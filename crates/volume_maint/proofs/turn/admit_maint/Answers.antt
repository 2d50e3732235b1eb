use Rattle.std.proofs.Common.{◌≡◌, ℕ, ◌≤◌, sym, subst, arith, rules}
use Rattle.range_turns.specs.Order.{StandsAt}
use Rattle.volume_core.specs.declared.world.World.{World}
use Rattle.volume_core.specs.State.{State, state_of}
use Rattle.volume_core.specs.Sound.{IsSound}
use Rattle.volume_core.specs.Streams.{MayGo}
use Rattle.volume_maint.specs.Steps.{turn_begun}
use Rattle.volume_maint.proofs.TurnSound.{begun_kept}
use Rattle.volume_core.proofs.TurnLemmas.{for_asker}
use Rattle.volume_maint.proofs.TurnStreams.{begun_goes}
use Rattle.volume_core.proofs.Moves.{may_same}
use Rattle.volume_maint.proofs.turn.admit_maint.Goals as goal

-- the command is the first
stands_first : (s : State) (t k : ℕ) → StandsAt s.maint t k → k ≤ 0 → StandsAt s.maint t 0
stands_first s t k at low = subst (λ (n : ℕ). StandsAt s.maint t n) (omega (arith, low)) at

pub returns-clause-sound : goal.returns-clause-sound
returns-clause-sound c =
    let s : State = state_of c.args.world.now in
    let after : World = record c.args.world.now { maint = c.start_at.new.self } in
    let is : state_of after ≡ turn_begun s = search rules in
    let stands = stands_first s c.args.t c.waiting_command_at-k.result c.waiting_command_at-k.ensures.stands
    (omega (arith, c.if-k-gt0.false)) in
    subst IsSound (sym is) (begun_kept s c.requires.sound stands.within)

pub returns-clause-may : goal.returns-clause-may
returns-clause-may c =
    let s : State = state_of c.args.world.now in
    let after : World = record c.args.world.now { maint = c.start_at.new.self } in
    let is : state_of after ≡ turn_begun s = search rules in
    let stands = stands_first s c.args.t c.waiting_command_at-k.result c.waiting_command_at-k.ensures.stands
    (omega (arith, c.if-k-gt0.false)) in
    for_asker s c.args.t 0 (λ stream. MayGo stream s (state_of after)) stands
    (begun_goes s (state_of after) c.requires.sound (returns-clause-sound c) is)

pub returns-then-k-gt0-clause-may : goal.returns-then-k-gt0-clause-may
returns-then-k-gt0-clause-may c = λ at stands. may_same _ (state_of c.args.world.now) c.requires.sound
