use Rattle.std.proofs.Common.{◌≡◌, ℕ, ◌<◌, List, length, false, sym, ap, subst, arith, refl}
use Rattle.std.proofs.lemmas.Grind.{elements}
use Rattle.volume_model.specs.declared.call.Reply.TheVariants as reply
use Rattle.volume_model.specs.declared.call.Refusal.TheVariants.{NoReplica}
use Rattle.volume_model.specs.declared.mode.Mode.{Mode}
use Rattle.volume_model.specs.Modes.{mode_of}
use Rattle.volume_model.proofs.SpotLemmas.{has_source}
use Rattle.open_calls.specs.declared.open_call.OpenCall.{OpenCall}
use Rattle.open_calls.specs.Calls.{open_at}
use Rattle.step_answers.specs.Parts.{part_at, is_pending_at}
use Rattle.volume_core.specs.State.{State, state_of, modes_in}
use Rattle.volume_core.specs.Sound.{IsSound}
use Rattle.volume_core.proofs.Keep.{write_kept}
use Rattle.volume_core.proofs.world.World.complete_write.Goals as goal

-- none is pending of the World, where none is of these modes and this call
none_pending : (s : State) (i : ℕ) (modes : List Mode) (x : OpenCall) → modes ≡ modes_in s → x ≡ open_at s.calls i
    → length (modes_in s) ≡ length s.nodes
    → ((r : ℕ) → r < length modes → is_pending_at (mode_of modes r) (part_at x.parts r) ≡ false)
    → (r : ℕ) → r < length s.nodes → is_pending_at (mode_of (modes_in s) r) (part_at (open_at s.calls i).parts r) ≡ false
none_pending s i modes x same is many none r l =
    subst (λ ms. is_pending_at (mode_of ms r) (part_at (open_at s.calls i).parts r) ≡ false) same
    (subst (λ (y : OpenCall). is_pending_at (mode_of modes r) (part_at y.parts r) ≡ false) is
    (none r (omega (arith, l, many, ap length same))))

pub returns-in-Some-source-clause-sound : goal.returns-in-Some-source-clause-sound
returns-in-Some-source-clause-sound c =
    let s = state_of c.args.self.now in
    let at = c.requires.is.1 in
    let read : c.index.result.now ≡ open_at s.calls c.args.i = grind (arith, elements) in
    let acknowledged = none_pending s c.args.i c.modes.result.now c.index.result.now c.modes.ensures read
    c.requires.calm.clients.agree.as_many c.in_default.ensures in
    subst IsSound (sym c.end_at.ensures.state)
    (write_kept s c.args.i c.requires.sound at.stands.within at.writes reply.Done
    (record { acknowledged = acknowledged; reply = has_source (modes_in s) c.in-Some-source.field-0 (sym c.in-Some-source.ensures.value) }))

pub returns-in-None-clause-sound : goal.returns-in-None-clause-sound
returns-in-None-clause-sound c =
    let s = state_of c.args.self.now in
    let at = c.requires.is.1 in
    let read : c.index.result.now ≡ open_at s.calls c.args.i = grind (arith, elements) in
    let acknowledged = none_pending s c.args.i c.modes.result.now c.index.result.now c.modes.ensures read
    c.requires.calm.clients.agree.as_many c.in_default.ensures in
    subst IsSound (sym c.end_at-in-None.ensures.state)
    (write_kept s c.args.i c.requires.sound at.stands.within at.writes (reply.Refused NoReplica)
    (record { acknowledged = acknowledged; reply = (refl, c.in-None.ensures.found) }))
