use Rattle.std.proofs.Common.{◌≡◌, ◌+◌, refl, sym, subst, rules}
use Rattle.volume_model.specs.declared.mode.Mode.TheVariants.{Rw}
use Rattle.volume_model.specs.declared.call.Reply.TheVariants as reply
use Rattle.volume_model.specs.declared.call.Refusal.TheVariants.{NoReplica}
use Rattle.volume_model.specs.Modes.{mode_of, HasNoSource}
use Rattle.range_turns.specs.Order.{ticket_at, IsClear}
use Rattle.volume_core.specs.Answers.{Begins, IsRoomier}
use Rattle.volume_core.specs.State.{State, state_of, told_of, modes_in}
use Rattle.volume_core.specs.Steps.{with_place, ended}
use Rattle.volume_core.specs.Sound.{IsSound, IsCalm}
use Rattle.volume_core.proofs.Keep.{begins_kept, refused_start_kept, calm_by, calm_of, place_kept, roomier_kept, roomier_place}
use Rattle.volume_core.proofs.Rows.{place_sound}
use Rattle.volume_core.proofs.Moves.{may_roomier, begins_may, begins_sees, ended_may, ended_sees, refused_may, still_may}
use Rattle.volume_core.proofs.world.World.admit.Goals as goal

pub returns-in_ok-begin-in-Some-source-clause-sound : goal.returns-in_ok-begin-in-Some-source-clause-sound
returns-in_ok-begin-in-Some-source-clause-sound c =
    let waiting_at_i_gave = c.waiting_at-i.result in
    let source = c.in-Some-source.source in
    let s : State = state_of c.args.self.now in
    let at = c.waiting_at-i.ensures in
    let clear : IsClear s.tickets waiting_at_i_gave = search rules in
    let placed : state_of c.make_place.new.self ≡ with_place s = search rules in
    let read : mode_of (modes_in s) source ≡ Rw = search rules in
    let begun : Begins (with_place s) waiting_at_i_gave source (state_of c.begin.new.self) =
    subst (λ (x : State). Begins x waiting_at_i_gave source (state_of c.begin.new.self)) placed c.in_ok-begin-in-Some-source.ensures.ok in
    begins_kept s (state_of c.begin.new.self) waiting_at_i_gave source c.requires.sound at.stands.within at.waits clear read
    (ticket_at s.tickets waiting_at_i_gave).kind refl begun

pub returns-in-None-clause-sound : goal.returns-in-None-clause-sound
returns-in-None-clause-sound c =
    let s : State = state_of c.args.self.now in
    let at = c.waiting_at-i.ensures in
    let clear : IsClear s.tickets c.waiting_at-i.result = search rules in
    let none : HasNoSource (modes_in s) = search rules in
    let e : state_of c.end_at.new.self ≡ ended (with_place s) c.waiting_at-i.result (reply.Refused NoReplica) = search rules in
    subst IsSound (sym e) (refused_start_kept s c.waiting_at-i.result c.requires.sound at.stands.within clear at.waits at.range none)

pub returns-in_ok-begin-in-Some-source-clause-may : goal.returns-in_ok-begin-in-Some-source-clause-may
returns-in_ok-begin-in-Some-source-clause-may c =
    let s : State = state_of c.args.self.now in
    let i = c.waiting_at-i.result in
    let placed : state_of c.make_place.new.self ≡ with_place s = search rules in
    let begun : Begins (with_place s) i c.in-Some-source.source (state_of c.begin.new.self) =
    subst (λ (x : State). Begins x i c.in-Some-source.source (state_of c.begin.new.self)) placed c.in_ok-begin-in-Some-source.ensures.ok in
    begins_may s (state_of c.begin.new.self) c.args.t i c.in-Some-source.source c.requires.sound
    (returns-in_ok-begin-in-Some-source-clause-sound c) c.waiting_at-i.ensures.stands (ticket_at s.tickets i).kind begun

pub returns-in_ok-begin-in-Some-source-clause-sees : goal.returns-in_ok-begin-in-Some-source-clause-sees
returns-in_ok-begin-in-Some-source-clause-sees c =
    let s : State = state_of c.args.self.now in
    let i = c.waiting_at-i.result in
    let placed : state_of c.make_place.new.self ≡ with_place s = search rules in
    let begun : Begins (with_place s) i c.in-Some-source.source (state_of c.begin.new.self) =
    subst (λ (x : State). Begins x i c.in-Some-source.source (state_of c.begin.new.self)) placed c.in_ok-begin-in-Some-source.ensures.ok in
    begins_sees s (state_of c.begin.new.self) c.args.t i c.in-Some-source.source c.requires.sound
    (returns-in_ok-begin-in-Some-source-clause-sound c) c.waiting_at-i.ensures.stands (ticket_at s.tickets i).kind begun

pub returns-in-None-clause-may : goal.returns-in-None-clause-may
returns-in-None-clause-may c =
    let s : State = state_of c.args.self.now in
    let e : state_of c.end_at.new.self ≡ ended (with_place s) c.waiting_at-i.result (reply.Refused NoReplica) = search rules in
    ended_may s (state_of c.end_at.new.self) c.args.t c.waiting_at-i.result c.requires.sound
    (returns-in-None-clause-sound c) c.waiting_at-i.ensures.stands (s.book.spare + 1) s.book.spare_data
    (reply.Refused NoReplica) (λ name removes. refl) e

pub returns-in-None-clause-sees : goal.returns-in-None-clause-sees
returns-in-None-clause-sees c =
    let s : State = state_of c.args.self.now in
    let e : state_of c.end_at.new.self ≡ ended (with_place s) c.waiting_at-i.result (reply.Refused NoReplica) = search rules in
    ended_sees s (state_of c.end_at.new.self) c.args.t c.waiting_at-i.result c.requires.sound
    (returns-in-None-clause-sound c) c.waiting_at-i.ensures.stands (s.book.spare + 1) s.book.spare_data (reply.Refused NoReplica) e

-- ---- where nothing is in its way, no call on the whole volume is started

pub begin-requires-clause-calm : goal.begin-requires-clause-calm
begin-requires-clause-calm c =
    let s : State = state_of c.args.self.now in
    let at = c.waiting_at-i.ensures in
    let clear : IsClear s.tickets c.waiting_at-i.result = search rules in
    let placed : state_of c.make_place.new.self ≡ with_place s = search rules in
    subst IsCalm (sym placed) (place_sound (told_of s).volume s.nodes s
    (calm_of s c.requires.sound (calm_by s c.waiting_at-i.result c.requires.sound at.stands.within clear
    (λ w. at.waits))))

pub returns-in_err-begin-in-Some-source-clause-sound : goal.returns-in_err-begin-in-Some-source-clause-sound
returns-in_err-begin-in-Some-source-clause-sound c =
    let s : State = state_of c.args.self.now in
    let at = c.waiting_at-i.ensures in
    let clear : IsClear s.tickets c.waiting_at-i.result = search rules in
    let placed : state_of c.make_place.new.self ≡ with_place s = search rules in
    let err : IsRoomier (state_of c.make_place.new.self) (state_of c.begin.new.self) = search rules in
    roomier_kept (with_place s) (state_of c.begin.new.self) (place_kept s c.requires.sound)
    (calm_by s c.waiting_at-i.result c.requires.sound at.stands.within clear (λ w. at.waits))
    (subst (λ (x : State). IsRoomier x (state_of c.begin.new.self)) placed err)

pub returns-in_err-begin-in-Some-source-clause-may : goal.returns-in_err-begin-in-Some-source-clause-may
returns-in_err-begin-in-Some-source-clause-may c =
    let s : State = state_of c.args.self.now in
    let placed : state_of c.make_place.new.self ≡ with_place s = search rules in
    let err : IsRoomier (state_of c.make_place.new.self) (state_of c.begin.new.self) = search rules in
    λ n call o. may_roomier n s (state_of c.begin.new.self) (returns-in_err-begin-in-Some-source-clause-sound c)
    (roomier_place s (state_of c.begin.new.self) (subst (λ (x : State). IsRoomier x (state_of c.begin.new.self)) placed err))

pub returns-in-Some-clause-may : goal.returns-in-Some-clause-may
returns-in-Some-clause-may c = refused_may c.args.t (state_of c.args.self.now) c.requires.sound

pub returns-in_err-buffer-clause-may : goal.returns-in_err-buffer-clause-may
returns-in_err-buffer-clause-may c = refused_may c.args.t (state_of c.args.self.now) c.requires.sound

pub returns-in_err-make_place-clause-may : goal.returns-in_err-make_place-clause-may
returns-in_err-make_place-clause-may c = still_may c.args.t (state_of c.args.self.now) (state_of c.make_place.new.self) c.requires.sound
    (search rules)
