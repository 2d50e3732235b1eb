use Rattle.std.specs.Prelude.{None}
use Rattle.std.proofs.Common.{◌≡◌, ◌+◌, ◌≤◌, [], length, false, refl, sym, subst, rules}
use Rattle.vol_units.specs.Range.{blocks_around}
use Rattle.range_turns.specs.declared.ticket.Kind.TheVariants as kind
use Rattle.volume_core.specs.State.{state_of}
use Rattle.volume_core.specs.Steps.{with_data, enrolled}
use Rattle.volume_core.specs.Sound.{IsSound}
use Rattle.volume_core.proofs.Keep.{call_enrolled}
use Rattle.volume_model.specs.declared.call.Call.TheVariants as call
use Rattle.volume_core.specs.Answers.{IsBehind}
use Rattle.volume_core.proofs.Moves.{behind_may, behind_sees, may_still}
use Rattle.volume_core.proofs.world.World.enrol_write.Goals as goal

no_read : kind.Write ≡ kind.Read → ⊥
no_read e = cc

no_whole : kind.Write ≡ kind.Whole → ⊥
no_whole e = cc

pub returns-clause-sound : goal.returns-clause-sound
returns-clause-sound c =
    let s = state_of c.args.self.now in
    let range = c.unwrap-range.result in
    let at = c.in-Some.at in
    let n = length c.args.bytes in
    let around : range ≡ blocks_around at n = search rules in
    let good : at + n ≤ s.size = search rules in
    let e : state_of c.put_behind.new.self ≡ enrolled (with_data s n)
    (record { number = c.in_ok-number.number; range = range; kind = kind.Write; started = false })
    (record {
      stream = c.args.stream;
      saw = length s.book.entries;
      at = at;
      length = n;
      bytes = c.args.bytes;
      front =
          [];
      back = [];
      buffer = [];
      parts = [];
      op = None;
    }) = search rules in
    subst IsSound (sym e)
    (call_enrolled s kind.Write c.in_ok-number.number c.args.stream at n range c.args.bytes c.requires.sound no_whole
    c.requires.free c.bytes-size.ensures.size.whole around good (λ r. absurd (no_read r)) (λ _. refl) c.requires.stream
    c.requires.idle c.in_ok-number.ensures.fresh)

pub returns-clause-may : goal.returns-clause-may
returns-clause-may c =
    let s = state_of c.args.self.now in
    let is : IsBehind s c.args.stream (call.Write c.args.offset c.args.bytes) c.in_ok-number.number
    (state_of c.put_behind.new.self) = search rules in
    behind_may c.args.stream c.in_ok-number.number (call.Write c.args.offset c.args.bytes) s
    (state_of c.put_behind.new.self) is c.requires.sound (returns-clause-sound c)

pub returns-clause-sees : goal.returns-clause-sees
returns-clause-sees c =
    let s = state_of c.args.self.now in
    let is : IsBehind s c.args.stream (call.Write c.args.offset c.args.bytes) c.in_ok-number.number
    (state_of c.put_behind.new.self) = search rules in
    behind_sees c.args.stream c.in_ok-number.number (call.Write c.args.offset c.args.bytes) s
    (state_of c.put_behind.new.self) is c.requires.idle c.requires.sound

pub returns-in_err-number-clause-may : goal.returns-in_err-number-clause-may
returns-in_err-number-clause-may c = may_still c.args.stream (state_of c.args.self.now) (state_of c.put_behind.new.self)
    c.requires.sound (search rules)
