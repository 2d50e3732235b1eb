use Rattle.std.proofs.Common.{◌≡◌, ◌*◌, ℕ, List, length, ap, ◌∙◌, arith, rules}
use Rattle.vol_units.specs.Bytes.{bytes_at}
use Rattle.vol_units.specs.declared.size.TheConstants.{PAGE_BYTES}
use Rattle.volume_model.specs.declared.mode.Mode.TheVariants.{Rw}
use Rattle.volume_model.specs.Modes.{mode_of}
use Rattle.volume_core.specs.State.{State, state_of, modes_in}
use Rattle.volume_backup.specs.Copies.{copy_told}
use Rattle.volume_backup.specs.Answers.{IsReadable}
use Rattle.volume_backup.proofs.Worlds.{kept, long_on, tells}
use Rattle.volume_core.proofs.Moves.{may_same, may_still}
use Rattle.volume_backup.proofs.page.snap_page.Goals as goal

pub read_page-requires-clause-kept : goal.read_page-requires-clause-kept
read_page-requires-clause-kept c =
    let s : State = state_of c.args.world.now in
    let read : mode_of (modes_in s) c.args.replica ≡ Rw = search rules in
    let can : IsReadable s c.args.name.now c.args.page = c.is_readable.ensures.yes c.if-not-is_readable.false in
    kept s c.args.replica c.requires.sound read c.args.name.now can.calm can.live

pub read_page-requires-clause-inside : goal.read_page-requires-clause-inside
read_page-requires-clause-inside c =
    let s : State = state_of c.args.world.now in
    let read : mode_of (modes_in s) c.args.replica ≡ Rw = search rules in
    let can : IsReadable s c.args.name.now c.args.page = c.is_readable.ensures.yes c.if-not-is_readable.false in
    omega (
      arith,
      long_on s c.args.replica c.requires.sound read can.calm,
      c.is_readable.ensures.whole c.if-not-is_readable.false,
      c.requires.whole,
    )

pub returns-clause-ok : goal.returns-clause-ok
returns-clause-ok c =
    let s : State = state_of c.args.world.now in
    let name : List ℕ = c.args.name.now in
    let start : ℕ = c.args.page * PAGE_BYTES in
    let read : mode_of (modes_in s) c.args.replica ≡ Rw = search rules in
    let can : IsReadable s name c.args.page = c.is_readable.ensures.yes c.if-not-is_readable.false in
    let copy = (tells s c.args.replica c.requires.sound read name can.calm can.live).copy can.live in
    record {
      read = read;
      can = can;
      bytes = c.read_page.ensures.bytes ∙ ap (λ (d : List ℕ). bytes_at d start (length c.args.into.now)) copy
          ∙ ap (bytes_at (copy_told s name) start) c.requires.whole;
    }

pub returns-then-ne-clause-may : goal.returns-then-ne-clause-may
returns-then-ne-clause-may c = λ stream. may_same stream (state_of c.args.world.now) c.requires.sound

pub returns-then-not-is_readable-clause-may : goal.returns-then-not-is_readable-clause-may
returns-then-not-is_readable-clause-may c = λ stream. may_same stream (state_of c.args.world.now) c.requires.sound

pub returns-clause-may : goal.returns-clause-may
returns-clause-may c = λ stream. may_still stream (state_of c.args.world.now)
    (state_of c.read_page.new.world) c.requires.sound c.read_page.ensures.same
