use Rattle.std.proofs.Common.{inl, inr, rules}
use Rattle.volume_core.specs.State.{state_of}
use Rattle.volume_core.proofs.Moves.{complete_may, complete_sees, refused_may, still_may}
use Rattle.volume_core.proofs.world.World.complete.Goals as goal

pub returns-in-Ok-clause-may : goal.returns-in-Ok-clause-may
returns-in-Ok-clause-may c =
    let done = c.in-Ok.ensures.ok in
    complete_may (state_of c.args.self.now) (state_of c.complete_write.new.self) c.args.t
    (c.in-Some.i, done.0, done.2, inl (c.in-Some.ensures.place, done.1)) c.requires.sound c.complete_write.ensures.sound

pub returns-in-Ok-clause-sees : goal.returns-in-Ok-clause-sees
returns-in-Ok-clause-sees c =
    let done = c.in-Ok.ensures.ok in
    complete_sees (state_of c.args.self.now) (state_of c.complete_write.new.self) c.args.t
    (c.in-Some.i, done.0, done.2, inl (c.in-Some.ensures.place, done.1)) c.requires.sound c.complete_write.ensures.sound

pub returns-in-Ok-complete_read-clause-may : goal.returns-in-Ok-complete_read-clause-may
returns-in-Ok-complete_read-clause-may c =
    let done = c.in-Ok-complete_read.ensures.ok in
    complete_may (state_of c.args.self.now) (state_of c.complete_read.new.self) c.args.t
    (c.in-Some-read_at.i, done.0, done.2, inr (c.in-Some-read_at.ensures.place, done.1)) c.requires.sound
    c.complete_read.ensures.sound

pub returns-in-Ok-complete_read-clause-sees : goal.returns-in-Ok-complete_read-clause-sees
returns-in-Ok-complete_read-clause-sees c =
    let done = c.in-Ok-complete_read.ensures.ok in
    complete_sees (state_of c.args.self.now) (state_of c.complete_read.new.self) c.args.t
    (c.in-Some-read_at.i, done.0, done.2, inr (c.in-Some-read_at.ensures.place, done.1)) c.requires.sound
    c.complete_read.ensures.sound

pub returns-in-Err-clause-may : goal.returns-in-Err-clause-may
returns-in-Err-clause-may c = still_may c.args.t (state_of c.args.self.now) (state_of c.complete_write.new.self) c.requires.sound
    (search rules)

pub returns-in-Err-complete_read-clause-may : goal.returns-in-Err-complete_read-clause-may
returns-in-Err-complete_read-clause-may c = still_may c.args.t (state_of c.args.self.now) (state_of c.complete_read.new.self)
    c.requires.sound (search rules)

pub returns-in-None-clause-may : goal.returns-in-None-clause-may
returns-in-None-clause-may c = refused_may c.args.t (state_of c.args.self.now) c.requires.sound
