use Rattle.std.proofs.Common.{rules, sym, ◌∙◌, ◌≡◌, is_some, true}
use Rattle.std.specs.Prelude.{IsSome}
use Rattle.control_worker.specs.Giver.{GivesOn}
use Rattle.control_worker.proofs.BackupLemmas.{live_of, looked_at, made_same, made_so, makes_same, source_seen}
use Rattle.control_worker.proofs.GiverLemmas.{gives_step, gives_then, live_kept, still_live, weaker}
use Rattle.control_worker.proofs.backup.try_backup.Given.{Over}
use Rattle.control_worker.proofs.backup.try_backup.Goals as goal
use Rattle.control_worker.proofs.backup.try_backup.Goals.{After-lowest}

-- its size and the lowest were asked for
seen : (g : Over) (c : After-lowest g) → GivesOn g.C.CommandSteps.home g.C.CommandSteps.mine g.C.BackupSteps.copies g.L.Line.ends
    (record { steps = c.args.steps.now; channels = c.args.channels.now })
    (record { steps = c.lowest.new.self; channels = c.args.channels.now })
seen g c = gives_then _ (record { steps = c.copy_size.new.self; channels = c.args.channels.now }) _
    (gives_step (record { steps = c.args.steps.now; channels = c.args.channels.now }) c.copy_size.new.self
    c.copy_size.ensures.stands.home c.copy_size.ensures.stands.same c.copy_size.ensures.kept)
    (gives_step (record { steps = c.copy_size.new.self; channels = c.args.channels.now }) c.lowest.new.self
    c.lowest.ensures.stands.home c.lowest.ensures.stands.same c.lowest.ensures.kept)

-- the snapshot can be used
live : (g : Over) (c : After-lowest g) → IsSome (g.C.BackupSteps.copies c.lowest.new.self c.args.snapshot.now)
live g c = still_live _ _ c.args.snapshot.now c.lowest.ensures.kept (live_of _ c.in-Some.size c.in-Some.ensures.is)

pub returns-in_default-clause-keeps : goal.returns-in_default-clause-keeps
returns-in_default-clause-keeps g c =
    gives_step (record { steps = c.args.steps.now; channels = c.args.channels.now }) c.copy_size.new.self
    c.copy_size.ensures.stands.home c.copy_size.ensures.stands.same c.copy_size.ensures.kept

pub returns-then-is_none-clause-keeps : goal.returns-then-is_none-clause-keeps
returns-then-is_none-clause-keeps g c = seen g (goal.at.returns-then-is_none-clause-keeps g c).After-lowest

pub returns-then-is_none-clause-ok : goal.returns-then-is_none-clause-ok
returns-then-is_none-clause-ok g c =
    let at = (goal.at.returns-then-is_none-clause-ok g c).After-lowest in
    weaker _ _ c.tried_of.result
    (λ t is. looked_at g.T.Target.tells c.args.volume.now c.args.backup.now c.args.snapshot.now _ c.look_only.result t _ _ _ _ _ is
    (live g at) c.look_only.ensures.none c.look_only.ensures.store c.look_only.ensures.cause)
    c.tried_of.ensures

pub returns-clause-keeps : goal.returns-clause-keeps
returns-clause-keeps g c =
    gives_then _ _ _ (seen g (goal.at.returns-clause-keeps g c).After-lowest) c.make_over.ensures.keeps

pub returns-clause-ok : goal.returns-clause-ok
returns-clause-ok g c =
    let at = (goal.at.returns-clause-ok g c).After-lowest in
    let some : is_some c.lowest.result ≡ true = search rules in
    let copies = g.C.BackupSteps.copies in
    let same = live_kept (copies c.lowest.new.self) (copies c.make_over.new.steps) c.args.snapshot.now
    c.make_over.ensures.keeps.kept (live g at) in
    weaker _ _ c.tried_of-2.result
    (λ t is. made_so g.T.Target.tells c.args.volume.now c.args.backup.now c.args.snapshot.now
    (copies c.make_over.new.steps c.args.snapshot.now) c.make_over.result t _ _ _ _ (g.C.CommandSteps.mine c.args.steps.now) is
    (still_live _ _ c.args.snapshot.now c.make_over.ensures.keeps.kept (live g at))
    (λ told. makes_same c.args.volume.now c.args.backup.now _ _ c.make_over.result _ _ (sym same) (c.make_over.ensures.store told))
    (made_same g.T.Target.tells _ c.args.volume.now c.args.snapshot.now _ _ c.make_over.result (sym same) c.make_over.ensures.made)
    c.make_over.ensures.cause
    (source_seen _ (g.C.CommandSteps.mine c.lowest.new.self) c.lowest.result
    (c.lowest.ensures.stands.same ∙ c.copy_size.ensures.stands.same) some c.lowest.ensures.here))
    c.tried_of-2.ensures
