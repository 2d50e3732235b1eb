use Rattle.std.proofs.Common.{◌<◌, ◌≤◌, List, map, slice_index_or, arith, refl, sym, subst}
use Rattle.std.specs.Vec.{with_items}
use Rattle.volume_model.specs.Faults.{last_count}
use Rattle.stream_steps.specs.Mine.{entries_in}
use Rattle.client_worker.specs.Asking.{TellOn}
use Rattle.client_worker.specs.Working.{Passes, counts_of, told_by}
use Rattle.client_worker.specs.declared.channel.Channel.{Channel}
use Rattle.control_worker.proofs.CarrierLemmas.{GoesFurther, lines_further, of_lines, keeps_both}
use Rattle.control_worker.proofs.Goes.{goes_same}
use Rattle.control_worker.proofs.carrier.Carrier.pass.Given.{Over}
use Rattle.control_worker.proofs.carrier.Carrier.pass.Goals as goal
use Rattle.control_worker.proofs.carrier.Carrier.pass.Goals.{After-carry}

-- the frame was carried, or not
further : (g : Over) (c : After-carry g) → GoesFurther g.C.CommandSteps.ready g.C.CommandSteps.mine g.C.CommandSteps.home
    g.C.CommandSteps.begun g.L.Line.count g.L.Line.carried g.L.Line.ends c.args.self.now
    (record { steps = c.self.inside.steps; channels = (with_items c.self.inside.channels c.carry.new.channels).items })
further g c =
    lines_further c.self.inside.steps c.self.inside.steps c.self.inside.channels c.deref_mut.result.now c.carry.new.channels
    c.args.self.now c.self.view_is c.deref_mut.ensures.value c.deref_mut.ensures.len c.carry.ensures.keeps.count
    c.carry.ensures.keeps.ends c.carry.ensures.counts.later c.carry.ensures.tells.on
    c.self.invariant.ready refl refl (λ past source r begun. begun) c.self.invariant

pub invariant_of-self : goal.invariant_of-self
invariant_of-self g c = (further g (goal.at.invariant_of-self g c).After-carry).serves

pub returns-then-carry-clause-keeps : goal.returns-then-carry-clause-keeps
returns-then-carry-clause-keeps g c = (further g (goal.at.returns-then-carry-clause-keeps g c).After-carry).keeps

pub returns-then-carry-clause-told : goal.returns-then-carry-clause-told
returns-then-carry-clause-told g c = (further g (goal.at.returns-then-carry-clause-told g c).After-carry).told

pub returns-then-carry-clause-goes : goal.returns-then-carry-clause-goes
returns-then-carry-clause-goes g c =
    goes_same _ _ (further g (goal.at.returns-then-carry-clause-goes g c).After-carry).same

pub returns-then-carry-clause-passes : goal.returns-then-carry-clause-passes
returns-then-carry-clause-passes g c =
    of_lines (Passes g.L.Line.carried c.args.replica c.args.frame.now) c.self.inside.steps c.self.inside.steps
    c.self.inside.channels c.deref_mut.result.now c.carry.new.channels c.args.self.now c.self.view_is
    c.deref_mut.ensures.value c.deref_mut.ensures.len c.carry.ensures.keeps.count
    (record { same = refl; carried = c.carry.ensures.tells.carried c.if-carry.true })

pub invariant_of-self-2 : goal.invariant_of-self-2
invariant_of-self-2 g c = (further g (goal.at.invariant_of-self-2 g c).After-carry).serves

pub tell_fault-requires-clause-above : goal.tell_fault-requires-clause-above
tell_fault-requires-clause-above g c =
    let mine_before = g.C.CommandSteps.mine c.self.inside.steps in
    let last = last_count mine_before.stream c.args.replica (entries_in mine_before.entries) in
    let counted = subst (λ (xs : List (Channel g.row.L.Denot)). last
    ≤ slice_index_or (map (λ x. g.L.Line.count x.line) xs) c.args.replica 0)
    (sym c.deref_mut.ensures.value) (c.self.invariant.shown.counted c.args.replica) in
    of_lines (λ w x. last < slice_index_or (counts_of g.L.Line.count x) c.args.replica 0) c.self.inside.steps c.self.inside.steps
    c.self.inside.channels c.deref_mut.result.now c.carry.new.channels c.args.self.now c.self.view_is
    c.deref_mut.ensures.value c.deref_mut.ensures.len c.carry.ensures.keeps.count
    (omega (arith, counted, c.carry.ensures.counts.failed c.if-carry.false))

pub returns-clause-keeps : goal.returns-clause-keeps
returns-clause-keeps g c =
    keeps_both _ _ _ (further g (goal.at.returns-clause-keeps g c).After-carry).keeps c.tell_fault.ensures.keeps

pub returns-clause-told : goal.returns-clause-told
returns-clause-told g c =
    subst (λ (xs : List (Channel g.row.L.Denot)). TellOn (told_by g.L.Line.carried c.args.self.now) (map (λ x. g.L.Line.carried x.line) xs))
    (sym c.tell_fault.ensures.lines) (further g (goal.at.returns-clause-told g c).After-carry).told
