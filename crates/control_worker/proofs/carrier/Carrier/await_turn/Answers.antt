use Rattle.std.proofs.Common.{rules, ◌≡◌}
use Rattle.range_turns.specs.declared.turns.MayStart.TheVariants as may
use Rattle.control_worker.proofs.CarrierLemmas.{serves_step, unchanged_first, unchanged_next}
use Rattle.control_worker.proofs.CommandLemmas.{turn_begins, turn_waits, turn_stays}
use Rattle.control_worker.proofs.carrier.Carrier.await_turn.Goals as goal

pub loop-init : goal.loop-init
loop-init g c = unchanged_first _ _ c.self.view_is c.self.invariant

pub invariant_of-self : goal.invariant_of-self
invariant_of-self g c =
    serves_step g.C.CommandSteps.mine _ _ c.admit_maint.ensures.stands.ready
    (turn_stays _ c.admit_maint.result c.loop.invariant.same c.admit_maint.ensures.turns.ok c.requires.waits) c.loop.invariant.serves

pub returns-then-eq-clause-turn : goal.returns-then-eq-clause-turn
returns-then-eq-clause-turn g c =
    let is : c.admit_maint.result ≡ may.Yes = search rules in
    turn_begins _ c.admit_maint.result c.loop.invariant.same c.admit_maint.ensures.turns.ok is

pub loop-preserved : goal.loop-preserved
loop-preserved g c =
    let other : c.admit_maint.result ≡ may.Yes → ⊥ = search rules in
    unchanged_next _ _ _ c.admit_maint.ensures.stands.ready c.admit_maint.ensures.stands.home
    (turn_waits _ c.admit_maint.result c.loop.invariant.same c.admit_maint.ensures.turns.ok other c.requires.waits) c.loop.invariant
