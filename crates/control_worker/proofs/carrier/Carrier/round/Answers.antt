use Rattle.std.proofs.Common.{rules, ◌≡◌, [], IfSome, subst, sym}
use Rattle.volume_model.specs.declared.call.Refusal.TheVariants.{NoReplica}
use Rattle.volume_model.specs.declared.call.Reply.TheVariants as reply
use Rattle.volume_model.specs.declared.command.Command.TheVariants as command
use Rattle.step_answers.specs.declared.answers.NextPart.TheVariants as next
use Rattle.stream_steps.specs.Mine.{OwnCall, with_running}
use Rattle.stream_steps.specs.Maint.{HasTurn, IsNext}
use Rattle.client_worker.specs.Working.{IsServing}
use Rattle.control_worker.specs.Purges.{RoundTo}
use Rattle.control_worker.proofs.CarrierLemmas.{serves_step}
use Rattle.control_worker.proofs.RoundLemmas.{round_ends, round_stays, none_open, next_done, next_refused}
use Rattle.control_worker.proofs.ShownLemmas.{stays_same}
use Rattle.control_worker.proofs.carrier.Carrier.round.Given.{Over}
use Rattle.control_worker.proofs.carrier.Carrier.round.Goals as goal
use Rattle.control_worker.proofs.carrier.Carrier.round.Goals.{After-fold_next}

-- nothing has changed for the stream
same : (g : Over) (c : After-fold_next g)
    → g.C.CommandSteps.mine c.fold_next.new.self ≡ g.C.CommandSteps.mine c.args.self.now.steps
same g c = rw (← c.self.view_is) c.fold_next.ensures.stands.same

serves : (g : Over) (c : After-fold_next g)
    → IsServing g.C.CommandSteps.ready (λ s. with_running (g.C.CommandSteps.mine s) []) g.L.Line.count g.L.Line.carried
    (record { steps = c.fold_next.new.self; channels = c.self.inside.channels.items })
serves g c =
    serves_step g.C.CommandSteps.mine (record { steps = c.self.inside.steps; channels = c.self.inside.channels.items })
    c.fold_next.new.self c.fold_next.ensures.stands.ready (stays_same _ _ c.fold_next.ensures.stands.same) c.self.invariant

turn : (g : Over) (c : After-fold_next g) → (o : OwnCall) × HasTurn c.args.t command.Purge o (g.C.CommandSteps.mine c.fold_next.new.self)
turn g c = (
  c.requires.turn.0,
  subst (HasTurn c.args.t command.Purge c.requires.turn.0) (sym (same g c)) c.requires.turn.1,
)

-- what goes next
goes_next : (g : Over) (c : After-fold_next g)
    → IfSome (g.C.CommandSteps.mine c.args.self.now.steps).log (IsNext c.fold_next.result)
goes_next g c = rw (← c.self.view_is) c.fold_next.ensures.is

pub invariant_of-self-in-Nothing : goal.invariant_of-self-in-Nothing
invariant_of-self-in-Nothing g c =
    let at = (goal.at.invariant_of-self-in-Nothing g c).After-fold_next in
    serves_step g.C.CommandSteps.mine _ _ c.end_maint.ensures.stands.ready
    (round_stays c.end_maint.result c.args.t reply.Done _ _ (turn g at) c.end_maint.ensures.does.ok c.end_maint.ensures.does.err)
    (serves g at)

pub returns-in-Nothing-clause-ok : goal.returns-in-Nothing-clause-ok
returns-in-Nothing-clause-ok g c = λ o h.
    let at = (goal.at.returns-in-Nothing-clause-ok g c).After-fold_next in
    let e : c.fold_next.result ≡ next.Nothing = search rules in
    subst (λ x. RoundTo o x (g.C.CommandSteps.mine c.args.self.now.steps) (g.C.CommandSteps.mine c.end_maint.new.self))
    (sym c.is_ok.ensures.value)
    (round_ends c.end_maint.result c.args.t o reply.Done _ _ _ h (same g at) (next_done _ c.fold_next.result e (goes_next g at))
    c.end_maint.ensures.does.ok c.end_maint.ensures.does.err)

pub invariant_of-self-in-NoReplica : goal.invariant_of-self-in-NoReplica
invariant_of-self-in-NoReplica g c =
    let at = (goal.at.invariant_of-self-in-NoReplica g c).After-fold_next in
    let end_maint = c.end_maint-in-NoReplica in
    serves_step g.C.CommandSteps.mine _ _ end_maint.ensures.stands.ready
    (round_stays end_maint.result c.args.t (reply.Refused NoReplica) _ _ (turn g at) end_maint.ensures.does.ok end_maint.ensures.does.err)
    (serves g at)

pub returns-in-NoReplica-clause-ok : goal.returns-in-NoReplica-clause-ok
returns-in-NoReplica-clause-ok g c = λ o h.
    let at = (goal.at.returns-in-NoReplica-clause-ok g c).After-fold_next in
    let end_maint = c.end_maint-in-NoReplica in
    let e : c.fold_next.result ≡ next.NoReplica = search rules in
    subst (λ x. RoundTo o x (g.C.CommandSteps.mine c.args.self.now.steps) (g.C.CommandSteps.mine end_maint.new.self))
    (sym c.is_ok-in-NoReplica.ensures.value)
    (round_ends end_maint.result c.args.t o (reply.Refused NoReplica) _ _ _ h (same g at)
    (next_refused _ c.fold_next.result e (goes_next g at)) end_maint.ensures.does.ok end_maint.ensures.does.err)

pub returns-in-After-clause-ok : goal.returns-in-After-clause-ok
returns-in-After-clause-ok g c =
    λ o h. none_open c.args.t o _ _ h (same g (goal.at.returns-in-After-clause-ok g c).After-fold_next)
