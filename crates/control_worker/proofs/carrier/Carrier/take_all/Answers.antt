use Rattle.std.proofs.Common.{rules, ◌≡◌, ◌∙◌, [], ◌∷◌, true, false, refl, ap, sym, subst}
use Rattle.volume_model.specs.declared.command.Command.TheVariants as command
use Rattle.stream_steps.specs.Mine.{with_running}
use Rattle.stream_steps.specs.Maint.{HasTurn}
use Rattle.client_worker.specs.Working.{Work}
use Rattle.control_worker.specs.Purges.{RoundTo}
use Rattle.control_worker.proofs.CarrierLemmas.{serves_step, stays_both}
use Rattle.control_worker.proofs.PurgeLemmas.{gave_up}
use Rattle.control_worker.proofs.RoundLemmas.{on_turn, rounds_on, rounds_end, none_open}
use Rattle.control_worker.proofs.ShownLemmas.{stays_running}
use Rattle.control_worker.proofs.carrier.Carrier.take_all.Goals as goal

pub loop-init : goal.loop-init
loop-init g c = record {
  stays = record { home = refl; lines = record { count = refl; ends = refl } };
  on = λ o h. none_open c.args.t o _ _ h refl;
}

pub round-requires : goal.round-requires
round-requires g c =
    let op = c.requires.turn in
    record { turn = (op.0, on_turn c.args.t op.0 _ _ op.1 (c.loop.invariant.on op.0 op.1)) }

pub returns-in-Ok-true-clause-ok : goal.returns-in-Ok-true-clause-ok
returns-in-Ok-true-clause-ok g c =
    let is : c.in-Ok-true.field-0 ≡ true = search rules in
    rounds_end c.args.t _ _ _ c.loop.invariant.on
    (λ o h. subst (λ x. RoundTo o x (g.C.CommandSteps.mine c.loop.self.steps) (g.C.CommandSteps.mine c.round.new.self.steps)) is
    (c.in-Ok-true.ensures.ok o h))

pub loop-preserved : goal.loop-preserved
loop-preserved g c =
    let is : c.in-Ok-false.field-0 ≡ false = search rules in
    record {
      stays = stays_both _ _ _ c.loop.invariant.stays c.round.ensures.stays;
      on = rounds_on c.args.t _ _ _ c.loop.invariant.on
          (λ o h. subst (λ x. RoundTo o x (g.C.CommandSteps.mine c.loop.self.steps) (g.C.CommandSteps.mine c.round.new.self.steps)) is
          (c.in-Ok-false.ensures.ok o h));
    }

pub abandon-requires-clause-turn : goal.abandon-requires-clause-turn
abandon-requires-clause-turn g c =
    let op = c.requires.turn in
    let here = on_turn c.args.t op.0 _ _ op.1 (c.loop.invariant.on op.0 op.1) in (
      command.Purge,
      op.0,
      subst (λ (w : Work g.row.C.Denot g.row.L.Denot). HasTurn c.args.t command.Purge op.0 (g.C.CommandSteps.mine w.steps))
          (sym c.self.view_is) (on_turn c.args.t op.0 _ _ here (c.in-Err.ensures.err op.0 here)),
      tt,
    )

pub invariant_of-self : goal.invariant_of-self
invariant_of-self g c =
    serves_step g.C.CommandSteps.mine _ _ c.abandon.ensures.ready (stays_running [] _ _ c.abandon.ensures.gone) c.self.invariant

pub returns-in-Err-clause-err : goal.returns-in-Err-clause-err
returns-in-Err-clause-err g c =
    let op = c.requires.turn in
    gave_up (op.0 ∷ []) _ _ _ (rounds_on c.args.t _ _ _ c.loop.invariant.on c.in-Err.ensures.err op.0 op.1)
    (c.abandon.ensures.gone
    ∙ ap (λ (w : Work g.row.C.Denot g.row.L.Denot). with_running (g.C.CommandSteps.mine w.steps) []) c.self.view_is)
