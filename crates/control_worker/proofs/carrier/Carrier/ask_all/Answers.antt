use Rattle.std.proofs.lemmas.Grind.{common_steps}
use Rattle.std.proofs.Common.{◌<◌, ◌≡◌, length, refl, ap, arith, inl, inr, ⊎_elim, ◌∙◌}
use Rattle.volume_model.specs.declared.mode.Mode.TheVariants.{Err as Failed}
use Rattle.volume_model.specs.Modes.{mode_of}
use Rattle.client_worker.specs.Working.{Work}
use Rattle.control_worker.specs.Whole.{OwesNone}
use Rattle.control_worker.proofs.CarrierLemmas.{keeps_none, keeps_both}
use Rattle.control_worker.proofs.PartLemmas.{asked_next, keeps_same, keeps_then, owes_none_on}
use Rattle.control_worker.proofs.carrier.Carrier.ask_all.Goals as goal

pub loop-r-init : goal.loop-r-init
loop-r-init g c = record {
  keeps = keeps_none c.args.self.now;
  asks = c.requires.asks;
  shown = c.requires.shown;
  goes = keeps_same c.args.whole.now.ticket _ _ refl;
  asked = λ r below. absurd (omega (arith, below));
}

pub loop-r-preserved : goal.loop-r-preserved
loop-r-preserved g c =
    let mine_before = g.C.CommandSteps.mine c.loop-r.self.steps in
    let mine_asked = g.C.CommandSteps.mine c.ask_part.new.self.steps in
    record {
      keeps = keeps_both c.args.self.now c.loop-r.self c.ask_part.new.self c.loop-r.invariant.keeps c.ask_part.ensures.keeps;
      asks = c.ask_part.ensures.asks;
      shown = c.ask_part.ensures.shown;
      goes = keeps_then _ _ _ _ c.loop-r.invariant.goes c.ask_part.ensures.goes;
      asked =
          asked_next
          (λ r. OwesNone c.args.whole.now.ticket c.args.whole.now.op r mine_before)
          (λ r. OwesNone c.args.whole.now.ticket c.args.whole.now.op r mine_asked)
          (λ r. (seen : g.row.C.Denot) × (g.C.CommandSteps.home seen ≡ g.C.CommandSteps.home c.args.self.now.steps)
          × (mode_of (g.C.CommandSteps.modes seen) r ≡ Failed)) c.loop-r.r c.loop-r.invariant.asked (λ r. owes_none_on _ r _ _ _ _
          c.loop-r.invariant.shown.started c.ask_part.ensures.goes)
          (⊎_elim (λ owes. inl owes) (λ failed. inr (
            c.ask_part.new.self.steps,
            c.ask_part.ensures.keeps.stays.home ∙ c.loop-r.invariant.keeps.stays.home,
            failed,
          )) c.ask_part.ensures.asked);
    }

pub returns-clause-asked : goal.returns-clause-asked
returns-clause-asked g c = λ r below.
    let same = ap (λ (w : Work g.row.C.Denot g.row.L.Denot). length w.channels) c.self.view_is in
    let low : r < c.loop-r.r = grind (arith, common_steps, same) in
    c.loop-r.invariant.asked r low
