use Rattle.std.proofs.Common.{ℕ, ◌<◌, ◌≡◌, ◌∷◌, [], refl, inr, arith, subst}
use Rattle.vol_units.specs.Name.{sys_name}
use Rattle.volume_model.specs.declared.command.Command.TheVariants as command
use Rattle.volume_model.specs.declared.call.Call.TheVariants as call
use Rattle.volume_model.specs.declared.mark.Mark.TheVariants as mark
use Rattle.volume_model.specs.declared.mode.Mode.TheVariants.{Rw, Err}
use Rattle.volume_model.specs.Modes.{mode_of}
use Rattle.volume_model.specs.Rebuilds.{Fells}
use Rattle.volume_model.specs.Journals.{told_to_fail, rebuilding}
use Rattle.volume_model.proofs.JournalLemmas.{rw≢err, unasked≢open, not_behind}
use Rattle.volume_model.proofs.FallLemmas.{behind_fault}
use Rattle.volume_model.proofs.journals.a_rebuild_may_be_given_up.Goals as goal

same_replica : (r q : ℕ) → call.Command (command.Fail r) ≡ call.Command (command.Fail q) → r ≡ q
same_replica r q e = cc

second_failed : (q : ℕ) → 1 ≡ q → mode_of (Rw ∷ Err ∷ []) q ≡ Err
second_failed q is = subst (λ n. mode_of (Rw ∷ Err ∷ []) n ≡ Err) is refl

falls_apart : (q : ℕ) → q < 2 → Fells (mark.Fault 1 2 1) q → ⊥
falls_apart q low e = omega (arith, low, e)

pub returns-clause-legal : goal.returns-clause-legal
returns-clause-legal c = (
  (record { up = rw≢err; ends = λ q s is who. absurd (unasked≢open s is) }, refl),
  (
    record {
      reply = λ says. refl;
      none = λ says. absurd cc;
      store = λ says. absurd cc;
      fails = λ q is. second_failed q (same_replica 1 q is);
      source = λ change done. absurd cc;
      purged = λ is done. absurd cc;
    },
    (
      record {
        replica = omega arith;
        failed = refl;
        source = record { read = refl; first = λ q low. absurd (omega (arith, low)) };
        room = omega arith;
        own = refl;
        new = refl;
        alone = λ q s is. unasked≢open s is;
      },
      (record { source = 0; begun = refl }, (refl, tt)),
    ),
  ),
)

pub returns-clause-no_fall : goal.returns-clause-no_fall
returns-clause-no_fall c = λ behind. not_behind (told_to_fail 0 0 1 []) (mark.Added 1 0 (sys_name 0)) 1 0 refl (λ f. f)
    (λ f. f) behind.1.1.1.0

pub returns-clause-another_falls : goal.returns-clause-another_falls
returns-clause-another_falls c = λ behind. not_behind (rebuilding []) (mark.Fault 1 2 1) 1 0 refl
    (falls_apart 1 (omega arith)) (falls_apart 0 (omega arith)) behind.1.1.1.1.0

pub returns-clause-source_falls : goal.returns-clause-source_falls
returns-clause-source_falls c = (tt, (tt, (tt, (tt, (behind_fault (rebuilding []) 1 0 1 1 0 refl (inr refl), (tt, tt))))))

pub returns-clause-not_open : goal.returns-clause-not_open
returns-clause-not_open c = λ legal. unasked≢open legal.0.source legal.0.begun
