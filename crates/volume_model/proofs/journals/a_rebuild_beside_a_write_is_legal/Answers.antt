use Rattle.std.proofs.Common.{◌≡◌, ℕ, eqb, [], ◌∷◌, refl, subst, arith}
use Rattle.std.specs.Prelude.{pos}
use Rattle.volume_model.specs.declared.command.Command.TheVariants as command
use Rattle.volume_model.specs.declared.call.Call.TheVariants as call
use Rattle.volume_model.specs.declared.call.Reply.TheVariants as reply
use Rattle.volume_model.specs.declared.mode.Mode.TheVariants.{Rw, Err}
use Rattle.volume_model.specs.Modes.{mode_of}
use Rattle.volume_model.specs.Journals.{said, rebuilding}
use Rattle.volume_model.proofs.JournalLemmas.{rw≢err, unasked≢open, answered≢open}
use Rattle.volume_model.proofs.journals.a_rebuild_beside_a_write_is_legal.Goals as goal

-- the replica that a call lets fail
same_replica : (r q : ℕ) → call.Command (command.Fail r) ≡ call.Command (command.Fail q) → r ≡ q
same_replica r q e = cc

first_failed : (q : ℕ) → 0 ≡ q → mode_of (Err ∷ Rw ∷ []) q ≡ Err
first_failed q is = subst (λ n. mode_of (Err ∷ Rw ∷ []) n ≡ Err) is refl

second_failed : (q : ℕ) → 1 ≡ q → mode_of (Rw ∷ Err ∷ []) q ≡ Err
second_failed q is = subst (λ n. mode_of (Rw ∷ Err ∷ []) n ≡ Err) is refl

pub returns : goal.returns
returns c = (
  (record { up = rw≢err; ends = λ q s is who. absurd (unasked≢open s is) }, refl),
  (
    record {
      reply = λ says. refl;
      none = λ says. absurd cc;
      store = λ says. absurd cc;
      fails = λ q is. second_failed q (same_replica 1 q is);
      source = λ change done. absurd cc;
      purged = λ is done. absurd cc;
    },
    (
      record {
        replica = omega arith;
        failed = refl;
        source = record { read = refl; first = λ q low. absurd (omega (arith, low)) };
        room = omega arith;
        own = refl;
        new = refl;
        alone = λ q s is. unasked≢open s is;
      },
      (
        record {
          reply = λ says. refl;
          none = λ says. absurd cc;
          store = λ says. absurd cc;
          fails = λ q is. absurd cc;
          source = λ change done. (0, omega arith, refl);
          purged = λ is done. absurd cc;
        },
        (
          record { source = 0; begun = refl; ends = refl },
          (
            (refl, (rebuilding (said 2 0 0 (call.Write (pos 0) (98 ∷ [])) reply.Done ∷ []), refl)),
            (
              (record { up = rw≢err; ends = λ q s is who. absurd (answered≢open (eqb 1 q) s is) }, refl),
              (
                record {
                  reply = λ says. refl;
                  none = λ says. absurd cc;
                  store = λ says. absurd cc;
                  fails = λ q is. first_failed q (same_replica 0 q is);
                  source = λ change done. absurd cc;
                  purged = λ is done. absurd cc;
                },
                (
                  record {
                    reply = λ says. refl;
                    none = λ says. absurd cc;
                    store = λ says. absurd cc;
                    fails = λ q is. absurd cc;
                    source = λ change done. absurd cc;
                    purged = λ is done. absurd cc;
                  },
                  tt,
                ),
              ),
            ),
          ),
        ),
      ),
    ),
  ),
)
