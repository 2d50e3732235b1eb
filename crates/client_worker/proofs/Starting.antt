-- Whether a call starts: what the answer says, behind rounds in which it had to wait.
use Rattle.std.proofs.Common.{◌≡◌, ℕ, ap, subst}
use Rattle.step_answers.specs.declared.answers.Admit.{Admit}
use Rattle.step_answers.specs.declared.answers.Admit.TheVariants as admit
use Rattle.step_answers.specs.declared.answers.Job.{Job}
use Rattle.stream_steps.specs.Mine.{Mine, OwnCall, IsOwn}
use Rattle.stream_steps.specs.Steps.{Refuses, AdmitsTo, StartsCall, HasNotStarted}
use Rattle.client_worker.specs.Ends.{BeginsAs}

module _ (t : ℕ) (m0 m m2 : Mine) (a : Admit) (same : m ≡ m0) (ok : (o : OwnCall) → IsOwn t o m → AdmitsTo o a m m2) where
  told : (o : OwnCall) → IsOwn t o m0 → AdmitsTo o a m0 m2
  told = subst (λ (x : Mine). (o : OwnCall) → IsOwn t o x → AdmitsTo o a x m2) same ok

  pub starts : (job : Job) → a ≡ admit.Go job → (o : OwnCall) → IsOwn t o m0 → StartsCall o job m0 m2
  starts job e o h = subst (λ b. AdmitsTo o b m0 m2) e (told o h)

  pub refused : (place : ℕ) → a ≡ admit.NoReplica place → (o : OwnCall) → IsOwn t o m0 → Refuses o m0 m2
  refused place e o h = subst (λ b. AdmitsTo o b m0 m2) e (told o h)

  pub waits : (n : ℕ) → a ≡ admit.After n → ((o : OwnCall) × IsOwn t o m0 × HasNotStarted o) → m2 ≡ m0
  waits n e op = subst (λ b. AdmitsTo op.0 b m0 m2) e (told op.0 op.1)

-- what the start says of the call
pub begins : (o : OwnCall) (job : Job) (a b : Mine) (s : StartsCall o job a b) → BeginsAs o s.own a b
begins o job a b s = record {
  is = s.is;
  number = ap (λ (x : OwnCall). x.number) s.same;
  call = ap (λ (x : OwnCall). x.call) s.same;
  saw = ap (λ (x : OwnCall). x.saw) s.same;
  source = s.source;
}

-- the call that has started is the stream's
pub begun_own : (t : ℕ) (o p : OwnCall) (a b : Mine) → IsOwn t o a → BeginsAs o p a b → IsOwn t p b
begun_own t o p a b own g = record { is = ap (λ (m : Mine). m.running) g.is; number = trans_number }
  where
    trans_number : p.number ≡ t
    trans_number = subst (λ n. p.number ≡ n) own.number g.number
