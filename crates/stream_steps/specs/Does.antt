-- What the contracts of all steps have in common.
use Rattle.std.specs.Prelude.{◌≡◌, ℕ, Result, IfOk, IfErr, OnErr, IfSome}
use Rattle.volume_model.specs.declared.command.Command.{Command}
use Rattle.volume_model.specs.Commands.{NamesReplica}
use Rattle.stream_steps.specs.Mine.{Mine}

-- ---- what stays

-- the next step can be taken, and what no step changes is as it was
pub record Stands {S H : Type 0} (can : S → Type 0) (at : S → H) (s s2 : S) : Type 0 where
  pub ready : can s2
  pub home : at s2 ≡ at s

-- and what is known of the own stream is as it was
pub record StandsStill {S H : Type 0} (can : S → Type 0) (at : S → H) (of : S → Mine) (s s2 : S) : Type 0 where
  pub ready : can s2
  pub home : at s2 ≡ at s
  pub same : of s2 ≡ of s

-- ---- what is done

-- What a step does, by its answer: where it is not refused, this; where it is, there is such a reason, and what is known of
-- the own stream is as it was.
pub record Does {A E : Type 0} (answer : Result A E) (m m2 : Mine) (this : A → Type 0) (against : E → Type 0) : Type 0 where
  pub ok : IfOk answer this
  pub why : IfErr answer against
  pub err : OnErr answer (m2 ≡ m)

-- What asking to start comes to: this. Where it has to wait, there is such a cause; and where nobody else adds to the
-- journal it does not wait.
pub record StartsOrWaits (m : Mine) (this no_wait cause : Type 0) : Type 0 where
  pub ok : this
  pub free : IfSome m.log (λ log. no_wait)
  pub waits : cause

-- ---- what is asked

-- a command of that kind, which names no replica that is not there
pub record MayAsk (kind : Command → Type 0) (replicas : ℕ) (c : Command) : Type 0 where
  pub is : kind c
  pub there : NamesReplica replicas c
