use Rattle.std.proofs.Common.{◌≡◌, ◌⊎◌, inl, inr, ℕ, [], ◌∷◌, refl, arith}
use Rattle.std.specs.List.{Any}
use Rattle.volume_model.specs.declared.command.Command.{Command}
use Rattle.volume_model.specs.declared.command.Command.TheVariants as command
use Rattle.volume_model.specs.declared.call.Call.TheVariants as call
use Rattle.volume_model.specs.declared.entry.Entry.{Entry}
use Rattle.volume_model.specs.declared.call.Reply.TheVariants as reply
use Rattle.volume_model.specs.History.{EndsCommand}
use Rattle.volume_model.specs.Journals.{said}
use Rattle.volume_model.proofs.PurgeLemmas.{any_cases}
use Rattle.volume_model.proofs.journals.a_mark_stands_in_its_command.Goals as goal

-- no entry answers it, and one entry does not that is none of its
none_answers : (c : Command) (n : ℕ) → Any (EndsCommand c n) [] → ⊥
none_answers c n a = omega (arith, a.2)

one_answers : (c : Command) (n : ℕ) (e : Entry) → Any (EndsCommand c n) (e ∷ []) → EndsCommand c n e
one_answers c n e a = alone (any_cases (EndsCommand c n) e [] a)
  where
    alone : EndsCommand c n e ⊎ Any (EndsCommand c n) [] → EndsCommand c n e
    alone (inl is) = is
    alone (inr more) = absurd (none_answers c n more)

same_replica : (r q : ℕ) → call.Command (command.Add r) ≡ call.Command (command.Add q) → r ≡ q
same_replica r q e = cc

pub returns-clause-rebuild : goal.returns-clause-rebuild
returns-clause-rebuild c =
    let answer = said 2 1 1 (call.Command (command.Add 1)) reply.Done in
    (tt, (tt, ((2, answer, omega arith, refl, (refl, omega arith)), (tt, (tt, (tt, (tt, (tt, (tt, tt)))))))))

pub returns-clause-unasked : goal.returns-clause-unasked
returns-clause-unasked c = λ within. none_answers (command.Add 1) 2 within.1.1.0

pub returns-clause-before : goal.returns-clause-before
returns-clause-before c = λ within. let saw = (one_answers (command.Add 1) 2 _ within.1.1.0).1 in omega (arith, saw)

pub returns-clause-another : goal.returns-clause-another
returns-clause-another c = λ within. let same = same_replica 0 1 (one_answers (command.Add 1) 2 _ within.1.1.0).0 in omega (arith, same)

pub returns-clause-behind : goal.returns-clause-behind
returns-clause-behind c = λ name within. none_answers command.Purge 1 within.1.0
