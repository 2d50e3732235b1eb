-- How many numbers the tickets have.
use Rattle.std.proofs.Common.{◌≡◌, ℕ, ◌+◌, ◌<◌, true, eqb, Option, None, Some, MatchOption, is_some, List, length}
use Rattle.std.proofs.Common.{map, ap, ◌∙◌, ⊎_elim, arith}
use Rattle.std.specs.List.{list_any}
use Rattle.std.proofs.lemmas.Bool.{cases_lt}
use Rattle.std.proofs.lemmas.Bool.Decides.{nat_tests}
use Rattle.std.proofs.lemmas.Grind.{common_steps}
use Rattle.std.proofs.lemmas.List.{get_or_default}
use Rattle.std.proofs.lemmas.List.Folds.{list_any_at}
use Rattle.std.proofs.lemmas.Map.Steps.{le-length_from_below}
use Rattle.range_turns.specs.declared.ticket.Ticket.{Ticket}
use Rattle.range_turns.specs.Order.{ticket_at, no_ticket, IsFresh, StandsAt}

-- some ticket has the number
pub record IsTaken (tickets : List Ticket) (number : ℕ) : Type 0 where
  pub place : ℕ
  pub within : place < length tickets
  pub is : (ticket_at tickets place).number ≡ number

-- it is, where it was found
pub taken_where_found : (tickets : List Ticket) (number : ℕ) (found : Option ℕ)
    → MatchOption found (IsFresh tickets number) (StandsAt tickets number) → is_some found ≡ true → IsTaken tickets number
taken_where_found tickets number None fresh some = cc
taken_where_found tickets number (Some place) here some = record { place = place; within = here.within; is = here.is }

numbers_of : List Ticket → List ℕ
numbers_of tickets = map (λ (t : Ticket). t.number) tickets

in_numbers : (tickets : List Ticket) (number : ℕ) → IsTaken tickets number
    → list_any (eqb number) (numbers_of tickets) ≡ true
unfolding numbers_of
in_numbers tickets number taken =
    grind (arith, common_steps, nat_tests, list_any_at (eqb number) (map (λ (t : Ticket). t.number) tickets) taken.place 0)

-- where there are as many tickets as numbers below n, and each of these is taken, n is not
pub fresh_after : (tickets : List Ticket) (n : ℕ) → n ≡ length tickets
    → ((number : ℕ) → number < n → IsTaken tickets number) → IsFresh tickets n
unfolding numbers_of
fresh_after tickets n many below k d within is =
    let last : (ticket_at tickets k).number ≡ n = ap (λ (t : Ticket). t.number) (get_or_default tickets k no_ticket d within) ∙ is in
    let taken : (number : ℕ) → number < n + 1 → IsTaken tickets number = λ number under.
    ⊎_elim (below number) (λ at. record { place = k; within = within; is = omega (arith, last) }) (cases_lt number n) in
    let more = le-length_from_below (numbers_of tickets) (n + 1) (λ number under. in_numbers tickets number (taken number under)) in
    grind (arith, common_steps)
