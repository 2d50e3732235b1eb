use Rattle.std.proofs.Common.{◌≡◌, ℕ, ◌<◌, Option, None, Some, MatchOption, List, length, take, ap, ◌∙◌, rules, tests, arith}
use Rattle.std.specs.List.{AllWithin, HoldsAt}
use Rattle.std.proofs.lemmas.Grind.{elements}
use Rattle.std.proofs.lemmas.Iterator.{IsFirst-from_position, YieldsList-from_slice}
use Rattle.range_turns.specs.declared.ticket.Ticket.{Ticket}
use Rattle.range_turns.specs.Order.{ticket_at, no_ticket, Conflict, IsClear, IsFirstInWay, Roll}
use Rattle.range_turns.proofs.turns.Turns.in_way.Goals as goal

-- what was found among the earlier tickets, or that nothing was
first_in_way : (tickets : List Ticket) (place : ℕ) (t : Ticket) (found : Option ℕ) → place < length tickets
    → t ≡ ticket_at tickets place
    → MatchOption found
    (AllWithin (λ x. ¬ Conflict x t) (take place tickets) 0 (length (take place tickets)))
    (λ i. (i < length (take place tickets)) × HoldsAt (λ x. Conflict x t) (take place tickets) i
    × AllWithin (λ x. ¬ Conflict x t) (take place tickets) 0 i)
    → MatchOption found (IsClear tickets place) (IsFirstInWay tickets place)
first_in_way tickets place t None within is none = λ k below. grind (arith, elements, none k no_ticket)
first_in_way tickets place t (Some i) within is first = record {
  earlier = grind (arith, elements);
  in_way = grind (arith, elements, first.1 no_ticket);
  first = λ k below. grind (arith, elements, first.2 k no_ticket);
}

pub returns : goal.returns
returns c =
    let tickets : List Ticket = c.args.self.now.tickets in
    let ticket : Ticket = c.ticket-ticket.result in
    let earlier = c.iter.ensures.rest
    ∙ ap (take c.args.place) (c.deref.ensures.value ∙ ap (λ (r : Roll). r.tickets) c.self.view_is) in
    first_in_way tickets c.args.place ticket c.position.result c.requires c.ticket-ticket.ensures
    (IsFirst-from_position _ _ c.position.result (λ (t : Ticket). Conflict t ticket) (λ (t : Ticket). ¬ Conflict t ticket)
    c.position.ensures.ran (YieldsList-from_slice (take c.args.place tickets) earlier)
    (λ x q k. search (rules, tests)) (λ x q k. search (rules, tests)))
