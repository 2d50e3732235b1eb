use Rattle.std.proofs.Common.{◌≡◌, ◌<◌, List, length, slice_set, true, sym, ap, ◌∙◌, subst}
use Rattle.std.proofs.lemmas.List.{get_or_default}
use Rattle.range_turns.specs.declared.ticket.Ticket.{Ticket}
use Rattle.range_turns.specs.Order.{no_ticket, AreInOrder, IsClear, Roll}
use Rattle.range_turns.proofs.OrderLemmas.{AreInOrder-with_started}
use Rattle.range_turns.proofs.turns.Turns.start_at.Goals as goal

pub invariant_of-self : goal.invariant_of-self
invariant_of-self c =
    let tickets : List Ticket = c.self.inside.tickets.items in
    let same : c.args.self.now.tickets ≡ tickets = ap (λ (r : Roll). r.tickets) (sym c.self.view_is) in
    let within = subst (λ (ts : List Ticket). c.args.place < length ts) same c.requires.within in
    let clear = subst (λ (ts : List Ticket). IsClear ts c.args.place) same c.requires.clear in
    let here = c.index_mut.ensures.value ∙ get_or_default tickets c.args.place c.index_mut.result.now no_ticket within in (
      subst (λ (t : Ticket). AreInOrder (slice_set tickets c.args.place (record t { started = true }))) (sym here)
          (AreInOrder-with_started tickets c.args.place clear c.self.invariant.0),
      c.self.invariant.1,
    )
