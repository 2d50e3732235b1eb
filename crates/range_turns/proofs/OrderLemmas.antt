-- Enrolling, starting and ending a ticket keep the order.
use Rattle.std.proofs.Common.{◌≡◌, ℕ, ◌+◌, ◌<◌, false, List, ◌∷◌, [], ◌++◌, length, arith}
use Rattle.std.specs.List.{remove}
use Rattle.std.proofs.lemmas.Grind.{elements}
use Rattle.std.proofs.lemmas.List.Edits.{get_or-remove_below, get_or-remove_above, length-remove}
use Rattle.range_turns.specs.declared.ticket.Ticket.{Ticket}
use Rattle.range_turns.specs.Order.{no_ticket, IsFresh, IsClear, AreInOrder, with_started}

-- one more ticket, of a fresh number, that has not started
pub AreInOrder-push : (tickets : List Ticket) (t : Ticket) → IsFresh tickets t.number → t.started ≡ false
    → AreInOrder tickets → AreInOrder (tickets ++ t ∷ [])
AreInOrder-push tickets t fresh waits ok = record {
  numbered = λ i j below within. grind (arith, elements, fresh, ok.numbered i j);
  apart = λ i within started k below. grind (arith, elements, ok.apart i);
}

-- a ticket that nothing earlier is in the way of has started
pub AreInOrder-with_started : (tickets : List Ticket) (place : ℕ) → IsClear tickets place
    → AreInOrder tickets → AreInOrder (with_started tickets place)
AreInOrder-with_started tickets place clear ok = record {
  numbered = λ i j below within. grind (arith, elements, ok.numbered i j);
  apart = λ i within started k below. grind (arith, elements, ok.apart i, clear k);
}

-- one ticket less
pub AreInOrder-remove : (tickets : List Ticket) (place : ℕ) → place < length tickets
    → AreInOrder tickets → AreInOrder (remove tickets place)
AreInOrder-remove tickets place here ok =
    let low = λ (i : ℕ). get_or-remove_below tickets place no_ticket i in
    let high = λ (i : ℕ). get_or-remove_above tickets place no_ticket i in
    let one_less = length-remove tickets place here in
    record {
      numbered = λ i j below within.
          grind (arith, low i, low j, high i, high j, ok.numbered i j, ok.numbered i (j + 1), ok.numbered (i + 1) (j + 1));
      apart = λ i within started k below. grind (arith, low i, low k, high i, high k, ok.apart i, ok.apart (i + 1));
    }
