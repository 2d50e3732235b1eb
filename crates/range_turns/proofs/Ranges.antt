-- A write and a ticket that does not conflict with it have no byte in common, and a ticket for the whole volume conflicts
-- with each.
use Rattle.std.proofs.Common.{◌≡◌, ℕ, ◌*◌, ◌/◌, ◌<◌, ◌≤◌, ⊎_elim, subst, sym, arith}
use Rattle.std.proofs.lemmas.Bool.{cases_lt}
use Rattle.vol_units.specs.Range.{HaveCommonBlock}
use Rattle.vol_units.specs.declared.range.BlockRange.{BlockRange}
use Rattle.range_turns.specs.declared.ticket.Kind.{Kind}
use Rattle.range_turns.specs.declared.ticket.Kind.TheVariants as kind
use Rattle.range_turns.specs.declared.ticket.Ticket.{Ticket}
use Rattle.range_turns.specs.Order.{ConflictBy, Conflict, from_of, until_of}

bytes_apart : (a b : BlockRange) (k : ℕ) → ¬ HaveCommonBlock a b
    → a.first * 4096 ≤ k → k < a.end * 4096 → b.first * 4096 ≤ k → b.end * 4096 ≤ k
bytes_apart a b k apart from until other =
    ⊎_elim
    (λ here. absurd (apart (k / 4096, (omega arith, omega arith), (omega arith, omega arith))))
    (λ past. past)
    (cases_lt k (b.end * 4096))

of_write : (other : Kind) (a b : BlockRange) → HaveCommonBlock a b → ConflictBy kind.Write other a b
of_write kind.Read a b common = common
of_write kind.Write a b common = common
of_write kind.Whole a b common = tt

for_write : (other : Kind) (a b : BlockRange) → HaveCommonBlock a b → ConflictBy other kind.Write a b
for_write kind.Read a b common = common
for_write kind.Write a b common = common
for_write kind.Whole a b common = tt

-- a write, and a ticket behind it
pub apart_behind : (a b : Ticket) (k : ℕ) → ¬ Conflict a b → a.kind ≡ kind.Write
    → from_of a ≤ k → k < until_of a → from_of b ≤ k → until_of b ≤ k
apart_behind a b k apart write =
    bytes_apart a.range b.range k
    (λ common. apart (subst (λ (x : Kind). ConflictBy x b.kind a.range b.range) (sym write)
    (of_write b.kind a.range b.range common)))

-- a write, and a ticket before it
pub apart_before : (a b : Ticket) (k : ℕ) → ¬ Conflict a b → b.kind ≡ kind.Write
    → from_of b ≤ k → k < until_of b → from_of a ≤ k → until_of a ≤ k
apart_before a b k apart write =
    bytes_apart b.range a.range k
    (λ common. apart (subst (λ (x : Kind). ConflictBy a.kind x a.range b.range) (sym write)
    (for_write a.kind a.range b.range (common.0, common.2, common.1))))
