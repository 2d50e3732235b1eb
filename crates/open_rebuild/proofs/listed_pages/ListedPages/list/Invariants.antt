use Rattle.std.proofs.Common.{◌≡◌, ◌-◌, ◌≤◌, length}
use Rattle.open_rebuild.specs.Listed.{AreListed}
use Rattle.open_rebuild.proofs.listed_pages.ListedPages.list.Given as goal

-- all before the first are listed
abbrev pub invariant-loop-self : goal.invariant-loop-self
invariant-loop-self l = record {
  bits : l.self-inside.bits.items ≡ l.initial.self-inside.bits.items;
  within : l.self-inside.first ≤ length l.self-inside.bits.items;
  before : AreListed l.self-inside.bits.items l.self-inside.first;
}

-- the places that are left
abbrev pub decreases-loop-self : goal.decreases-loop-self
decreases-loop-self l = length l.self-inside.bits.items - l.self-inside.first
