-- Which carries of lines are planned to fail. The plans are this project's own.
use Rattle.std.specs.Prelude.{◌≡◌, ℕ, ◌<◌, ◌==◌, ◌&&◌, List, [], ◌∷◌, All, if◌then◌else◌}
use Rattle.script_head.specs.declared.line_plan.LinePlan.{LinePlan}

-- the numbers rise, each above those before it, and all of them above this one
abbrev pub RisesAbove : ℕ → List ℕ → Type 0
RisesAbove last [] = Unit {0}
RisesAbove last (n ∷ ns) = (last < n) × RisesAbove n ns

-- two plans are of two lines, which have another worker or another replica
abbrev pub AreApart : LinePlan → LinePlan → Type 0
AreApart a b = (a.worker ≡ b.worker) × (a.replica ≡ b.replica) → ⊥

-- no line has two plans
abbrev pub NoPairTwice : List LinePlan → Type 0
NoPairTwice [] = Unit {0}
NoPairTwice (p ∷ ps) = All (AreApart p) ps × NoPairTwice ps

-- which carries of the line from a worker to a replica are planned to fail: none where it has no plan
abbrev pub planned : List LinePlan → ℕ → ℕ → List ℕ
planned [] worker replica = []
planned (p ∷ ps) worker replica =
    if p.worker == worker && p.replica == replica then p.fail else planned ps worker replica
