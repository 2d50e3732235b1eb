-- The faults of the lines between the controller and its replicas, as a journal shows them.
use Rattle.std.specs.Prelude.{ℕ, ◌<◌, ◌≤◌, ◌==◌, ◌&&◌, List, [], ◌∷◌, if◌then◌else◌}
use Rattle.volume_model.specs.declared.mark.Mark.{Mark}
use Rattle.volume_model.specs.declared.mark.Mark.TheVariants as mark
use Rattle.volume_model.specs.declared.entry.Entry.{Entry}
use Rattle.volume_model.specs.declared.entry.Entry.TheVariants as entry

-- a fault mark names a line from one of so many streams to one of so many replicas
abbrev pub NamesLine : ℕ → ℕ → Entry → Type 0
NamesLine streams replicas (entry.Mark (mark.Fault stream replica count)) = (stream < streams) × (replica < replicas)
NamesLine streams replicas e = Unit {0}

-- the count before those of more marks, where the mark is one of the line
abbrev pub count_first : ℕ → ℕ → Mark → List ℕ → List ℕ
count_first stream replica (mark.Fault s r count) more = if s == stream && r == replica then count ∷ more else more
count_first stream replica m more = more

-- the counts that the fault marks of a stream's line to a replica tell, in the journal's order
abbrev pub fault_counts : ℕ → ℕ → List Entry → List ℕ
fault_counts stream replica [] = []
fault_counts stream replica (entry.Answer a ∷ es) = fault_counts stream replica es
fault_counts stream replica (entry.Mark m ∷ es) = count_first stream replica m (fault_counts stream replica es)

-- each count is above the one before, and none is above the last
abbrev pub RisesTo : ℕ → ℕ → List ℕ → Type 0
RisesTo last before [] = Unit {0}
RisesTo last before (n ∷ ns) = (before < n) × (n ≤ last) × RisesTo last n ns

-- the marks of each line rise from 1 on to at most the faults that the line counted
abbrev pub FaultsShown : (ℕ → ℕ → ℕ) → List Entry → Type 0
FaultsShown counted journal = (stream replica : ℕ) → RisesTo (counted stream replica) 0 (fault_counts stream replica journal)

-- the last of these counts, and where there is none the one before them
abbrev pub last_in : ℕ → List ℕ → ℕ
last_in before [] = before
last_in before (n ∷ ns) = last_in n ns

-- the count that the line's last fault mark tells, and 0 where there is none
abbrev pub last_count : ℕ → ℕ → List Entry → ℕ
last_count stream replica journal = last_in 0 (fault_counts stream replica journal)

-- the marks of each line rise from 1 on
abbrev pub CountsRise : List Entry → Type 0
CountsRise journal = (stream replica : ℕ) → RisesTo (last_count stream replica journal) 0 (fault_counts stream replica journal)
