use Rattle.folder_layers.proofs.TurnLemmas.{HaveCome, left_in}
use Rattle.folder_layers.proofs.turns.places_in_turn.Given as goal

abbrev pub invariant-loop-place : goal.invariant-loop-place
invariant-loop-place l = HaveCome l.parents l.places.items l.done.items

abbrev pub decreases-loop-place : goal.decreases-loop-place
decreases-loop-place l = left_in l.done.items
