-- Whose faults a journal shows, and in which order its answers stand, where some streams have no entries.
use Rattle.std.proofs.Common.{◌≡◌, ℕ, ◌<◌, ◌≤◌, inl, inr, List, [], ◌∷◌, ◌++◌, length, All, refl, arith, eq-eqb}
use Rattle.std.proofs.lemmas.Bool.{cases_lt}
use Rattle.std.proofs.lemmas.List.{get_or_past}
use Rattle.std.proofs.lemmas.List.Elements.{All-nil, All-cons}
use Rattle.volume_model.specs.declared.entry.Entry.{Entry}
use Rattle.volume_model.specs.declared.entry.Entry.TheVariants as entry
use Rattle.volume_model.specs.declared.mark.Mark.TheVariants as mark
use Rattle.volume_model.specs.declared.mode.Mode.{Mode}
use Rattle.volume_model.specs.declared.mode.Mode.TheVariants.{Err}
use Rattle.volume_model.specs.History.{Spot, MayStand, LegalAfter}
use Rattle.volume_model.specs.Modes.{modes_after}
use Rattle.volume_model.specs.OneWorker.{behind_entries}
use Rattle.volume_model.proofs.OneWorkerLemmas.{length-modes_after}
use Rattle.volume_core.specs.Streams.{MayAppend}
use Rattle.world_holder.specs.View.{own_entries}
use Rattle.volume_model.specs.Faults.{NamesLine}
use Rattle.stream_turns.specs.Run.{StandInTurn}
use Rattle.stream_turns.proofs.Own.{none_first, none_behind}

-- ---- faults

-- Where no stream from this number on has an entry.
module _ (opening : Spot) (streams : ℕ) where
  -- a fault is of a stream that has entries, and of a replica that had not failed
  line_named : (before es : List Entry) (spot : Spot) (e : Entry)
      → ((v : ℕ) → streams ≤ v → own_entries v spot (e ∷ es) ≡ []) → MayStand opening before e es
      → NamesLine streams (length opening.modes) e
  line_named before es spot (entry.Answer a) none may = tt
  line_named before es spot (entry.Mark (mark.Purged part)) none may = tt
  line_named before es spot (entry.Mark (mark.Failed q)) none may = tt
  line_named before es spot (entry.Mark (mark.Added q source name)) none may = tt
  line_named before es spot (entry.Mark (mark.Promoted q)) none may = tt
  line_named before es spot (entry.Mark (mark.Aborted q)) none may = tt
  line_named before es spot (entry.Mark (mark.Fault s r count)) none may = (stream, replica)
    where
      stream : s < streams
      stream = elim (cases_lt s streams) [
        | inl low ↦ low
        | inr past ↦ absurd (none_first s spot (entry.Mark (mark.Fault s r count)) es (eq-eqb s s refl) (none s past))
      ]

      here : List Mode
      here = modes_after opening.modes before

      replica : r < length opening.modes
      replica = elim (cases_lt r (length here)) [
        | inl low ↦ omega (arith, low, length-modes_after opening.modes before)
        | inr past ↦ absurd (may.up (get_or_past here r Err (omega (arith, past))))
      ]

  pub lines_named : (before es : List Entry) (spot : Spot) → ((v : ℕ) → streams ≤ v → own_entries v spot es ≡ [])
      → LegalAfter opening before es → All (NamesLine streams (length opening.modes)) es
  lines_named before [] spot none legal = All-nil (NamesLine streams (length opening.modes))
  lines_named before (e ∷ es) spot none legal =
      All-cons (NamesLine streams (length opening.modes)) e es (line_named before es spot e none legal.0)
      (lines_named (before ++ e ∷ []) es (behind_entries spot (e ∷ [])) (λ v past. none_behind v spot e es (none v past)) legal.1)

-- ---- the order of answers

-- those of one stream
one_in_turn : (w least : ℕ) (es : List Entry) → least ≤ w → MayAppend w es → StandInTurn least es
one_in_turn w least [] low own = tt
one_in_turn w least (entry.Answer a ∷ es) low own =
    (omega (arith, low, own.0), one_in_turn w a.stream es (omega (arith, own.0)) own.1)
one_in_turn w least (entry.Mark m ∷ es) low own = one_in_turn w least es low own.1

-- and behind those of the streams before it
pub more_in_turn : (w least : ℕ) (spot : Spot) (before added : List Entry) → least ≤ w
    → ((v : ℕ) → w ≤ v → own_entries v spot before ≡ []) → MayAppend w added → StandInTurn least before
    → StandInTurn least (before ++ added)
more_in_turn w least spot [] added low none own order = one_in_turn w least added low own
more_in_turn w least spot (entry.Answer a ∷ es) added low none own order = (
  order.0,
  more_in_turn w a.stream (behind_entries spot (entry.Answer a ∷ [])) es added before_it
      (λ v past. none_behind v spot (entry.Answer a) es (none v past)) own order.1,
)
  where
    before_it : a.stream ≤ w
    before_it = elim (cases_lt a.stream w) [
      | inl under ↦ omega (arith, under)
      | inr past ↦ absurd (none_first a.stream spot (entry.Answer a) es (eq-eqb a.stream a.stream refl) (none a.stream past))
    ]
more_in_turn w least spot (entry.Mark m ∷ es) added low none own order =
    more_in_turn w least (behind_entries spot (entry.Mark m ∷ [])) es added low
    (λ v past. none_behind v spot (entry.Mark m) es (none v past)) own order
