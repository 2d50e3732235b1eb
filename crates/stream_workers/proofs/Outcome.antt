-- Streams that have ended so are served.
use Rattle.std.proofs.Common.{◌≡◌, ℕ, ◌<◌, ◌≤◌, List, [], length, map, Option, Result, Ok, Err as Failed, IfOk}
use Rattle.std.proofs.Common.{inl, inr, sym, ap, subst, ◌∙◌, arith}
use Rattle.std.specs.Prelude.{IfSome}
use Rattle.std.specs.List.{All}
use Rattle.std.proofs.lemmas.Bool.{cases_lt}
use Rattle.std.proofs.lemmas.List.{get_or_past}
use Rattle.std.proofs.lemmas.List.Elements.{All-nil}
use Rattle.volume_model.specs.declared.call.Call.{Call}
use Rattle.volume_model.specs.declared.entry.Entry.{Entry}
use Rattle.volume_model.specs.Faults.{last_count}
use Rattle.volume_model.specs.History.{Spot, calls_of}
use Rattle.volume_model.specs.OneWorker.{stream_of}
use Rattle.volume_core.specs.declared.world.World.{World}
use Rattle.volume_core.specs.State.{state_of, opening_of}
use Rattle.volume_core.specs.Streams.{Origin}
use Rattle.stream_steps.specs.Mine.{Placed, entries_in}
use Rattle.client_worker.specs.Exchanges.{IsCarried, AreCarried}
use Rattle.frame_wire.specs.Spelling.{IsFrame}
use Rattle.script_text.specs.declared.script.Script.{Script}
use Rattle.script_text.specs.declared.script.Stream.{Stream}
use Rattle.world_holder.specs.View.{own_entries}
use Rattle.stream_turns.specs.declared.serving.ServedStreams.{ServedStreams}
use Rattle.stream_turns.specs.Serving.{IsBegun, IsServed}
use Rattle.stream_turns.specs.Turn.{IsBetween, KeepsOrigin}
use Rattle.stream_turns.specs.Volume.{stream_calls, heads_of}
use Rattle.stream_turns.proofs.SoFar.{served_is}
use Rattle.stream_workers.specs.Ended.{HaveEnded}
use Rattle.world_holder.proofs.Entries.{own_last}
use Rattle.world_holder.proofs.Grow.{began_at}
use Rattle.world_holder.proofs.OwnCalls.{own_asked}

module _ (css : List (List Call)) (counts : ℕ → ℕ → ℕ) (told : ℕ → ℕ → Option (List (List ℕ))) (w w2 : World)
    (origin : KeepsOrigin w w2) (ended : HaveEnded css counts told (state_of w2)) where
  abbrev entries : List Entry
  entries = w2.journal.entries

  none_past : (v : ℕ) → length css ≤ v → own_entries v (opening_of (state_of w2)) entries ≡ []
  none_past v past = ended.none v past

  each_none : (v : ℕ) → length css ≤ v → own_entries v (opening_of (state_of w)) entries ≡ []
  each_none v past = subst (λ (o : Origin). own_entries v (began_at o) entries ≡ []) origin (none_past v past)

  pub each_asked : (v : ℕ) → calls_of v entries ≡ stream_of css v
  each_asked v = elim (cases_lt v (length css)) [
    | inl low ↦ (ended.each v low).asked
    | inr past ↦ sym (own_asked v (opening_of (state_of w2)) entries)
        ∙ ap (λ ps. calls_of v (entries_in ps)) (none_past v past) ∙ sym (get_or_past css v [] past)
  ]

  each_counted : (v r : ℕ) → last_count v r entries ≤ counts v r
  each_counted v r = elim (cases_lt v (length css)) [
    | inl low ↦ (ended.each v low).counted r
    | inr past ↦ subst (λ k. k ≤ counts v r)
        (sym (sym (own_last v r (opening_of (state_of w2)) entries) ∙ ap (λ ps. last_count v r (entries_in ps)) (none_past v past)))
        (omega arith)
  ]

  each_here : (v : ℕ) → AreCarried (length w2.nodes.items) (told v) (own_entries v (opening_of (state_of w2)) entries)
  each_here v = elim (cases_lt v (length css)) [
    | inl low ↦ (ended.each v low).carried
    | inr past ↦ subst (AreCarried (length w2.nodes.items) (told v)) (sym (none_past v past))
        (All-nil (λ (p : Placed). IsCarried (length w2.nodes.items) (told v) p.spot.modes p.entry))
  ]

  each_carried : (v : ℕ) → AreCarried (length w.nodes.items) (told v) (own_entries v (opening_of (state_of w)) entries)
  each_carried v = subst (λ (o : Origin). AreCarried o.replicas (told v) (own_entries v (began_at o) entries)) origin (each_here v)

  each_framed : (v r : ℕ) → v < length css → r < length w.nodes.items → IfSome (told v r) (All IsFrame)
  each_framed v r low there = (ended.each v low).framed r (omega (arith, there, ap (λ (o : Origin). o.replicas) origin))

pub each_served : {E : Type 0} (script : Script) (spot : Spot) (w : World) (res : Result ServedStreams E) (streams : List Stream)
    (counts : ℕ → ℕ → ℕ) (told : ℕ → ℕ → Option (List (List ℕ))) → IsBegun script spot w
    → IfOk res (λ s. IsBetween s.world) → IfOk res (λ s. KeepsOrigin w s.world)
    → IfOk res (λ s. HaveEnded (map stream_calls streams) counts told (state_of s.world)) → streams ≡ script.streams
    → IfOk res (λ s. s.heads.items ≡ map heads_of streams) → IfOk res (IsServed script spot counts told)
each_served script spot w (Ok s) streams counts told begun between origin ended same heads =
    let css = map stream_calls streams in
    served_is script spot w s streams begun between origin same counts told (each_none css counts told w s.world origin ended)
    (each_asked css counts told w s.world origin ended) (each_counted css counts told w s.world origin ended)
    (each_carried css counts told w s.world origin ended) (each_framed css counts told w s.world origin ended) heads
each_served script spot w (Failed e) streams counts told begun between origin ended same heads = tt
