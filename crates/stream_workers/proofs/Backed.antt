-- What the one stream with backups tells of the target is told of the run.
use Rattle.std.proofs.Common.{◌≡◌, ◌≢◌, ℕ, ◌<◌, ◌≤◌, false, List, [], ◌∷◌, ◌++◌, length, map, All, get_or, inl, inr}
use Rattle.std.proofs.Common.{refl, sym, ap, subst, ◌∙◌, arith}
use Rattle.std.proofs.lemmas.Bool.{cases_lt, cases_eq, true≢false}
use Rattle.std.proofs.lemmas.List.{get_or_past, length-map}
use Rattle.std.proofs.lemmas.List.Elements.{All-nil}
use Rattle.target_traits.specs.Objects.{Objects}
use Rattle.volume_model.specs.declared.call.Call.TheVariants as call
use Rattle.volume_model.specs.declared.command.Command.TheVariants as command
use Rattle.volume_model.specs.declared.entry.Answer.{Answer}
use Rattle.volume_model.specs.declared.entry.Entry.{Entry}
use Rattle.volume_model.specs.declared.entry.Entry.TheVariants as entry
use Rattle.volume_model.specs.History.{Spot, calls_of}
use Rattle.volume_model.specs.Modes.{asks_store}
use Rattle.volume_model.specs.OneWorker.{stream_of}
use Rattle.control_worker.specs.Store.{StoreSoFar}
use Rattle.script_text.specs.declared.script.Stream.{Stream}
use Rattle.script_text.specs.Good.{backs_up}
use Rattle.world_holder.specs.View.{own_entries}
use Rattle.stream_turns.specs.Store.{StoreOfRun}
use Rattle.stream_turns.specs.Volume.{stream_calls}
use Rattle.stream_turns.proofs.Backups.{called, none_called}
use Rattle.stream_turns.proofs.Lists.{element, map_at}
use Rattle.stream_turns.proofs.StoreLemmas.{store_more, store_idle, store_none}

-- Of streams of which none but the one at p has backups, and of entries that answer their calls.
module _ (streams : List Stream) (p : ℕ) (entries : List Entry)
    (others : (k : ℕ) (d : Stream) → k < length streams → k ≢ p → backs_up (get_or streams k d) ≡ false)
    (asked : (v : ℕ) → calls_of v entries ≡ stream_of (map stream_calls streams) v) where
  none_past : (v : ℕ) → length streams ≤ v → All (λ c. asks_store c ≡ false) (calls_of v entries)
  none_past v past = subst (All (λ c. asks_store c ≡ false))
      (sym (asked v ∙ get_or_past (map stream_calls streams) v [] (omega (arith, past, length-map streams stream_calls))))
      (All-nil (λ c. asks_store c ≡ false))

  none_else : (v : ℕ) → v ≢ p → All (λ c. asks_store c ≡ false) (calls_of v entries)
  none_else v apart = elim (cases_lt v (length streams)) [
    | inl low ↦
        let x = element streams v low in
        subst (All (λ c. asks_store c ≡ false)) (sym (asked v ∙ map_at stream_calls streams v x [] low))
        (none_called (get_or streams v x) (others v x low apart))
    | inr past ↦ none_past v past
  ]

  absent : {B : Type 0} (front back : List Entry) (a : Answer) (backup snapshot : List ℕ) → entries ≡ front ++ entry.Answer a ∷ back
      → a.call ≡ call.Command (command.Backup backup snapshot)
      → All (λ c. asks_store c ≡ false) (calls_of a.stream entries) → B
  absent front back a backup snapshot is asks none = absurd (true≢false (sym (ap asks_store asks)
      ∙ called (λ c. asks_store c ≡ false) front back a a.stream refl
      (subst (λ es. All (λ c. asks_store c ≡ false) (calls_of a.stream es)) is none)))

  by_it : (front back : List Entry) (a : Answer) (backup snapshot : List ℕ) → entries ≡ front ++ entry.Answer a ∷ back
      → a.call ≡ call.Command (command.Backup backup snapshot) → a.stream ≡ p
  by_it front back a backup snapshot is asks = elim (cases_eq a.stream p) [
    | inl same ↦ same
    | inr apart ↦ absent front back a backup snapshot is asks (none_else a.stream apart)
  ]

  pub backed : (first : Objects) (from : ℕ) (now : Objects) (count : ℕ) (volume : List ℕ) (spot : Spot)
      → StoreSoFar first from now count volume (own_entries p spot entries) → StoreOfRun first from now count volume spot entries
  backed first from now count volume spot far =
      store_more first from first from now count volume p spot [] entries refl (store_none first from volume spot) far by_it

  pub unbacked : length streams ≤ p → (first : Objects) (from : ℕ) (volume : List ℕ) (spot : Spot)
      → StoreOfRun first from first from volume spot entries
  unbacked past first from volume spot =
      store_idle first from first from volume spot [] entries
      (λ front back a backup snapshot is asks. absent front back a backup snapshot is asks
      (none_past a.stream (omega (arith, past, by_it front back a backup snapshot is asks))))
      (store_none first from volume spot)

  pub run_tells : (first : Objects) (from : ℕ) (now : Objects) (count : ℕ) (volume : List ℕ) (spot : Spot)
      → (p < length streams → StoreSoFar first from now count volume (own_entries p spot entries))
      → (length streams ≤ p → (now ≡ first) × (count ≡ from)) → StoreOfRun first from now count volume spot entries
  run_tells first from now count volume spot far same = elim (cases_lt p (length streams)) [
    | inl low ↦ backed first from now count volume spot (far low)
    | inr past ↦
        subst (λ (o : Objects). StoreOfRun first from o count volume spot entries) (sym (same past).0)
        (subst (λ n. StoreOfRun first from first n volume spot entries) (sym (same past).1) (unbacked past first from volume spot))
  ]
