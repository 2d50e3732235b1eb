-- Which streams have backups, and whose backups a journal answers.
use Rattle.std.proofs.Common.{◌≡◌, ℕ, ◌≤◌, ◌||◌, inl, inr, Bool, true, false, cond, List, [], ◌∷◌, ◌++◌, map, All, Option}
use Rattle.std.proofs.Common.{refl, sym, ap, subst, ◌∙◌, arith, eq-eqb}
use Rattle.std.specs.List.{list_any}
use Rattle.std.proofs.lemmas.Bool.{cases_Bool, true≢false}
use Rattle.std.proofs.lemmas.List.Elements.{All-nil, All-cons, All-head, All-tail, All-weaker}
use Rattle.target_traits.specs.Objects.{Objects}
use Rattle.volume_model.specs.declared.call.Call.{Call}
use Rattle.volume_model.specs.declared.call.Call.TheVariants as call
use Rattle.volume_model.specs.declared.command.Command.{Command}
use Rattle.volume_model.specs.declared.command.Command.TheVariants as command
use Rattle.volume_model.specs.declared.entry.Answer.{Answer}
use Rattle.volume_model.specs.declared.entry.Entry.{Entry}
use Rattle.volume_model.specs.declared.entry.Entry.TheVariants as entry
use Rattle.volume_model.specs.History.{Spot, answers_from, calls_of}
use Rattle.volume_model.specs.Modes.{asks_store}
use Rattle.volume_core.specs.declared.world.World.{World}
use Rattle.volume_core.specs.State.{state_of, opening_of}
use Rattle.volume_core.specs.Streams.{MayAppend}
use Rattle.frame_stream.specs.Asked.{call_of}
use Rattle.stream_steps.specs.Steps.{IsFrameCall}
use Rattle.control_worker.specs.Store.{IsNoBackup, StoreSoFar, TellsFault}
use Rattle.script_text.specs.declared.script.Stream.{Stream}
use Rattle.script_text.specs.declared.script.Stream.TheVariants as stream
use Rattle.script_text.specs.Good.{backs_up}
use Rattle.world_holder.specs.View.{own_entries}
use Rattle.stream_turns.specs.Store.{StoreOfRun}
use Rattle.stream_turns.specs.Turn.{HasNoEntry, HasTurn}
use Rattle.stream_turns.specs.Volume.{stream_calls}
use Rattle.stream_turns.proofs.StoreLemmas.{store_more, store_idle}
use Rattle.stream_turns.proofs.Streams.{calls_of-append}
use Rattle.stream_turns.proofs.Turned.{frame_calls}
use Rattle.stream_turns.proofs.Turns.{frame_apart}

-- ---- a stream without backups

or_none : (b c : Bool) → (b || c) ≡ false → (b ≡ false) × (c ≡ false)
or_none true c e = absurd (true≢false e)
or_none false c e = (refl, e)

pub none_asks : (cs : List Command) → list_any (λ c. asks_store (call.Command c)) cs ≡ false
    → All (λ c. asks_store (call.Command c) ≡ false) cs
none_asks [] none = All-nil (λ c. asks_store (call.Command c) ≡ false)
none_asks (c ∷ cs) none =
    let both = or_none (asks_store (call.Command c)) (list_any (λ c. asks_store (call.Command c)) cs) none in
    All-cons (λ c. asks_store (call.Command c) ≡ false) c cs both.0 (none_asks cs both.1)

no_backup : (c : Command) → asks_store (call.Command c) ≡ false → IsNoBackup c
no_backup (command.Snapshot name) none = tt
no_backup (command.Remove name) none = tt
no_backup (command.Revert name) none = tt
no_backup command.Purge none = tt
no_backup command.Status none = tt
no_backup (command.Fail r) none = tt
no_backup (command.Add r) none = tt
no_backup (command.Backup backup snapshot) none = absurd (true≢false none)

-- none of its commands is one
pub none_backed : (s : Stream) (cs asked : List Command) → s ≡ stream.Control cs → asked ≡ cs → backs_up s ≡ false → All IsNoBackup asked
none_backed s cs asked is as_asked none =
    subst (All IsNoBackup) (sym as_asked)
    (All-weaker (λ c. asks_store (call.Command c) ≡ false) IsNoBackup no_backup cs (none_asks cs (sym (ap backs_up is) ∙ none)))

commands_apart : (cs : List Command) → All (λ c. asks_store (call.Command c) ≡ false) cs
    → All (λ c. asks_store c ≡ false) (map call.Command cs)
commands_apart [] none = All-nil (λ c. asks_store c ≡ false)
commands_apart (c ∷ cs) none =
    All-cons (λ c. asks_store c ≡ false) (call.Command c) (map call.Command cs)
    (All-head (λ c. asks_store (call.Command c) ≡ false) c cs none)
    (commands_apart cs (All-tail (λ c. asks_store (call.Command c) ≡ false) c cs none))

-- nor is one of its calls
pub none_called : (s : Stream) → backs_up s ≡ false → All (λ c. asks_store c ≡ false) (stream_calls s)
none_called (stream.Frames frames) none =
    All-weaker IsFrameCall (λ c. asks_store c ≡ false) frame_apart (map call_of frames) (frame_calls frames)
none_called (stream.Control commands) none = commands_apart commands (none_asks commands none)

-- ---- answers among entries

middle_of : {A : Type 0} (P : A → Type 0) (xs ys : List A) (x : A) → All P (xs ++ x ∷ ys) → P x
middle_of P [] ys x all = All-head P x ys all
middle_of P (z ∷ xs) ys x all = middle_of P xs ys x (All-tail P z (xs ++ x ∷ ys) all)

-- the call of an answer is one of its stream's
pub called : (P : Call → Type 0) (front back : List Entry) (a : Answer) (w : ℕ) → a.stream ≡ w
    → All P (calls_of w (front ++ entry.Answer a ∷ back)) → P a.call
called P front back a w by all =
    middle_of P (calls_of w front) (map (λ (p : ℕ × Answer). p.1.call) (answers_from w 1 back)) a.call
    (subst (All P) (calls_of-append w front (entry.Answer a ∷ back) ∙ ap (λ l. calls_of w front ++ l) here) all)
  where
    here : calls_of w (entry.Answer a ∷ back) ≡ a.call ∷ map (λ (p : ℕ × Answer). p.1.call) (answers_from w 1 back)
    here = ap (λ b. map (λ (p : ℕ × Answer). p.1.call) (cond b ((0, a) ∷ answers_from w 1 back) (answers_from w 1 back)))
        (eq-eqb a.stream w by)

-- what a stream adds are its own answers
pub added_by : (w : ℕ) (front back : List Entry) (a : Answer) → MayAppend w (front ++ entry.Answer a ∷ back) → a.stream ≡ w
added_by w [] back a may = may.0
added_by w (entry.Answer b ∷ front) back a may = added_by w front back a may.1
added_by w (entry.Mark m ∷ front) back a may = added_by w front back a may.1

-- ---- a stream's turn

pub store_turn : (first : Objects) (from : ℕ) (old : Objects) (at : ℕ) (now : Objects) (count : ℕ) (volume : List ℕ) (number : ℕ)
    (x : Stream) (opening : Spot) (w w2 : World) (counts : ℕ → ℕ) (told : ℕ → Option (List (List ℕ)))
    → opening_of (state_of w) ≡ opening → HasNoEntry number w → HasTurn (stream_calls x) number w w2 counts told
    → (backs_up x ≡ true → StoreSoFar old at now count volume (own_entries number (opening_of (state_of w)) w2.journal.entries))
    → (backs_up x ≡ false → (now ≡ old) × (count ≡ at))
    → StoreOfRun first from old at volume opening w.journal.entries → StoreOfRun first from now count volume opening w2.journal.entries
store_turn first from old at now count volume number x opening w w2 counts told begins none turn far stays run =
    subst (StoreOfRun first from now count volume opening) (sym turn.is) (elim (cases_Bool (backs_up x)) [
      | inl some ↦ store_more first from old at now count volume number opening w.journal.entries turn.added
          (subst (λ o. own_entries number o w.journal.entries ≡ []) begins none) run
          (subst (λ es. StoreSoFar old at now count volume (own_entries number opening es)) turn.is
          (subst (λ o. StoreSoFar old at now count volume (own_entries number o w2.journal.entries)) begins (far some)))
          (λ front back a backup snapshot is asks. added_by number front back a (subst (MayAppend number) is turn.own))
      | inr none_here ↦ store_idle first from now count volume opening w.journal.entries turn.added
          (λ front back a backup snapshot is asks.
          let by = added_by number front back a (subst (MayAppend number) is turn.own) in
          true≢false (sym (ap asks_store asks) ∙ called (λ c. asks_store c ≡ false) front back a number by
          (subst (λ l. All (λ c. asks_store c ≡ false) (calls_of number l)) is
          (subst (All (λ c. asks_store c ≡ false)) (sym turn.calls) (none_called x none_here)))))
          (subst (λ n. StoreOfRun first from n count volume opening w.journal.entries) (sym (stays none_here).0)
          (subst (λ k. StoreOfRun first from old k volume opening w.journal.entries) (sym (stays none_here).1) run))
    ])

-- ---- faults

-- of a target that has failed in the first, or in the second
pub fault_more : (b c : Bool) (from at count : ℕ) → TellsFault b from at → TellsFault c at count → from ≤ at → at ≤ count
    → TellsFault (b || c) from count
fault_more true c from at count rose more first second = omega (arith, rose, second)
fault_more false true from at count rose more first second = omega (arith, rose, more)
fault_more false false from at count rose more first second = more ∙ rose

-- ---- streams without backups

-- one stream more leaves a target as it is, if it does where the stream has none
pub unasked_on : {T : Type 0} {first old now : T} (all done rest : List Stream) (x : Stream) (left : List Stream) → left ≡ x ∷ rest
    → all ≡ done ++ left → (backs_up x ≡ false → now ≡ old) → (All (λ s. backs_up s ≡ false) all → old ≡ first)
    → All (λ s. backs_up s ≡ false) all → now ≡ first
unasked_on all done rest x left next is more before none =
    more (middle_of (λ s. backs_up s ≡ false) done rest x
    (subst (All (λ s. backs_up s ≡ false)) (is ∙ ap (λ xs. done ++ xs) next) none)) ∙ before none
