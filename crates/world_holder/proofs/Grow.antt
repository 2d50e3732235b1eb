-- What is known of a World after a step of the stream, and after steps of others.
use Rattle.std.proofs.Common.{◌≡◌, ℕ, Bool, true, false, List, ◌++◌, length, map, Some, None, Result}
use Rattle.std.proofs.Common.{Ok, OnErr, append-nil, sym, refl, ap, ◌∙◌, subst}
use Rattle.std.proofs.Common.{Err as Failed}
use Rattle.volume_model.specs.declared.entry.Entry.{Entry}
use Rattle.volume_model.specs.History.{Spot}
use Rattle.volume_model.specs.Names.{names_in}
use Rattle.volume_model.specs.OneWorker.{behind_entries}
use Rattle.volume_model.proofs.ServedLemmas.{behind-append}
use Rattle.replica_node.specs.Volume.{volume_of_node}
use Rattle.volume_core.specs.State.{State, opening_of}
use Rattle.volume_core.specs.Streams.{running, MayGo, Origin, origin_of}
use Rattle.volume_core.specs.State.{spot_of}
use Rattle.world_holder.specs.Laid.{IsLater}
use Rattle.world_holder.proofs.Leaves.{made_same}
use Rattle.stream_steps.specs.Mine.{Mine, OwnCall, Placed, entries_in, longer, with_entries, with_more, with_running}
use Rattle.world_holder.specs.View.{own_turn, own_with, own_at, own_entries, runs, log_of, view, IsFound}
use Rattle.world_holder.proofs.Entries.{own-append, none_shown}

-- where the run of that origin began
abbrev pub began_at : Origin → Spot
began_at o = record {
  state = record { volume = volume_of_node o.first; used = names_in o.opening.names };
  modes = o.opening.modes;
}

-- a World of the same origin began there too
pub same_opening : (s t : State) → origin_of t ≡ origin_of s → opening_of t ≡ opening_of s
same_opening s t origin = ap began_at origin

-- ---- its own steps

module _ (n : ℕ) (s s2 : State) (may : MayGo n s s2) where
  same_replicas : length s2.nodes ≡ length s.nodes
  same_replicas = ap (λ (o : Origin). o.replicas) may.origin

  same_began : opening_of s2 ≡ opening_of s
  same_began = same_opening s s2 may.origin

  -- the run stands where the entries lead from where it stood
  more_log : (a : Bool) (es : List Entry) → s2.book.entries ≡ s.book.entries ++ es → log_of a s2 ≡ longer (log_of a s) es
  more_log true es e =
      let there : spot_of s2 ≡ behind_entries (spot_of s) es =
      (λ i. behind_entries (same_began i) (e i)) ∙ behind-append (opening_of s) s.book.entries es in
      λ i. Some (record { spot = there i; entries = e i })
  more_log false es e = refl

  same_log : (a : Bool) → s2.book.entries ≡ s.book.entries → log_of a s2 ≡ log_of a s
  same_log true e = λ i. Some (record { spot = behind_entries (same_began i) (e i); entries = e i })
  same_log false e = refl

  -- the same entries, and these calls open
  pub only_open : (a : Bool) (os : List OwnCall) → s2.book.entries ≡ s.book.entries → runs n s2 ≡ os
      → view a n s2 ≡ with_running (view a n s) os
  only_open a os e r = λ i. record {
    stream = n;
    replicas = same_replicas i;
    entries = own_entries n (same_began i) (e i);
    running = r i;
    log = same_log a e i;
  }

  -- these entries more, of which these are own
  pub grown_by : (a : Bool) (ps : List Placed) (os : List OwnCall) (es : List Entry) → s2.book.entries ≡ s.book.entries ++ es
      → own_entries n (spot_of s) es ≡ ps → runs n s2 ≡ os → view a n s2 ≡ with_entries (view a n s) ps es os
  grown_by a ps os es e own r =
      let more : own_entries n (opening_of s2) s2.book.entries ≡ own_entries n (opening_of s) s.book.entries ++ ps =
      (λ i. own_entries n (same_began i) (e i)) ∙ own-append n (opening_of s) s.book.entries es
      ∙ ap (λ l. own_entries n (opening_of s) s.book.entries ++ l) own in
      λ i. record { stream = n; replicas = same_replicas i; entries = more i; running = r i; log = more_log a es e i }

  -- these entries more, all of them own
  pub grown : (a : Bool) (ps : List Placed) (os : List OwnCall) (es : List Entry) → s2.book.entries ≡ s.book.entries ++ es
      → own_entries n (spot_of s) es ≡ ps → entries_in ps ≡ es → runs n s2 ≡ os → view a n s2 ≡ with_more (view a n s) ps os
  grown a ps os es e own back r = grown_by a ps os es e own r ∙ ap (λ (l : List Entry). with_entries (view a n s) ps l os) (sym back)

-- ---- others' steps

-- what is known of a later World but for the journal is what was known
later_but : (n : ℕ) (s t : State) → IsLater n s t → view false n t ≡ view false n s
later_but n s t later =
    let began = opening_of s in
    let same : opening_of t ≡ began = same_opening s t later.origin in
    let own : own_entries n (opening_of t) t.book.entries ≡ own_entries n began s.book.entries =
    (λ i. own_entries n (same i) (later.added.1 i))
    ∙ own-append n began s.book.entries later.added.0
    ∙ ap (λ l. own_entries n began s.book.entries ++ l)
    (none_shown n (behind_entries began s.book.entries) later.added.0 later.added.2)
    ∙ append-nil (own_entries n began s.book.entries) in
    let replicas : length t.nodes ≡ length s.nodes = ap (λ (o : Origin). o.replicas) later.origin in
    let calls : map (own_at t.whole) (running t n) ≡ map (own_at s.whole) (running s n) =
    made_same own_with s.whole t.whole (running s n) (running t n) later.calls later.parts in
    λ i. record { stream = n; replicas = replicas i; entries = own i; running = map own_turn (later.turns i) ++ calls i; log = None }

-- what the stream knows of what it finds is what it knew
pub found_same : (a : Bool) (n : ℕ) (s x : State) → IsFound a n s x → view a n x ≡ view a n s
found_same true n s x found = ap (view true n) (found.same refl).0
found_same false n s x found = later_but n s x found.later

-- ---- a turn: the World s that was seen was found as x, left as y, and seen so as u

module _ (a : Bool) (n : ℕ) (s x y u : State) (found : IsFound a n s x) (left : u ≡ y) where
  -- what is so in the turn is so of what was known and is known
  pub over : (P : Mine → State → Type 0) → P (view a n x) y → P (view a n s) u
  over P h = subst (λ (m : Mine). P m u) (found_same a n s x found) (subst (λ (z : State). P (view a n x) z) (sym left) h)

  -- a fact of what was known is one of what is found
  pub back : (P : Mine → Type 0) → P (view a n s) → P (view a n x)
  back P h = subst P (sym (found_same a n s x found)) h

-- where nothing came of a step
pub unchanged : {A E : Type 0} (a : Bool) (n : ℕ) (s s2 : State) (res : Result A E) → OnErr res (s2 ≡ s)
    → OnErr res (view a n s2 ≡ view a n s)
unchanged a n s s2 (Ok x) h = tt
unchanged a n s s2 (Failed e) h = ap (view a n) h
