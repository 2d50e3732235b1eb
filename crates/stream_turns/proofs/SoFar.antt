-- How far the serving of streams has come, and what it has made once none is left.
use Rattle.std.proofs.Common.{◌≡◌, ℕ, ◌+◌, ◌<◌, ◌≤◌, List, [], ◌∷◌, ◌++◌, length}
use Rattle.std.proofs.Common.{map, Option, Result, Ok, Err as Failed, IfOk, sym, refl, ap, subst, ◌∙◌}
use Rattle.std.proofs.Common.{arith, append_assoc, append-nil, All}
use Rattle.std.specs.Prelude.{IfSome}
use Rattle.std.proofs.lemmas.List.Elements.{All-head, All-tail}
use Rattle.std.proofs.lemmas.List.{length-append, length-map, map-append}
use Rattle.volume_model.specs.declared.call.Call.{Call}
use Rattle.volume_model.specs.Replay.{replay}
use Rattle.volume_model.specs.declared.entry.Entry.{Entry}
use Rattle.volume_model.specs.Faults.{NamesLine, last_count}
use Rattle.volume_model.specs.History.{Spot, IsLegal, calls_of}
use Rattle.volume_model.specs.OneWorker.{served, stream_of}
use Rattle.volume_model.proofs.OneWorkerLemmas.{length-modes_after}
use Rattle.volume_core.specs.declared.world.World.{World}
use Rattle.volume_core.specs.State.{state_of, opening_of}
use Rattle.volume_core.specs.Sound.{AreCaused}
use Rattle.volume_core.specs.Streams.{Origin}
use Rattle.volume_core.proofs.Caused.{caused_ends}
use Rattle.frame_wire.specs.Spelling.{IsFrame}
use Rattle.client_worker.specs.Exchanges.{AreCarried, ExchangesShown}
use Rattle.script_text.specs.declared.script.Script.{Script}
use Rattle.script_text.specs.declared.script.Stream.{Stream}
use Rattle.world_holder.specs.View.{own_entries}
use Rattle.world_holder.proofs.Grow.{same_opening}
use Rattle.stream_turns.specs.declared.serving.ServedStreams.{ServedStreams}
use Rattle.stream_turns.specs.Turn.{IsTaken, IsBetween, HasNoEntry, KeepsOrigin, HasTurn, HaveTurns}
use Rattle.stream_turns.specs.Run.{store_in}
use Rattle.stream_turns.specs.Serving.{IsBegun, IsServed, IsServedInTurn}
use Rattle.stream_turns.specs.Turns.{IsTurn, AreTurns, TellsOthers}
use Rattle.stream_turns.specs.Volume.{stream_calls, heads_of}
use Rattle.stream_turns.proofs.Exchanged.{exchanged}
use Rattle.stream_turns.proofs.RunLemmas.{lines_named}
use Rattle.stream_turns.proofs.Turned.{same_replicas}
use Rattle.stream_turns.proofs.Replicas.{replicas_are, as_many}
use Rattle.stream_turns.proofs.Counted.{faults_shown}
use Rattle.stream_turns.proofs.Streams.{no_turns, more_turns}

-- ---- stream after stream

pub record StreamsSoFar (number : ℕ) (all rest : List Stream) (w0 w : World) (counts : ℕ → ℕ → ℕ)
    (told : ℕ → ℕ → Option (List (List ℕ))) : Type 0 where
  pub done : List Stream
  pub cut : all ≡ done ++ rest
  pub count : number ≡ length done
  pub between : IsBetween w
  pub origin : KeepsOrigin w0 w
  pub turns : HaveTurns (map stream_calls done) w0 w counts told

pub no_streams : (all : List Stream) (w : World) (counts : ℕ → ℕ → ℕ) (told : ℕ → ℕ → Option (List (List ℕ))) → IsBetween w
    → w.journal.entries ≡ [] → StreamsSoFar 0 all all w w counts told
no_streams all w counts told between begun = record {
  done = [];
  cut = refl;
  count = refl;
  between = between;
  origin = refl;
  turns = subst (λ es. AreTurns (opening_of (state_of w)) (length w.nodes.items) [] es counts told) (sym begun)
      (no_turns (opening_of (state_of w)) (length w.nodes.items) counts told);
}

-- what is so of all streams is so of the next
in_next : (P : Stream → Type 0) (done rest : List Stream) (x : Stream) → All P (done ++ x ∷ rest) → P x
in_next P [] rest x all = All-head P x rest all
in_next P (d ∷ done) rest x all = in_next P done rest x (All-tail P d (done ++ x ∷ rest) all)

-- the next stream is one that a worker takes
pub next_taken : (number : ℕ) (all rest : List Stream) (x : Stream) (w0 w : World) (counts : ℕ → ℕ → ℕ)
    (told : ℕ → ℕ → Option (List (List ℕ))) → StreamsSoFar number all (x ∷ rest) w0 w counts told
    → All (IsTaken (length w0.nodes.items)) all → IsTaken (length w.nodes.items) x
next_taken number all rest x w0 w counts told far taken =
    subst (λ n. IsTaken n x) (sym (ap (λ (o : Origin). o.replicas) far.origin))
    (in_next (IsTaken (length w0.nodes.items)) far.done rest x
    (subst (All (IsTaken (length w0.nodes.items))) far.cut taken))

-- the next stream has no entry yet
pub is_first : (number : ℕ) (all rest : List Stream) (w0 w : World) (counts : ℕ → ℕ → ℕ) (told : ℕ → ℕ → Option (List (List ℕ)))
    → StreamsSoFar number all rest w0 w counts told → HasNoEntry number w
is_first number all rest w0 w counts told far =
    ap (λ (o : Spot). own_entries number o w.journal.entries) (same_opening (state_of w0) (state_of w) far.origin)
    ∙ far.turns.none number (omega (arith, far.count, length-map far.done stream_calls))

-- one stream more
pub streams_more : (number later : ℕ) (all rest : List Stream) (x : Stream) (w0 w w2 : World) (counts counts' : ℕ → ℕ → ℕ)
    (told told' : ℕ → ℕ → Option (List (List ℕ)))
    → StreamsSoFar number all (x ∷ rest) w0 w counts told → IsBetween w2 → KeepsOrigin w w2
    → HasTurn (stream_calls x) number w w2 (counts' number) (told' number)
    → TellsOthers number counts counts' → TellsOthers number told told' → later ≡ number + 1
    → StreamsSoFar later all rest w0 w2 counts' told'
streams_more number later all rest x w0 w w2 counts counts' told told' far between origin turn same_counts same_told next = record {
  done = far.done ++ x ∷ [];
  cut = far.cut ∙ sym (append_assoc far.done (x ∷ []) rest);
  count = omega (arith, next, far.count, length-append far.done (x ∷ []));
  between = between;
  origin = origin ∙ far.origin;
  turns = subst (λ css. HaveTurns css w0 w2 counts' told') (sym (map-append stream_calls far.done (x ∷ [])))
      (more_turns (opening_of (state_of w0)) (length w0.nodes.items) css (stream_calls x) w.journal.entries
      w2.journal.entries counts counts' told told' far.turns own
      (λ v r apart. same_counts v r (λ e. apart (e ∙ at))) (λ v r apart. same_told v r (λ e. apart (e ∙ at))));
}
  where
    css : List (List Call)
    css = map stream_calls far.done

    at : number ≡ length css
    at = far.count ∙ sym (length-map far.done stream_calls)

    moved : {o p : Spot} {n m u v : ℕ} → o ≡ p → n ≡ m → u ≡ v
        → IsTurn o n u (stream_calls x) w.journal.entries w2.journal.entries (counts' u) (told' u)
        → IsTurn p m v (stream_calls x) w.journal.entries w2.journal.entries (counts' v) (told' v)
    moved {o} {p} {n} {m} {u} {v} e f g t =
        subst (λ y. IsTurn p m y (stream_calls x) w.journal.entries w2.journal.entries (counts' y) (told' y)) g
        (subst (λ y. IsTurn p y u (stream_calls x) w.journal.entries w2.journal.entries (counts' u) (told' u)) f
        (subst (λ y. IsTurn y n u (stream_calls x) w.journal.entries w2.journal.entries (counts' u) (told' u)) e t))

    own : IsTurn (opening_of (state_of w0)) (length w0.nodes.items) (length css) (stream_calls x) w.journal.entries
        w2.journal.entries (counts' (length css)) (told' (length css))
    own = moved (same_opening (state_of w0) (state_of w) far.origin) (same_replicas (state_of w0) (state_of w) far.origin) at turn

-- once none is left
pub streams_all : (number : ℕ) (all rest : List Stream) (w0 w : World) (counts : ℕ → ℕ → ℕ) (told : ℕ → ℕ → Option (List (List ℕ)))
    → StreamsSoFar number all rest w0 w counts told → rest ≡ []
    → HaveTurns (map stream_calls all) w0 w counts told
streams_all number all rest w0 w counts told far none =
    subst (λ xs. HaveTurns (map stream_calls xs) w0 w counts told)
    (sym (far.cut ∙ ap (λ xs. far.done ++ xs) none ∙ append-nil far.done)) far.turns

pub streams_count : (number : ℕ) (all rest : List Stream) (w0 w : World) (counts : ℕ → ℕ → ℕ) (told : ℕ → ℕ → Option (List (List ℕ)))
    → StreamsSoFar number all rest w0 w counts told → rest ≡ [] → number ≡ length all
streams_count number all rest w0 w counts told far none =
    far.count ∙ sym (ap length (far.cut ∙ ap (λ xs. far.done ++ xs) none ∙ append-nil far.done))

-- what is kept of each, once one more is
pub one_kept : {X Y : Type 0} (of : X → Y) (all rest : List X) (x : X) (y : Y) (kept more : List Y) → more ≡ kept ++ y ∷ [] → y ≡ of x
    → kept ++ map of (x ∷ rest) ≡ map of all → more ++ map of rest ≡ map of all
one_kept of all rest x y kept more pushed is so_far =
    ap (λ ys. ys ++ map of rest) pushed ∙ append_assoc kept (y ∷ []) (map of rest) ∙ ap (λ z. kept ++ z ∷ map of rest) is ∙ so_far

-- ---- all of it

-- Of a World that had begun at a spot: nothing is open of it any more, and each stream's own entries are what they should be.
module _ (script : Script) (spot : Spot) (w : World) (s : ServedStreams) (streams : List Stream) (begun : IsBegun script spot w)
    (between : IsBetween s.world) (origin : KeepsOrigin w s.world) (same : streams ≡ script.streams) where
  abbrev entries : List Entry
  entries = s.world.journal.entries

  legal : IsLegal (opening_of (state_of w)) entries
  legal = subst (λ o. IsLegal o entries) (same_opening (state_of w) (state_of s.world) origin) between.sound.on.told.legal

  caused : AreCaused s.world.maint.tickets s.world.commands.items entries
  caused = between.sound.caused between.gave_up

  as_many_modes : length (opening_of (state_of w)).modes ≡ script.replicas
  as_many_modes = omega (
    arith,
    length-modes_after w.journal.opening.modes w.journal.entries,
    as_many (state_of w) begun.between.sound,
    begun.replicas,
  )

  pub served_is : (counts : ℕ → ℕ → ℕ) (told : ℕ → ℕ → Option (List (List ℕ)))
      → ((v : ℕ) → length (map stream_calls streams) ≤ v → own_entries v (opening_of (state_of w)) entries ≡ [])
      → ((v : ℕ) → calls_of v entries ≡ stream_of (map stream_calls streams) v)
      → ((v r : ℕ) → last_count v r entries ≤ counts v r)
      → ((v : ℕ) → AreCarried (length w.nodes.items) (told v) (own_entries v (opening_of (state_of w)) entries))
      → ((v r : ℕ) → v < length (map stream_calls streams) → r < length w.nodes.items → IfSome (told v r) (All IsFrame))
      → s.heads.items ≡ map heads_of streams → IsServed script spot counts told s
  served_is counts told none calls counted carried framed heads = record {
    heads = heads ∙ ap (map heads_of) same;
    opening = ap (λ (o : Origin). o.opening.modes) origin ∙ ap (λ (o : Spot). o.modes) begun.opening;
    run = record {
      history = record {
        legal = subst (λ (o : Spot). IsLegal o entries) begun.opening legal;
        fell = caused.fell;
        within = caused_ends s.world.maint.tickets s.world.commands.items entries caused between.turns;
        order = between.sound.on.told.ordered.order;
        each_once = subst (λ (ss : List Stream). (v : ℕ) → calls_of v entries ≡ stream_of (map stream_calls ss) v) same calls;
        faults = faults_shown counts entries between.sound.on.told.ordered.rise counted;
      };
      faults = subst (λ m. All (NamesLine m script.replicas) entries) (ap length same)
          (subst (λ m. All (NamesLine (length streams) m) entries) as_many_modes
          (lines_named (opening_of (state_of w)) (length streams) [] entries (opening_of (state_of w))
          (λ v past. none v (omega (arith, past, length-map streams stream_calls))) legal));
      carried = subst (λ ms. ExchangesShown script.replicas told ms entries) (ap (λ (o : Spot). o.modes) begun.opening)
          (subst (λ m. ExchangesShown m told (opening_of (state_of w)).modes entries) begun.replicas
          (exchanged (length w.nodes.items) told (opening_of (state_of w)) entries carried));
      framed = λ v r low there. framed v r (omega (arith, low, length-map streams stream_calls, ap length same))
          (omega (arith, there, begun.replicas));
    };
    many = as_many (state_of s.world) between.sound;
    replicas = λ r up. replicas_are (state_of s.world) between.sound between.rest r up
        ∙ ap (λ (o : Spot). (replay o.state entries).volume) (same_opening (state_of w) (state_of s.world) origin ∙ begun.opening);
  }

  pub served_in_turn : (counts : ℕ → ℕ → ℕ) (told : ℕ → ℕ → Option (List (List ℕ)))
      → HaveTurns (map stream_calls streams) w s.world counts told → IsServedInTurn script spot counts s
  served_in_turn counts told turns = record {
    order = turns.order;
    is = λ well.
        turns.turns (λ v low r here. well v r (omega (arith, low, length-map streams stream_calls, ap length same))
        (omega (arith, here, begun.replicas)))
        ∙ (λ i. served (store_in entries) (begun.opening i) (map stream_calls (same i)));
  }

pub each_served : {E : Type 0} (script : Script) (spot : Spot) (w : World) (res : Result ServedStreams E) (streams : List Stream)
    (counts : ℕ → ℕ → ℕ) (told : ℕ → ℕ → Option (List (List ℕ))) → IsBegun script spot w
    → IfOk res (λ s. IsBetween s.world) → IfOk res (λ s. KeepsOrigin w s.world)
    → IfOk res (λ s. HaveTurns (map stream_calls streams) w s.world counts told) → streams ≡ script.streams
    → IfOk res (λ s. s.heads.items ≡ map heads_of streams) → IfOk res (IsServed script spot counts told)
each_served script spot w (Ok s) streams counts told begun between origin turns same heads =
    served_is script spot w s streams begun between origin same counts told turns.none turns.calls turns.counted turns.carried
    turns.framed heads
each_served script spot w (Failed e) streams counts told begun between origin turns same heads = tt

pub each_in_turn : {E : Type 0} (script : Script) (spot : Spot) (w : World) (res : Result ServedStreams E) (streams : List Stream)
    (counts : ℕ → ℕ → ℕ) (told : ℕ → ℕ → Option (List (List ℕ))) → IsBegun script spot w
    → IfOk res (λ s. IsBetween s.world) → IfOk res (λ s. KeepsOrigin w s.world)
    → IfOk res (λ s. HaveTurns (map stream_calls streams) w s.world counts told) → streams ≡ script.streams
    → IfOk res (IsServedInTurn script spot counts)
each_in_turn script spot w (Ok s) streams counts told begun between origin turns same =
    served_in_turn script spot w s streams begun between origin same counts told turns
each_in_turn script spot w (Failed e) streams counts told begun between origin turns same = tt

-- what a volume began with stays
pub each_opening : {E : Type 0} (w : World) (res : Result ServedStreams E) → IfOk res (λ s. KeepsOrigin w s.world)
    → IfOk res (λ s. s.world.journal.opening ≡ w.journal.opening)
each_opening w (Ok s) origin = ap (λ (o : Origin). o.opening) origin
each_opening w (Failed e) origin = tt
