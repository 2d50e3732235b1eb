-- What a worker makes of a World is its stream's turn.
use Rattle.std.proofs.Common.{◌≡◌, ℕ, ◌≤◌, ◌==◌, Bool, true, false, cond, List, [], ◌∷◌, length, map, Option, Some}
use Rattle.std.proofs.Common.{None, Result, Ok, Err, OnOk, IfOk, sym, ap, subst, ◌∙◌, arith, slice_index_or}
use Rattle.std.specs.List.{All}
use Rattle.std.proofs.lemmas.List.{get_or_past}
use Rattle.std.proofs.lemmas.List.Elements.{All-nil, All-cons}
use Rattle.volume_model.specs.declared.command.Command.{Command}
use Rattle.frame_stream.specs.Asked.{call_of}
use Rattle.frame_stream.specs.declared.frame.Frame.{Frame}
use Rattle.frame_stream.specs.declared.frame.TheConstants.{READ, WRITE, PING}
use Rattle.volume_model.specs.declared.call.Call.{Call}
use Rattle.volume_model.specs.declared.call.Call.TheVariants as call
use Rattle.volume_model.specs.declared.entry.Entry.{Entry}
use Rattle.volume_model.specs.Faults.{last_count}
use Rattle.volume_model.specs.History.{IsLegal}
use Rattle.volume_model.proofs.OneWorkerLemmas.{length-modes_after}
use Rattle.open_calls.proofs.Forms.{length-forms}
use Rattle.volume_core.specs.declared.world.World.{World}
use Rattle.volume_core.specs.State.{State, state_of, opening_of}
use Rattle.volume_core.specs.Sound.{IsSound, NoneGaveUp}
use Rattle.volume_core.specs.Streams.{Origin, origin_of}
use Rattle.stream_steps.specs.Mine.{Mine, Log, Placed, entries_in}
use Rattle.stream_steps.specs.Steps.{IsFrameCall}
use Rattle.client_worker.specs.Exchanges.{told_in, AreCarried}
use Rattle.client_worker.specs.Serving.{IsShown, Grew}
use Rattle.control_worker.specs.Serving.{Commanded}
use Rattle.world_holder.specs.View.{own_entries, view}
use Rattle.world_holder.proofs.Grow.{same_opening}
use Rattle.script_text.specs.declared.script.Stream.{Stream}
use Rattle.script_text.specs.declared.script.Stream.TheVariants as stream
use Rattle.stream_turns.specs.Volume.{stream_calls}
use Rattle.stream_turns.specs.Turn.{IsBetween, HasNoEntry, HasTurn}
use Rattle.stream_turns.proofs.OneTurn.{frames_are, commands_are}

pub each_ok : {T E : Type 0} (r : Result T E) {P Q : T → Type 0} → ((x : T) → P x → Q x) → IfOk r P → IfOk r Q
each_ok (Ok x) f p = f x p
each_ok (Err e) f p = tt

pub any_ok : {T E : Type 0} (r : Result T E) {P : Type 0} → P → OnOk r P
any_ok (Ok x) p = p
any_ok (Err e) p = tt

pub told_ok : {T E P : Type 0} {r : Result T E} {x : T} → r ≡ Ok x → OnOk r P → P
told_ok {T} {E} {P} {r} {x} is on = subst (λ (y : Result T E). OnOk y P) is on

-- ---- a frame asks no command

pub frame_call : (f : Frame) → IsFrameCall (call_of f)
frame_call f = one (f.head.kind == READ) (f.head.kind == WRITE) (f.head.kind == PING)
  where
    one : (read write ping : Bool)
        → IsFrameCall (cond read (call.Read f.head.offset f.head.size)
        (cond write (call.Write f.head.offset f.body) (cond ping call.Ping (call.Other f.head.kind))))
    one true write ping = tt
    one false true ping = tt
    one false false true = tt
    one false false false = tt

pub frame_calls : (frames : List Frame) → All IsFrameCall (map call_of frames)
frame_calls [] = All-nil IsFrameCall
frame_calls (f ∷ fs) = All-cons IsFrameCall (call_of f) (map call_of fs) (frame_call f) (frame_calls fs)

-- ---- a World that began the same way

pub same_replicas : (s s2 : State) → origin_of s2 ≡ origin_of s → length s2.nodes ≡ length s.nodes
same_replicas s s2 origin = ap (λ (o : Origin). o.replicas) origin

pub modes_many : (s : State) → IsSound s → length (opening_of s).modes ≡ length s.nodes
modes_many s sound = sym (length-modes_after s.book.opening.modes s.book.entries) ∙ sound.on.clients.agree.as_many
    ∙ length-forms s.whole s.nodes

abbrev log_entries : Option Log → List Entry
log_entries None = []
log_entries (Some log) = log.entries

-- Of two Worlds, the first before the stream's turn and the second behind it.
module _ (n m : ℕ) (w w2 : World) (sound : IsSound (state_of w2)) (origin : origin_of (state_of w2) ≡ origin_of (state_of w)) (own : m ≡ n)
    (counts : List ℕ) (told : List (Option (List (List ℕ)))) (none : HasNoEntry n w) (many : length counts ≡ length w.nodes.items) where
  abbrev s : State
  s = state_of w

  abbrev s2 : State
  s2 = state_of w2

  legal : IsLegal (opening_of s) s2.book.entries
  legal = subst (λ o. IsLegal o s2.book.entries) (same_opening s s2 origin) sound.on.told.legal

  own_now : own_entries m (opening_of s2) s2.book.entries ≡ own_entries n (opening_of s) s2.book.entries
  own_now = λ i. own_entries (own i) (same_opening s s2 origin i) s2.book.entries

  past : (r : ℕ) → length w.nodes.items ≤ r → slice_index_or counts r 0 ≡ 0
  past r high = get_or_past counts r 0 (omega (arith, many, high))

  counted : ((r : ℕ) → last_count m r (entries_in (own_entries m (opening_of s2) s2.book.entries)) ≤ slice_index_or counts r 0)
      → (r : ℕ) → last_count n r (entries_in (own_entries n (opening_of s) s2.book.entries)) ≤ slice_index_or counts r 0
  counted shown r =
      subst (λ k. last_count k r (entries_in (own_entries n (opening_of s) s2.book.entries)) ≤ slice_index_or counts r 0) own
      (subst (λ ps. last_count m r (entries_in ps) ≤ slice_index_or counts r 0) own_now (shown r))

  carried : AreCarried (length s2.nodes) (told_in told) (own_entries m (opening_of s2) s2.book.entries)
      → AreCarried (length w.nodes.items) (told_in told) (own_entries n (opening_of s) s2.book.entries)
  carried shown =
      subst (λ k. AreCarried k (told_in told) (own_entries n (opening_of s) s2.book.entries)) (same_replicas s s2 origin)
      (subst (AreCarried (length s2.nodes) (told_in told)) own_now shown)

  pub frames_turned : (frames : List Frame) → IsShown (view true m s2) counts told
      → Grew (map call_of frames) (view true n s) (view true m s2)
      → HasTurn (map call_of frames) n w w2 (λ r. slice_index_or counts r 0) (told_in told)
  frames_turned frames shown grew =
      frames_are (opening_of s) (length w.nodes.items) n s.book.entries (entries_in grew.added) s2.book.entries
      (ap (λ (x : Mine). log_entries x.log) grew.is) none legal
      sound.on.told.ordered.order sound.on.told.ordered.rise (λ r. slice_index_or counts r 0) (told_in told) past
      (counted shown.counted) (carried shown.answered) (λ r low. shown.framed r)
      (map call_of frames) (frame_calls frames) grew.served

  pub commands_turned : (cs : List Command) → IsShown (view true m s2) counts told
      → Commanded cs (view true n s) (view true m s2)
      → HasTurn (map call.Command cs) n w w2 (λ r. slice_index_or counts r 0) (told_in told)
  commands_turned cs shown grew =
      commands_are (opening_of s) (length w.nodes.items) n s.book.entries grew.all s2.book.entries
      (ap (λ (x : Mine). log_entries x.log) grew.is) none legal
      sound.on.told.ordered.order sound.on.told.ordered.rise (λ r. slice_index_or counts r 0) (told_in told) past
      (counted shown.counted) (carried shown.answered) (λ r low. shown.framed r)
      cs grew.done

-- ---- a World that was given to a worker's hands as x, and taken back as x2

-- it is between two streams again
pub between_again : (w v out : World) (x x2 : State) → out ≡ v → IsSound (state_of v) → v.turns.tickets ≡ [] → v.commands.items ≡ []
    → NoneGaveUp v.gave_up.items → x ≡ state_of w → state_of v ≡ x2 → origin_of x2 ≡ origin_of x → length w.nodes.items ≤ 8
    → IsBetween out
between_again w v out x x2 same sound rest turns gave_up given back origin few =
    let kept : origin_of (state_of v) ≡ origin_of (state_of w) = ap origin_of back ∙ origin ∙ ap origin_of given in
    subst IsBetween (sym same) (record {
      sound = sound;
      rest = rest;
      turns = turns;
      gave_up = gave_up;
      few = omega (arith, few, same_replicas (state_of w) (state_of v) kept);
    })

module _ (n : ℕ) (w after out : World) (st : Stream) (counts : List ℕ) (told : List (Option (List (List ℕ)))) (same : out ≡ after)
    (none : HasNoEntry n w) (many : length counts ≡ length w.nodes.items) (sound : IsSound (state_of after))
    (m : ℕ) (x x2 : State) (given : x ≡ state_of w) (back : state_of after ≡ x2) (origin : origin_of x2 ≡ origin_of x) (own : m ≡ n)
    (shown : IsShown (view true m x2) counts told) where
  abbrev Turned : List Call → World → Type 0
  Turned asked z = HasTurn asked n w z (λ r. slice_index_or counts r 0) (told_in told)

  same_origin : origin_of (state_of after) ≡ origin_of (state_of w)
  same_origin = ap origin_of back ∙ origin ∙ ap origin_of given

  shown_back : IsShown (view true m (state_of after)) counts told
  shown_back = subst (λ z. IsShown (view true m z) counts told) (sym back) shown

  pub stream_of_frames : (frames : List Frame) → st ≡ stream.Frames frames
      → Grew (map call_of frames) (view true n x) (view true m x2) → Turned (stream_calls st) out
  stream_of_frames frames is grew =
      let grew_back = subst (λ z. Grew (map call_of frames) (view true n (state_of w)) (view true m z)) (sym back)
      (subst (λ z. Grew (map call_of frames) (view true n z) (view true m x2)) given grew) in
      subst (λ z. Turned (stream_calls z) out) (sym is)
      (subst (Turned (map call_of frames)) (sym same)
      (frames_turned n m w after sound same_origin own counts told none many frames shown_back grew_back))

  pub stream_of_commands : (cs asked : List Command) → st ≡ stream.Control cs → asked ≡ cs
      → Commanded asked (view true n x) (view true m x2) → Turned (stream_calls st) out
  stream_of_commands cs asked is as_asked grew =
      let grew_back = subst (λ z. Commanded asked (view true n (state_of w)) (view true m z)) (sym back)
      (subst (λ z. Commanded asked (view true n z) (view true m x2)) given grew) in
      subst (λ z. Turned (stream_calls z) out) (sym (is ∙ ap stream.Control (sym as_asked)))
      (subst (Turned (map call.Command asked)) (sym same)
      (commands_turned n m w after sound same_origin own counts told none many asked shown_back grew_back))

  -- what is so of what the stream knows of its entries, before and behind, is so of none and of its entries in the World
  pub stream_of_entries : (P : List Placed → List Placed → Type 0) → P (view true n x).entries (view true m x2).entries
      → P [] (own_entries n (opening_of (state_of w)) out.journal.entries)
  stream_of_entries P p =
      subst (λ (z : World). P [] (own_entries n (opening_of (state_of w)) z.journal.entries)) (sym same)
      (subst (λ o. P [] (own_entries n o after.journal.entries)) (same_opening (state_of w) (state_of after) same_origin)
      (subst (λ k. P [] (own_entries k (opening_of (state_of after)) after.journal.entries)) own
      (subst (λ (z : State). P [] (own_entries m (opening_of z) z.book.entries)) (sym back)
      (subst (λ ps. P ps (view true m x2).entries)
      (ap (λ (z : State). own_entries n (opening_of z) z.book.entries) given ∙ none) p))))
