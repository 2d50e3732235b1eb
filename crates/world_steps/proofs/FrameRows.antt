-- What each step of a frame makes of what its stream knows: of the row of the step, in the World as it is found.
use Rattle.std.proofs.Common.{◌≡◌, ⊎_elim, ℕ, Bool, [], subst, sym, ap, ◌∙◌, ◌+◌, true, ◌++◌, None, Some, ◌≢◌, ◌<◌}
use Rattle.std.proofs.Common.{false, List, ◌∷◌, length, map, set, IfSome, refl, arith, Option, ◌≤◌, ℤ, pos, negsuc, nat_le}
use Rattle.std.proofs.Common.{if◌then◌else◌}
use Rattle.std.proofs.lemmas.List.{get_or-set_same}
use Rattle.std.proofs.lemmas.Bool.{lt-ltb, le-ltb}
use Rattle.std.proofs.lemmas.Bool.Decides.{nat_tests}
use Rattle.vol_units.specs.Range.{is_good}
use Rattle.vol_units.specs.Size.{IsVolumeSize}
use Rattle.vol_units.specs.declared.size.TheConstants.{LARGEST_SIZE}
use Rattle.range_turns.specs.declared.ticket.Kind.{Kind}
use Rattle.range_turns.specs.declared.ticket.Ticket.{Ticket}
use Rattle.range_turns.specs.Order.{ticket_at, StandsAt}
use Rattle.range_turns.specs.declared.ticket.Kind.TheVariants as kind
use Rattle.volume_model.specs.declared.call.Call.{Call}
use Rattle.volume_model.specs.declared.call.Reply.{Reply}
use Rattle.volume_model.specs.declared.entry.Answer.{Answer}
use Rattle.volume_model.specs.declared.mode.Mode.{Mode}
use Rattle.volume_model.specs.declared.call.Refusal.{Refusal}
use Rattle.volume_model.specs.declared.call.Refusal.TheVariants.{OutOfRange, TooLong}
use Rattle.volume_model.specs.PlainState.{PlainState}
use Rattle.volume_model.specs.PlainStep.{plain_step, longest_call, refusal_of, range_refusal}
use Rattle.volume_model.specs.declared.call.Reply.TheVariants as reply
use Rattle.volume_model.specs.declared.entry.Entry.TheVariants as entry
use Rattle.volume_model.specs.declared.call.Call.TheVariants as call
use Rattle.replica_node.specs.Node.{Node}
use Rattle.open_calls.specs.Calls.{open_at, call_asked, whole_asked, with_part_at, node_at, no_call, read_from}
use Rattle.open_calls.specs.declared.open_call.OpenCall.{OpenCall}
use Rattle.step_answers.specs.declared.parts.Part.{Part}
use Rattle.step_answers.specs.declared.parts.Part.TheVariants.{Taken, Acked}
use Rattle.open_calls.proofs.Forms.{length-forms}
use Rattle.step_answers.specs.declared.answers.Enrolled.{Enrolled}
use Rattle.step_answers.specs.Asked.{IsOnRange, IsNow, AsksReplica}
use Rattle.volume_core.specs.Answers.{EnrolsAs, Completes, IsAnsweredNow, failed_by, after_fail, placed_for}
use Rattle.volume_core.specs.Answers.{IsRoomier}
use Rattle.volume_core.specs.State.{State, spot_of, modes_in, index_at, told_of}
use Rattle.volume_core.specs.Steps.{acked, ended, with_place, with_rooms, answered, wrote, has_read}
use Rattle.volume_core.specs.Streams.{IsTakenBack}
use Rattle.volume_core.specs.Streams.{MayGo, IsAnsweredTo, SeesEnrolled, running, turning, opens, open_of}
use Rattle.volume_core.specs.Sound.{IsSound}
use Rattle.volume_core.proofs.CallLemmas.{calls-push_own}
use Rattle.step_answers.specs.declared.answers.Enrolled.TheVariants as enrol
use Rattle.stream_steps.specs.Mine.{OwnCall, IsOwn, answer_placed, log_length, with_running}
use Rattle.stream_steps.specs.Steps.{IsOnBlocks, EnrolsTo, AcksTo, Answers, AnswersNow, IsUncarried, TakesTo}
use Rattle.stream_steps.specs.Steps.{IsFrameCall, IsWithin, HasPlaces}
use Rattle.world_holder.proofs.Open.{has_none}
use Rattle.world_holder.proofs.Entries.{own_answer}
use Rattle.world_holder.proofs.Grow.{only_open, grown}
use Rattle.world_holder.specs.View.{own_call, own_turn, own_at, runs, view}
use Rattle.world_steps.proofs.Own.{asks_range, plain_at, has_blocks, IsAt, own_stands, runs_set}
use Rattle.world_steps.proofs.Backed.{IsBacked, write_backed, read_backed}

-- ---- a call is changed

pub same_asked : (k : Kind) (c d : OpenCall) → d.at ≡ c.at → d.length ≡ c.length → d.bytes ≡ c.bytes → d.op ≡ c.op
    → call_asked k d ≡ call_asked k c
same_asked kind.Read c d a l b o = λ i. call_asked kind.Read (record c { at = a i; length = l i })
same_asked kind.Write c d a l b o = λ i. call_asked kind.Write (record c { at = a i; bytes = b i })
same_asked kind.Whole c d a l b o = ap whole_asked o

pub parted_own : (t : Ticket) (c : OpenCall) (r : ℕ) (part : Part)
    → own_call (t, with_part_at c r part) ≡ record (own_call (t, c)) { parts = set c.parts r part }
parted_own t c r part = ap (λ (x : Call). record (own_call (t, c)) { call = x; parts = set c.parts r part })
    (same_asked t.kind c (with_part_at c r part) refl refl refl refl)

pub read_own : (t : Ticket) (c : OpenCall) (r : ℕ) (node : Node)
    → own_call (t, read_from c r node) ≡ record (own_call (t, c))
    { buffer = (read_from c r node).buffer; parts = set c.parts r Taken }
read_own t c r node =
    ap (λ (x : Call). record (own_call (t, c)) { call = x; buffer = (read_from c r node).buffer; parts = set c.parts r Taken })
    (same_asked t.kind c (read_from c r node) refl refl refl refl)

pub uncarried : (c : Call) (why : Refusal) → IsUncarried c (reply.Refused why)
uncarried (call.Read offset count) why = tt
uncarried (call.Write offset bytes) why = tt
uncarried call.Ping why = tt
uncarried (call.Other k) why = tt
uncarried (call.Command c) why = tt

-- ---- what is open then

pub none_open : (n : ℕ) (s : State) → opens s n ≡ [] → running s n ≡ []
none_open n s e = by (running s n) e
  where
    by : (xs : List (Ticket × OpenCall)) → map open_of xs ≡ [] → xs ≡ []
    by [] e = refl
    by (x ∷ xs) e = absurd cc

-- nothing, where there is no command and no call
none_runs : (n : ℕ) (s s2 : State) → turning s n ≡ [] → turning s2 n ≡ turning s n → opens s2 n ≡ [] → runs n s2 ≡ []
none_runs n s s2 turns same idle = λ i. map own_turn ((same ∙ turns) i) ++ map (own_at s2.whole) (none_open n s2 idle i)

-- ---- the rows of a call that is open

module _ (a : Bool) (n t : ℕ) (o : OwnCall) (s : State) (ok : IsSound s) (own : IsOwn t o (view a n s))
    (blocks : IsOnBlocks o.call) (i : ℕ) (stands : StandsAt s.tickets t i) where
  here : IsAt n o s i
  here = own_stands a n t o s ok own blocks i stands

  turns : turning s n ≡ []
  turns = (has_blocks n o s blocks own.is).turns

  inside : i < length s.calls
  inside = omega (arith, stands.within, ok.on.clients.paired)

  -- that replica is so far with it now
  parted : (r : ℕ) (part : Part) → own_call (ticket_at s.tickets i, with_part_at (open_at s.calls i) r part) ∷ []
      ≡ record o { parts = set o.parts r part } ∷ []
  parted r part = ap (λ (x : OwnCall). x ∷ []) (parted_own (ticket_at s.tickets i) (open_at s.calls i) r part
      ∙ ap (λ (x : OwnCall). record x { parts = set x.parts r part }) here.is)

  ack_row : (r : ℕ) → MayGo n s (acked s i r) → AcksTo o r (view a n s) (view a n (acked s i r))
  ack_row r may = only_open n s (acked s i r) may a (record o { parts = set o.parts r Acked } ∷ []) refl
      (runs_set a n t o s ok own blocks i stands s.whole (with_part_at (open_at s.calls i) r Acked) refl ∙ parted r Acked)

  write_row : (r : ℕ) → MayGo n s (wrote s i r) → TakesTo o r o.buffer (view a n s) (view a n (wrote s i r))
  write_row r may = only_open n s (wrote s i r) may a (record o { parts = set o.parts r Taken } ∷ []) refl
      (runs_set a n t o s ok own blocks i stands s.whole (with_part_at (open_at s.calls i) r Taken) refl ∙ parted r Taken)

  read_row : (r : ℕ) (into : List ℕ) → into ≡ (open_at (has_read s i r).calls i).buffer → MayGo n s (has_read s i r)
      → TakesTo o r into (view a n s) (view a n (has_read s i r))
  read_row r into bytes may =
      let call = read_from (open_at s.calls i) r (node_at s.nodes r) in
      let buffer : call.buffer ≡ into =
      sym (bytes ∙ ap (λ (x : OpenCall). x.buffer) (get_or-set_same s.calls i call no_call inside)) in
      only_open n s (has_read s i r) may a (record o { buffer = into; parts = set o.parts r Taken } ∷ []) refl
      (runs_set a n t o s ok own blocks i stands s.whole call refl
      ∙ ap (λ (x : OwnCall). x ∷ []) (read_own (ticket_at s.tickets i) (open_at s.calls i) r (node_at s.nodes r)
      ∙ (λ k. record (here.is k) { buffer = buffer k; parts = set (here.is k).parts r Taken })))

  -- it is answered, with places for so many entries and so much data
  pub end_row : (s2 : State) (spare room : ℕ) (r : Reply) → MayGo n s s2 → IsAnsweredTo n o.call s s2
      → s2 ≡ ended (with_rooms s spare room) i r → IsBacked (length s.nodes) (modes_in s) o r
      → (ends : Answers o (view a n s) (view a n s2)) × (ends.answer.reply ≡ r) × (ends.spot ≡ spot_of s)
  end_row s2 spare room r may sees e backed =
      let call = open_at s.calls i in
      let answer : Answer = record {
        call = call_asked (ticket_at s.tickets i).kind call;
        reply = r;
        index = index_at s.indices call.stream;
        saw = call.saw;
        stream = call.stream;
      } in (
        record {
          spot = spot_of s;
          answer = answer;
          is = grown n s s2 may a (answer_placed (spot_of s) answer ∷ []) [] (entry.Answer answer ∷ [])
              (ap (λ (x : State). x.book.entries) e) (own_answer n (spot_of s) answer here.at.stream) refl
              (none_runs n s s2 turns (ap (λ (x : State). turning x n) e) sees.idle);
          here = known a;
          call = here.at.asked;
          by = here.at.stream;
          saw = ap (λ (x : OwnCall). x.saw) here.is;
          done = backed.done;
          read = backed.read;
        },
        refl,
        refl,
      )
    where
      known : (b : Bool) → IfSome (view b n s).log (λ log. log.spot ≡ spot_of s)
      known true = refl
      known false = tt

-- ---- the same, of the World as a step leaves it

module _ (a : Bool) (n t : ℕ) (o : OwnCall) (r : ℕ) (s s2 : State) (ok : IsSound s) (own : IsOwn t o (view a n s))
    (blocks : IsOnBlocks o.call) (i : ℕ) (stands : StandsAt s.tickets t i) where
  pub acked_row : s2 ≡ acked s i r → MayGo n s s2 → AcksTo o r (view a n s) (view a n s2)
  acked_row e = subst (λ (z : State). MayGo n s z → AcksTo o r (view a n s) (view a n z)) (sym e)
      (ack_row a n t o s ok own blocks i stands r)

  pub wrote_row : s2 ≡ wrote s i r → MayGo n s s2 → TakesTo o r o.buffer (view a n s) (view a n s2)
  wrote_row e = subst (λ (z : State). MayGo n s z → TakesTo o r o.buffer (view a n s) (view a n z)) (sym e)
      (write_row a n t o s ok own blocks i stands r)

pub has_read_row : (a : Bool) (n t : ℕ) (o : OwnCall) (r : ℕ) (into : List ℕ) (s s2 : State) → IsSound s
    → IsOwn t o (view a n s) → IsOnBlocks o.call → (i : ℕ) → StandsAt s.tickets t i → s2 ≡ has_read s i r
    → into ≡ (open_at s2.calls i).buffer → MayGo n s s2 → TakesTo o r into (view a n s) (view a n s2)
has_read_row a n t o r into s s2 ok own blocks i stands e =
    subst (λ (z : State). into ≡ (open_at z.calls i).buffer → MayGo n s z → TakesTo o r into (view a n s) (view a n z)) (sym e)
    (read_row a n t o s ok own blocks i stands r into)

pub complete_row : (a : Bool) (n t : ℕ) (o : OwnCall) (s s2 : State) → IsSound s → IsOwn t o (view a n s) → IsOnBlocks o.call
    → MayGo n s s2 → Completes s t s2 → IsAnsweredTo n o.call s s2 → Answers o (view a n s) (view a n s2)
complete_row a n t o s s2 ok own blocks may d sees = ⊎_elim
    (λ w. ends w.0.stands (write_backed s d.0 o ok w.0.stands.within (is w.0.stands) d.1 t w.0 w.1))
    (λ r. ends r.0.stands (read_backed s d.0 o ok r.0.stands.within (is r.0.stands) d.1 r.0.reads r.1))
    d.3
  where
    is : StandsAt s.tickets t d.0 → own_call (ticket_at s.tickets d.0, open_at s.calls d.0) ≡ o
    is stands = (own_stands a n t o s ok own blocks d.0 stands).is

    ends : StandsAt s.tickets t d.0 → IsBacked (length s.nodes) (modes_in s) o d.1 → Answers o (view a n s) (view a n s2)
    ends stands backed = (end_row a n t o s ok own blocks d.0 stands s2 s.book.spare s.book.spare_data d.1 may sees d.2 backed).0

-- ---- enrolled, and answered at once

-- with places for so many entries and so much data
now_row : (a : Bool) (n : ℕ) (c : Call) (r : Reply) (s s2 : State) (spare room : ℕ) → MayGo n s s2 → IsAnsweredTo n c s s2
    → turning s n ≡ [] → s2 ≡ answered (with_rooms s spare room) n (length s.book.entries) c r
    → IsUncarried c r → AnswersNow c (view a n s) (view a n s2)
now_row a n c r s s2 spare room may sees turns e un =
    let answer : Answer = record { call = c; reply = r; index = index_at s.indices n; saw = length s.book.entries; stream = n } in
    record {
      spot = spot_of s;
      answer = answer;
      is = grown n s s2 may a (answer_placed (spot_of s) answer ∷ []) [] (entry.Answer answer ∷ [])
          (ap (λ (x : State). x.book.entries) e) (own_answer n (spot_of s) answer refl) refl
          (none_runs n s s2 turns (ap (λ (x : State). turning x n) e) sees.idle);
      call = refl;
      by = refl;
      saw = known a;
      uncarried = un;
    }
  where
    known : (b : Bool) → IfSome (log_length (view b n s)) (λ place. length s.book.entries ≡ place)
    known true = refl
    known false = tt

-- a call of a frame names no replica
pub frame_there : (k : ℕ) (c : Call) → IsFrameCall c → AsksReplica k c
frame_there k (call.Read offset count) f = tt
frame_there k (call.Write offset bytes) f = tt
frame_there k call.Ping f = tt
frame_there k (call.Other x) f = tt
frame_there k (call.Command c) f = absurd f

no_failed : (c : Call) → IsFrameCall c → failed_by c ≡ None
no_failed (call.Read offset count) f = refl
no_failed (call.Write offset bytes) f = refl
no_failed call.Ping f = refl
no_failed (call.Other k) f = refl
no_failed (call.Command c) f = absurd f

-- what is answered at once has nothing carried
pub now_uncarried : (modes : List Mode) (p : PlainState) (c : Call) → IsNow c → IsFrameCall c → IsUncarried c (plain_step modes p c).1
now_uncarried modes p (call.Read offset count) now frame = rw (lt-ltb longest_call count now) tt
now_uncarried modes p (call.Write offset bytes) now frame = absurd now
now_uncarried modes p call.Ping now frame = tt
now_uncarried modes p (call.Other k) now frame = tt
now_uncarried modes p (call.Command c) now frame = absurd frame

pub now_rows : (a : Bool) (n : ℕ) (c : Call) (place : ℕ) (s s2 : State) → IsNow c → IsFrameCall c → runs n s ≡ []
    → MayGo n s s2 → IsAnsweredNow s n c place s2 → IsAnsweredTo n c s s2 → AnswersNow c (view a n s) (view a n s2)
now_rows a n c place s s2 now frame idle may is sees =
    let reply = (plain_step (modes_in s) (told_of s) c).1 in
    now_row a n c reply s s2 (s.book.spare + 1) s.book.spare_data may sees (has_none n s idle).turns
    (is.state ∙ ap (λ x. answered (after_fail (with_place s) x) n (length s.book.entries) c reply) (no_failed c frame))
    (now_uncarried (modes_in s) (told_of s) c now frame)

kind_of : (k : Kind) (c : OpenCall) (d : Call) → call_asked k c ≡ d → IsOnRange d → k ≢ kind.Whole
kind_of k c (call.Read offset count) e d = asks_range k c (call.Read offset count) e tt
kind_of k c (call.Write offset bytes) e d = asks_range k c (call.Write offset bytes) e tt
kind_of k c call.Ping e d = absurd d
kind_of k c (call.Other x) e d = absurd d
kind_of k c (call.Command x) e d = absurd d

-- ---- what nothing stands against lies within the largest volume

places_in : (size : ℕ) (offset : ℤ) (n : ℕ) → size ≤ LARGEST_SIZE
    → (if is_good size offset n then None else Some OutOfRange) ≡ None → HasPlaces offset n
places_in size (pos at) n most none = by (nat_le (at + n) size) refl none
  where
    by : (good : Bool) → nat_le (at + n) size ≡ good → (if good then None else Some OutOfRange) ≡ None → HasPlaces (pos at) n
    by true good e = record { from = refl; inside = grind (arith, nat_tests, good, most) }
    by false good e = absurd cc
places_in size (negsuc at) n most none = absurd cc

within : (modes : List Mode) (p : PlainState) (c : Call) → length p.volume.disk ≤ LARGEST_SIZE → IsOnRange c
    → refusal_of modes p c ≡ None → IsWithin c
within modes p (call.Read offset n) most short none = places_in (length p.volume.disk) offset n most
    (subst (λ b. (if b then Some TooLong else range_refusal p.volume offset n) ≡ None) (le-ltb longest_call n short) none)
within modes p (call.Write offset bytes) most short none = places_in (length p.volume.disk) offset (length bytes) most none
within modes p call.Ping most short none = tt
within modes p (call.Other k) most short none = tt
within modes p (call.Command c) most short none = tt

-- ---- enrolled, and answered that its range is not good

pub enrol_rows : (a : Bool) (n : ℕ) (c : Call) (e : Enrolled) (s s2 : State) → IsSound s → IsVolumeSize s.size → IsOnRange c
    → runs n s ≡ [] → MayGo n s s2 → EnrolsAs s n c e s2 → SeesEnrolled n c e s s2 → EnrolsTo c e (view a n s) (view a n s2)
enrol_rows a n c (enrol.Ticket t) s s2 ok size range idle may is sees =
    let b = is.1 in
    let none = has_none n s idle in
    let new : Ticket = record { number = t; range = b.range; kind = b.kind; started = false } in
    let turns : turning s2 n ≡ [] = ap (λ (x : State). turning x n) b.state ∙ none.turns in
    let calls : running s2 n ≡ (new, b.new) ∷ [] = ap (λ (x : State). running x n) b.state
    ∙ calls-push_own n s.tickets s.calls new b.new ok.on.clients.paired b.by none.calls in (
      record {
        own = own_call (new, b.new);
        is = only_open n s s2 may a (own_call (new, b.new) ∷ []) (ap (λ (x : State). x.book.entries) b.state)
            ((λ i. map own_turn (turns i) ++ map (own_at s2.whole) (calls i))
            ∙ ap (λ (z : OwnCall). z ∷ []) (plain_at s2.whole (new, b.new) (kind_of b.kind b.new c b.is range)));
        number = refl;
        call = b.is;
        waits = refl;
        saw = known a b.saw;
      },
      within (modes_in s) (told_of s) c (subst (λ k. k ≤ LARGEST_SIZE) (sym ok.disk) size.most) range is.0,
    )
  where
    known : (b : Bool) {m : ℕ} → m ≡ length s.book.entries → IfSome (log_length (view b n s)) (λ place. m ≡ place)
    known true e = e
    known false e = tt
enrol_rows a n c (enrol.OutOfRange place) s s2 ok size range idle may is sees =
    now_row a n c (reply.Refused OutOfRange) s s2 (placed_for s c).book.spare (placed_for s c).book.spare_data may sees
    (has_none n s idle).turns
    (is.2 ∙ ap (λ p. answered (placed_for s c) n p c (reply.Refused OutOfRange)) is.1) (uncarried c OutOfRange)

-- ---- where it has no step

-- places alone are more
pub roomier_same : (a : Bool) (n : ℕ) (s s2 : State) → MayGo n s s2 → IsRoomier s s2 → view a n s2 ≡ view a n s
roomier_same a n s s2 may room = only_open n s s2 may a (runs n s) (ap (λ (x : State). x.book.entries) room.state)
    (ap (runs n) room.state)

-- it is taken back
pub gone_row : (a : Bool) (n : ℕ) (s s2 : State) → MayGo n s s2 → turning s n ≡ [] → turning s2 n ≡ turning s n
    → IsTakenBack n s s2 → view a n s2 ≡ with_running (view a n s) []
gone_row a n s s2 may turns same sees = only_open n s s2 may a [] sees.entries (none_runs n s s2 turns same sees.idle)

-- a replica that has a mode is there
pub mode_there : (s : State) (r : Option ℕ) → IsSound s → IfSome r (λ k. k < length (modes_in s)) → IfSome r (λ k. k < length s.nodes)
mode_there s None ok h = tt
mode_there s (Some k) ok h = omega (arith, h, ok.on.clients.agree.as_many, length-forms s.whole s.nodes)
