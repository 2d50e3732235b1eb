-- What each step leaves to other streams, and what its own sees.
use Rattle.std.proofs.Common.{◌≡◌, ◌≢◌, ℕ, ◌+◌, ◌<◌, ⊎_elim, true, false, List, [], ◌∷◌, length, length-set, map, set}
use Rattle.std.proofs.Common.{subst, sym, refl, ap, ◌∙◌, arith, append-nil}
use lib.Seq.{set-get_or}
use Rattle.vol_units.specs.declared.range.BlockRange.{BlockRange}
use Rattle.volume_model.specs.declared.command.Command.TheVariants as command
use Rattle.volume_model.specs.declared.call.Call.{Call}
use Rattle.volume_model.specs.declared.call.Call.TheVariants as call
use Rattle.volume_model.specs.declared.call.Reply.{Reply}
use Rattle.volume_model.specs.Replay.{is_refusal}
use Rattle.range_turns.specs.declared.ticket.Kind.{Kind}
use Rattle.range_turns.specs.declared.ticket.Kind.TheVariants as kind
use Rattle.range_turns.specs.declared.ticket.Ticket.{Ticket}
use Rattle.range_turns.specs.Order.{ticket_at, no_ticket, StandsAt}
use Rattle.replica_node.specs.Node.{Node}
use Rattle.open_calls.specs.declared.open_call.OpenCall.{OpenCall}
use Rattle.open_calls.specs.Calls.{open_at, call_asked, whole_of, begun, with_part_at, read_from}
use Rattle.step_answers.specs.declared.parts.Part.{Part}
use Rattle.open_calls.specs.Clients.{IsIdle}
use Rattle.open_calls.proofs.FreeLemmas.{write_no_whole, read_no_whole}
use Rattle.volume_core.specs.State.{State, modes_in, index_at, gave_up_at}
use Rattle.volume_core.specs.Steps.{with_place, with_rooms, with_data, ended, without_call, started, answer_entry}
use Rattle.volume_core.specs.Sound.{IsSound}
use Rattle.volume_core.specs.Answers.{IsRoomier, IsBehind, Completes, BeginsBy}
use Rattle.volume_core.specs.Streams.{running, turning, Open, open_of, opens, IsOpen, MayGo, Stays, Begun}
use Rattle.volume_core.specs.Streams.{IsAnsweredTo, IsTakenBack, ForOwner, origin_of}
use Rattle.volume_core.proofs.CallLemmas.{calls-set_other, calls-set_own, calls-push_other, calls-push_own}
use Rattle.volume_core.proofs.CallLemmas.{calls-remove_other, calls-remove_own, calls-one, calls-place, calls-idle}

-- ---- nothing but places

pub may_same : (n : ℕ) (s : State) → IsSound s → MayGo n s s
may_same n s ok = record {
  sound = ok;
  origin = refl;
  added = ([], sym (append-nil s.book.entries), tt);
  others =
      λ m h. refl;
  turns = λ m h. refl;
  gave_up = λ m h. refl;
  removes = λ m other turn name. tt;
}

pub may_still : (n : ℕ) (s s2 : State) → IsSound s → s2 ≡ s → MayGo n s s2
may_still n s s2 ok is = subst (MayGo n s) (sym is) (may_same n s ok)

pub may_roomier : (n : ℕ) (s s2 : State) → IsSound s2 → IsRoomier s s2 → MayGo n s s2
may_roomier n s s2 ok r = record {
  sound = ok;
  origin = ap origin_of r.state
      ∙ ap (λ k. record { first = s.first; opening = s.book.opening; size = s.size; streams = length s.indices; replicas = k })
      r.keeps.count;
  added = ([], ap (λ (x : State). x.book.entries) r.state ∙ sym (append-nil s.book.entries), tt);
  others = λ m h. ap (λ (x : State). running x m) r.state;
  turns = λ m h. ap (λ (x : State). turning x m) r.state;
  gave_up = λ m h. ap (λ (x : State). gave_up_at x.gave_up m) r.state;
  removes = λ m other turn name. tt;
}

pub stays_same : (n : ℕ) (s : State) → Stays n s s
stays_same n s = record { entries = refl; same = refl }

-- ---- the call of a ticket is the stream's

-- what is open of a stream with one call
one_running : (n : ℕ) (xs : List (Ticket × OpenCall)) (o : Open) → map open_of xs ≡ o ∷ [] → (x : Ticket × OpenCall)
    × (xs ≡ x ∷ []) × (open_of x ≡ o)
one_running n [] o e = absurd cc
one_running n (x ∷ []) o e = (x, refl, cc)
one_running n (x ∷ y ∷ xs) o e = absurd cc

-- the stream's one open call stands where its ticket does
pub record IsOwnAt (n : ℕ) (c : Call) (s : State) (i : ℕ) : Type 0 where
  pub x : Ticket × OpenCall
  pub runs : running s n ≡ x ∷ []
  pub stream : (open_at s.calls i).stream ≡ n
  pub is : (ticket_at s.tickets i, open_at s.calls i) ≡ x
  pub asked : call_asked (ticket_at s.tickets i).kind (open_at s.calls i) ≡ c

pub own_at : (n t : ℕ) (c : Call) (s : State) (i : ℕ) → IsSound s → IsOpen n t c s → StandsAt s.tickets t i → IsOwnAt n c s i
own_at n t c s i ok open' stands =
    let one = one_running n (running s n) _ open'.is in
    let x = one.0 in
    let at = calls-place n s.tickets s.calls x one.1 in
    let there = calls-one n s.tickets s.calls at.0 x one.1 at.1 at.2 at.3 in
    let number : (ticket_at s.tickets at.0).number ≡ t = ap (λ (p : Ticket × OpenCall). p.0.number) there
    ∙ ap (λ (o : Open). o.number) one.2 in
    let here : at.0 ≡ i = stands.only at.0 at.1 number in
    let is : (ticket_at s.tickets i, open_at s.calls i) ≡ x = subst (λ k. (ticket_at s.tickets k, open_at s.calls k) ≡ x) here there in
    record {
      x = x;
      runs = one.1;
      stream = subst (λ k. (open_at s.calls k).stream ≡ n) here at.3;
      is = is;
      asked = ap (λ (p : Ticket × OpenCall). call_asked p.0.kind p.1) is ∙ ap (λ (o : Open). o.call) one.2;
    }

-- its answer tells of no removal that was done
abbrev pub IsNoRemoval : State → ℕ → Reply → Type 0
IsNoRemoval s i r = (name : List ℕ) → call_asked (ticket_at s.tickets i).kind (open_at s.calls i) ≡ call.Command (command.Remove name)
    → is_refusal r ≡ true

-- that of a read or a write tells of none
pub no_removal : (s : State) (i : ℕ) (r : Reply) → (ticket_at s.tickets i).kind ≢ kind.Whole → IsNoRemoval s i r
no_removal s i r other name e = absurd (by (ticket_at s.tickets i).kind other e)
  where
    by : (k : Kind) → k ≢ kind.Whole → call_asked k (open_at s.calls i) ≡ call.Command (command.Remove name) → ⊥
    by kind.Read n f = cc
    by kind.Write n f = cc
    by kind.Whole n f = n refl

-- ---- a call is changed

module _ (n : ℕ) (c : Call) (s : State) (i : ℕ) (ok : IsSound s) (h : i < length s.tickets) (own : IsOwnAt n c s i) where
  call_in : i < length s.calls
  call_in = omega (arith, h, ok.on.clients.paired)

  -- with its ticket, on these replicas, with places for so many entries and so much data
  pub may_set : (s2 : State) (t : Ticket) (y : OpenCall) (nodes : List Node) (spare room : ℕ)
      → y.stream ≡ (open_at s.calls i).stream → length nodes ≡ length s.nodes
      → s2 ≡ record (with_rooms s spare room) { nodes = nodes; tickets = set s.tickets i t; calls = set s.calls i y }
      → IsSound s2 → MayGo n s s2
  may_set s2 t y nodes spare room same many is ok2 = record {
    sound = ok2;
    origin = ap origin_of is
        ∙ ap (λ k. record { first = s.first; opening = s.book.opening; size = s.size; streams = length s.indices; replicas = k })
        many;
    added = ([], ap (λ (x : State). x.book.entries) is ∙ sym (append-nil s.book.entries), tt);
    others = λ m other. ap (λ (x : State). running x m) is
        ∙ calls-set_other m s.tickets s.calls i t y (λ e. other (sym e ∙ own.stream)) (λ e. other (sym e ∙ same ∙ own.stream));
    turns = λ m other. ap (λ (x : State). turning x m) is;
    gave_up = λ m other. ap (λ (x : State). gave_up_at x.gave_up m) is;
    removes = λ m other turn name. tt;
  }

  -- what the stream then has open
  pub opens_set : (s2 : State) (t : Ticket) (y : OpenCall) (nodes : List Node) (spare room : ℕ) → y.stream ≡ (open_at s.calls i).stream
      → s2 ≡ record (with_rooms s spare room) { nodes = nodes; tickets = set s.tickets i t; calls = set s.calls i y }
      → opens s2 n ≡ open_of (t, y) ∷ []
  opens_set s2 t y nodes spare room same is =
      ap (λ (x : State). opens x n) is ∙ ap (map open_of)
      (calls-set_own n s.tickets s.calls i t y own.x own.runs h call_in own.stream (same ∙ own.stream))

  -- what it had
  pub opens_had : opens s n ≡ open_of (ticket_at s.tickets i, open_at s.calls i) ∷ []
  opens_had = ap (map open_of) own.runs ∙ ap (λ p. open_of p ∷ []) (sym own.is)

  same_ticket : set s.tickets i (ticket_at s.tickets i) ≡ s.tickets
  same_ticket = set-get_or s.tickets i no_ticket

  -- where the ticket stays
  with_ticket : (y : OpenCall) (nodes : List Node) → record s { nodes = nodes; calls = set s.calls i y }
      ≡ record (with_rooms s s.book.spare s.book.spare_data) {
        nodes = nodes;
        tickets = set s.tickets i (ticket_at s.tickets i);
        calls = set s.calls i y;
      }
  with_ticket y nodes =
      ap (λ ts. record (with_rooms s s.book.spare s.book.spare_data) { nodes = nodes; tickets = ts; calls = set s.calls i y })
      (sym same_ticket)

  pub may_step : (s2 : State) (y : OpenCall) (nodes : List Node) → y.stream ≡ (open_at s.calls i).stream → length nodes ≡ length s.nodes
      → s2 ≡ record s { nodes = nodes; calls = set s.calls i y } → IsSound s2 → MayGo n s s2
  may_step s2 y nodes same many is ok2 = may_set s2 (ticket_at s.tickets i) y nodes s.book.spare s.book.spare_data same many
      (is ∙ with_ticket y nodes) ok2

  pub stays_step : (s2 : State) (y : OpenCall) (nodes : List Node) → y.stream ≡ (open_at s.calls i).stream
      → open_of (ticket_at s.tickets i, y) ≡ open_of (ticket_at s.tickets i, open_at s.calls i)
      → s2 ≡ record s { nodes = nodes; calls = set s.calls i y } → Stays n s s2
  stays_step s2 y nodes same alike is = record {
    entries = ap (λ (x : State). x.book.entries) is;
    same = opens_set s2 (ticket_at s.tickets i) y nodes s.book.spare s.book.spare_data same (is ∙ with_ticket y nodes)
        ∙ ap (λ o. o ∷ []) alike ∙ sym opens_had;
  }

  -- ---- it is gone

  pub may_without : (s2 : State) → s2 ≡ without_call s i → IsSound s2 → MayGo n s s2
  may_without s2 is ok2 = record {
    sound = ok2;
    origin = ap origin_of is;
    added = ([], ap (λ (x : State). x.book.entries) is ∙ sym (append-nil s.book.entries), tt);
    others = λ m other. ap (λ (x : State). running x m) is
        ∙ calls-remove_other m s.tickets s.calls i ok.on.clients.paired (λ e. other (sym e ∙ own.stream));
    turns = λ m other. ap (λ (x : State). turning x m) is;
    gave_up = λ m other. ap (λ (x : State). gave_up_at x.gave_up m) is;
    removes = λ m other turn name. tt;
  }

  none_left : running (without_call s i) n ≡ []
  none_left = calls-remove_own n s.tickets s.calls i own.x own.runs ok.on.clients.paired h own.stream

  pub idle_without : (s2 : State) → s2 ≡ without_call s i → opens s2 n ≡ []
  idle_without s2 is = ap (λ (x : State). opens x n) is ∙ ap (map open_of) none_left

  -- ---- it ends, with places for so many entries and so much data

  -- unless it is a removal that was done
  pub may_ended : (s2 : State) (spare room : ℕ) (r : Reply) → IsNoRemoval s i r
      → s2 ≡ ended (with_rooms s spare room) i r → IsSound s2 → MayGo n s s2
  may_ended s2 spare room r stays is ok2 = record {
    sound = ok2;
    origin = ap origin_of is
        ∙ ap (λ k. record { first = s.first; opening = s.book.opening; size = s.size; streams = k; replicas = length s.nodes })
        (length-set s.indices (open_at s.calls i).stream (index_at s.indices (open_at s.calls i).stream + 1));
    added = (
      answer_entry (without_call s i) (open_at s.calls i).stream (open_at s.calls i).saw
          (call_asked (ticket_at s.tickets i).kind (open_at s.calls i)) r ∷ [],
      ap (λ (x : State). x.book.entries) is,
      (own.stream, tt),
    );
    others = λ m other. ap (λ (x : State). running x m) is
        ∙ calls-remove_other m s.tickets s.calls i ok.on.clients.paired (λ e. other (sym e ∙ own.stream));
    turns = λ m other. ap (λ (x : State). turning x m) is;
    gave_up = λ m other. ap (λ (x : State). gave_up_at x.gave_up m) is;
    removes = λ m other turn name. (stays name, tt);
  }

  pub answered_ended : (s2 : State) (spare room : ℕ) (r : Reply)
      → s2 ≡ ended (with_rooms s spare room) i r → IsAnsweredTo n c s s2
  answered_ended s2 spare room r is = record {
    marks = [];
    answer = record {
      call = call_asked (ticket_at s.tickets i).kind (open_at s.calls i);
      reply = r;
      index =
          index_at s.indices (open_at s.calls i).stream;
      saw = (open_at s.calls i).saw;
      stream = (open_at s.calls i).stream;
    };
    call = own.asked;
    by = own.stream;
    entries = ap (λ (x : State). x.book.entries) is;
    idle = ap (λ (x : State). opens x n) is ∙ ap (map open_of) none_left;
  }

abbrev as_open : ℕ → BlockRange → Call → List ℕ → Open
as_open number range c whole = record { number = number; range = range; call = c; whole = whole }

-- ---- the steps of a started call, for the stream that has it open

module _ (s s2 : State) (t i : ℕ) (ok : IsSound s) (ok2 : IsSound s2) (stands : StandsAt s.tickets t i) where
  pub step_may : (y : OpenCall) (nodes : List Node) → y.stream ≡ (open_at s.calls i).stream → length nodes ≡ length s.nodes
      → s2 ≡ record s { nodes = nodes; calls = set s.calls i y }
      → ForOwner t s (λ n c. MayGo n s s2)
  step_may y nodes same many is = λ n c o. may_step n c s i ok stands.within (own_at n t c s i ok o stands) s2 y nodes same many is ok2

  pub step_stays : (y : OpenCall) (nodes : List Node) → y.stream ≡ (open_at s.calls i).stream
      → open_of (ticket_at s.tickets i, y) ≡ open_of (ticket_at s.tickets i, open_at s.calls i)
      → s2 ≡ record s { nodes = nodes; calls = set s.calls i y } → ForOwner t s (λ n c. Stays n s s2)
  step_stays y nodes same alike is = λ n c o. stays_step n c s i ok stands.within (own_at n t c s i ok o stands) s2 y nodes same alike is

  pub withdrawn_may : s2 ≡ without_call s i → ForOwner t s (λ n c. MayGo n s s2)
  withdrawn_may is = λ n c o. may_without n c s i ok stands.within (own_at n t c s i ok o stands) s2 is ok2

  pub withdrawn_sees : s2 ≡ without_call s i → ForOwner t s (λ n c. IsTakenBack n s s2)
  withdrawn_sees is = λ n c o. record {
    entries = ap (λ (x : State). x.book.entries) is;
    idle = idle_without n c s i ok stands.within (own_at n t c s i ok o stands) s2 is;
  }

  pub ended_may : (spare room : ℕ) (r : Reply) → IsNoRemoval s i r → s2 ≡ ended (with_rooms s spare room) i r
      → ForOwner t s (λ n c. MayGo n s s2)
  ended_may spare room r stays is = λ n c o. may_ended n c s i ok stands.within (own_at n t c s i ok o stands) s2 spare room r stays is ok2

  pub ended_sees : (spare room : ℕ) (r : Reply) → s2 ≡ ended (with_rooms s spare room) i r
      → ForOwner t s (λ n c. IsAnsweredTo n c s s2)
  ended_sees spare room r is = λ n c o. answered_ended n c s i ok stands.within (own_at n t c s i ok o stands) s2 spare room r is

  -- and of one that starts
  pub started_may : (nodes : List Node) (front back buffer : List ℕ) (room : ℕ) → length nodes ≡ length s.nodes
      → s2 ≡ started (with_rooms s (s.book.spare + 1) room) i nodes front back buffer → ForOwner t s (λ n c. MayGo n s s2)
  started_may nodes front back buffer room many is = λ n c o. may_set n c s i ok stands.within (own_at n t c s i ok o stands) s2
      (record (ticket_at s.tickets i) { started = true })
      (begun (open_at s.calls i) (modes_in s) front back buffer) nodes (s.book.spare + 1) room refl many is ok2

  pub started_sees : (nodes : List Node) (front back buffer : List ℕ) (room : ℕ)
      → s2 ≡ started (with_rooms s (s.book.spare + 1) room) i nodes front back buffer → ForOwner t s (λ n c. Begun n t c s s2)
  started_sees nodes front back buffer room is = λ n c o. let own = own_at n t c s i ok o stands in
      let y = begun (open_at s.calls i) (modes_in s) front back buffer in
      record {
        entries = ap (λ (x : State). x.book.entries) is;
        is_open = record {
          range = (ticket_at s.tickets i).range;
          whole = whole_of y;
          is =
              let ticket_here = ticket_at s.tickets i in
              opens_set n c s i ok stands.within own s2 (record ticket_here { started = true }) y nodes (s.book.spare + 1) room refl is
              ∙ one_open ticket_here.number t (call_asked ticket_here.kind y) c ticket_here.range (whole_of y) stands.is
              (asked_same ticket_here.kind ∙ own.asked);
        };
      }
    where
      asked_same : (k : Kind) → call_asked k (begun (open_at s.calls i) (modes_in s) front back buffer) ≡ call_asked k (open_at s.calls i)
      asked_same kind.Read = refl
      asked_same kind.Write = refl
      asked_same kind.Whole = refl

      one_open : (a b : ℕ) (x y : Call) (r : BlockRange) (w : List ℕ) → a ≡ b → x ≡ y → as_open a r x w ∷ [] ≡ as_open b r y w ∷ []
      one_open a b x y r w p q = cc

-- ---- an enrolment

pub behind_may : (n t : ℕ) (c : Call) (s s2 : State) → IsBehind s n c t s2 → IsSound s → IsSound s2 → MayGo n s s2
behind_may n t c s s2 b ok ok2 = record {
  sound = ok2;
  origin = ap origin_of b.state;
  added = ([], ap (λ (x : State). x.book.entries) b.state ∙ sym (append-nil s.book.entries), tt);
  others = λ m other. ap (λ (x : State). running x m) b.state
      ∙ calls-push_other m s.tickets s.calls (record { number = t; range = b.range; kind = b.kind; started = false }) b.new
      ok.on.clients.paired (λ e. other (sym e ∙ b.by));
  turns = λ m other. ap (λ (x : State). turning x m) b.state;
  gave_up = λ m other. ap (λ (x : State). gave_up_at x.gave_up m) b.state;
  removes = λ m other turn name. tt;
}

pub behind_sees : (n t : ℕ) (c : Call) (s s2 : State) → IsBehind s n c t s2 → IsIdle n s.calls → IsSound s → Begun n t c s s2
behind_sees n t c s s2 b idle ok = record {
  entries = ap (λ (x : State). x.book.entries) b.state;
  is_open = record {
    range = b.range;
    whole = whole_of b.new;
    is = ap (λ (x : State). opens x n) b.state
        ∙ ap (map open_of) (calls-push_own n s.tickets s.calls
        (record { number = t; range = b.range; kind = b.kind; started = false }) b.new ok.on.clients.paired b.by
        (calls-idle n s.tickets s.calls idle))
        ∙ ap (λ x. as_open t b.range x (whole_of b.new) ∷ []) b.is;
  };
}

-- ---- the end of a call

pub complete_may : (s s2 : State) (t : ℕ) → Completes s t s2 → IsSound s → IsSound s2 → ForOwner t s (λ n c. MayGo n s s2)
complete_may s s2 t done ok ok2 = ⊎_elim
    (λ w. ended_may s s2 t done.0 ok ok2 w.0.stands s.book.spare s.book.spare_data done.1
    (no_removal s done.0 done.1 (write_no_whole (ticket_at s.tickets done.0).kind w.0.writes.writes)) done.2)
    (λ r. ended_may s s2 t done.0 ok ok2 r.0.stands s.book.spare s.book.spare_data done.1
    (no_removal s done.0 done.1 (read_no_whole (ticket_at s.tickets done.0).kind r.0.reads.reads)) done.2)
    done.3

pub complete_sees : (s s2 : State) (t : ℕ) → Completes s t s2 → IsSound s → IsSound s2 → ForOwner t s (λ n c. IsAnsweredTo n c s s2)
complete_sees s s2 t done ok ok2 = ⊎_elim
    (λ w. ended_sees s s2 t done.0 ok ok2 w.0.stands s.book.spare s.book.spare_data done.1 done.2)
    (λ r. ended_sees s s2 t done.0 ok ok2 r.0.stands s.book.spare s.book.spare_data done.1 done.2)
    done.3

-- ---- the start of a call

pub begins_may : (s s2 : State) (t i source : ℕ) → IsSound s → IsSound s2 → StandsAt s.tickets t i → (k : Kind)
    → BeginsBy k (with_place s) i source s2 → ForOwner t s (λ n c. MayGo n s s2)
begins_may s s2 t i source ok ok2 stands kind.Read b = started_may s s2 t i ok ok2 stands s.nodes [] [] b.buffer
    (with_data s (open_at s.calls i).length).book.spare_data refl b.state
begins_may s s2 t i source ok ok2 stands kind.Write b = started_may s s2 t i ok ok2 stands b.nodes b.front b.back []
    s.book.spare_data b.keeps.count b.state
begins_may s s2 t i source ok ok2 stands kind.Whole b = absurd b

pub begins_sees : (s s2 : State) (t i source : ℕ) → IsSound s → IsSound s2 → StandsAt s.tickets t i → (k : Kind)
    → BeginsBy k (with_place s) i source s2 → ForOwner t s (λ n c. Begun n t c s s2)
begins_sees s s2 t i source ok ok2 stands kind.Read b = started_sees s s2 t i ok ok2 stands s.nodes [] [] b.buffer
    (with_data s (open_at s.calls i).length).book.spare_data b.state
begins_sees s s2 t i source ok ok2 stands kind.Write b = started_sees s s2 t i ok ok2 stands b.nodes b.front b.back []
    s.book.spare_data b.state
begins_sees s s2 t i source ok ok2 stands kind.Whole b = absurd b

-- ---- how far the replicas are of a call does not show

pub parted : (t : Ticket) (c : OpenCall) (r : ℕ) (part : Part) → open_of (t, with_part_at c r part) ≡ open_of (t, c)
parted t c r part = ap (λ x. record { number = t.number; range = t.range; call = x; whole = whole_of c }) (same t.kind)
  where
    same : (k : Kind) → call_asked k (with_part_at c r part) ≡ call_asked k c
    same kind.Read = refl
    same kind.Write = refl
    same kind.Whole = refl

pub given : (t : Ticket) (c : OpenCall) (r : ℕ) (node : Node) → open_of (t, read_from c r node) ≡ open_of (t, c)
given t c r node = ap (λ x. record { number = t.number; range = t.range; call = x; whole = whole_of c }) (same t.kind)
  where
    same : (k : Kind) → call_asked k (read_from c r node) ≡ call_asked k c
    same kind.Read = refl
    same kind.Write = refl
    same kind.Whole = refl

-- ---- a step that was refused

pub refused_may : (t : ℕ) (s : State) → IsSound s → ForOwner t s (λ n c. MayGo n s s)
refused_may t s ok = λ n c o. may_same n s ok

pub still_may : (t : ℕ) (s s2 : State) → IsSound s → s2 ≡ s → ForOwner t s (λ n c. MayGo n s s2)
still_may t s s2 ok is = λ n c o. may_still n s s2 ok is

pub refused_stays : (t : ℕ) (s : State) → ForOwner t s (λ n c. Stays n s s)
refused_stays t s = λ n c o. stays_same n s
