-- What a stream knows of its read or write that asks to start.
use Rattle.std.proofs.Common.{◌≡◌, ⊎_elim, ℕ, Bool, [], subst, sym, ap, ◌∙◌, ◌+◌, true, ◌++◌, ◌<◌, false, List, ◌∷◌, set}
use Rattle.std.proofs.Common.{length, map, IfSome, refl, arith, ◌*◌, length-append}
use Rattle.std.proofs.lemmas.Bool.{cases_eq}
use Rattle.std.proofs.lemmas.List.{get_or-set_same, get_or_default}
use Rattle.vol_units.specs.declared.size.TheConstants.{BLOCK_BYTES}
use Rattle.vol_units.specs.Range.{blocks_around}
use Rattle.range_turns.specs.declared.ticket.Kind.{Kind}
use Rattle.range_turns.specs.declared.ticket.Ticket.{Ticket}
use Rattle.range_turns.specs.Order.{ticket_at, no_ticket, StandsAt}
use Rattle.range_turns.specs.declared.ticket.Kind.TheVariants as kind
use Rattle.volume_model.specs.declared.call.Call.{Call}
use Rattle.volume_model.specs.declared.mode.Mode.TheVariants.{Err, Rw}
use Rattle.volume_model.specs.History.{Spot}
use Rattle.volume_model.specs.Modes.{mode_of, HasSource, HasNoSource, IsSource}
use Rattle.volume_model.specs.declared.call.Refusal.TheVariants.{NoReplica}
use Rattle.volume_model.specs.declared.mode.Mode.{Mode}
use Rattle.volume_model.specs.declared.call.Reply.TheVariants as reply
use Rattle.replica_node.specs.Node.{Node}
use Rattle.open_calls.specs.Calls.{open_at, call_asked, no_call, begun}
use Rattle.step_answers.specs.Parts.{part_at, IsTaken, part_for}
use Rattle.open_calls.specs.declared.open_call.OpenCall.{OpenCall}
use Rattle.step_answers.specs.declared.parts.Part.TheVariants.{Acked}
use Rattle.open_calls.proofs.PartLemmas.{up_in, rw_up, part_of, part_for_new}
use Rattle.open_calls.specs.Clients.{Fits}
use Rattle.open_calls.specs.Due.{forms}
use Rattle.volume_core.specs.State.{State, modes_in}
use Rattle.volume_core.specs.Streams.{MayGo, SeesAdmit}
use Rattle.volume_core.specs.Sound.{IsSound}
use Rattle.volume_core.specs.Steps.{with_place, with_rooms, with_data, started}
use Rattle.volume_core.specs.Places.{IsWaitingAt}
use Rattle.step_answers.specs.declared.answers.Admit.{Admit}
use Rattle.step_answers.specs.declared.answers.Job.{Job}
use Rattle.volume_core.specs.Answers.{IsAdmit, BeginsBy, IsJobOf}
use Rattle.volume_core.proofs.CallLemmas.{calls-none}
use Rattle.step_answers.specs.declared.answers.Admit.TheVariants as admit
use Rattle.stream_steps.specs.Mine.{OwnCall, IsOwn}
use Rattle.stream_steps.specs.Steps.{IsOnBlocks, IsUncarried, AdmitsTo, IsNotAfter, StartsCall, IsStarted, IsJobFor}
use Rattle.stream_steps.specs.Seen.{AsksAll, WaitsAs}
use Rattle.world_holder.proofs.Grow.{only_open}
use Rattle.world_holder.specs.View.{own_call, view, IsAlone}
use Rattle.world_steps.specs.Seen.{seen_of}
use Rattle.world_steps.proofs.Own.{IsAt, own_stands, runs_put}
use Rattle.world_steps.proofs.FrameRows.{same_asked, uncarried, end_row}
use Rattle.world_steps.proofs.Backed.{refused_backed}

first_source : (modes : List Mode) (r : ℕ) → IsSource modes r → HasSource modes
first_source modes r first =
    let inside : r < length modes = up_in modes r (rw_up (mode_of modes r) first.read) in
    (r, inside, get_or_default modes r Rw Err inside ∙ first.read)

module _ (a : Bool) (n t : ℕ) (o : OwnCall) (job : Job) (s : State) (i : ℕ) (ok : IsSound s) (own : IsOwn t o (view a n s))
    (blocks : IsOnBlocks o.call) (waits : IsWaitingAt s t i) (source : HasSource (modes_in s)) where
  here : IsAt n o s i
  here = own_stands a n t o s ok own blocks i waits.stands

  inside : i < length s.calls
  inside = omega (arith, waits.stands.within, ok.on.clients.paired)

  abbrev new : Ticket
  new = record (ticket_at s.tickets i) { started = true }

  not_acked : (r : ℕ) → part_at (map part_for (modes_in s)) r ≡ Acked → ⊥
  not_acked r e = part_for_new (mode_of (modes_in s) r) (subst IsTaken (sym (sym (part_of (modes_in s) r) ∙ e)) tt)

  source_known : (b : Bool) → IfSome (view b n s).log (λ log. HasSource log.spot.modes)
  source_known true = source
  source_known false = tt

  module _ (nodes : List Node) (front back buffer : List ℕ) where
    -- with so much room for data
    abbrev goes : ℕ → State
    goes room = started (with_rooms s (s.book.spare + 1) room) i nodes front back buffer

    abbrev its_call : OpenCall
    its_call = begun (open_at s.calls i) (modes_in s) front back buffer

    there : open_at (set s.calls i its_call) i ≡ its_call
    there = get_or-set_same s.calls i its_call no_call inside

    starts_with : (room : ℕ) → MayGo n s (goes room) → IsJobOf (goes room) i job → IsStarted o.call (own_call (new, its_call))
        → IsJobFor o.call job (own_call (new, its_call)) → StartsCall o job (view a n s) (view a n (goes room))
    starts_with room may tells of j =
        let whole = (front ++ (open_at s.calls i).bytes) ++ back in
        let parts = map part_for (modes_in s) in
        record {
          own = own_call (new, its_call);
          is = only_open n s (goes room) may a (own_call (new, its_call) ∷ []) refl
              (runs_put a n t o s ok own blocks i waits.stands s.whole new its_call refl refl);
          same = ap (λ (c : Call). record (own_call (ticket_at s.tickets i, open_at s.calls i))
              { started = true; call = c; whole = whole; buffer = buffer; parts = parts })
              (same_asked (ticket_at s.tickets i).kind (open_at s.calls i) its_call refl refl refl refl)
              ∙ ap (λ (x : OwnCall). record x { started = true; whole = whole; buffer = buffer; parts = parts }) here.is;
          of = of;
          job = j;
          range = tells.range ∙ ap (λ (x : Ticket). x.range) (get_or-set_same s.tickets i new no_ticket waits.stands.within);
          asks = tells.parts ∙ ap (λ (x : OpenCall). x.parts) there;
          none = not_acked;
          source = source_known a;
        }

  module _ (s2 : State) (of_job : IsJobOf s2 i job) (may : MayGo n s s2) where
    starts_by : (k : Kind) (first : ℕ) → (ticket_at s.tickets i).kind ≡ k → call_asked k (open_at s.calls i) ≡ o.call
        → BeginsBy k (with_place s) i first s2 → StartsCall o job (view a n s) (view a n s2)
    starts_by kind.Read first is asked b =
        subst (λ (z : State). MayGo n s z → IsJobOf z i job → StartsCall o job (view a n s) (view a n z)) (sym b.state)
        (λ go tells. starts_with s.nodes [] [] b.buffer (with_data s (open_at s.calls i).length).book.spare_data go tells
        (subst (λ c. IsStarted c (own_call (new, its_call s.nodes [] [] b.buffer))) asked b.count)
        (subst (λ c. IsJobFor c job (own_call (new, its_call s.nodes [] [] b.buffer))) asked tt)) may of_job
    starts_by kind.Write first is asked b =
        subst (λ (z : State). MayGo n s z → IsJobOf z i job → StartsCall o job (view a n s) (view a n z)) (sym b.state)
        (λ go tells. starts_with b.nodes b.front b.back [] s.book.spare_data go tells
        (subst (λ c. IsStarted c (own_call (new, its_call b.nodes b.front b.back []))) asked (record {
          front = b.front;
          back = b.back;
          is = refl;
          first = λ l. b.edges.first (omega (arith, l));
          count = sum b.front (open_at s.calls i).bytes b.back (new.range.first * BLOCK_BYTES) (new.range.end * BLOCK_BYTES) b.edges.whole;
          around = fits.lies.around ∙ ap (λ x. blocks_around (open_at s.calls i).at x) (sym (fits.count is));
        }))
        (subst (λ c. IsJobFor c job (own_call (new, its_call b.nodes b.front b.back []))) asked
        (λ q. (front_is tells q ++ (open_at s.calls i).bytes) ++ back_is tells q))) may of_job
      where
        fits : Fits s.size (length s.indices) (length (forms s.whole s.nodes)) (ticket_at s.tickets i) (open_at s.calls i)
        fits = ok.on.clients.fits i waits.stands.within

        sum : (f m k : List ℕ) (from until : ℕ) → from + (length f + length m + length k) ≡ until
            → from + length ((f ++ m) ++ k) ≡ until
        sum f m k from until e = ap (λ x. from + x) (length-append (f ++ m) k ∙ ap (λ x. x + length k) (length-append f m)) ∙ e

        front_is : IsJobOf (goes b.nodes b.front b.back [] s.book.spare_data) i job → b.front ≡ job.front
        front_is tells = sym (tells.front ∙ ap (λ (x : OpenCall). x.front) (there b.nodes b.front b.back []))

        back_is : IsJobOf (goes b.nodes b.front b.back [] s.book.spare_data) i job → b.back ≡ job.back
        back_is tells = sym (tells.back ∙ ap (λ (x : OpenCall). x.back) (there b.nodes b.front b.back []))
    starts_by kind.Whole first is asked b = absurd b

-- ---- its rows

pub admit_rows : (a : Bool) (n t : ℕ) (o : OwnCall) (ad : Admit) (s s2 : State) → IsSound s → IsOwn t o (view a n s)
    → IsOnBlocks o.call → MayGo n s s2 → IsAdmit s t ad s2 → SeesAdmit n t o.call ad s s2
    → AdmitsTo o ad (view a n s) (view a n s2)
admit_rows a n t o (admit.Go job) s s2 ok own blocks may is sees =
    starts_by a n t o job s is.0 ok own blocks is.1 (first_source (modes_in s) is.3.source is.3.first) s2 is.4 may
    (ticket_at s.tickets is.0).kind is.3.source refl (own_stands a n t o s ok own blocks is.0 is.1.stands).at.asked is.3.begins
admit_rows a n t o (admit.After k) s s2 ok own blocks may is sees = ap (view a n) is.3
admit_rows a n t o (admit.NoReplica place) s s2 ok own blocks may is sees =
    let refused = reply.Refused NoReplica in
    let done = end_row a n t o s ok own blocks is.0 is.1.stands s2 (s.book.spare + 1) s.book.spare_data refused may sees is.5
    (refused_backed (length s.nodes) (modes_in s) o refused refl) in
    record {
      ends = done.0;
      lost = subst (λ (x : Spot). HasNoSource x.modes) (sym done.2) is.3;
      uncarried = subst (IsUncarried o.call) (sym done.1) (uncarried o.call NoReplica);
    }

-- ---- what it asks and waits for

-- the parts of a call that starts, and the modes, which stay as they are
begun_in : (s s2 : State) (i : ℕ) (nodes : List Node) (front back buffer : List ℕ) (room : ℕ) → i < length s.calls
    → s2 ≡ started (with_rooms s (s.book.spare + 1) room) i nodes front back buffer
    → ((open_at s2.calls i).parts ≡ map part_for (modes_in s)) × (modes_in s2 ≡ modes_in s)
begun_in s s2 i nodes front back buffer room below e = (
  ap (λ (x : State). (open_at x.calls i).parts) e ∙ ap (λ (c : OpenCall). c.parts)
      (get_or-set_same s.calls i (begun (open_at s.calls i) (modes_in s) front back buffer) no_call below),
  ap modes_in e,
)

begun_parts : (k : Kind) (s s2 : State) (i first : ℕ) → i < length s.calls → BeginsBy k (with_place s) i first s2
    → ((open_at s2.calls i).parts ≡ map part_for (modes_in s)) × (modes_in s2 ≡ modes_in s)
begun_parts kind.Read s s2 i first below b = begun_in s s2 i s.nodes [] [] b.buffer
    (with_data s (open_at s.calls i).length).book.spare_data below b.state
begun_parts kind.Write s s2 i first below b = begun_in s s2 i b.nodes b.front b.back [] s.book.spare_data below b.state
begun_parts kind.Whole s s2 i first below b = absurd b

pub asks_all : (t : ℕ) (ad : Admit) (s s2 : State) → IsSound s → IsAdmit s t ad s2 → AsksAll ad (modes_in s2)
asks_all t (admit.Go job) s s2 ok is =
    let below : is.0 < length s.calls = omega (arith, is.1.stands.within, ok.on.clients.paired) in
    let parts = begun_parts (ticket_at s.tickets is.0).kind s s2 is.0 is.3.source below is.3.begins in
    λ r. ap (λ ps. part_at ps r) (is.4.parts ∙ parts.0) ∙ part_of (modes_in s) r
    ∙ ap (λ modes. part_for (mode_of modes r)) (sym parts.1)
asks_all t (admit.After k) s s2 ok is = tt
asks_all t (admit.NoReplica place) s s2 ok is = tt

pub waits_as : (t : ℕ) (ad : Admit) (s s2 : State) → IsAdmit s t ad s2 → WaitsAs t ad (seen_of s2)
waits_as t (admit.Go job) s s2 is = tt
waits_as t (admit.After k) s s2 is =
    subst (λ (z : State). WaitsAs t (admit.After k) (seen_of z)) (sym is.3) (is.0, is.2.0, is.1.stands, is.2.1, is.2.2)
waits_as t (admit.NoReplica place) s s2 is = tt

-- ---- alone, it is never told to wait

-- no ticket stands before that of the open call, where no other stream has one open
none_before : (a : Bool) (n t : ℕ) (o : OwnCall) (s : State) (i j : ℕ) → IsSound s → IsAlone n s → IsOwn t o (view a n s)
    → IsOnBlocks o.call → StandsAt s.tickets t i → j < i → ⊥
none_before a n t o s i j ok alone own blocks stands before =
    let at = own_stands a n t o s ok own blocks i stands in
    let pair = ok.on.clients.paired in
    let inside : j < length s.calls = omega (arith, before, stands.within, pair) in
    let there : i < length s.calls = omega (arith, stands.within, pair) in
    let stream = (open_at s.calls j).stream in
    ⊎_elim
    (λ is. ok.on.clients.seen.alone j i before there (is ∙ sym at.at.stream))
    (λ other. calls-none stream s.tickets s.calls j (alone.calls stream other) (omega (arith, before, stands.within)) inside refl)
    (cases_eq stream n)

pub never_after : (a : Bool) (n t : ℕ) (o : OwnCall) (ad : Admit) (s s2 : State) → IsSound s → (a ≡ true → IsAlone n s)
    → IsOwn t o (view a n s) → IsOnBlocks o.call → IsAdmit s t ad s2 → IfSome (view a n s).log (λ log. IsNotAfter ad)
never_after false n t o ad s s2 ok alone own blocks is = tt
never_after true n t o (admit.Go job) s s2 ok alone own blocks is = tt
never_after true n t o (admit.After k) s s2 ok alone own blocks is =
    none_before true n t o s is.0 is.2.0 ok (alone refl) own blocks is.1.stands is.2.1.earlier
never_after true n t o (admit.NoReplica place) s s2 ok alone own blocks is = tt
