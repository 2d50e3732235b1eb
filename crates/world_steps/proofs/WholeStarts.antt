-- An operation on the whole volume starts, is refused, or is taken back, as the worker of its stream sees it.
use Rattle.std.proofs.Common.{◌≡◌, ◌≢◌, ℕ, ◌+◌, ◌<◌, ⊎_elim, Bool, true, List, [], ◌∷◌, ◌++◌, length, map, Option, Some, None, Result, Ok}
use Rattle.std.proofs.Common.{OnErr, IfOk, IfSome, subst, sym, refl, ap, ◌∙◌, arith, append-nil}
use Rattle.std.proofs.Common.{Err as Failed}
use Rattle.std.proofs.lemmas.Bool.{cases_eq, cases_order}
use Rattle.std.proofs.lemmas.List.{set-get_or}
use Rattle.sparse_image.specs.Image.{Tables}
use Rattle.vol_units.specs.Name.{sys_name}
use Rattle.range_turns.specs.declared.ticket.Ticket.{Ticket}
use Rattle.range_turns.specs.Order.{ticket_at, with_started, StandsAt}
use Rattle.volume_model.specs.declared.call.Call.TheVariants as call
use Rattle.volume_model.specs.declared.call.Reply.TheVariants as reply
use Rattle.volume_model.specs.declared.entry.Entry.TheVariants as entry
use Rattle.volume_model.specs.declared.mark.Mark.TheVariants as mark
use Rattle.volume_model.specs.declared.mode.Mode.{Mode}
use Rattle.volume_model.specs.declared.mode.Mode.TheVariants.{Rw, Wo, Err}
use Rattle.volume_model.specs.Modes.{mode_of, source_of, IsSource}
use Rattle.volume_model.specs.OneWorker.{refused_at}
use Rattle.volume_model.specs.PlainState.{Volume}
use Rattle.volume_model.proofs.SpotLemmas.{no_source, source_is}
use Rattle.open_calls.specs.declared.open_call.OpenCall.{OpenCall}
use Rattle.step_answers.specs.declared.parts.Part.{Part}
use Rattle.step_answers.specs.declared.parts.Part.TheVariants.{Acked}
use Rattle.step_answers.specs.declared.whole_op.WholeOp.{WholeOp}
use Rattle.step_answers.specs.declared.whole_op.WholeOp.TheVariants as whole
use Rattle.step_answers.specs.Parts.{part_for}
use Rattle.step_answers.specs.Asked.{command_of}
use Rattle.open_calls.specs.Calls.{open_at, no_call}
use Rattle.open_calls.proofs.PartLemmas.{part_of}
use Rattle.open_calls.specs.declared.whole.Whole.{Whole}
use Rattle.open_rebuild.specs.declared.rebuilding.Rebuilding.{Rebuilding}
use Rattle.volume_core.specs.State.{State, told_of, modes_in}
use Rattle.volume_core.specs.Steps.{with_place, without_call}
use Rattle.volume_core.specs.Sound.{IsSound}
use Rattle.volume_core.specs.Streams.{calls_in, running, turning, MayGo}
use Rattle.volume_core.proofs.CallLemmas.{calls-set_own, calls-none}
use Rattle.step_answers.specs.declared.answers.AdmitWhole.{AdmitWhole}
use Rattle.step_answers.specs.declared.answers.AdmitWhole.TheVariants as admit
use Rattle.volume_maint.specs.Steps.{begun_of, whole_begun, barrier_name, barrier_modes, barrier_of, barrier_begun, with_places}
use Rattle.volume_maint.specs.Steps.{whole_ended, without_whole}
use Rattle.volume_maint.specs.Answers as world
use Rattle.volume_core.specs.State.{spot_of}
use Rattle.volume_maint.specs.Places as place
use Rattle.volume_maint.proofs.Begins.{its_volume}
use Rattle.world_holder.specs.Laid.{parts_of}
use Rattle.world_holder.proofs.Leaves.{parts_stay}
use Rattle.stream_steps.specs.declared.add.Added.{Added}
use Rattle.stream_steps.specs.Add.{BeginsBy}
use Rattle.stream_steps.specs.Mine.{OwnCall, Log, with_running}
use Rattle.stream_steps.specs.Maint.{HasWhole, StartsWhole, StartsAs, AdmitsWhole, IsNotLater}
use Rattle.world_holder.specs.View.{own_turn, runs, log_of, view, IsAlone}
use Rattle.world_holder.proofs.Grow.{only_open, grown_by}
use Rattle.world_steps.proofs.Logged.{if_known, if_alone}
use Rattle.world_steps.proofs.Places.{IsOf}
use Rattle.world_steps.proofs.Shapes.{HasCall, has_call}
use Rattle.world_steps.proofs.Turns.{runs_as}
use Rattle.world_steps.proofs.Wholes.{none_of, one_of, number_here, stream_at, same_op, own_as, none_kept, parts_else, calls_left, HasSome}
use Rattle.world_steps.proofs.WholeEnds.{ended_mine, over_same}

-- the first replica that is read
source_one : (ms : List Mode) (q : ℕ) → IsSource ms q → source_of ms ≡ Some q
source_one ms q is = by (source_of ms) refl
  where
    by : (v : Option ℕ) → source_of ms ≡ v → source_of ms ≡ Some q
    by None e = absurd (no_source ms e q is.read)
    by (Some k) e =
        let other = source_is ms k e in
        ⊎_elim (λ same. e ∙ ap Some same)
        (λ rest. ⊎_elim (λ below. absurd (is.first k below other.read)) (λ above. absurd (other.first q above is.read)) rest)
        (cases_order k q)

-- no call is earlier than the one call of a stream that is alone
none_earlier : (n : ℕ) (s : State) → IsSound s → IsAlone n s → (i j : ℕ) → i < length s.tickets → (open_at s.calls i).stream ≡ n → j < i → ⊥
none_earlier n s ok alone i j within own earlier =
    let there : j < length s.tickets = omega (arith, within, earlier) in
    ⊎_elim
    (λ is. ok.on.clients.seen.alone j i earlier (omega (arith, within, ok.on.clients.paired)) (is ∙ sym own))
    (λ other. calls-none (open_at s.calls j).stream s.tickets s.calls j (alone.calls (open_at s.calls j).stream other) there
    (omega (arith, there, ok.on.clients.paired)) refl)
    (cases_eq (open_at s.calls j).stream n)

module _ (a : Bool) where
  module _ (n : ℕ) (s : State) (t : ℕ) (op : WholeOp) (turn : List OwnCall) (o : OwnCall) (x : HasCall a n s t op turn o)
      (s2 : State) (may : MayGo n s s2) where
    abbrev its_started : Ticket × OpenCall
    its_started = (record x.q.0 { started = true }, x.q.1)

    calls_begun : IsSound s → (i : ℕ) → StandsAt s.tickets t i → calls_in n (with_started s.tickets i) s.calls ≡ its_started ∷ []
    calls_begun ok i at =
        let within : i < length s.calls = omega (arith, at.within, ok.on.clients.paired) in
        ap (calls_in n (with_started s.tickets i)) (sym (set-get_or s.calls i no_call))
        ∙ calls-set_own n s.tickets s.calls i (record (ticket_at s.tickets i) { started = true }) (open_at s.calls i) x.q
        x.calls at.within within (stream_at a n s t op turn o x i at) (stream_at a n s t op turn o x i at)
        ∙ ap (λ k. (record (ticket_at s.tickets k) { started = true }, open_at s.calls k) ∷ []) (number_here a n s t op turn o x i at)
        ∙ (λ k. (record (x.at.ticket k) { started = true }, x.at.call k) ∷ [])

    begun_runs : IsSound s → (i : ℕ) → StandsAt s.tickets t i → (w : Whole) → w.number ≡ t → turning s2 n ≡ turning s n
        → running s2 n ≡ calls_in n (with_started s.tickets i) s.calls → s2.whole ≡ Some w
        → runs n s2 ≡ turn ++ record o { started = true; parts = w.parts } ∷ []
    begun_runs ok i at w number turns calls is =
        runs_as n s2 x.ms (its_started ∷ []) (Some w) (turns ∙ x.turns) (calls ∙ calls_begun ok i at) is
        ∙ (λ k. x.before k ++ own_as a n s t op turn o x w true number k ∷ [])

    not_acked : (m : Mode) → part_for m ≢ Acked
    not_acked Rw e = absurd cc
    not_acked Wo e = absurd cc
    not_acked Err e = absurd cc

    -- nothing stands against its call
    abbrev IsUnopposed : Type 0
    IsUnopposed = refused_at (spot_of s) o.call ≡ None

    unopposed_here : IsUnopposed → IfSome (log_of a s) (λ log. refused_at log.spot o.call ≡ None)
    unopposed_here free = if_known a s (λ (log : Log). refused_at log.spot o.call ≡ None) free

    begun_mine : IsSound s → IsUnopposed → (i : ℕ) (p : WholeOp) (spares : List (Option Tables)) → StandsAt s.tickets t i
        → s2 ≡ whole_begun s i p spares → StartsWhole turn o (view a n s) (view a n s2)
    begun_mine ok free i p spares at e = record {
      own = record o { started = true; parts = map part_for (modes_in s) };
      is = only_open n s s2 may a (turn ++ record o { started = true; parts = map part_for (modes_in s) } ∷ [])
          (ap (λ (z : State). z.book.entries) e)
          (begun_runs ok i at (begun_of s i p spares) at.is (ap (λ (z : State). turning z n) e)
          (ap (λ (z : State). running z n) e) (ap (λ (z : State). z.whole) e));
      same = refl;
      none = λ k acked. not_acked (mode_of (modes_in s) k) (sym (part_of (modes_in s) k) ∙ acked);
      free = unopposed_here free;
    }

    -- the barrier starts of the rebuild that began so
    abbrev added_by : Rebuilding → Added
    added_by b = record { source = b.source; name = barrier_name s b.source }

    barrier_mine : IsSound s → IsUnopposed → (i : ℕ) (b : Rebuilding) (spares : List (Option Tables)) → StandsAt s.tickets t i
        → source_of (modes_in s) ≡ Some b.source → barrier_name s b.source ≡ sys_name (told_of s).volume.snapshots.number
        → s2 ≡ barrier_begun s i b spares → BeginsBy (added_by b) b.target turn o (view a n s) (view a n s2)
    barrier_mine ok free i b spares at from under e =
        let parts : List Part = map part_for (barrier_modes s b.target) in
        record {
          starts = record {
            own = record o { started = true; parts = parts };
            source = b.source;
            name = barrier_name s b.source;
            is = grown_by n s s2 may a [] (turn ++ record o { started = true; parts = parts } ∷ [])
                (entry.Mark (mark.Added b.target b.source (barrier_name s b.source)) ∷ [])
                (ap (λ (z : State). z.book.entries) e) refl
                (begun_runs ok i at (barrier_of (with_places s) i b spares) at.is (ap (λ (z : State). turning z n) e)
                (ap (λ (z : State). running z n) e) (ap (λ (z : State). z.whole) e));
            same = refl;
            none = λ k acked. not_acked (mode_of (barrier_modes s b.target) k) (sym (part_of (barrier_modes s b.target) k) ∙ acked);
            free = unopposed_here free;
            from = if_known a s (λ (log : Log). source_of log.spot.modes ≡ Some b.source) from;
            under = if_known a s (λ (log : Log). barrier_name s b.source ≡ sys_name log.spot.state.volume.snapshots.number) under;
          };
          source = refl;
          name = refl;
        }

    pub barrier_starts : IsSound s → IsUnopposed → (i k : ℕ) → world.IsWaiting s t i (whole.Barrier k) → (y : world.BeginsBarrier s i k s2)
        → BeginsBy (added_by y.b) k turn o (view a n s) (view a n s2)
    barrier_starts ok free i k w y =
        let named : barrier_name s y.b.source ≡ sys_name (told_of s).volume.snapshots.number =
        ap (λ (v : Volume). sys_name v.snapshots.number)
        (its_volume s i ok w.awaits.stands.within w.awaits.kind w.awaits.waits w.clear y.b.source y.source.read) in
        subst (λ r. BeginsBy (added_by y.b) r turn o (view a n s) (view a n s2)) y.target
        (barrier_mine ok free i y.b y.spares w.awaits.stands (source_one (modes_in s) y.b.source y.source) named y.state)

    starts_as : IsSound s → IsUnopposed → (i : ℕ) (p : WholeOp) → world.IsWaiting s t i p → world.BeginsWhole s i p s2
        → StartsAs p turn o (view a n s) (view a n s2)
    starts_as ok free i (whole.Snapshot name) w y = begun_mine ok free i (whole.Snapshot name) y.0 w.awaits.stands y.2
    starts_as ok free i (whole.Remove name) w y = begun_mine ok free i (whole.Remove name) y.0 w.awaits.stands y.2
    starts_as ok free i (whole.Revert name) w y = begun_mine ok free i (whole.Revert name) y.0 w.awaits.stands y.2
    starts_as ok free i (whole.Purge f) w y = begun_mine ok free i (whole.Purge f) y.0 w.awaits.stands y.2
    starts_as ok free i (whole.Barrier k) w y = (barrier_starts ok free i k w y).starts

    starts_parts : (i : ℕ) (p : WholeOp) → StandsAt s.tickets t i → world.BeginsWhole s i p s2 → IsOf t s2.whole
    starts_parts i (whole.Snapshot name) at y =
        one_of a t s2.whole (begun_of s i (whole.Snapshot name) y.0) (ap (λ (z : State). z.whole) y.2) at.is
    starts_parts i (whole.Remove name) at y =
        one_of a t s2.whole (begun_of s i (whole.Remove name) y.0) (ap (λ (z : State). z.whole) y.2) at.is
    starts_parts i (whole.Revert name) at y =
        one_of a t s2.whole (begun_of s i (whole.Revert name) y.0) (ap (λ (z : State). z.whole) y.2) at.is
    starts_parts i (whole.Purge f) at y = one_of a t s2.whole (begun_of s i (whole.Purge f) y.0) (ap (λ (z : State). z.whole) y.2) at.is
    starts_parts i (whole.Barrier k) at y = one_of a t s2.whole (barrier_of (with_places s) i y.b y.spares)
        (ap (λ (z : State). z.whole) y.state) at.is

    -- ---- it is taken back

    left_mine : IsSound s → (i : ℕ) → StandsAt s.tickets t i → s2 ≡ without_call s i → view a n s2 ≡ with_running (view a n s) turn
    left_mine ok i at e = only_open n s s2 may a turn (ap (λ (z : State). z.book.entries) e)
        (runs_as n s2 x.ms [] s2.whole (ap (λ (z : State). turning z n) e ∙ x.turns)
        (ap (λ (z : State). running z n) e ∙ calls_left a n s t op turn o x i at ok) refl
        ∙ append-nil (map own_turn x.ms) ∙ x.before)

  -- ---- by what each step answers

  module _ (n t : ℕ) (s : State) (ok : IsSound s) (s2 : State) (may : MayGo n s s2) where
    -- asked to start
    admit_one : (ans : AdmitWhole) → world.AdmitsWhole s t ans s2 → (op : WholeOp) (turn : List OwnCall) (o : OwnCall)
        → HasWhole t op turn o (view a n s) → AdmitsWhole op turn o ans (view a n s) (view a n s2)
    admit_one admit.Go y op turn o w =
        let x = has_call a n s t op turn o ok w in
        let same = same_op a n s t op turn o x y.0 y.1 y.2.awaits.stands y.2.asks in
        let free = subst (λ c. refused_at (spot_of s) c ≡ None) (ap (λ p. call.Command (command_of p)) same ∙ sym w.call) y.4 in
        subst (λ p. StartsAs p turn o (view a n s) (view a n s2)) same (starts_as n s t op turn o x s2 may ok free y.0 y.1 y.2 y.5)
    admit_one (admit.After number) y op turn o w = ap (view a n) y.3
    admit_one admit.Never y op turn o w = ap (view a n) y.4
    admit_one (admit.Refused why at) y op turn o w =
        let x = has_call a n s t op turn o ok w in
        let same = same_op a n s t op turn o x y.0 y.1 y.2.awaits.stands y.2.asks in (
          ended_mine a n s t op turn o x s2 may ok y.0 y.2.awaits.stands (s.book.spare + 1) (reply.Refused why)
              (subst (λ p. s2 ≡ whole_ended (with_place s) y.0 p (reply.Refused why)) same y.6) w.call,
          if_known a s (λ (log : Log). refused_at log.spot o.call ≡ Some why)
              (subst (λ c. refused_at (spot_of s) c ≡ Some why) (ap (λ p. call.Command (command_of p)) same ∙ sym w.call) y.4),
        )

    pub admit_mine : {E : Type 0} (res : Result AdmitWhole E) → IfOk res (λ ans. world.AdmitsWhole s t ans s2)
        → IfOk res (λ ans. (op : WholeOp) (turn : List OwnCall) (o : OwnCall) → HasWhole t op turn o (view a n s)
        → AdmitsWhole op turn o ans (view a n s) (view a n s2))
    admit_mine (Ok ans) y = admit_one ans y
    admit_mine (Failed e) y = tt

    -- one that is alone is never told to wait
    admit_not : IsAlone n s → (ans : AdmitWhole) → world.AdmitsWhole s t ans s2 → HasSome t (view a n s) → IsNotLater ans
    admit_not alone admit.Go y w = tt
    admit_not alone (admit.After number) y w =
        let own = stream_at a n s t w.0 w.1 w.2 (has_call a n s t w.0 w.1 w.2 ok w.3) y.0 y.1.stands in
        none_earlier n s ok alone y.0 y.2.0 y.1.stands.within own y.2.1.earlier
    admit_not alone admit.Never y w = tt
    admit_not alone (admit.Refused why at) y w = tt

    pub admit_free : {E : Type 0} (res : Result AdmitWhole E) → IfOk res (λ ans. world.AdmitsWhole s t ans s2)
        → HasSome t (view a n s) → (a ≡ true → IsAlone n s) → IfOk res (λ ans. IfSome (log_of a s) (λ log. IsNotLater ans))
    admit_free (Ok ans) y w alone = if_alone a s (IsNotLater ans) (λ is. admit_not (alone is) ans y w)
    admit_free (Failed e) y w alone = tt

    admit_else : (ans : AdmitWhole) → world.AdmitsWhole s t ans s2 → HasSome t (view a n s) → (m : ℕ) → m ≢ n
        → parts_of s2 m ≡ parts_of s m
    admit_else admit.Go y w =
        let x = has_call a n s t w.0 w.1 w.2 ok w.3 in
        let none = none_kept a n s t w.0 w.1 w.2 x ok y.0 y.1 y.2 in
        parts_else a n s t w.0 w.1 w.2 x s2 may (none_of a t s.whole none)
        (starts_parts n s t w.0 w.1 w.2 x s2 may y.0 y.1 y.2.awaits.stands y.5)
    admit_else (admit.After number) y w = parts_stay n s s2 may (ap (λ (z : State). z.whole) y.3)
    admit_else admit.Never y w = parts_stay n s s2 may (ap (λ (z : State). z.whole) y.4)
    admit_else (admit.Refused why at) y w =
        let x = has_call a n s t w.0 w.1 w.2 ok w.3 in
        let none = none_kept a n s t w.0 w.1 w.2 x ok y.0 y.1 y.2 in
        parts_stay n s s2 may (ap (λ (z : State). z.whole) y.6 ∙ (over_same y.1 (without_whole (with_place s) y.0)).whole ∙ sym none)

    pub admit_parts : {E : Type 0} (res : Result AdmitWhole E) → IfOk res (λ ans. world.AdmitsWhole s t ans s2)
        → OnErr res (s2 ≡ s) → HasSome t (view a n s) → (m : ℕ) → m ≢ n → parts_of s2 m ≡ parts_of s m
    admit_parts (Ok ans) y err w = admit_else ans y w
    admit_parts (Failed e) y err w = parts_stay n s s2 may (ap (λ (z : State). z.whole) err)

    -- taken back
    pub withdraws : (i : ℕ) × place.AwaitsWhole s t i × (s2 ≡ without_call s i)
        → (op : WholeOp) (turn : List OwnCall) (o : OwnCall) → HasWhole t op turn o (view a n s)
        → view a n s2 ≡ with_running (view a n s) turn
    withdraws y op turn o w = left_mine n s t op turn o (has_call a n s t op turn o ok w) s2 may ok y.0 y.1.stands y.2

    pub withdraws_parts : (i : ℕ) × place.AwaitsWhole s t i × (s2 ≡ without_call s i) → (m : ℕ) → m ≢ n
        → parts_of s2 m ≡ parts_of s m
    withdraws_parts y = parts_stay n s s2 may (ap (λ (z : State). z.whole) y.2)
