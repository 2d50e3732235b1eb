-- An operation on the whole volume is put behind all calls, as the worker of its stream sees it.
use Rattle.std.proofs.Common.{◌≡◌, ◌≢◌, ℕ, ◌<◌, Bool, false, List, [], ◌∷◌, ◌++◌, length, map, Option, Some, None, Result, Ok}
use Rattle.std.proofs.Common.{OnErr, IfOk, IfSome, subst, sym, refl, ap, ◌∙◌, arith}
use Rattle.std.proofs.Common.{Err as Failed}
use Rattle.vol_units.specs.Name.{begins_sys}
use Rattle.volume_model.specs.declared.command.Command.{Command}
use Rattle.range_turns.specs.declared.ticket.Ticket.{Ticket}
use Rattle.volume_model.specs.declared.call.Call.TheVariants as call
use Rattle.open_calls.specs.declared.open_call.OpenCall.{OpenCall}
use Rattle.step_answers.specs.declared.whole_op.WholeOp.{WholeOp}
use Rattle.step_answers.specs.declared.whole_op.WholeOp.TheVariants as whole
use Rattle.step_answers.specs.Asked.{command_of}
use Rattle.open_calls.specs.Calls.{open_at, whole_call}
use Rattle.open_calls.specs.declared.maint.MaintCall.{MaintCall}
use Rattle.open_calls.specs.Maint.{command_at, HasTurn as core_turn}
use Rattle.volume_core.specs.State.{State}
use Rattle.volume_core.specs.Sound.{IsSound}
use Rattle.volume_core.specs.Streams.{running, turning, MayGo}
use Rattle.volume_core.proofs.CallLemmas.{calls-push_own, idle-calls}
use Rattle.volume_maint.specs.Steps.{whole_ticket, whole_enrolled}
use Rattle.volume_maint.specs.Answers as world
use Rattle.volume_maint.specs.Answers.{seen_by, MayAsk}
use Rattle.world_holder.specs.Laid.{parts_of}
use Rattle.world_holder.proofs.Found.{has_no_command}
use Rattle.world_holder.proofs.Leaves.{parts_stay}
use Rattle.stream_steps.specs.Mine.{OwnCall, with_running}
use Rattle.stream_steps.specs.Steps.{EnrolsAt}
use Rattle.stream_steps.specs.Maint.{IsMaint, HasTurn, EnrolsWhole, EnrolsUnder}
use Rattle.world_holder.specs.View.{own_turn, own_at, runs, view}
use Rattle.world_holder.proofs.Grow.{only_open}
use Rattle.world_holder.proofs.Open.{HasNone, has_none}
use Rattle.world_steps.proofs.Logged.{if_seen}
use Rattle.world_steps.proofs.Turns.{runs_as, turn_one, turn_here, turn_stream, turn_command, free_turn}

abbrev pub IsSnapshot : WholeOp → Type 0
IsSnapshot op = (name : List ℕ) × (op ≡ whole.Snapshot name) × (begins_sys name ≡ false)

module _ (a : Bool) where
  -- ---- enrolled

  module _ (n : ℕ) (s s2 : State) (ok : IsSound s) (may : MayGo n s s2) (ms : List (Ticket × MaintCall))
      (turns : turning s n ≡ ms) (calls : running s n ≡ []) (number saw : ℕ) (op : WholeOp)
      (e : s2 ≡ whole_enrolled s number n saw op) where
    abbrev new : Ticket × OpenCall
    new = (whole_ticket number, whole_call n saw op)

    enrolled_runs : runs n s2 ≡ map own_turn ms ++ own_at s2.whole new ∷ []
    enrolled_runs = runs_as n s2 ms (new ∷ []) s2.whole
        (ap (λ (z : State). turning z n) e ∙ turns)
        (ap (λ (z : State). running z n) e ∙ calls-push_own n s.tickets s.calls (whole_ticket number) (whole_call n saw op)
        ok.on.clients.paired refl calls)
        refl

    enrolled_mine : EnrolsWhole number op (map own_turn ms) (view a n s) (view a n s2)
    enrolled_mine = record {
      own = own_at s2.whole new;
      is = only_open n s s2 may a (map own_turn ms ++ own_at s2.whole new ∷ []) (ap (λ (z : State). z.book.entries) e)
          enrolled_runs;
      number = refl;
      call = refl;
      does = refl;
      waits = refl;
    }

    enrolled_at : ms ≡ [] → saw ≡ length s.book.entries → EnrolsAt number (call.Command (command_of op)) (view a n s) (view a n s2)
    enrolled_at none all = record {
      own = own_at s2.whole new;
      is = only_open n s s2 may a (own_at s2.whole new ∷ []) (ap (λ (z : State). z.book.entries) e)
          (enrolled_runs ∙ ap (λ l. map own_turn l ++ own_at s2.whole new ∷ []) none);
      number = refl;
      call = refl;
      waits = refl;
      saw = if_seen a n s saw all;
    }

  pub parts_enrolled : {E : Type 0} (n : ℕ) (op : WholeOp) (s s2 : State) (res : Result (Option ℕ) E) → MayGo n s s2
      → IfOk res (λ t. world.EnrolsWhole s n op t s2) → OnErr res (s2 ≡ s) → (m : ℕ) → m ≢ n → parts_of s2 m ≡ parts_of s m
  parts_enrolled n op s s2 (Ok t) may x err = by t x
    where
      by : (t : Option ℕ) → world.EnrolsWhole s n op t s2 → (m : ℕ) → m ≢ n → parts_of s2 m ≡ parts_of s m
      by (Some k) x = parts_stay n s s2 may (ap (λ (z : State). z.whole) x.1)
      by None x = parts_stay n s s2 may (ap (λ (z : State). z.whole) x.1)
  parts_enrolled n op s s2 (Failed e) may x err = parts_stay n s s2 may (ap (λ (z : State). z.whole) err)

  -- a snapshot
  pub snap_asks : (n : ℕ) (s : State) (op : WholeOp) → IsSound s → runs n s ≡ [] → IsSnapshot op → MayAsk s n op
  snap_asks n s op ok idle x = subst (MayAsk s n) (sym x.1) (x.2, has_no_command n s ok (has_none n s idle).turns)

  module _ (n : ℕ) (s s2 : State) (ok : IsSound s) (may : MayGo n s s2) (op : WholeOp) (idle : runs n s ≡ [])
      (snap : IsSnapshot op) where
    none : HasNone n s
    none = has_none n s idle

    pub snaps : {E : Type 0} (res : Result ℕ E) → IfOk res (λ k. world.EnrolsWhole s n op (Some k) s2)
        → IfOk res (λ k. EnrolsWhole k op [] (view a n s) (view a n s2))
    snaps (Ok k) x = enrolled_mine n s s2 ok may [] none.turns none.calls k (seen_by s op) op x.1
    snaps (Failed e) x = tt

    pub snaps_at : {E : Type 0} (res : Result ℕ E) → IfOk res (λ k. world.EnrolsWhole s n op (Some k) s2)
        → IfOk res (λ k. EnrolsAt k (call.Command (command_of op)) (view a n s) (view a n s2))
    snaps_at (Ok k) x = enrolled_at n s s2 ok may [] none.turns none.calls k (seen_by s op) op x.1 refl
        (ap (seen_by s) snap.1)
    snaps_at (Failed e) x = tt

  pub snap_parts : {E : Type 0} (n : ℕ) (op : WholeOp) (s s2 : State) (res : Result ℕ E) → MayGo n s s2
      → IfOk res (λ k. world.EnrolsWhole s n op (Some k) s2) → OnErr res (s2 ≡ s) → (m : ℕ) → m ≢ n
      → parts_of s2 m ≡ parts_of s m
  snap_parts n op s s2 (Ok k) may x err = parts_stay n s s2 may (ap (λ (z : State). z.whole) x.1)
  snap_parts n op s s2 (Failed e) may x err = parts_stay n s s2 may (ap (λ (z : State). z.whole) err)

  -- what the command does that has the turn
  ask_by : (n : ℕ) (s : State) (op : WholeOp) → IsMaint (command_of op) → core_turn s.maint s.commands n (command_of op) → MayAsk s n op
  ask_by n s (whole.Snapshot name) wants h = absurd wants
  ask_by n s (whole.Remove name) wants h = h
  ask_by n s (whole.Revert name) wants h = h
  ask_by n s (whole.Purge f) wants h = h
  ask_by n s (whole.Barrier r) wants h = h

  saw_by : (s : State) (op : WholeOp) (o : OwnCall) → IsMaint (command_of op) → (command_at s.commands 0).saw ≡ o.saw → seen_by s op ≡ o.saw
  saw_by s (whole.Snapshot name) o wants e = absurd wants
  saw_by s (whole.Remove name) o wants e = e
  saw_by s (whole.Revert name) o wants e = e
  saw_by s (whole.Purge f) o wants e = e
  saw_by s (whole.Barrier r) o wants e = e

  module _ (n t : ℕ) (s : State) (ok : IsSound s) (op : WholeOp) where
    pub turn_asks : ((o : OwnCall) × HasTurn t (command_of op) o (view a n s)) → MayAsk s n op
    turn_asks x =
        let c : Command = command_of op in
        let one = turn_one a n t s ok c x.0 x.1 in
        ask_by n s op x.1.wants (record {
          some = omega (arith, one.at.stands.within, ok.maint.queued.paired);
          started = (free_turn a n t s ok c x.0 x.1).started;
          own = turn_stream a n t s ok c x.0 x.1;
          command = turn_command a n t s ok c x.0 x.1;
        })

    pub turn_idle : ((o : OwnCall) × HasTurn t (command_of op) o (view a n s)) → (i : ℕ) → i < length s.calls
        → (open_at s.calls i).stream ≢ n
    turn_idle x = idle-calls n s.tickets s.calls ok.on.clients.paired (turn_one a n t s ok (command_of op) x.0 x.1).calls

    module _ (s2 : State) (may : MayGo n s s2) where
      under_one : (k : ℕ) (o : OwnCall) → s2 ≡ whole_enrolled s k n (seen_by s op) op
          → HasTurn t (command_of op) o (view a n s) → EnrolsUnder k op o (view a n s) (view a n s2)
      unfolding enrolled_mine
      under_one k o e h =
          let one = turn_one a n t s ok (command_of op) o h in
          let x = enrolled_mine n s s2 ok may (one.p ∷ []) one.turns one.calls k (seen_by s op) op e in
          record {
            whole = record {
              own = x.own;
              is = x.is ∙ ap (λ (l : OwnCall). with_running (view a n s) (l ∷ x.own ∷ []))
                  one.is;
              number = x.number;
              call = x.call;
              does = x.does;
              waits = x.waits;
            };
            saw = saw_by s op o h.wants (ap (λ (c : MaintCall). c.saw) (turn_here a n t s ok (command_of op) o h)
                ∙ ap (λ (y : OwnCall). y.saw) one.is);
          }

      under_some : (w : Option ℕ) → world.EnrolsWhole s n op w s2
          → IfSome w (λ k. (o : OwnCall) → HasTurn t (command_of op) o (view a n s)
          → EnrolsUnder k op o (view a n s) (view a n s2))
      under_some (Some k) x = λ o h. under_one k o x.1 h
      under_some None x = tt

      pub under_mine : {E : Type 0} (res : Result (Option ℕ) E) → IfOk res (λ w. world.EnrolsWhole s n op w s2)
          → IfOk res (λ w. IfSome w (λ k. (o : OwnCall) → HasTurn t (command_of op) o (view a n s)
          → EnrolsUnder k op o (view a n s) (view a n s2)))
      under_mine (Ok w) x = under_some w x
      under_mine (Failed e) x = tt

      none_then : (w : Option ℕ) → w ≡ None → world.EnrolsWhole s n op w s2 → view a n s2 ≡ view a n s
      none_then (Some k) e x = absurd cc
      none_then None e x = ap (view a n) x.1

      ok_same : {E : Type 0} (w v : Option ℕ) → ◌≡◌ {A = Result (Option ℕ) E} (Ok w) (Ok v) → w ≡ v
      ok_same w v e = cc

      pub under_none : {E : Type 0} (res : Result (Option ℕ) E) → IfOk res (λ w. world.EnrolsWhole s n op w s2)
          → res ≡ Ok None → view a n s2 ≡ view a n s
      under_none (Ok w) x e = none_then w (ok_same w None e) x
      under_none (Failed y) x e = absurd cc
