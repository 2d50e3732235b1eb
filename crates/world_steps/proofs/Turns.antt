-- The steps of the maintenance turn, as the worker of a stream sees them.
use Rattle.std.proofs.Common.{◌≡◌, ℕ, ◌<◌, Bool, true, false, ⊎_elim, List, [], ◌∷◌, ◌++◌, length, map, Option, Result, Ok}
use Rattle.std.proofs.Common.{OnOk, IfOk, IfSome, refl, sym, ap, subst, ◌∙◌, arith}
use Rattle.std.proofs.Common.{Err as Failed}
use Rattle.std.proofs.lemmas.Bool.{cases_eq, cases_order}
use Rattle.volume_model.specs.declared.command.Command.{Command}
use Rattle.volume_model.specs.declared.command.Command.TheVariants as command
use Rattle.range_turns.specs.declared.turns.MayStart.{MayStart}
use Rattle.range_turns.specs.declared.turns.MayStart.TheVariants as may_start
use Rattle.range_turns.specs.declared.ticket.Ticket.{Ticket}
use Rattle.range_turns.specs.Order.{ticket_at, StandsAt}
use Rattle.volume_model.specs.declared.call.Call.TheVariants as call
use Rattle.volume_model.specs.declared.call.Reply.{Reply}
use Rattle.volume_model.specs.declared.entry.Answer.{Answer}
use Rattle.volume_model.specs.declared.entry.Entry.TheVariants as entry
use Rattle.open_calls.specs.declared.open_call.OpenCall.{OpenCall}
use Rattle.open_calls.specs.Clients.{IsIdle}
use Rattle.open_calls.specs.declared.maint.MaintCall.{MaintCall}
use Rattle.open_calls.specs.declared.whole.Whole.{Whole}
use Rattle.open_calls.specs.Maint as core
use Rattle.open_calls.specs.Maint.{command_at}
use Rattle.volume_core.proofs.CallLemmas.{idle-calls}
use Rattle.volume_core.specs.State.{State, spot_of, index_at}
use Rattle.volume_core.specs.Sound.{IsSound}
use Rattle.volume_core.specs.Streams.{MayGo, running, turning}
use Rattle.volume_core.specs.Turn.{turn_ended, without_command, ForAsker, IsFreeTurn}
use Rattle.volume_maint.specs.Steps.{whole_ticket, maint_enrolled, turn_begun, gives_back, turn_abandoned}
use Rattle.volume_maint.specs.Answers as world
use Rattle.volume_maint.specs.Places as place
use Rattle.world_holder.proofs.Found.{has_no_command}
use Rattle.stream_steps.specs.Mine.{OwnCall, answer_placed, with_running, log_length}
use Rattle.stream_steps.specs.Steps.{EnrolsAt}
use Rattle.stream_steps.specs.Maint.{IsMaint, IsNoAdd, HasTurn, AwaitsTurn, TurnsTo, IsYes, AnswersWhole}
use Rattle.world_holder.specs.View.{own_turn, own_at, runs, view, IsAlone}
use Rattle.world_holder.proofs.Entries.{own_answer}
use Rattle.world_holder.proofs.Grow.{only_open, grown}
use Rattle.world_holder.proofs.Open.{HasNone, has_none}
use Rattle.world_steps.proofs.Settled.{given_back}
use Rattle.world_steps.proofs.Heads.{same_command}
use Rattle.world_steps.proofs.Queue.{commands-push_own, first_begun, first_gone}
use Rattle.world_steps.proofs.Places.{asker, turn_of, first}
use Rattle.world_steps.proofs.Shapes.{HasOneTurn, has_turn}

-- these commands and calls are open
pub runs_as : (n : ℕ) (s : State) (ms : List (Ticket × MaintCall)) (cs : List (Ticket × OpenCall)) (w : Option Whole)
    → turning s n ≡ ms → running s n ≡ cs → s.whole ≡ w → runs n s ≡ map own_turn ms ++ map (own_at w) cs
runs_as n s ms cs w a b e = λ i. map own_turn (a i) ++ map (own_at (e i)) (b i)

pub wants_maint : (c : Command) → IsMaint c → core.IsMaint c
wants_maint (command.Remove name) w = tt
wants_maint (command.Revert name) w = tt
wants_maint command.Purge w = tt
wants_maint command.Status w = absurd w
wants_maint (command.Snapshot name) w = absurd w
wants_maint (command.Fail r) w = absurd w
wants_maint (command.Add r) w = tt
wants_maint (command.Backup backup snapshot) w = tt

-- a command that is asked for now
abbrev pub asked : ℕ → Command → State → MaintCall
asked n c s = record { stream = n; saw = length s.book.entries; command = c }

-- the answer of the first command, which ends so
abbrev pub ended_answer : State → Reply → Answer
ended_answer s y = record {
  call = call.Command (command_at s.commands 0).command;
  reply = y;
  index = index_at s.indices (command_at s.commands 0).stream;
  saw = (command_at s.commands 0).saw;
  stream = (command_at s.commands 0).stream;
}

module _ (a : Bool) where
  -- ---- it is asked for

  module _ (n : ℕ) (c : Command) (s s2 : State) where
    saw_known : (b : Bool) → IfSome (log_length (view b n s)) (λ at. length s.book.entries ≡ at)
    saw_known true = refl
    saw_known false = tt

    enrolled_mine : (number : ℕ) → IsSound s → MayGo n s s2 → HasNone n s → s2 ≡ maint_enrolled s number (asked n c s)
        → EnrolsAt number (call.Command c) (view a n s) (view a n s2)
    enrolled_mine number ok may none e =
        let own : Ticket × MaintCall = (whole_ticket number, asked n c s) in
        record {
          own = own_turn own;
          is = only_open n s s2 may a (own_turn own ∷ []) (ap (λ (x : State). x.book.entries) e)
              (runs_as n s2 (own ∷ []) [] s2.whole
              (ap (λ (x : State). turning x n) e ∙ commands-push_own n s.maint s.commands (whole_ticket number) (asked n c s)
              ok.maint.queued.paired refl none.turns)
              (ap (λ (x : State). running x n) e ∙ none.calls)
              refl);
          number = refl;
          call = refl;
          waits = refl;
          saw = saw_known a;
        }

    pub enrols : {E : Type 0} (res : Result ℕ E) → IsSound s → MayGo n s s2 → (view a n s).running ≡ []
        → IfOk res (λ number. s2 ≡ maint_enrolled s number (asked n c s))
        → IfOk res (λ t. EnrolsAt t (call.Command c) (view a n s) (view a n s2))
    enrols (Ok number) ok may idle e = enrolled_mine number ok may (has_none n s idle) e
    enrols (Failed x) ok may idle e = tt

  -- ---- where its ticket stands

  module _ (n t : ℕ) (s : State) (ok : IsSound s) where
    pub turn_one : (c : Command) (o : OwnCall) → HasTurn t c o (view a n s) → HasOneTurn a n s o
    turn_one c o h = has_turn a n s o c ok h.is h.call h.wants

    waits_one : (c : Command) (o : OwnCall) → AwaitsTurn t c o (view a n s) → HasOneTurn a n s o
    waits_one c o w = has_turn a n s o c ok w.is w.call w.wants

    module _ (o : OwnCall) (one : HasOneTurn a n s o) (number : o.number ≡ t) where
      its_number : one.p.0.number ≡ t
      its_number = ap (λ (x : OwnCall). x.number) one.is ∙ number

      its_stand : StandsAt s.maint t one.at.place
      its_stand = subst (λ k. StandsAt s.maint k one.at.place) its_number one.at.stands

      its_owner : (fact : ℕ → Type 0) → ForAsker s t fact → fact n
      its_owner fact = asker n s one.p one.at t fact its_number

      its_place : (k : ℕ) → StandsAt s.maint t k → k ≡ one.at.place
      its_place k = turn_of n s one.p one.at t k its_number

      -- where it is the first
      own_first : 0 ≡ one.at.place → (command_at s.commands 0) ≡ one.p.1
      own_first e = ap (command_at s.commands) e ∙ one.at.command

      first_stream : 0 ≡ one.at.place → (command_at s.commands 0).stream ≡ n
      first_stream e = ap (λ (x : MaintCall). x.stream) (own_first e) ∙ one.at.by

      some_ticket : 0 < length s.maint
      some_ticket = omega (arith, one.at.stands.within)

      some_command : 0 < length s.commands
      some_command = omega (arith, one.at.stands.within, ok.maint.queued.paired)

      -- none is left of the stream where the first goes
      pub none_left : 0 ≡ one.at.place → turning (without_command s 0) n ≡ []
      none_left e = first_gone n s.maint s.commands some_command ok.maint.queued.paired (first_stream e) ok.maint.queued.alone

      -- of a stream that is alone it is the first
      alone_first : IsAlone n s → one.at.place ≡ 0
      alone_first alone = ⊎_elim (λ same. same) (λ other. ⊎_elim (λ below. omega (arith, below)) (λ above. absurd (none above)) other)
          (cases_order one.at.place 0)
        where
          owner : MaintCall → ℕ
          owner c = c.stream

          its_stream : (command_at s.commands one.at.place).stream ≡ n
          its_stream = ap owner one.at.command ∙ one.at.by

          none : 0 < one.at.place → ⊥
          none above = ⊎_elim
              (λ own. ok.maint.queued.alone 0 one.at.place above (omega (arith, one.at.stands.within, ok.maint.queued.paired))
              (own ∙ sym its_stream))
              (λ other. has_no_command (command_at s.commands 0).stream s ok (alone.turns (command_at s.commands 0).stream other) 0
              some_command refl)
              (cases_eq (command_at s.commands 0).stream n)

    pub waiting : ((c : Command) × (o : OwnCall) × AwaitsTurn t c o (view a n s)) → (k : ℕ) × place.AwaitsTurn s t k
    waiting w =
        let one = waits_one w.0 w.1 w.2 in (
          one.at.place,
          record {
            stands = its_stand w.1 one w.2.number;
            waits = ap (λ (x : Ticket). x.started) one.at.ticket ∙ ap (λ (x : OwnCall). x.started) one.is ∙ w.2.waits;
          },
        )

    pub waits_owner : ((c : Command) × (o : OwnCall) × AwaitsTurn t c o (view a n s)) → (fact : ℕ → Type 0) → ForAsker s t fact → fact n
    waits_owner w fact held = its_owner w.1 (waits_one w.0 w.1 w.2) w.2.number fact held

    pub turn_owner : (c : Command) (o : OwnCall) → HasTurn t c o (view a n s) → (fact : ℕ → Type 0) → ForAsker s t fact → fact n
    turn_owner c o h fact held = its_owner o (turn_one c o h) h.number fact held

    pub its_first : (c : Command) (o : OwnCall) (h : HasTurn t c o (view a n s)) → 0 ≡ (turn_one c o h).at.place
    its_first c o h =
        let one = turn_one c o h in
        sym (first n s one.p one.at ok (ap (λ (x : OwnCall). x.started) one.is ∙ h.started))

    -- the command that has the turn is the stream's
    pub turn_here : (c : Command) (o : OwnCall) (h : HasTurn t c o (view a n s)) → (command_at s.commands 0) ≡ (turn_one c o h).p.1
    turn_here c o h = own_first o (turn_one c o h) h.number (its_first c o h)

    pub turn_stream : (c : Command) (o : OwnCall) → HasTurn t c o (view a n s) → (command_at s.commands 0).stream ≡ n
    turn_stream c o h = first_stream o (turn_one c o h) h.number (its_first c o h)

    pub turn_command : (c : Command) (o : OwnCall) → HasTurn t c o (view a n s) → (command_at s.commands 0).command ≡ c
    turn_command c o h =
        let one = turn_one c o h in
        ap (λ (x : MaintCall). x.command) (turn_here c o h)
        ∙ same_command one.p.1.command c (ap (λ (x : OwnCall). x.call) one.is ∙ h.call)

    pub free_turn : (c : Command) (o : OwnCall) → HasTurn t c o (view a n s) → IsFreeTurn s t
    free_turn c o h =
        let one = turn_one c o h in
        let here = its_first c o h in
        record {
          stands = subst (StandsAt s.maint t) (sym here) (its_stand o one h.number);
          started = ap (λ k. (ticket_at s.maint k).started) here ∙ ap (λ (x : Ticket). x.started) one.at.ticket
              ∙ ap (λ (x : OwnCall). x.started) one.is ∙ h.started;
          idle = subst (λ k. IsIdle k s.calls) (sym (turn_stream c o h)) (idle-calls n s.tickets s.calls ok.on.clients.paired one.calls);
        }

  -- ---- it is given

  module _ (n t : ℕ) (s s2 : State) (ok : IsSound s) where
    begun_mine : MayGo n s s2 → (c : Command) (o : OwnCall) → AwaitsTurn t c o (view a n s) → place.AwaitsTurn s t 0
        → s2 ≡ turn_begun s → view a n s2 ≡ with_running (view a n s) (record o { started = true } ∷ [])
    begun_mine may c o w at e =
        let one = waits_one n t s ok c o w in
        let here = its_place n t s ok o one w.number 0 at.stands in
        only_open n s s2 may a (record (own_turn one.p) { started = true } ∷ []) (ap (λ (x : State). x.book.entries) e)
        (runs_as n s2 ((record one.p.0 { started = true }, one.p.1) ∷ []) [] s2.whole
        (ap (λ (x : State). turning x n) e ∙ first_begun n s.maint s.commands one.p one.turns
        (some_ticket n t s ok o one w.number) (some_command n t s ok o one w.number)
        (first_stream n t s ok o one w.number here))
        (ap (λ (x : State). running x n) e ∙ one.calls)
        refl)
        ∙ ap (λ (x : OwnCall). with_running (view a n s) (record x { started = true } ∷ [])) one.is

    pub admits : (told : MayStart) → MayGo n s s2 → world.TurnsTo s t told s2 → (c : Command) (o : OwnCall)
        → AwaitsTurn t c o (view a n s) → TurnsTo o told (view a n s) (view a n s2)
    admits may_start.Yes may x c o w = begun_mine may c o w x.0 x.1
    admits (may_start.After number) may x c o w = ap (view a n) x.4

    -- one that is alone need not wait
    pub admits_free : (told : MayStart) → IsAlone n s → world.TurnsTo s t told s2
        → ((c : Command) × (o : OwnCall) × AwaitsTurn t c o (view a n s)) → IsYes told
    admits_free may_start.Yes alone x w = tt
    admits_free (may_start.After number) alone x w =
        let one = waits_one n t s ok w.0 w.1 w.2 in
        absurd (omega (arith, x.2, its_place n t s ok w.1 one w.2.number x.0 x.1.stands, alone_first n t s ok w.1 one w.2.number alone))

  -- ---- it ends

  module _ (n t : ℕ) (s s2 : State) (ok : IsSound s) (may : MayGo n s s2) where
    here_known : (b : Bool) → IfSome (view b n s).log (λ log. log.spot ≡ spot_of s)
    here_known true = refl
    here_known false = tt

    -- nothing is open then
    pub gone_runs : (c : Command) (o : OwnCall) → HasTurn t c o (view a n s) → turning s2 n ≡ turning (without_command s 0) n
        → running s2 n ≡ running s n → runs n s2 ≡ []
    gone_runs c o h turns calls = let one = turn_one n t s ok c o h in
        runs_as n s2 [] [] s2.whole (turns ∙ none_left n t s ok o one h.number (its_first n t s ok c o h)) (calls ∙ one.calls) refl

    -- and the answer stands there
    pub ended_at : (y : Reply) (c : Command) (o : OwnCall) → HasTurn t c o (view a n s) → s2 ≡ turn_ended s y
        → (w : AnswersWhole o y (view a n s) (view a n s2)) × (w.spot ≡ spot_of s)
    ended_at y c o h e =
        let one = turn_one n t s ok c o h in
        let is = turn_here n t s ok c o h in
        let by = turn_stream n t s ok c o h in (
          record {
            spot = spot_of s;
            answer = ended_answer s y;
            is = grown n s s2 may a (answer_placed (spot_of s) (ended_answer s y) ∷ []) [] (entry.Answer (ended_answer s y) ∷ [])
                (ap (λ (x : State). x.book.entries) e) (own_answer n (spot_of s) (ended_answer s y) by) refl
                (gone_runs c o h (ap (λ (x : State). turning x n) e) (ap (λ (x : State). running x n) e));
            here = here_known a;
            call = ap (λ (x : MaintCall). call.Command x.command) is ∙ ap (λ (x : OwnCall). x.call) one.is;
            by = by;
            saw = ap (λ (x : MaintCall). x.saw) is ∙ ap (λ (x : OwnCall). x.saw) one.is;
            reply = refl;
          },
          refl,
        )

    pub ended_mine : (y : Reply) (c : Command) (o : OwnCall) → HasTurn t c o (view a n s) → s2 ≡ turn_ended s y
        → AnswersWhole o y (view a n s) (view a n s2)
    ended_mine y c o h e = (ended_at y c o h e).0

    pub ends : {E : Type 0} (y : Reply) (res : Result ℕ E) → OnOk res (world.EndsTurn s t y s2)
        → OnOk res ((o : OwnCall) → HasTurn t command.Purge o (view a n s) → AnswersWhole o y (view a n s) (view a n s2))
    ends y (Ok at) x = λ o h. ended_mine y command.Purge o h x.state
    ends y (Failed e) x = tt

    -- it is given back
    pub gone_without : (c : Command) (o : OwnCall) → HasTurn t c o (view a n s) → s2 ≡ gives_back s
        → view a n s2 ≡ with_running (view a n s) []
    gone_without c o h e =
        only_open n s s2 may a [] (ap (λ (x : State). x.book.entries) e)
        (gone_runs c o h (ap (λ (x : State). turning x n) e) (ap (λ (x : State). running x n) e))

  -- by a command that is no add
  pub is_given_back : (n t : ℕ) (s s2 : State) → IsSound s → (c : Command) (o : OwnCall) → HasTurn t c o (view a n s) → IsNoAdd c
      → s2 ≡ turn_abandoned s → s2 ≡ gives_back s
  is_given_back n t s s2 ok c o h other e = e ∙ given_back s ok (subst IsNoAdd (sym (turn_command n t s ok c o h)) other)
