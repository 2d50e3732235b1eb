-- What a stream of commands has open in a World, by what its worker sees, where others have calls open too.
use Rattle.std.proofs.Common.{Bool, ◌≡◌, ℕ, List, [], ◌∷◌, ◌++◌, map, Some, subst, sym, refl, ap, ◌∙◌}
use Rattle.volume_model.specs.declared.command.Command.{Command}
use Rattle.range_turns.specs.declared.ticket.Kind.TheVariants as kind
use Rattle.range_turns.specs.declared.ticket.Ticket.{Ticket}
use Rattle.volume_model.specs.declared.call.Call.TheVariants as call
use Rattle.open_calls.specs.declared.open_call.OpenCall.{OpenCall}
use Rattle.step_answers.specs.declared.whole_op.WholeOp.{WholeOp}
use Rattle.step_answers.specs.declared.whole_op.WholeOp.TheVariants as whole
use Rattle.step_answers.specs.Asked.{command_of}
use Rattle.open_calls.specs.Calls.{call_asked}
use Rattle.open_calls.specs.declared.maint.MaintCall.{MaintCall}
use Rattle.open_calls.specs.Maint.{HasNoCommand, IsAskedBy}
use Rattle.volume_core.specs.State.{State}
use Rattle.volume_core.specs.Sound.{IsSound}
use Rattle.volume_core.specs.Streams.{running, turning}
use Rattle.volume_maint.proofs.Begins.{asked_op}
use Rattle.world_holder.proofs.Found.{has_no_command}
use Rattle.stream_steps.specs.Mine.{OwnCall}
use Rattle.stream_steps.specs.Maint.{HasWhole, IsMaint}
use Rattle.world_holder.specs.View.{own_turn, own_at, runs, view}
use Rattle.world_steps.proofs.Heads.{asks_whole, asks_op, same_command, one_head, last_one, last_two, last_some, no_op}
use Rattle.world_steps.proofs.Queue.{AreFew, few_turns, few_calls}
use Rattle.world_steps.proofs.Places.{IsCallOf, call_place, IsTurnOf, turn_place}

module _ (a : Bool) where
  -- ---- a command of the turn alone

  pub record HasOneTurn (n : ℕ) (s : State) (o : OwnCall) : Type 0 where
    pub p : Ticket × MaintCall
    pub turns : turning s n ≡ p ∷ []
    pub calls : running s n ≡ []
    pub is : own_turn p ≡ o
    pub at : IsTurnOf n s p

  -- without a command of the turn no call on the whole volume is of one
  not_of_turn : (op : WholeOp) (n : ℕ) (s : State) → IsAskedBy s.maint s.commands n op → HasNoCommand n s.commands
      → IsMaint (command_of op) → ⊥
  not_of_turn (whole.Snapshot name) n s asked none wants = wants
  not_of_turn (whole.Remove name) n s asked none wants = none 0 asked.some asked.own
  not_of_turn (whole.Revert name) n s asked none wants = none 0 asked.some asked.own
  not_of_turn (whole.Purge f) n s asked none wants = none 0 asked.some asked.own
  not_of_turn (whole.Barrier r) n s asked none wants = none 0 asked.some asked.own

  turn_by : (n : ℕ) (s : State) (o : OwnCall) (c : Command) → IsSound s → o.call ≡ call.Command c → IsMaint c
      → (ms : List (Ticket × MaintCall)) (cs : List (Ticket × OpenCall)) → turning s n ≡ ms → running s n ≡ cs
      → map own_turn ms ++ map (own_at s.whole) cs ≡ o ∷ [] → HasOneTurn n s o
  turn_by n s o c ok asks wants [] [] a b e = absurd cc
  turn_by n s o c ok asks wants (p ∷ []) [] a b e =
      record { p = p; turns = a; calls = b; is = one_head (own_turn p) o e; at = turn_place n s p ok a }
  turn_by n s o c ok asks wants [] (q ∷ []) a b e =
      let is : own_at s.whole q ≡ o = one_head (own_at s.whole q) o e in
      let at = call_place n s q ok b in
      let asked : call_asked q.0.kind q.1 ≡ call.Command c = ap (λ (x : OwnCall). x.call) is ∙ asks in
      let of_whole = asks_whole q.0.kind q.1 c asked in
      let fits = (ok.maint.fits at.place at.stands.within).whole (ap (λ (x : Ticket). x.kind) at.ticket ∙ of_whole) in
      let by : IsAskedBy s.maint s.commands n fits.op =
      subst (λ k. IsAskedBy s.maint s.commands k fits.op) (ap (λ (x : OpenCall). x.stream) at.call ∙ at.by) fits.asked in
      absurd (not_of_turn fits.op n s by (has_no_command n s ok a)
      (subst IsMaint (same_command c (command_of fits.op)
      (sym asked ∙ asks_op q.0.kind q.1 fits.op of_whole (sym (ap (λ (x : OpenCall). x.op) at.call) ∙ fits.is))) wants))
  turn_by n s o c ok asks wants (p ∷ []) (q ∷ cs) a b e = absurd cc
  turn_by n s o c ok asks wants [] (q ∷ q2 ∷ cs) a b e = absurd cc
  turn_by n s o c ok asks wants (p ∷ p2 ∷ ms) cs a b e = absurd cc

  pub has_turn : (n : ℕ) (s : State) (o : OwnCall) (c : Command) → IsSound s → runs n s ≡ o ∷ []
      → o.call ≡ call.Command c → IsMaint c → HasOneTurn n s o
  has_turn n s o c ok e asks wants = turn_by n s o c ok asks wants (turning s n) (running s n) refl refl e

  -- ---- a call on the whole volume, behind the command of the turn or none

  pub record HasCall (n : ℕ) (s : State) (t : ℕ) (op : WholeOp) (turn : List OwnCall) (o : OwnCall) : Type 0 where
    pub q : Ticket × OpenCall
    pub ms : List (Ticket × MaintCall)
    pub turns : turning s n ≡ ms
    pub calls : running s n ≡ q ∷ []
    pub is : own_at s.whole q ≡ o
    pub before : map own_turn ms ≡ turn
    pub at : IsCallOf n s q
    pub number : q.0.number ≡ t
    pub kind : q.0.kind ≡ kind.Whole
    pub does : q.1.op ≡ Some op
    pub asked : IsAskedBy s.maint s.commands n op

  call_by : (n : ℕ) (s : State) (t : ℕ) (op : WholeOp) (turn : List OwnCall) (o : OwnCall) → IsSound s
      → HasWhole t op turn o (view a n s) → (ms : List (Ticket × MaintCall)) (q : Ticket × OpenCall) → turning s n ≡ ms
      → running s n ≡ q ∷ []
      → map own_turn ms ≡ turn → own_at s.whole q ≡ o → HasCall n s t op turn o
  call_by n s t op turn o ok w ms q a b before is =
      let at = call_place n s q ok b in
      let of_whole = asks_whole q.0.kind q.1 (command_of op) (ap (λ (x : OwnCall). x.call) is ∙ w.call) in
      let does : q.1.op ≡ Some op = ap (λ (x : OwnCall). x.op) is ∙ w.does in
      let asked = asked_op s at.place op ok at.stands.within (ap (λ (x : Ticket). x.kind) at.ticket ∙ of_whole)
      (ap (λ (x : OpenCall). x.op) at.call ∙ does) in
      record {
        q = q;
        ms = ms;
        turns = a;
        calls = b;
        is = is;
        before = before;
        at = at;
        number = ap (λ (x : OwnCall). x.number) is ∙ w.number;
        kind = of_whole;
        does = does;
        asked = subst (λ k. IsAskedBy s.maint s.commands k op) (ap (λ (x : OpenCall). x.stream) at.call ∙ at.by) asked;
      }

  whole_by : (n : ℕ) (s : State) (t : ℕ) (op : WholeOp) (turn : List OwnCall) (o : OwnCall) → IsSound s
      → HasWhole t op turn o (view a n s) → (ms : List (Ticket × MaintCall)) (cs : List (Ticket × OpenCall)) → AreFew ms
      → AreFew cs
      → turning s n ≡ ms → running s n ≡ cs → map own_turn ms ++ map (own_at s.whole) cs ≡ turn ++ o ∷ [] → HasCall n s t op turn o
  whole_by n s t op turn o ok w [] [] f g a b e = absurd (last_some turn o e)
  whole_by n s t op turn o ok w (p ∷ []) [] f g a b e = let l = last_one turn (own_turn p) o e in
      absurd (no_op op o.op (sym (ap (λ (x : OwnCall). x.op) l.1)) w.does)
  whole_by n s t op turn o ok w [] (q ∷ []) f g a b e = let l = last_one turn (own_at s.whole q) o e in
      call_by n s t op turn o ok w [] q a b l.0 l.1
  whole_by n s t op turn o ok w (p ∷ []) (q ∷ []) f g a b e = let l = last_two turn (own_turn p) (own_at s.whole q) o e in
      call_by n s t op turn o ok w (p ∷ []) q a b l.0 l.1
  whole_by n s t op turn o ok w ms (q ∷ q2 ∷ cs) f g a b e = absurd g
  whole_by n s t op turn o ok w (p ∷ p2 ∷ ms) cs f g a b e = absurd f

  pub has_call : (n : ℕ) (s : State) (t : ℕ) (op : WholeOp) (turn : List OwnCall) (o : OwnCall) → IsSound s
      → HasWhole t op turn o (view a n s) → HasCall n s t op turn o
  has_call n s t op turn o ok w =
      whole_by n s t op turn o ok w (turning s n) (running s n)
      (few_turns n s.maint s.commands ok.maint.queued.alone) (few_calls n s.tickets s.calls ok.on.clients.seen.alone) refl refl w.is
