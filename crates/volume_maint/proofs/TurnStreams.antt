-- What the other streams see of the steps of the maintenance turn.
use Rattle.std.proofs.Common.{◌≡◌, ◌≢◌, ℕ, zero, suc, ◌+◌, ◌<◌, true, false, cond, eqb, List, [], ◌∷◌, ◌++◌, length}
use Rattle.std.proofs.Common.{length-set, set, get_or-set_other, sym, refl, ap, subst, ◌∙◌, arith, append-nil, append_assoc}
use Rattle.std.specs.Prelude.{Bool, Option, None, Some}
use Rattle.std.specs.List.{Any}
use Rattle.volume_model.specs.declared.call.Call.TheVariants as call
use Rattle.volume_model.specs.declared.call.Reply.{Reply}
use Rattle.volume_model.specs.declared.call.Reply.TheVariants as reply
use Rattle.volume_model.specs.declared.entry.Entry.{Entry}
use Rattle.volume_model.specs.declared.entry.Entry.TheVariants as entry
use Rattle.volume_model.specs.Copies.{RemovesNone}
use Rattle.range_turns.specs.declared.ticket.Ticket.{Ticket}
use Rattle.range_turns.specs.Order.{ticket_at}
use Rattle.open_calls.specs.declared.maint.MaintCall.{MaintCall}
use Rattle.open_calls.specs.Maint.{command_at}
use Rattle.open_rebuild.specs.declared.rebuilding.Rebuilding.{Rebuilding}
use Rattle.volume_core.specs.declared.world.EndedRebuild.{EndedRebuild}
use Rattle.volume_core.specs.State.{State, index_at, gave_up_at}
use Rattle.volume_core.specs.Steps.{answer_entry, given_up}
use Rattle.volume_core.specs.Sound.{IsSound}
use Rattle.volume_core.specs.Streams.{running, commands_in, turning, MayAppend, MayGo, origin_of}
use Rattle.volume_core.specs.Turn.{turn_ended, without_command}
use Rattle.volume_maint.specs.Steps.{whole_ticket, maint_enrolled, turn_begun, gives_back, abandoned_with, turn_abandoned}
use Rattle.volume_core.proofs.InTurn.{not_in_turn}
use Rattle.volume_core.proofs.TurnLemmas.{commands-remove_other, without_head}
use Rattle.volume_core.proofs.GivenUp.{given_up_kept, given_up_may}

-- ---- the commands of a stream

abbrev Pairs : Type 0
Pairs = List (Ticket × MaintCall)

no_commands : (n : ℕ) (ts : List Ticket) → commands_in n ts [] ≡ []
no_commands n [] = refl
no_commands n (t ∷ ts) = refl

-- one of another stream is enrolled
commands-push_other : (n : ℕ) (ts : List Ticket) (cs : List MaintCall) (t : Ticket) (c : MaintCall) → length cs ≡ length ts
    → c.stream ≢ n → commands_in n (ts ++ t ∷ []) (cs ++ c ∷ []) ≡ commands_in n ts cs
commands-push_other n [] [] t c e b = without_head n t c [] [] b
commands-push_other n [] (d ∷ cs) t c e b = absurd (omega arith)
commands-push_other n (u ∷ ts) [] t c e b = absurd (omega arith)
commands-push_other n (u ∷ ts) (d ∷ cs) t c e b =
    ap (λ (ps : Pairs). cond (eqb d.stream n) ((u, d) ∷ ps) ps) (commands-push_other n ts cs t c (omega arith) b)

-- it starts
commands-start_other : (n : ℕ) (ts : List Ticket) (cs : List MaintCall) (k : ℕ) (t : Ticket) → (command_at cs k).stream ≢ n
    → commands_in n (set ts k t) cs ≡ commands_in n ts cs
commands-start_other n [] cs k t b = refl
commands-start_other n (u ∷ ts) [] k t b = no_commands n (set (u ∷ ts) k t)
commands-start_other n (u ∷ ts) (d ∷ cs) zero t b = without_head n t d ts cs b ∙ sym (without_head n u d ts cs b)
commands-start_other n (u ∷ ts) (d ∷ cs) (suc k) t b =
    ap (λ (ps : Pairs). cond (eqb d.stream n) ((u, d) ∷ ps) ps) (commands-start_other n ts cs k t b)

-- ---- the steps

module _ (s s2 : State) (ok : IsSound s) (ok2 : IsSound s2) where
  pub enrolled_goes : (number : ℕ) (c : MaintCall) → s2 ≡ maint_enrolled s number c → MayGo c.stream s s2
  enrolled_goes number c is = record {
    sound = ok2;
    origin = ap origin_of is;
    added = ([], ap (λ (x : State). x.book.entries) is ∙ sym (append-nil s.book.entries), tt);
    others = λ n other. ap (λ (x : State). running x n) is;
    turns = λ n other. ap (λ (x : State). turning x n) is
        ∙ commands-push_other n s.maint s.commands (whole_ticket number) c ok.maint.queued.paired (λ e. other (sym e));
    gave_up = λ n other. ap (λ (x : State). gave_up_at x.gave_up n) is;
    removes = λ m other turn name. tt;
  }

  pub begun_goes : s2 ≡ turn_begun s → MayGo (command_at s.commands 0).stream s s2
  begun_goes is = record {
    sound = ok2;
    origin = ap origin_of is;
    added = ([], ap (λ (x : State). x.book.entries) is ∙ sym (append-nil s.book.entries), tt);
    others = λ n other. ap (λ (x : State). running x n) is;
    turns = λ n other. ap (λ (x : State). turning x n) is
        ∙ commands-start_other n s.maint s.commands 0 (record (ticket_at s.maint 0) { started = true })
        (λ e. other (sym e));
    gave_up = λ n other. ap (λ (x : State). gave_up_at x.gave_up n) is;
    removes = λ m other turn name. tt;
  }

  pub less_goes : (k : ℕ) (gave_up : List Bool) → s2 ≡ record (without_command s k) { gave_up = gave_up }
      → ((n : ℕ) → n ≢ (command_at s.commands k).stream → gave_up_at gave_up n ≡ gave_up_at s.gave_up n)
      → MayGo (command_at s.commands k).stream s s2
  less_goes k gave_up is others = record {
    sound = ok2;
    origin = ap origin_of is;
    added = ([], ap (λ (x : State). x.book.entries) is ∙ sym (append-nil s.book.entries), tt);
    others = λ n other. ap (λ (x : State). running x n) is;
    turns = λ n other. ap (λ (x : State). turning x n) is
        ∙ commands-remove_other n s.maint s.commands k ok.maint.queued.paired (λ e. other (sym e));
    gave_up = λ n other. ap (λ (x : State). gave_up_at x.gave_up n) is ∙ others n other;
    removes = λ m other turn name. tt;
  }

  pub ended_goes : (r : Reply) → s2 ≡ turn_ended s r → MayGo (command_at s.commands 0).stream s s2
  ended_goes r is =
      let c = command_at s.commands 0 in
      record {
        sound = ok2;
        origin = ap origin_of is
            ∙ ap (λ k. record { first = s.first; opening = s.book.opening; size = s.size; streams = k; replicas = length s.nodes })
            (length-set s.indices c.stream (index_at s.indices c.stream + 1));
        added = (
          answer_entry (without_command s 0) c.stream c.saw (call.Command c.command) r ∷ [],
          ap (λ (x : State). x.book.entries) is,
          (refl, tt),
        );
        others = λ n other. ap (λ (x : State). running x n) is;
        turns = λ n other. ap (λ (x : State). turning x n) is
            ∙ commands-remove_other n s.maint s.commands 0 ok.maint.queued.paired (λ e. other (sym e));
        gave_up = λ n other. ap (λ (x : State). gave_up_at x.gave_up n) is;
        removes = λ n other turn name. absurd (not_in_turn s ok c.stream n refl other turn);
      }

-- ---- two steps of one stream

more_may : (n : ℕ) (xs ys : List Entry) → MayAppend n xs → MayAppend n ys → MayAppend n (xs ++ ys)
more_may n [] ys h k = k
more_may n (entry.Answer a ∷ xs) ys h k = (h.0, more_may n xs ys h.1 k)
more_may n (entry.Mark m ∷ xs) ys h k = (h.0, more_may n xs ys h.1 k)

more_none : (name : List ℕ) (xs ys : List Entry) → RemovesNone name xs → RemovesNone name ys → RemovesNone name (xs ++ ys)
more_none name [] ys h k = k
more_none name (entry.Answer a ∷ xs) ys h k = (h.0, more_none name xs ys h.1 k)
more_none name (entry.Mark m ∷ xs) ys h k = more_none name xs ys h k

pub goes_on : (n : ℕ) (s s1 s2 : State) → MayGo n s s1 → MayGo n s1 s2 → MayGo n s s2
goes_on n s s1 s2 a b = record {
  sound = b.sound;
  origin = b.origin ∙ a.origin;
  added = (
    a.added.0 ++ b.added.0,
    b.added.1 ∙ ap (λ (l : List Entry). l ++ b.added.0) a.added.1 ∙ append_assoc s.book.entries a.added.0 b.added.0,
    more_may n a.added.0 b.added.0 a.added.2 b.added.2,
  );
  others = λ m other. b.others m other ∙ a.others m other;
  turns = λ m other. b.turns m other ∙ a.turns m other;
  gave_up = λ m other. b.gave_up m other ∙ a.gave_up m other;
  removes = λ m other turn name. more_none name a.added.0 b.added.0 (a.removes m other turn name)
      (b.removes m other (subst (λ (l : List (Ticket × MaintCall)). Any (λ p. p.0.started ≡ true) l) (sym (a.turns m other)) turn) name);
}

-- the turn is abandoned
pub abandoned_goes : (s s2 : State) → IsSound s → IsSound s2 → 0 < length s.commands → s2 ≡ turn_abandoned s
    → MayGo (command_at s.commands 0).stream s s2
abandoned_goes s s2 ok ok2 some is = by s.rebuild s.ended refl is
  where
    stream : ℕ
    stream = (command_at s.commands 0).stream

    by : (b : Option Rebuilding) (g : Option EndedRebuild) → s.rebuild ≡ b → s2 ≡ abandoned_with b g s → MayGo stream s s2
    by (Some b) g begun is =
        let mid = given_up_kept s stream b ok (ok.maint.queued.within 0 some) begun in
        goes_on stream s (given_up s stream b.target) s2 (given_up_may s (given_up s stream b.target) stream b.target refl mid)
        (ended_goes (given_up s stream b.target) s2 mid ok2 (reply.Aborted (length s.book.entries)) is)
    by None (Some e) begun is = ended_goes s s2 ok ok2 (reply.Aborted e.place) is
    by None None begun is = less_goes s s2 ok ok2 0 (gives_back s).gave_up is
        (λ n other. get_or-set_other s.gave_up stream n true false other)
