-- A command is enrolled for the maintenance turn, has it, is taken back, ends or is abandoned: each step keeps the invariant.
use Rattle.std.proofs.Common.{◌≡◌, ℕ, ◌+◌, ◌<◌, true, List, [], ◌∷◌, ◌++◌, length, length-set, refl}
use Rattle.std.proofs.Common.{sym, ap, subst, ◌∙◌, arith}
use Rattle.std.specs.Prelude.{Bool, Option, None, Some, IfSome}
use Rattle.std.specs.List.{remove, count_by}
use Rattle.std.proofs.lemmas.List.{length_push}
use Rattle.std.proofs.lemmas.List.Edits.{length-remove}
use Rattle.volume_model.specs.declared.command.Command.{Command}
use Rattle.volume_model.specs.declared.command.Command.TheVariants as command
use Rattle.volume_model.specs.declared.call.Call.{Call}
use Rattle.volume_model.specs.declared.call.Call.TheVariants as call
use Rattle.volume_model.specs.declared.call.Reply.{Reply}
use Rattle.volume_model.specs.declared.call.Reply.TheVariants as reply
use Rattle.volume_model.specs.declared.entry.Answer.{Answer}
use Rattle.volume_model.specs.declared.entry.Entry.{Entry}
use Rattle.volume_model.specs.declared.entry.Entry.TheVariants as entry
use Rattle.volume_model.specs.declared.mode.Mode.{Mode}
use Rattle.volume_model.specs.History.{IsLegal, IsEnded}
use Rattle.volume_model.specs.PlainState.{PlainState, Volume}
use Rattle.volume_model.specs.Rebuilds.{added_by}
use Rattle.volume_model.specs.Replay.{after_entry}
use Rattle.volume_model.proofs.OwnNames.{IsOwn}
use Rattle.volume_model.proofs.PushLemmas.{modes_after-push, IsLegal-push}
use Rattle.volume_model.proofs.RebuildLemmas.{legal_aborted}
use Rattle.volume_model.proofs.StepLemmas.{replay-push}
use Rattle.range_turns.specs.Order.{with_started, IsFresh}
use Rattle.replica_node.specs.Node.{Node}
use Rattle.open_calls.specs.Clients.{IsIdle}
use Rattle.open_calls.proofs.Gone.{seen_clients}
use Rattle.open_calls.proofs.SeenLemmas.{seen_answer}
use Rattle.open_calls.specs.declared.maint.MaintCall.{MaintCall}
use Rattle.open_calls.specs.Due.{due, forms}
use Rattle.open_calls.specs.Maint.{HasNoCommand, IsMaint, AreMaint, command_at}
use Rattle.open_calls.proofs.Turns as turns
use Rattle.open_calls.proofs.Answered.{command_answered}
use Rattle.open_rebuild.specs.declared.rebuilding.Rebuilding.{Rebuilding}
use Rattle.open_rebuild.specs.Claim.{IsRebuilding}
use Rattle.volume_core.specs.declared.world.EndedRebuild.{EndedRebuild}
use Rattle.volume_core.specs.State.{State, opening_of, told_of, modes_in, index_at}
use Rattle.volume_core.specs.Steps.{given_up}
use Rattle.volume_core.specs.Sound.{IsSound, IsSoundOn, IsOrdered, AreAdds, AreCaused, HasAdd, NoneGaveUp, is_up, how_far}
use Rattle.volume_core.proofs.Caused.{caused_ended, caused_still, given_caused}
use Rattle.volume_core.proofs.Ends.{its_answer, same_clients}
use Rattle.volume_core.proofs.GivenUp.{given_up_kept}
use Rattle.volume_core.proofs.Keep.{same_whole, same_maint, on_same}
use Rattle.volume_core.proofs.Told.{answer_ordered_to}
use Rattle.volume_core.specs.Turn.{turn_ended, without_command, IsFreeTurn}
use Rattle.volume_maint.specs.Steps.{whole_ticket, maint_enrolled, turn_begun, gives_up}
use Rattle.volume_maint.specs.Steps.{ends_aborted, gives_back, abandoned_with, turn_abandoned}
use Rattle.volume_maint.specs.Places.{AwaitsTurn}
use Rattle.volume_maint.specs.Answers.{MayEnd}
use Rattle.volume_core.proofs.TurnLemmas.{none_adds}
use Rattle.volume_maint.proofs.Adds.{adds_still, no_rebuild}
use Rattle.volume_maint.proofs.AddEnds.{cleared, unbegun, none_beside, aborted_far, done_ends, done_no_add, done_leaves, refused_ends}

-- ---- a command is enrolled

pub enrolled_kept : (s : State) (number : ℕ) (c : MaintCall) → IsSound s → c.stream < length s.indices
    → IsIdle c.stream s.calls → HasNoCommand c.stream s.commands → IsMaint c.command
    → c.saw ≡ length s.book.entries → IsFresh s.maint number → IsSound (maint_enrolled s number c)
enrolled_kept s number c ok within idle none wants saw fresh =
    let t = whole_ticket number in
    let stays = turns.first_pushed s.maint s.commands t c ok.maint.queued.paired in
    record {
      on = record {
        opened = ok.on.opened;
        told = record { legal = ok.on.told.legal; ordered = ok.on.told.ordered };
        clients = ok.on.clients;
        spare = omega (arith, ok.on.spare, length_push s.commands c);
        spare_data = ok.on.spare_data;
      };
      whole = ok.whole;
      maint = turns.turn_enrolled (told_of s).volume.snapshots (length s.indices) s.book.entries (modes_in s) s.tickets
          s.calls s.nodes s.maint s.commands t c ok.on.clients.paired refl refl fresh wants within saw none idle ok.maint;
      disk = ok.disk;
      rebuild = ok.rebuild;
      adds = adds_still s.maint (s.maint ++ t ∷ []) s.commands (s.commands ++ c ∷ []) stays s.rebuild s.ended ok.adds;
      caused = λ gave. caused_still s.maint s.commands s.book.entries (ok.caused gave) (s.maint ++ t ∷ [])
          (s.commands ++ c ∷ []) stays;
      streams = ok.streams;
    }

-- ---- the first has the turn

pub begun_kept : (s : State) → IsSound s → 0 < length s.maint → IsSound (turn_begun s)
begun_kept s ok some =
    let stays = turns.first_started s.maint s.commands some in
    record {
      on = record {
        opened = ok.on.opened;
        told = ok.on.told;
        clients = ok.on.clients;
        spare = ok.on.spare;
        spare_data = ok.on.spare_data;
      };
      whole = ok.whole;
      maint = turns.turn_started (told_of s).volume.snapshots (length s.indices) s.book.entries (modes_in s) s.tickets
          s.calls s.nodes s.maint s.commands some ok.maint;
      disk = ok.disk;
      rebuild = ok.rebuild;
      adds = adds_still s.maint (with_started s.maint 0) s.commands s.commands stays s.rebuild s.ended ok.adds;
      caused = λ gave. caused_still s.maint s.commands s.book.entries (ok.caused gave) (with_started s.maint 0)
          s.commands stays;
      streams = ok.streams;
    }

-- ---- a command goes

command_in : (s : State) (k : ℕ) → IsSound s → k < length s.maint → k < length s.commands
command_in s k ok h = omega (arith, h, ok.maint.queued.paired)

on_less : (v : Volume) (ns : List Node) (s : State) (k : ℕ) (gave_up : List Bool) → IsSoundOn v ns s → k < length s.commands
    → IsSoundOn v ns (record (without_command s k) { gave_up = gave_up })
on_less v ns s k gave_up ok h = record {
  opened = ok.opened;
  told = ok.told;
  clients = ok.clients;
  spare =
      omega (arith, ok.spare, length-remove s.commands k h);
  spare_data = ok.spare_data;
}

less_kept : (s : State) (k : ℕ) (gave_up : List Bool) → IsSound s → k < length s.maint
    → AreMaint (told_of s).volume.snapshots (length s.indices) s.book.entries (modes_in s) s.tickets s.calls s.nodes
    (remove s.maint k) (remove s.commands k)
    → AreAdds (remove s.maint k) (remove s.commands k) s.rebuild s.ended
    → (NoneGaveUp gave_up → AreCaused (remove s.maint k) (remove s.commands k) s.book.entries)
    → length gave_up ≡ length s.gave_up → IsSound (record (without_command s k) { gave_up = gave_up })
less_kept s k gave_up ok h maint adds caused many = record {
  on = on_less (due s.whole (told_of s).volume) (forms s.whole s.nodes) s k gave_up ok.on (command_in s k ok h);
  whole = ok.whole;
  maint = maint;
  disk = ok.disk;
  rebuild = ok.rebuild;
  adds = adds;
  caused = caused;
  streams = many ∙ ok.streams;
}

-- one that waits
pub withdrawn_kept : (s : State) (t k : ℕ) → IsSound s → AwaitsTurn s t k → IsSound (without_command s k)
withdrawn_kept s t k ok at =
    let stays = turns.first_left s.maint s.commands k ok.maint.queued.paired at.stands.within at.waits in
    less_kept s k s.gave_up ok at.stands.within
    (turns.turn_withdrawn (told_of s).volume.snapshots (length s.indices) s.book.entries (modes_in s) s.tickets s.calls
    s.nodes s.maint s.commands k at.stands.within at.waits ok.maint)
    (adds_still s.maint (remove s.maint k) s.commands (remove s.commands k) stays s.rebuild s.ended ok.adds)
    (λ gave. caused_still s.maint s.commands s.book.entries (ok.caused gave) (remove s.maint k) (remove s.commands k) stays)
    refl

-- ---- it ends with its answer

maint_own : (p : PlainState) (a : Answer) (c : Command) → IsMaint c → a.call ≡ call.Command c → IsOwn p (entry.Answer a)
maint_own p a c w is = λ name e. absurd (subst IsMaint (alike name (sym is ∙ e)) w)
  where
    alike : (name : List ℕ) → call.Command c ≡ call.Command (command.Snapshot name) → c ≡ command.Snapshot name
    alike name e = cc

module _ (s : State) (t : ℕ) (r : Reply) (ok : IsSound s) (at : IsFreeTurn s t) where
  abbrev its : MaintCall
  its = command_at s.commands 0

  abbrev as_call : Call
  as_call = call.Command its.command

  abbrev answer : Answer
  answer = its_answer s its.stream its.saw as_call r

  abbrev longer : List Entry
  longer = s.book.entries ++ entry.Answer answer ∷ []

  abbrev next : State
  next = turn_ended s r

  here : 0 < length s.commands
  here = command_in s 0 ok at.stands.within

  modes : modes_in s ≡ modes_in next
  modes = sym (modes_after-push (opening_of s).modes s.book.entries (entry.Answer answer))

  counted : length s.indices ≡ length next.indices
  counted = sym (length-set s.indices its.stream (index_at s.indices its.stream + 1))

  ordered_next : s.rebuild ≡ None → IsOrdered (opening_of s) longer next.indices s.rebuild None
  ordered_next none =
      answer_ordered_to (opening_of s) s.book.entries s.indices s.rebuild s.rebuild s.ended None answer ok.on.told.ordered
      (maint_own (told_of s) answer its.command (ok.maint.queued.want 0 here) refl)
      (λ q. cleared s.book.entries s.maint s.commands s.rebuild s.ended answer none refl ok.adds ok.on.told.ordered.rebuild
      q ∙ ap (λ (x : Option Rebuilding). how_far x None q) (sym none))
      (ok.maint.queued.within 0 here) refl (ok.maint.queued.past 0 here) (ok.maint.queued.saw 0 here)

  on_next : (v : Volume) (ns : List Node) → s.rebuild ≡ None → IsLegal (opening_of s) longer → IsSoundOn v ns s → IsSoundOn v ns next
  on_next v ns none legal on = record {
    opened = on.opened;
    told = record { legal = legal; ordered = ordered_next none };
    clients = same_clients v s.size (length s.indices) (length next.indices) longer (modes_in s) (modes_in next) s.tickets
        s.calls ns counted modes
        (seen_clients v s.size (length s.indices) s.book.entries longer (modes_in s) s.tickets s.calls ns
        (seen_answer s.book.entries s.calls on.clients.seen answer at.idle) on.clients);
    spare = omega (arith, on.spare, length-remove s.commands 0 here, ap (count_by is_up) modes);
    spare_data = omega (arith, on.spare_data);
  }

  -- no rebuild is open then, and what the plain volume is, stays
  ended_with : s.rebuild ≡ None → IsLegal (opening_of s) longer → after_entry (told_of s) (entry.Answer answer) ≡ told_of s → IsSound next
  ended_with none legal same =
      let told : told_of s ≡ told_of next = sym (replay-push (opening_of s).state s.book.entries (entry.Answer answer) ∙ same) in
      record {
        on = on_same s.whole (told_of s) (told_of next) s.nodes next told
            (on_next (due s.whole (told_of s).volume) (forms s.whole s.nodes) none legal ok.on);
        whole = same_whole (told_of s) (told_of next) (modes_in s) (modes_in next) s.tickets s.calls s.nodes s.whole told modes ok.whole;
        maint = same_maint (told_of s).volume.snapshots (told_of next).volume.snapshots (length s.indices)
            (length next.indices) longer (modes_in s) (modes_in next) s.tickets s.calls s.nodes next.maint next.commands
            (ap (λ (p : PlainState). p.volume.snapshots) told) counted modes
            (command_answered (told_of s).volume.snapshots (length s.indices) s.book.entries (modes_in s) s.tickets s.calls
            s.nodes s.maint s.commands ok.maint answer ok.on.clients.paired at.stands.within at.idle refl);
        disk = ap (λ (p : PlainState). length p.volume.disk) (sym told) ∙ ok.disk;
        rebuild = subst (λ (x : List Mode). IsRebuilding s.size x s.tickets s.calls s.whole s.nodes s.rebuild) modes ok.rebuild;
        adds = none_adds next.maint next.commands s.rebuild None (none, refl);
        caused = λ gave. caused_ended s.maint s.commands s.book.entries (ok.caused gave) next.maint next.commands answer refl refl;
        streams = ok.streams ∙ counted;
      }

-- so that it may
module _ (s : State) (t : ℕ) (ok : IsSound s) (at : IsFreeTurn s t) where
  abbrev first : MaintCall
  first = command_at s.commands 0

  first_in : 0 < length s.commands
  first_in = command_in s 0 ok at.stands.within

  legal_with : (r : Reply) → IsEnded (added_by (call.Command first.command)) s.book.entries (told_of s) (modes_in s)
      (its_answer s first.stream first.saw (call.Command first.command) r)
      → IsLegal (opening_of s) (s.book.entries ++ entry.Answer (its_answer s first.stream first.saw (call.Command first.command) r) ∷ [])
  legal_with r ends = IsLegal-push (opening_of s) s.book.entries
      (entry.Answer (its_answer s first.stream first.saw (call.Command first.command) r)) ok.on.told.legal ends

  pub ended_kept : (r : Reply) → MayEnd s first.command r → IsSound (turn_ended s r)
  ended_kept reply.Done may =
      ended_with s t reply.Done ok at (no_rebuild s.maint s.commands s.rebuild s.ended ok.adds (done_no_add s first.command may)).0
      (legal_with reply.Done (done_ends s first.stream first.saw (index_at s.indices first.stream) first.command may))
      (done_leaves s first.command may)
  ended_kept (reply.Refused why) may =
      ended_with s t (reply.Refused why) ok at (unbegun s ok.adds first.command refl may.1).0
      (legal_with (reply.Refused why) (refused_ends s ok first.stream first.saw (index_at s.indices first.stream)
      first.command why (ok.maint.queued.want 0 first_in) may)) refl
  ended_kept (reply.Aborted place) may =
      let none = none_beside s.rebuild s.ended ok.adds.one (record { target = may.0; place = place }) may.2 in
      ended_with s t (reply.Aborted place) ok at none
      (legal_aborted (opening_of s) s.book.entries may.0 place
      (its_answer s first.stream first.saw (call.Command first.command) (reply.Aborted place)) ok.on.told.legal
      (aborted_far s ok may.0 place none may.2) (ap call.Command may.1) refl)
      refl
  ended_kept (reply.Read bytes) may = absurd may
  ended_kept (reply.Status layers each) may = absurd may

-- ---- it is abandoned

-- where nothing was begun of a rebuild
given_back_kept : (s : State) (t : ℕ) → IsSound s → IsFreeTurn s t → s.rebuild ≡ None → s.ended ≡ None → IsSound (gives_back s)
given_back_kept s t ok at none gone =
    let stream = (command_at s.commands 0).stream in
    less_kept s 0 (gives_back s).gave_up ok at.stands.within
    (turns.turn_ended (told_of s).volume.snapshots (length s.indices) s.book.entries (modes_in s) s.tickets s.calls s.nodes
    s.maint s.commands ok.on.clients.paired at.stands.within at.idle ok.maint)
    (none_adds (remove s.maint 0) (remove s.commands 0) s.rebuild s.ended (none, gone))
    (given_caused s.gave_up stream (remove s.maint 0) (remove s.commands 0) s.book.entries
    (omega (arith, ok.maint.queued.within 0 (command_in s 0 ok at.stands.within), ok.streams)))
    (length-set s.gave_up stream true)

-- where a rebuild was aborted
aborted_kept : (s : State) (t : ℕ) (e : EndedRebuild) → IsSound s → IsFreeTurn s t → s.ended ≡ Some e → IsSound (ends_aborted s e.place)
aborted_kept s t e ok at was =
    let add : HasAdd s.maint s.commands e.target =
    subst (λ (x : Option EndedRebuild). IfSome x (λ y. HasAdd s.maint s.commands y.target)) was ok.adds.of_ended in
    ended_kept s t ok at (reply.Aborted e.place) (e.target, add.turn.command, was)

-- where one is open
pub given_turn : (s : State) (t stream target : ℕ) → IsFreeTurn s t → IsFreeTurn (given_up s stream target) t
given_turn s t stream target at = record { stands = at.stands; started = at.started; idle = at.idle }

open_kept : (s : State) (t : ℕ) (b : Rebuilding) → IsSound s → IsFreeTurn s t → s.rebuild ≡ Some b → IsSound (gives_up s b.target)
open_kept s t b ok at begun =
    let stream = (command_at s.commands 0).stream in
    let mid = given_up_kept s stream b ok (ok.maint.queued.within 0 (command_in s 0 ok at.stands.within)) begun in
    aborted_kept (given_up s stream b.target) t (record { target = b.target; place = length s.book.entries }) mid
    (given_turn s t stream b.target at) refl

pub abandoned_kept : (s : State) (t : ℕ) → IsSound s → IsFreeTurn s t → IsSound (turn_abandoned s)
abandoned_kept s t ok at = by s.rebuild s.ended refl refl
  where
    by : (b : Option Rebuilding) (g : Option EndedRebuild) → s.rebuild ≡ b → s.ended ≡ g → IsSound (abandoned_with b g s)
    by (Some b) g begun was = open_kept s t b ok at begun
    by None (Some e) begun was = aborted_kept s t e ok at was
    by None None begun was = given_back_kept s t ok at begun was
