-- A call on the whole volume, or the command that has the maintenance turn, goes with its entry in the journal.
use Rattle.std.proofs.Common.{◌≡◌, ℕ, ◌<◌, List, [], ◌∷◌, ◌++◌, length, subst, sym, ◌∙◌, arith}
use Rattle.std.specs.Prelude.{Some}
use Rattle.std.specs.List.{remove}
use Rattle.std.proofs.lemmas.List.Edits.{length-remove}
use Rattle.volume_model.specs.declared.entry.Answer.{Answer}
use Rattle.volume_model.specs.declared.entry.Entry.{Entry}
use Rattle.volume_model.specs.declared.entry.Entry.TheVariants as entry
use Rattle.volume_model.specs.declared.mark.Mark.{Mark}
use Rattle.volume_model.specs.declared.mode.Mode.{Mode}
use Rattle.volume_model.specs.Snapshots.{Snapshots}
use Rattle.range_turns.specs.declared.ticket.Kind.TheVariants as kind
use Rattle.range_turns.specs.declared.ticket.Ticket.{Ticket}
use Rattle.range_turns.specs.Order.{ticket_at}
use Rattle.replica_node.specs.Node.{Node}
use Rattle.open_calls.specs.declared.open_call.OpenCall.{OpenCall}
use Rattle.step_answers.specs.declared.whole_op.WholeOp.{WholeOp}
use Rattle.step_answers.specs.declared.whole_op.WholeOp.TheVariants as whole
use Rattle.open_calls.specs.Calls.{open_at}
use Rattle.open_calls.specs.Clients.{AreSeen, IsIdle}
use Rattle.open_calls.specs.declared.maint.MaintCall.{MaintCall}
use Rattle.open_calls.specs.Maint.{command_at, HasNoCommand, IsAskedBy, IsOfTurn, FitsMaint, AreMaint}
use Rattle.open_calls.proofs.Kept.{queued_answer, queued_mark}
use Rattle.open_calls.proofs.PartSteps.{asked_there, turn_of}
use Rattle.open_calls.proofs.Ends.{idle_left}
use Rattle.open_calls.proofs.Turns.{none_left, turn_ended}

-- ---- a call on the whole volume goes: it is done, given up or refused

module _ (s s2 : Snapshots) (streams : ℕ) (es : List Entry) (modes : List Mode) (ts : List Ticket) (cs : List OpenCall)
    (ns : List Node) (maint : List Ticket) (commands : List MaintCall) (i : ℕ) (op : WholeOp)
    (seen : AreSeen es cs) (paired : length cs ≡ length ts) (h : i < length ts) (is : (ticket_at ts i).kind ≡ kind.Whole)
    (asks : (open_at cs i).op ≡ Some op) (ok : AreMaint s streams es modes ts cs ns maint commands)
    (left : (j : ℕ) → j < length (remove ts i) → FitsMaint s2 modes ns maint commands (ticket_at (remove ts i) j)
    (open_at (remove cs i) j)) where
  abbrev fewer_tickets : List Ticket
  fewer_tickets = remove ts i

  abbrev fewer_calls : List OpenCall
  fewer_calls = remove cs i

  call_in : i < length cs
  call_in = omega (arith, h, paired)

  asked : IsAskedBy maint commands (open_at cs i).stream op
  asked = asked_there s modes ns maint commands (ticket_at ts i) (open_at cs i) op is asks (ok.fits i h)

  -- with a mark, the part of a purge
  pub marked_maint : (m : Mark) → AreMaint s2 streams (es ++ entry.Mark m ∷ []) modes fewer_tickets fewer_calls ns maint commands
  marked_maint m = record { queued = queued_mark streams es m maint commands ok.queued; fits = left }

  -- without an entry
  pub unmarked_maint : AreMaint s2 streams es modes fewer_tickets fewer_calls ns maint commands
  unmarked_maint = record { queued = ok.queued; fits = left }

  -- with its answer, a snapshot
  pub snapshot_answered : (name : List ℕ) (a : Answer) → op ≡ whole.Snapshot name → a.stream ≡ (open_at cs i).stream
      → AreMaint s2 streams (es ++ entry.Answer a ∷ []) modes fewer_tickets fewer_calls ns maint commands
  snapshot_answered name a same by =
      let none = (subst (IsAskedBy maint commands (open_at cs i).stream) same asked).1 in
      record {
        queued = queued_answer streams es a maint commands ok.queued (subst (λ n. HasNoCommand n commands) (sym by) none);
        fits =
            left;
      }

  -- with the answer of its command, which has had the turn
  pub turn_answered : (a : Answer) → IsOfTurn op → a.stream ≡ (open_at cs i).stream
      → AreMaint s2 streams (es ++ entry.Answer a ∷ []) modes fewer_tickets fewer_calls ns (remove maint 0)
      (remove commands 0)
  turn_answered a of by =
      let has = turn_of maint commands (open_at cs i).stream op of asked in
      let some : 0 < length maint = omega (arith, has.some, ok.queued.paired) in
      let ended = turn_ended s2 streams es modes fewer_tickets fewer_calls ns maint commands
      (omega (arith, paired, length-remove ts i h, length-remove cs i call_in)) some
      (subst (λ n. IsIdle n fewer_calls) (sym has.own) (idle_left es cs i seen call_in)) unmarked_maint in
      record {
        queued = queued_answer streams es a (remove maint 0) (remove commands 0) ended.queued
            (subst (λ n. HasNoCommand n (remove commands 0)) (has.own ∙ sym by) (none_left streams es maint commands 0 ok.queued some));
        fits = ended.fits;
      }

-- ---- a command goes whose stream has nothing open

module _ (s : Snapshots) (streams : ℕ) (es : List Entry) (modes : List Mode) (ts : List Ticket) (cs : List OpenCall)
    (ns : List Node) (maint : List Ticket) (commands : List MaintCall)
    (ok : AreMaint s streams es modes ts cs ns maint commands) where
  -- the one that has the turn is answered
  pub command_answered : (a : Answer) → length cs ≡ length ts → 0 < length maint → IsIdle (command_at commands 0).stream cs
      → a.stream ≡ (command_at commands 0).stream
      → AreMaint s streams (es ++ entry.Answer a ∷ []) modes ts cs ns (remove maint 0) (remove commands 0)
  command_answered a paired some idle by =
      let ended = turn_ended s streams es modes ts cs ns maint commands paired some idle ok in
      record {
        queued = queued_answer streams es a (remove maint 0) (remove commands 0) ended.queued
            (subst (λ n. HasNoCommand n (remove commands 0)) (sym by)
            (none_left streams es maint commands 0 ok.queued some));
        fits = ended.fits;
      }
