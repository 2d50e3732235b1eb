-- A command is answered as one worker answers it there, where no line failed.
use Rattle.std.proofs.Common.{◌≡◌, ℕ, inr, true, List, [], ◌∷◌, ◌++◌, Option, Some, None, IfSome, subst, sym, refl, ap, ◌∙◌}
use Rattle.std.specs.Prelude.{All}
use Rattle.std.specs.Option.{option_map, option_or}
use Rattle.volume_model.specs.declared.call.Call.{Call}
use Rattle.volume_model.specs.declared.call.Call.TheVariants as call
use Rattle.volume_model.specs.declared.call.Refusal.{Refusal}
use Rattle.volume_model.specs.declared.call.Reply.{Reply}
use Rattle.volume_model.specs.declared.call.Reply.TheVariants as reply
use Rattle.volume_model.specs.declared.entry.Answer.{Answer}
use Rattle.volume_model.specs.declared.entry.Entry.{Entry}
use Rattle.volume_model.specs.declared.entry.Entry.TheVariants as entry
use Rattle.volume_model.specs.History.{Spot}
use Rattle.volume_model.specs.Modes.{source_of}
use Rattle.volume_model.specs.OneWorker.{want_of_replica, refused_at, marks_unless, marks_before, reply_for, entries_at}
use Rattle.volume_model.specs.PlainStep.{refusal_of}
use Rattle.volume_model.proofs.SpotLemmas.{source_is}
use Rattle.step_answers.specs.declared.whole_op.WholeOp.{WholeOp}
use Rattle.step_answers.specs.declared.whole_op.WholeOp.TheVariants as whole
use Rattle.step_answers.specs.Asked.{command_of}
use Rattle.volume_model.specs.declared.command.Command.{Command}
use Rattle.volume_model.specs.declared.command.Command.TheVariants as command
use Rattle.stream_steps.specs.Mine.{Mine, OwnCall, Log, with_entries, with_more, with_running, longer, length_of, log_length, answer_placed}
use Rattle.stream_steps.specs.Steps.{AreMarks, IsAtOnce, IsCommandAt, CommandsTo}
use Rattle.stream_steps.specs.Maint.{HasWhole, StartsWhole, EndsWhole, WholeEnds, IsWholeReply}
use Rattle.stream_steps.proofs.MineLemmas.{entries_twice, longer_none}
use Rattle.control_worker.specs.Purges.{MayComeBefore, AreFalls}
use Rattle.control_worker.specs.Serving.{GrewByCommand, IsCommandBy}
use Rattle.control_worker.specs.Store.{IsNoBackup}
use Rattle.control_worker.specs.Whole.{RefusedWhole, EndsBehind, AnswersCall, IsNoPart, reply_at}
use Rattle.control_worker.proofs.Goes.{comes, falls_none, none_come}
use Rattle.control_worker.proofs.OwnAnswers.{has_both, has_last}

-- ---- marks

-- marks that are no faults may come
pub marks_come : (stream : ℕ) (es : List Entry) → AreMarks es → All (MayComeBefore stream) es
marks_come stream [] are = none_come stream
marks_come stream (entry.Answer a ∷ es) are = absurd are
marks_come stream (entry.Mark m ∷ es) are = comes stream (entry.Mark m) es (inr are.0) (marks_come stream es are.1)

-- ---- what is answered

none_behind : (x y : Option Refusal) → option_or x y ≡ None → y ≡ None
none_behind None y e = e
none_behind (Some w) y e = absurd cc

source_there : (source : Option ℕ) → want_of_replica true source ≡ None → (s : ℕ) × (source ≡ Some s)
source_there None e = absurd cc
source_there (Some s) e = (s, refl)

-- where a replica is read and written, what is done to the whole volume is done
done_where : (spot : Spot) (why : Option Refusal) (r : Reply)
    → option_or why (want_of_replica true (source_of spot.modes)) ≡ None → IsWholeReply spot.modes r → r ≡ reply.Done
done_where spot why reply.Done free right = refl
done_where spot why (reply.Refused x) free right =
    let s = source_there (source_of spot.modes) (none_behind why (want_of_replica true (source_of spot.modes)) free) in
    absurd (right.1 s.0 (source_is spot.modes s.0 s.1).read)
done_where spot why (reply.Read bytes) free right = absurd right
done_where spot why (reply.Status layers modes) free right = absurd right
done_where spot why (reply.Aborted place) free right = absurd right

pub whole_reply : (op : WholeOp) → IsNoPart op → (spot : Spot) (r : Reply)
    → refused_at spot (call.Command (command_of op)) ≡ None → IsWholeReply spot.modes r
    → r ≡ reply_at spot (call.Command (command_of op))
whole_reply (whole.Snapshot name) n spot r free right =
    done_where spot (refusal_of spot.modes spot.state (call.Command (command_of (whole.Snapshot name)))) r free right
    ∙ sym (ap (λ w. reply_for w spot (call.Command (command_of (whole.Snapshot name)))) free)
whole_reply (whole.Remove name) n spot r free right =
    done_where spot (refusal_of spot.modes spot.state (call.Command (command_of (whole.Remove name)))) r free right
    ∙ sym (ap (λ w. reply_for w spot (call.Command (command_of (whole.Remove name)))) free)
whole_reply (whole.Revert name) n spot r free right =
    done_where spot (refusal_of spot.modes spot.state (call.Command (command_of (whole.Revert name)))) r free right
    ∙ sym (ap (λ w. reply_for w spot (call.Command (command_of (whole.Revert name)))) free)
whole_reply (whole.Purge f) n spot r free right = absurd n
whole_reply (whole.Barrier q) n spot r free right = absurd n

-- ---- the open call

-- it is refused
pub refused_call : (o : OwnCall) (a b : Mine) → RefusedWhole o a b → AnswersCall o a b
refused_call o a b s = record {
  ends = record {
    own = [];
    marks = [];
    falls = falls_none a.stream;
    same = refl;
    spot = s.answers.spot;
    answer = s.answers.answer;
    is = s.answers.is;
    call = s.answers.call;
    by = s.answers.by;
    saw = s.answers.saw;
  };
  right = at a.log s.right;
}
  where
    at : (log : Option Log) → IfSome log (λ l. refused_at l.spot o.call ≡ Some s.why)
        → IfSome log (λ l. AreMarks [] → s.answers.answer.reply ≡ reply_at l.spot o.call)
    at None h = tt
    at (Some l) h = λ are. s.answers.reply ∙ sym (ap (λ w. reply_for w l.spot o.call) h)

-- its end, of one that is no part of a purge
ends_whole : (op : WholeOp) → IsNoPart op → (turn : List OwnCall) (o : OwnCall) (a b : Mine) → WholeEnds op turn o a b → EndsWhole o a b
ends_whole (whole.Snapshot name) n turn o a b h = h
ends_whole (whole.Remove name) n turn o a b h = h
ends_whole (whole.Revert name) n turn o a b h = h
ends_whole (whole.Purge f) n turn o a b h = absurd n
ends_whole (whole.Barrier r) n turn o a b h = absurd n

right_of : (stream : ℕ) (op : WholeOp) (n : IsNoPart op) (c : Call) (r said : Reply) (marks : List Entry)
    (log mid : Option Log) → c ≡ call.Command (command_of op) → AreFalls stream marks → mid ≡ longer log marks
    → IfSome log (λ l. refused_at l.spot c ≡ None) → said ≡ r → IfSome mid (λ l. IsWholeReply l.spot.modes r)
    → IfSome log (λ l. AreMarks marks → said ≡ reply_at l.spot c)
right_of stream op n c r said marks None mid is falls more free says right = tt
right_of stream op n c r said marks (Some l) mid is falls more free says right = λ are.
    let same : mid ≡ Some l = more ∙ ap (longer (Some l)) (falls.none are) ∙ longer_none (Some l) in
    let here : IsWholeReply l.spot.modes r = subst (λ x. IfSome x (λ (y : Log). IsWholeReply y.spot.modes r)) same right in
    says ∙ whole_reply op n l.spot r (subst (λ x. refused_at l.spot x ≡ None) is free) here ∙ sym (ap (reply_at l.spot) is)

-- it started, and ended behind faults
pub started_call : (t : ℕ) (op : WholeOp) → IsNoPart op → (turn : List OwnCall) (o : OwnCall) (a b c : Mine)
    → HasWhole t op turn o a → (s : StartsWhole turn o a b) → EndsBehind op turn s.own b c → AnswersCall o a c
started_call t op n turn o a b c h s e =
    let end = ends_whole op n turn (record s.own { parts = e.parts }) e.mid c e.ends in
    let w = end.answers in
    let g = e.goes in
    let os = turn ++ record s.own { parts = e.parts } ∷ [] in
    let mid : e.mid ≡ with_entries a g.own g.marks os = g.is ∙ ap (λ (m : Mine). with_entries m g.own g.marks os) s.is in
    let stream : b.stream ≡ a.stream = ap (λ (m : Mine). m.stream) s.is in
    let falls : AreFalls a.stream g.marks = subst (λ k. AreFalls k g.marks) stream g.falls in
    record {
      ends = record {
        own = g.own;
        marks = g.marks;
        falls = falls;
        same = g.same;
        spot = w.spot;
        answer = w.answer;
        is = w.is ∙ ap (λ (m : Mine). with_more m (answer_placed w.spot w.answer ∷ []) []) mid
            ∙ entries_twice a g.own (answer_placed w.spot w.answer ∷ []) g.marks (entry.Answer w.answer ∷ []) os [];
        call = w.call ∙ ap (λ (x : OwnCall). x.call) s.same;
        by = w.by ∙ ap (λ (m : Mine). m.stream) mid;
        saw = w.saw ∙ ap (λ (x : OwnCall). x.saw) s.same;
      };
      right = right_of a.stream op n o.call end.reply w.answer.reply g.marks a.log e.mid.log h.call falls
          (ap (λ (m : Mine). m.log) mid) s.free w.reply end.right;
    }

-- ---- a command

-- what one worker makes of it
pub command_at : (spot : Spot) (stream place : ℕ) (c : Call) (marks : List Entry) (a : Answer) → marks_before spot c ≡ marks
    → a.call ≡ c → a.reply ≡ reply_at spot c → a.saw ≡ place → a.stream ≡ stream
    → marks ++ entry.Answer a ∷ [] ≡ entries_at spot stream place a.index c
command_at spot stream place c marks a are is says saw by =
    λ i. sym are i ++ entry.Answer (record { call = is i; reply = says i; index = a.index; saw = saw i; stream = by i }) ∷ []

no_marks_of : (op : WholeOp) → IsNoPart op → (why : Option Refusal) (spot : Spot)
    → marks_unless why spot (call.Command (command_of op)) ≡ []
no_marks_of op n (Some w) spot = refl
no_marks_of (whole.Snapshot name) n None spot = refl
no_marks_of (whole.Remove name) n None spot = refl
no_marks_of (whole.Revert name) n None spot = refl
no_marks_of (whole.Purge f) n None spot = absurd n
no_marks_of (whole.Barrier r) n None spot = absurd n

pub known : (log : Option Log) (k n : ℕ) → n ≡ k → IfSome (option_map length_of log) (λ p. k ≡ p) → IfSome log (λ l. n ≡ length_of l)
known None k n e h = tt
known (Some l) k n e h = e ∙ h

-- a command that is no backup has the entries that one worker makes of it, whatever a store tells
pub by_at : (stream : ℕ) (c : Command) (es : List Entry) (a : Answer) (l : Log) → IsNoBackup c → IsCommandAt stream c es a l
    → IsCommandBy stream c es a l
by_at stream (command.Snapshot name) es a l none at = at
by_at stream (command.Remove name) es a l none at = at
by_at stream (command.Revert name) es a l none at = at
by_at stream command.Purge es a l none at = at
by_at stream command.Status es a l none at = at
by_at stream (command.Fail r) es a l none at = at
by_at stream (command.Add r) es a l none at = at
by_at stream (command.Backup backup snapshot) es a l none at = absurd none

whole_no_backup : (op : WholeOp) → IsNoBackup (command_of op)
whole_no_backup (whole.Snapshot name) = tt
whole_no_backup (whole.Remove name) = tt
whole_no_backup (whole.Revert name) = tt
whole_no_backup (whole.Purge f) = tt
whole_no_backup (whole.Barrier r) = tt

at_once_no_backup : (c : Command) → IsAtOnce c → IsNoBackup c
at_once_no_backup (command.Fail r) is = tt
at_once_no_backup command.Status is = tt
at_once_no_backup (command.Backup backup snapshot) is = absurd is
at_once_no_backup (command.Snapshot name) is = absurd is
at_once_no_backup (command.Remove name) is = absurd is
at_once_no_backup (command.Revert name) is = absurd is
at_once_no_backup command.Purge is = absurd is
at_once_no_backup (command.Add r) is = absurd is

turn_of : (stream : ℕ) (op : WholeOp) (n : IsNoPart op) (oc : Call) (marks : List Entry) (a : Answer) (log : Option Log)
    → AreFalls stream marks → oc ≡ call.Command (command_of op) → a.call ≡ oc → a.stream ≡ stream
    → IfSome log (λ l. a.saw ≡ length_of l) → IfSome log (λ l. AreMarks marks → a.reply ≡ reply_at l.spot oc)
    → IfSome log (λ l. AreMarks marks → IsCommandBy stream (command_of op) (marks ++ entry.Answer a ∷ []) a l)
turn_of stream op n oc marks a None falls same is by saw right = tt
turn_of stream op n oc marks a (Some l) falls same is by saw right = λ are.
    let c = call.Command (command_of op) in
    by_at stream (command_of op) (marks ++ entry.Answer a ∷ []) a l (whole_no_backup op)
    (command_at l.spot stream (length_of l) c marks a (no_marks_of op n (refused_at l.spot c) l.spot ∙ sym (falls.none are)) (is ∙ same)
    (right are ∙ ap (reply_at l.spot) same) saw by)

-- an enrolled call that is answered, with these calls open before
pub grew_call : (op : WholeOp) → IsNoPart op → (p : OwnCall) (os : List OwnCall) (a b c : Mine) → b ≡ with_running a os
    → p.call ≡ call.Command (command_of op)
    → IfSome (log_length a) (λ place. p.saw ≡ place) → AnswersCall p b c → GrewByCommand (command_of op) a c
grew_call op n p os a b c e is saw s =
    let d = s.ends in
    let falls : AreFalls a.stream d.marks = subst (λ k. AreFalls k d.marks) (ap (λ (m : Mine). m.stream) e) d.falls in
    let log : b.log ≡ a.log = ap (λ (m : Mine). m.log) e in
    let stream : d.answer.stream ≡ a.stream = d.by ∙ ap (λ (m : Mine). m.stream) e in
    let seen : IfSome a.log (λ l. d.answer.saw ≡ length_of l) = known a.log p.saw d.answer.saw d.saw saw in
    let own = d.own ++ answer_placed d.spot d.answer ∷ [] in
    let all = d.marks ++ entry.Answer d.answer ∷ [] in
    record {
      own = own;
      all = all;
      is = d.is ∙ ap (λ (m : Mine). with_entries m own all []) e;
      same = has_both d.own (answer_placed d.spot d.answer ∷ []) d.marks (entry.Answer d.answer ∷ []) d.same refl;
      done = record {
        marks = d.marks;
        answer = d.answer;
        is = refl;
        are = falls.come;
        call = d.call ∙ is;
        by = stream;
        saw = seen;
        turn = turn_of a.stream op n p.call d.marks d.answer a.log falls is d.call stream seen
            (subst (λ x. IfSome x (λ (l : Log). AreMarks d.marks → d.answer.reply ≡ reply_at l.spot p.call)) log s.right);
      };
    }

-- one that is answered at once
pub grew_now : (c : Command) (a b : Mine) → IsAtOnce c → CommandsTo c a b → GrewByCommand c a b
grew_now c a b once s = record {
  own = answer_placed s.spot s.answer ∷ [];
  all = s.marks ++ entry.Answer s.answer ∷ [];
  is = s.is;
  same = has_last a.stream s.spot s.answer s.marks (marks_come a.stream s.marks s.are);
  done = record {
    marks = s.marks;
    answer = s.answer;
    is = refl;
    are = marks_come a.stream s.marks s.are;
    call = s.call;
    by = s.by;
    saw = s.saw;
    turn = at a.log s.turn;
  };
}
  where
    at : (log : Option Log) → IfSome log (IsCommandAt a.stream c (s.marks ++ entry.Answer s.answer ∷ []) s.answer)
        → IfSome log (λ l. AreMarks s.marks → IsCommandBy a.stream c (s.marks ++ entry.Answer s.answer ∷ []) s.answer l)
    at None h = tt
    at (Some l) h = λ are. by_at a.stream c (s.marks ++ entry.Answer s.answer ∷ []) s.answer l (at_once_no_backup c once) h
