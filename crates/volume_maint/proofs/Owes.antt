-- What the steps on the whole volume and of folding owe to the other streams.
use Rattle.std.proofs.Common.{◌≡◌, ◌≢◌, ℕ, ◌+◌, Bool, true, List, [], ◌∷◌, ◌++◌, length, length-set, refl, sym, ap, subst, ◌∙◌, append-nil}
use Rattle.std.specs.Prelude.{Option, None, Some}
use Rattle.std.proofs.lemmas.List.{set-get_or}
use Rattle.volume_model.specs.declared.command.Command.TheVariants as command
use Rattle.volume_model.specs.declared.call.Call.TheVariants as call
use Rattle.volume_model.specs.declared.call.Refusal.TheVariants.{NoReplica}
use Rattle.volume_model.specs.declared.call.Reply.{Reply}
use Rattle.volume_model.specs.declared.call.Reply.TheVariants as reply
use Rattle.volume_model.specs.declared.entry.Entry.TheVariants as entry
use Rattle.volume_model.specs.declared.mark.FoldOrDrop.{FoldOrDrop}
use Rattle.volume_model.specs.declared.mark.Mark.TheVariants as mark
use Rattle.volume_model.specs.Modes.{source_of}
use Rattle.volume_model.proofs.SpotLemmas.{has_source, no_source}
use Rattle.journal_book.specs.Book.{Book}
use Rattle.range_turns.specs.Order.{ticket_at, StandsAt, with_started}
use Rattle.sparse_image.specs.Image.{Tables}
use Rattle.replica_node.specs.Fold.{page_folded}
use Rattle.replica_node.specs.Node.{Node}
use Rattle.replica_node.specs.Held.{emptied}
use Rattle.step_answers.specs.declared.whole_op.WholeOp.{WholeOp}
use Rattle.step_answers.specs.declared.whole_op.WholeOp.TheVariants as whole
use Rattle.volume_model.specs.Replay.{is_refusal}
use Rattle.step_answers.specs.Asked.{command_of}
use Rattle.open_calls.specs.Calls.{open_at, node_at, whole_call, no_call}
use Rattle.open_calls.specs.declared.whole.Whole.{Whole}
use Rattle.open_calls.specs.Due.{part_on}
use Rattle.open_calls.specs.Maint.{IsAskedBy}
use Rattle.open_calls.specs.Whole.{parted, part_acked}
use Rattle.open_rebuild.specs.declared.rebuilding.Rebuilding.{Rebuilding}
use Rattle.volume_core.specs.State.{State, modes_in, index_at, gave_up_at}
use Rattle.volume_core.specs.Steps.{without_call, answer_entry}
use Rattle.volume_core.specs.Sound.{IsSound}
use Rattle.volume_core.specs.Streams.{calls_in, running, turning, MayGo, origin_of}
use Rattle.volume_core.proofs.CallLemmas.{calls-push_other, calls-set_other, calls-remove_other}
use Rattle.volume_maint.specs.Steps.{whole_ticket, whole_enrolled, whole_begun, whole_parted, whole_acked}
use Rattle.volume_maint.specs.Steps.{without_whole, whole_ended, whole_marked, turn_over, barrier_name, barrier_begun}
use Rattle.volume_maint.specs.Steps.{barrier_ended, folded_on}
use Rattle.volume_maint.specs.Places.{ForCaller, IsWholeOn}
use Rattle.volume_maint.specs.Answers.{whole_done, whole_lost, BeginsWhole, EndsWhole}
use Rattle.volume_core.specs.Streams.{IsInTurn}
use Rattle.volume_core.proofs.InTurn.{not_in_turn}
use Rattle.volume_core.proofs.TurnLemmas.{commands-remove_other}
use Rattle.volume_maint.proofs.WholeAsked.{over_book}
use Rattle.volume_maint.proofs.WholeSound.{is_started, place_is}
use Rattle.volume_maint.proofs.Begins.{asked_op}

-- for the stream whose call has that ticket
pub for_caller : (s : State) (t i : ℕ) (fact : ℕ → Type 0) → StandsAt s.tickets t i → fact (open_at s.calls i).stream → ForCaller s t fact
for_caller s t i fact at is = λ j stands. subst (λ n. fact (open_at s.calls n).stream) (stands.only i at.within at.is) is

-- ---- on the replicas: they are no stream's, and as many

module _ (n : ℕ) (s s2 : State) (ok2 : IsSound s2) where
  nodes_go : (nodes : List Node) (o : Option Whole) → length nodes ≡ length s.nodes
      → s2 ≡ record s { nodes = nodes; whole = o } → MayGo n s s2
  nodes_go nodes o many is = record {
    sound = ok2;
    origin = ap origin_of is
        ∙ ap (λ k. record { first = s.first; opening = s.book.opening; size = s.size; streams = length s.indices; replicas = k })
        many;
    added = ([], ap (λ (x : State). x.book.entries) is ∙ sym (append-nil s.book.entries), tt);
    others = λ m other. ap (λ (x : State). running x m) is;
    turns = λ m other. ap (λ (x : State). turning x m) is;
    gave_up = λ m other. ap (λ (x : State). gave_up_at x.gave_up m) is;
    removes = λ m other turn name. tt;
  }

  pub parted_goes : (w : Whole) (r : ℕ) → s2 ≡ whole_parted s w r → MayGo n s s2
  parted_goes w r is = nodes_go (whole_parted s w r).nodes (Some (parted w r)) (length-set s.nodes r (part_on w.op (node_at s.nodes r))) is

  pub acked_goes : (w : Whole) (r : ℕ) → s2 ≡ whole_acked s w r → MayGo n s s2
  acked_goes w r is = nodes_go s.nodes (Some (part_acked w r)) refl is

  pub folded_goes : (r : ℕ) (p c : List ℕ) (page : ℕ) → s2 ≡ folded_on s r p c page → MayGo n s s2
  folded_goes r p c page is = nodes_go (folded_on s r p c page).nodes s.whole
      (length-set s.nodes r (page_folded (node_at s.nodes r) p c page)) is

-- ---- on the calls

module _ (s s2 : State) (ok : IsSound s) (ok2 : IsSound s2) where
  pub asked_goes : (number stream saw : ℕ) (op : WholeOp) → s2 ≡ whole_enrolled s number stream saw op → MayGo stream s s2
  asked_goes number stream saw op is = record {
    sound = ok2;
    origin = ap origin_of is;
    added = ([], ap (λ (x : State). x.book.entries) is ∙ sym (append-nil s.book.entries), tt);
    others = λ m other. ap (λ (x : State). running x m) is
        ∙ calls-push_other m s.tickets s.calls (whole_ticket number) (whole_call stream saw op) ok.on.clients.paired
        (λ e. other (sym e));
    turns = λ m other. ap (λ (x : State). turning x m) is;
    gave_up = λ m other. ap (λ (x : State). gave_up_at x.gave_up m) is;
    removes = λ m other turn name. tt;
  }

  module _ (i : ℕ) where
    -- the call at i is of no other
    without_others : (m : ℕ) → m ≢ (open_at s.calls i).stream → running (without_call s i) m ≡ running s m
    without_others m other = calls-remove_other m s.tickets s.calls i ok.on.clients.paired (λ e. other (sym e))

    start_others : (m : ℕ) → m ≢ (open_at s.calls i).stream → calls_in m (with_started s.tickets i) s.calls ≡ running s m
    start_others m other =
        ap (calls_in m (with_started s.tickets i)) (sym (set-get_or s.calls i no_call))
        ∙ calls-set_other m s.tickets s.calls i (record (ticket_at s.tickets i) { started = true }) (open_at s.calls i)
        (λ e. other (sym e)) (λ e. other (sym e))

    pub begun_goes : (op : WholeOp) (spares : List (Option Tables)) → s2 ≡ whole_begun s i op spares → MayGo (open_at s.calls i).stream s s2
    begun_goes op spares is = record {
      sound = ok2;
      origin = ap origin_of is;
      added = ([], ap (λ (x : State). x.book.entries) is ∙ sym (append-nil s.book.entries), tt);
      others = λ m other. ap (λ (x : State). running x m) is ∙ start_others m other;
      turns = λ m other. ap (λ (x : State). turning x m) is;
      gave_up = λ m other. ap (λ (x : State). gave_up_at x.gave_up m) is;
      removes = λ m other turn name. tt;
    }

    -- a barrier's mark is no stream's
    pub barrier_goes : (b : Rebuilding) (spares : List (Option Tables)) → s2 ≡ barrier_begun s i b spares
        → MayGo (open_at s.calls i).stream s s2
    barrier_goes b spares is = record {
      sound = ok2;
      origin = ap origin_of is
          ∙ ap (λ k. record { first = s.first; opening = s.book.opening; size = s.size; streams = length s.indices; replicas = k })
          (length-set s.nodes b.target (emptied (node_at s.nodes b.source)));
      added = (entry.Mark (mark.Added b.target b.source (barrier_name s b.source)) ∷ [], ap (λ (x : State). x.book.entries) is, (tt, tt));
      others = λ m other. ap (λ (x : State). running x m) is ∙ start_others m other;
      turns = λ m other. ap (λ (x : State). turning x m) is;
      gave_up = λ m other. ap (λ (x : State). gave_up_at x.gave_up m) is;
      removes = λ m other turn name. tt;
    }

    pub starts_goes : (op : WholeOp) → BeginsWhole s i op s2 → MayGo (open_at s.calls i).stream s s2
    starts_goes (whole.Snapshot name) y = begun_goes (whole.Snapshot name) y.0 y.2
    starts_goes (whole.Remove name) y = begun_goes (whole.Remove name) y.0 y.2
    starts_goes (whole.Revert name) y = begun_goes (whole.Revert name) y.0 y.2
    starts_goes (whole.Purge f) y = begun_goes (whole.Purge f) y.0 y.2
    starts_goes (whole.Barrier r) y = barrier_goes y.b y.spares y.state

    -- a call is taken back, or goes with nothing to mark; beside it the rebuild may be
    pub gone_goes : (o : Option Whole) (b : Option Rebuilding) → s2 ≡ record (without_call s i) { whole = o; rebuild = b }
        → MayGo (open_at s.calls i).stream s s2
    gone_goes o b is = record {
      sound = ok2;
      origin = ap origin_of is;
      added = ([], ap (λ (x : State). x.book.entries) is ∙ sym (append-nil s.book.entries), tt);
      others = λ m other. ap (λ (x : State). running x m) is ∙ without_others m other;
      turns = λ m other. ap (λ (x : State). turning x m) is;
      gave_up = λ m other. ap (λ (x : State). gave_up_at x.gave_up m) is;
      removes = λ m other turn name. tt;
    }

    pub marked_goes : (f : FoldOrDrop) → s2 ≡ whole_marked s i f → MayGo (open_at s.calls i).stream s s2
    marked_goes f is = record {
      sound = ok2;
      origin = ap origin_of is;
      added = (entry.Mark (mark.Purged f) ∷ [], ap (λ (x : State). x.book.entries) is, (tt, tt));
      others = λ m other. ap (λ (x : State). running x m) is ∙ without_others m other;
      turns = λ m other. ap (λ (x : State). turning x m) is;
      gave_up = λ m other. ap (λ (x : State). gave_up_at x.gave_up m) is;
      removes = λ m other turn name. tt;
    }

-- ---- with the turn

-- the turn over, the calls are as they were
over_running : (op : WholeOp) (s : State) (m : ℕ) → running (turn_over op s) m ≡ running s m
over_running (whole.Snapshot name) s m = refl
over_running (whole.Remove name) s m = refl
over_running (whole.Revert name) s m = refl
over_running (whole.Purge f) s m = refl
over_running (whole.Barrier r) s m = refl

over_origin : (op : WholeOp) (s : State) → origin_of (turn_over op s) ≡ origin_of s
over_origin (whole.Snapshot name) s = refl
over_origin (whole.Remove name) s = refl
over_origin (whole.Revert name) s = refl
over_origin (whole.Purge f) s = refl
over_origin (whole.Barrier r) s = refl

over_gave_up : (op : WholeOp) (s : State) → (turn_over op s).gave_up ≡ s.gave_up
over_gave_up (whole.Snapshot name) s = refl
over_gave_up (whole.Remove name) s = refl
over_gave_up (whole.Revert name) s = refl
over_gave_up (whole.Purge f) s = refl
over_gave_up (whole.Barrier r) s = refl

-- and the commands of the streams that did not ask it
over_turning : (op : WholeOp) (s : State) (n m : ℕ) → length s.commands ≡ length s.maint → IsAskedBy s.maint s.commands n op
    → m ≢ n → turning (turn_over op s) m ≡ turning s m
over_turning (whole.Snapshot name) s n m paired asked other = refl
over_turning (whole.Remove name) s n m paired asked other =
    commands-remove_other m s.maint s.commands 0 paired (λ e. other (sym e ∙ asked.own))
over_turning (whole.Revert name) s n m paired asked other =
    commands-remove_other m s.maint s.commands 0 paired (λ e. other (sym e ∙ asked.own))
over_turning (whole.Purge f) s n m paired asked other = commands-remove_other m s.maint s.commands 0 paired (λ e. other (sym e ∙ asked.own))
over_turning (whole.Barrier r) s n m paired asked other =
    commands-remove_other m s.maint s.commands 0 paired (λ e. other (sym e ∙ asked.own))

abbrev with_spare : State → ℕ → State
with_spare s spare = record s { book = record s.book { spare = spare } }

module _ (s s2 : State) (ok : IsSound s) (ok2 : IsSound s2) (i : ℕ) where
  -- it ends with the answer of its command, with places for so many entries
  -- a removal is of the stream whose command has the turn
  ended_removes : (op : WholeOp) (r : Reply) → IsAskedBy s.maint s.commands (open_at s.calls i).stream op
      → (other : ℕ) → other ≢ (open_at s.calls i).stream → IsInTurn other s → (name : List ℕ)
      → call.Command (command_of op) ≡ call.Command (command.Remove name) → is_refusal r ≡ true
  ended_removes (whole.Snapshot taken) r asked other apart turn name e = absurd cc
  ended_removes (whole.Remove gone) r asked other apart turn name e =
      absurd (not_in_turn s ok (open_at s.calls i).stream other asked.own apart turn)
  ended_removes (whole.Revert back) r asked other apart turn name e = absurd cc
  ended_removes (whole.Purge f) r asked other apart turn name e = absurd cc
  ended_removes (whole.Barrier q) r asked other apart turn name e = absurd cc

  pub ended_goes : (spare : ℕ) (op : WholeOp) (r : Reply) → IsAskedBy s.maint s.commands (open_at s.calls i).stream op
      → s2 ≡ whole_ended (with_spare s spare) i op r → MayGo (open_at s.calls i).stream s s2
  ended_goes spare op r asked is =
      let c = open_at s.calls i in
      let less : State = without_whole (with_spare s spare) i in
      let x : State = turn_over op less in
      let a = answer_entry x c.stream c.saw (call.Command (command_of op)) r in
      record {
        sound = ok2;
        origin = ap origin_of is
            ∙ ap (λ k. record { first = x.first; opening = x.book.opening; size = x.size; streams = k; replicas = length x.nodes })
            (length-set x.indices c.stream (index_at x.indices c.stream + 1))
            ∙ over_origin op less;
        added = (a ∷ [], ap (λ (y : State). y.book.entries) is ∙ ap (λ (b : Book). b.entries ++ a ∷ []) (over_book op less), (refl, tt));
        others = λ m other. ap (λ (y : State). running y m) is ∙ over_running op less m ∙ without_others s s2 ok ok2 i m other;
        turns = λ m other. ap (λ (y : State). turning y m) is ∙ over_turning op less c.stream m ok.maint.queued.paired asked other;
        gave_up = λ m other. ap (λ (y : State). gave_up_at y.gave_up m) is ∙ ap (λ (g : List Bool). gave_up_at g m) (over_gave_up op less);
        removes = λ m other turn name. (ended_removes op r asked m other turn name, tt);
      }

  -- as a replica is read
  done_goes : (op : WholeOp) → IsAskedBy s.maint s.commands (open_at s.calls i).stream op → s2 ≡ whole_done s i op
      → MayGo (open_at s.calls i).stream s s2
  done_goes (whole.Snapshot name) asked is = ended_goes s.book.spare (whole.Snapshot name) reply.Done asked is
  done_goes (whole.Remove name) asked is = ended_goes s.book.spare (whole.Remove name) reply.Done asked is
  done_goes (whole.Revert name) asked is = ended_goes s.book.spare (whole.Revert name) reply.Done asked is
  done_goes (whole.Purge f) asked is = marked_goes s s2 ok ok2 i f is
  done_goes (whole.Barrier r) asked is = gone_goes s s2 ok ok2 i None (barrier_ended s i).rebuild is

  -- or none is
  lost_goes : (op : WholeOp) → IsAskedBy s.maint s.commands (open_at s.calls i).stream op → s2 ≡ whole_lost s i op
      → MayGo (open_at s.calls i).stream s s2
  lost_goes (whole.Snapshot name) asked is = ended_goes s.book.spare (whole.Snapshot name) (reply.Refused NoReplica) asked is
  lost_goes (whole.Remove name) asked is = ended_goes s.book.spare (whole.Remove name) (reply.Refused NoReplica) asked is
  lost_goes (whole.Revert name) asked is = ended_goes s.book.spare (whole.Revert name) (reply.Refused NoReplica) asked is
  lost_goes (whole.Purge f) asked is = gone_goes s s2 ok ok2 i None s.rebuild is
  lost_goes (whole.Barrier r) asked is = gone_goes s s2 ok ok2 i None (barrier_ended s i).rebuild is

-- the started operation is asked by the stream of its call
started_asked : (s : State) (t i : ℕ) (w : Whole) → IsSound s → IsWholeOn s t w i
    → IsAskedBy s.maint s.commands (open_at s.calls i).stream w.op
started_asked s t i w ok at =
    let its = is_started s w ok at.is in
    subst (λ (k : ℕ). IsAskedBy s.maint s.commands (open_at s.calls k).stream w.op) (sym (place_is s w ok at.is t i at))
    (asked_op s its.place w.op ok its.stands.within its.kind its.op)

pub ends_goes : (s s2 : State) (t : ℕ) → IsSound s → IsSound s2 → EndsWhole s t s2 → ForCaller s t (λ n. MayGo n s s2)
ends_goes s s2 t ok ok2 ends = for_caller s t ends.i (λ n. MayGo n s s2) ends.at.stands (by (source_of (modes_in s)) refl)
  where
    asked : IsAskedBy s.maint s.commands (open_at s.calls ends.i).stream ends.w.op
    asked = started_asked s t ends.i ends.w ok ends.at

    by : (x : Option ℕ) → source_of (modes_in s) ≡ x → MayGo (open_at s.calls ends.i).stream s s2
    by (Some q) e = done_goes s s2 ok ok2 ends.i ends.w.op asked (ends.done (has_source (modes_in s) q e))
    by None e = lost_goes s s2 ok ok2 ends.i ends.w.op asked (ends.lost (no_source (modes_in s) e))
