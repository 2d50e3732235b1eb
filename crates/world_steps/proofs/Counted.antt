-- What a step on the whole volume leaves of what other streams' commands count on: the rebuild that is open stays, or the
-- stream has the turn itself, so that no other has.
use Rattle.std.proofs.Common.{◌≡◌, ℕ, ◌+◌, ◌<◌, Bool, true, false, cond, List, length, set, Option, Some, None}
use Rattle.std.proofs.Common.{Result, Ok, OnOk, OnErr, IfOk, refl, sym, ap, ◌∙◌, subst, arith}
use Rattle.std.proofs.Common.{Err as Failed}
use Rattle.std.specs.Prelude.{Contains}
use Rattle.std.specs.Str.{bytes_eq}
use Rattle.std.proofs.lemmas.Bool.{false_from_ne_true}
use Rattle.std.proofs.lemmas.Slice.Eq.{bytes_eq-Decides}
use Rattle.volume_model.specs.declared.command.Command.{Command}
use Rattle.volume_model.specs.declared.call.Reply.{Reply}
use Rattle.volume_model.specs.declared.call.Reply.TheVariants as reply
use Rattle.volume_model.specs.declared.call.Refusal.TheVariants.{NoReplica}
use Rattle.volume_model.specs.Modes.{source_of}
use Rattle.volume_model.proofs.SpotLemmas.{has_source, no_source}
use Rattle.replica_node.specs.Node.{Node, blank, snapped_node}
use Rattle.replica_node.specs.Room.{head_block}
use Rattle.replica_node.specs.Held.{block_named}
use Rattle.step_answers.specs.declared.whole_op.WholeOp.{WholeOp}
use Rattle.step_answers.specs.declared.whole_op.WholeOp.TheVariants as whole
use Rattle.open_calls.specs.Calls.{node_at}
use Rattle.open_calls.proofs.ListLemmas.{at_set}
use Rattle.open_calls.proofs.PartLemmas.{up_in}
use Rattle.open_calls.specs.declared.whole.Whole.{Whole}
use Rattle.open_calls.specs.Due.{part_on}
use Rattle.open_calls.specs.Maint.{IsAskedBy}
use Rattle.open_calls.proofs.Forms.{length-forms}
use Rattle.open_rebuild.specs.declared.rebuilding.Rebuilding.{Rebuilding}
use Rattle.open_rebuild.specs.Claim.{IsBesideStarted, IsBesideThese, IsRebuilding}
use Rattle.volume_core.specs.State.{State, modes_in}
use Rattle.volume_core.specs.Steps.{without_call}
use Rattle.volume_core.specs.Sound.{IsSound}
use Rattle.step_answers.specs.declared.answers.AdmitWhole.{AdmitWhole}
use Rattle.step_answers.specs.declared.answers.AdmitWhole.TheVariants as admit
use Rattle.volume_maint.specs.Steps.{whole_parted, whole_ended}
use Rattle.volume_maint.specs.Answers as world
use Rattle.volume_maint.specs.Answers.{whole_done, whole_lost}
use Rattle.volume_maint.specs.Places as place
use Rattle.world_holder.specs.Counted.{AreOthersCounted}
use Rattle.world_holder.proofs.CountedLemmas.{kept_pages, kept_same, others_kept, own_turn}
use Rattle.stream_steps.specs.Mine.{OwnCall}
use Rattle.stream_steps.specs.Maint.{HasTurn}
use Rattle.world_holder.specs.View.{view}
use Rattle.world_steps.proofs.Shapes.{HasCall, has_call}
use Rattle.world_steps.proofs.Turns.{turn_stream}
use Rattle.world_steps.proofs.Wholes.{HasSome, same_op, whole_op}

module _ (a : Bool) where
  -- ---- nothing of it changes

  pub counted_same : (n : ℕ) (s s2 : State) → s2 ≡ s → AreOthersCounted n s s2
  counted_same n s s2 e =
      others_kept n s s2 (kept_same s s2 (ap (λ (x : State). x.rebuild) e) (ap (λ (x : State). x.ended) e)
      (ap (λ (x : State). x.nodes) e))

  -- the World becomes one that has the rebuild and the replicas of s
  counted_by : (n : ℕ) (s s2 x : State) → s2 ≡ x → x.rebuild ≡ s.rebuild → x.ended ≡ s.ended → x.nodes ≡ s.nodes → AreOthersCounted n s s2
  counted_by n s s2 x e rebuild ended nodes =
      others_kept n s s2 (kept_same s s2 (ap (λ (x : State). x.rebuild) e ∙ rebuild) (ap (λ (x : State). x.ended) e ∙ ended)
      (ap (λ (x : State). x.nodes) e ∙ nodes))

  -- ---- its own turn

  module _ (n t : ℕ) (s s2 : State) (ok : IsSound s) where
    pub counted_turn : (c : Command) (o : OwnCall) → HasTurn t c o (view a n s) → AreOthersCounted n s s2
    counted_turn c o h = own_turn n s s2 ok (turn_stream a n t s ok c o h)

    pub counted_turn_of : (c : Command) → ((o : OwnCall) × HasTurn t c o (view a n s)) → AreOthersCounted n s s2
    counted_turn_of c h = counted_turn c h.0 h.1

  -- ---- the whole volume

  pub counted_snapshot : {E : Type 0} (n : ℕ) (op : WholeOp) (s s2 : State) (res : Result ℕ E)
      → IfOk res (λ k. world.EnrolsWhole s n op (Some k) s2) → OnErr res (s2 ≡ s) → AreOthersCounted n s s2
  counted_snapshot n op s s2 (Ok k) x err =
      others_kept n s s2 (kept_same s s2 (ap (λ (z : State). z.rebuild) x.1) (ap (λ (z : State). z.ended) x.1)
      (ap (λ (z : State). z.nodes) x.1))
  counted_snapshot n op s s2 (Failed e) x err = counted_same n s s2 err

  pub counted_withdrawn : (n t : ℕ) (s s2 : State) → (i : ℕ) × place.AwaitsWhole s t i × (s2 ≡ without_call s i) → AreOthersCounted n s s2
  counted_withdrawn n t s s2 y = counted_by n s s2 (without_call s y.0) y.2 refl refl refl

  -- an operation that ends with its answer
  counted_ended : (n : ℕ) (s s1 s2 : State) (i : ℕ) (op : WholeOp) (y : Reply) → s1.rebuild ≡ s.rebuild → s1.ended ≡ s.ended
      → s1.nodes ≡ s.nodes → s2 ≡ whole_ended s1 i op y → AreOthersCounted n s s2
  counted_ended n s s1 s2 i (whole.Snapshot name) y rebuild ended nodes e =
      counted_by n s s2 (whole_ended s1 i (whole.Snapshot name) y) e rebuild ended nodes
  counted_ended n s s1 s2 i (whole.Remove name) y rebuild ended nodes e =
      counted_by n s s2 (whole_ended s1 i (whole.Remove name) y) e rebuild ended nodes
  counted_ended n s s1 s2 i (whole.Revert name) y rebuild ended nodes e =
      counted_by n s s2 (whole_ended s1 i (whole.Revert name) y) e rebuild ended nodes
  counted_ended n s s1 s2 i (whole.Purge f) y rebuild ended nodes e =
      counted_by n s s2 (whole_ended s1 i (whole.Purge f) y) e rebuild ended nodes
  counted_ended n s s1 s2 i (whole.Barrier r) y rebuild ended nodes e =
      counted_by n s s2 (whole_ended s1 i (whole.Barrier r) y) e rebuild ended nodes

  unlike_bytes : (n m : List ℕ) → (n ≡ m → ⊥) → bytes_eq n m ≡ false
  unlike_bytes n m apart = false_from_ne_true (bytes_eq n m) (λ t. apart ((bytes_eq-Decides n m).0 t))

  -- a page of another layer is not changed by a snapshot
  snapped_block : (node : Node) (name other : List ℕ) (block : ℕ) → (other ≡ name → ⊥)
      → block_named (snapped_node node name).layers other block ≡ block_named node.layers other block
  snapped_block node name other block apart =
      ap (λ (b : Bool). cond b (head_block node block) (block_named node.layers other block)) (unlike_bytes other name apart)

  -- nor on any replica by one that takes its part
  parted_block : (ns : List Node) (r q : ℕ) (name other : List ℕ) (block : ℕ) → r < length ns → (other ≡ name → ⊥)
      → block_named (node_at (set ns r (snapped_node (node_at ns r) name)) q).layers other block ≡ block_named
      (node_at ns q).layers other block
  parted_block ns r q name other block within apart =
      at_set (λ (x : Node). block_named x.layers other block ≡ block_named (node_at ns q).layers other block) ns r q
      (snapped_node (node_at ns r) name) (blank 0) within
      (λ same. snapped_block (node_at ns r) name other block apart ∙ ap (λ k. block_named (node_at ns k).layers other block) (sym same))
      (λ not. refl)

  module _ (n t : ℕ) (s s2 : State) (ok : IsSound s) where
    node_there : (r : ℕ) → r < length (modes_in s) → r < length s.nodes
    node_there r h = omega (arith, h, ok.on.clients.agree.as_many, length-forms s.whole s.nodes)

    -- the layers that a rebuild copies have other names than a snapshot beside it
    unlike : (b : Rebuilding) (w : Whole) (name other : List ℕ) → s.rebuild ≡ Some b → b.may_copy ≡ true → s.whole ≡ Some w
        → w.op ≡ whole.Snapshot name → Contains b.frozen other → other ≡ name → ⊥
    unlike b w name other begun may is op there same =
        let claim = subst (λ x. IsRebuilding s.size (modes_in s) s.tickets s.calls s.whole s.nodes x) begun ok.rebuild in
        let beside : IsBesideThese b.frozen w.op = subst (IsBesideStarted b) is (claim.claim.beside may) in
        subst (IsBesideThese b.frozen) op beside (subst (Contains b.frozen) same there)

    module _ (op : WholeOp) (turn : List OwnCall) (o : OwnCall) (x : HasCall a n s t op turn o) where
      -- the operation is the stream's, and so is the turn unless it is a snapshot
      asked_as : (p : WholeOp) → p ≡ op → IsAskedBy s.maint s.commands n p
      asked_as p e = subst (IsAskedBy s.maint s.commands n) (sym e) x.asked

      starts_counted : (i : ℕ) (p : WholeOp) → p ≡ op → world.BeginsWhole s i p s2 → AreOthersCounted n s s2
      starts_counted i (whole.Snapshot name) e y =
          others_kept n s s2 (kept_same s s2 (ap (λ (z : State). z.rebuild) y.2) (ap (λ (z : State). z.ended) y.2)
          (ap (λ (z : State). z.nodes) y.2))
      starts_counted i (whole.Remove name) e y = own_turn n s s2 ok (asked_as (whole.Remove name) e).own
      starts_counted i (whole.Revert name) e y = own_turn n s s2 ok (asked_as (whole.Revert name) e).own
      starts_counted i (whole.Purge f) e y = own_turn n s s2 ok (asked_as (whole.Purge f) e).own
      starts_counted i (whole.Barrier r) e y = own_turn n s s2 ok (asked_as (whole.Barrier r) e).own

      parts_counted : (w : Whole) (r : ℕ) (p : WholeOp) → w.op ≡ p → p ≡ op → s.whole ≡ Some w → r < length s.nodes
          → s2 ≡ whole_parted s w r → AreOthersCounted n s s2
      parts_counted w r (whole.Snapshot name) is e kept within f =
          others_kept n s s2 (kept_pages s s2 (ap (λ (z : State). z.rebuild) f) (ap (λ (z : State). z.ended) f)
          (λ b begun may other block there.
          ap (λ (z : State). block_named (node_at z.nodes b.source).layers other block) f
          ∙ ap (λ (q : WholeOp). block_named (node_at (set s.nodes r (part_on q (node_at s.nodes r))) b.source).layers other block) is
          ∙ parted_block s.nodes r b.source name other block within (unlike b w name other begun may kept is there)))
      parts_counted w r (whole.Remove name) is e kept within f = own_turn n s s2 ok (asked_as (whole.Remove name) e).own
      parts_counted w r (whole.Revert name) is e kept within f = own_turn n s s2 ok (asked_as (whole.Revert name) e).own
      parts_counted w r (whole.Purge f2) is e kept within f = own_turn n s s2 ok (asked_as (whole.Purge f2) e).own
      parts_counted w r (whole.Barrier q) is e kept within f = own_turn n s s2 ok (asked_as (whole.Barrier q) e).own

      done_counted : (i : ℕ) (p : WholeOp) → p ≡ op → s2 ≡ whole_done s i p → AreOthersCounted n s s2
      done_counted i (whole.Snapshot name) e f = counted_ended n s s s2 i (whole.Snapshot name) reply.Done refl refl refl f
      done_counted i (whole.Remove name) e f = own_turn n s s2 ok (asked_as (whole.Remove name) e).own
      done_counted i (whole.Revert name) e f = own_turn n s s2 ok (asked_as (whole.Revert name) e).own
      done_counted i (whole.Purge g) e f = own_turn n s s2 ok (asked_as (whole.Purge g) e).own
      done_counted i (whole.Barrier r) e f = own_turn n s s2 ok (asked_as (whole.Barrier r) e).own

      lost_counted : (i : ℕ) (p : WholeOp) → p ≡ op → s2 ≡ whole_lost s i p → AreOthersCounted n s s2
      lost_counted i (whole.Snapshot name) e f = counted_ended n s s s2 i (whole.Snapshot name) (reply.Refused NoReplica) refl refl refl f
      lost_counted i (whole.Remove name) e f = own_turn n s s2 ok (asked_as (whole.Remove name) e).own
      lost_counted i (whole.Revert name) e f = own_turn n s s2 ok (asked_as (whole.Revert name) e).own
      lost_counted i (whole.Purge g) e f = own_turn n s s2 ok (asked_as (whole.Purge g) e).own
      lost_counted i (whole.Barrier r) e f = own_turn n s s2 ok (asked_as (whole.Barrier r) e).own

    -- it starts, or is refused, or waits
    admit_counted : (ans : AdmitWhole) → world.AdmitsWhole s t ans s2 → HasSome t (view a n s) → AreOthersCounted n s s2
    admit_counted admit.Go y w =
        let x = has_call a n s t w.0 w.1 w.2 ok w.3 in
        starts_counted w.0 w.1 w.2 x y.0 y.1 (same_op a n s t w.0 w.1 w.2 x y.0 y.1 y.2.awaits.stands y.2.asks) y.5
    admit_counted (admit.After number) y w = counted_same n s s2 y.3
    admit_counted admit.Never y w = counted_same n s s2 y.4
    admit_counted (admit.Refused why at) y w =
        counted_ended n s (record s { book = record s.book { spare = s.book.spare + 1 } }) s2 y.0 y.1 (reply.Refused why) refl
        refl refl y.6

    pub counted_admit : {E : Type 0} (res : Result AdmitWhole E) → IfOk res (λ ans. world.AdmitsWhole s t ans s2)
        → OnErr res (s2 ≡ s) → HasSome t (view a n s) → AreOthersCounted n s s2
    counted_admit (Ok ans) y err w = admit_counted ans y w
    counted_admit (Failed e) y err w = counted_same n s s2 err

    -- a replica takes its part, and acknowledges it
    pub counted_part : {E : Type 0} (q : ℕ) (res : Result (Unit {0}) E) → OnOk res (world.TakesPart s t q s2)
        → OnErr res (s2 ≡ s) → HasSome t (view a n s) → AreOthersCounted n s s2
    counted_part q (Ok u) y err w =
        let x = has_call a n s t w.0 w.1 w.2 ok w.3 in
        parts_counted w.0 w.1 w.2 x y.w q y.w.op refl (whole_op a n s t w.0 w.1 w.2 x ok y.w y.at.is y.at.number) y.at.is
        (node_there q (up_in (modes_in s) q y.up)) y.state
    counted_part q (Failed e) y err w = counted_same n s s2 err

    pub counted_ack : {E : Type 0} (q : ℕ) (res : Result (Unit {0}) E) → OnOk res (world.AcksPart s t q s2)
        → OnErr res (s2 ≡ s) → AreOthersCounted n s s2
    counted_ack q (Ok u) y err =
        others_kept n s s2 (kept_same s s2 (ap (λ (z : State). z.rebuild) y.state) (ap (λ (z : State). z.ended) y.state)
        (ap (λ (z : State). z.nodes) y.state))
    counted_ack q (Failed e) y err = counted_same n s s2 err

    -- it ends
    ends_counted : world.EndsWhole s t s2 → (w : HasSome t (view a n s)) → (v : Option ℕ) → source_of (modes_in s) ≡ v
        → AreOthersCounted n s s2
    ends_counted y w (Some q) e =
        let x = has_call a n s t w.0 w.1 w.2 ok w.3 in
        let same = whole_op a n s t w.0 w.1 w.2 x ok y.w y.at.is y.at.number in
        done_counted w.0 w.1 w.2 x y.i y.w.op same (y.done (has_source (modes_in s) q e))
    ends_counted y w None e =
        let x = has_call a n s t w.0 w.1 w.2 ok w.3 in
        let same = whole_op a n s t w.0 w.1 w.2 x ok y.w y.at.is y.at.number in
        lost_counted w.0 w.1 w.2 x y.i y.w.op same (y.lost (no_source (modes_in s) e))

    pub counted_end : {E : Type 0} (res : Result ℕ E) → OnOk res (world.EndsWhole s t s2) → OnErr res (s2 ≡ s)
        → HasSome t (view a n s) → AreOthersCounted n s s2
    counted_end (Ok at) y err w = ends_counted y w (source_of (modes_in s)) refl
    counted_end (Failed e) y err w = counted_same n s s2 err
