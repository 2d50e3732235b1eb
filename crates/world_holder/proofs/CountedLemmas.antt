-- What steps leave of what the commands of the maintenance turn count on.
use Rattle.std.proofs.Common.{◌≡◌, ℕ, zero, suc, ◌<◌, Bool, true, false, cond, eqb, List, [], ◌∷◌, length, set}
use Rattle.std.proofs.Common.{Option, Some, None, inl, inr, refl, sym, ap, ◌∙◌, subst, arith}
use Rattle.std.proofs.lemmas.Bool.{eqb-true}
use Rattle.volume_model.specs.declared.call.Call.{Call}
use Rattle.volume_model.specs.declared.mark.Mark.TheVariants as mark
use Rattle.volume_model.specs.declared.mode.Mode.{Mode}
use Rattle.volume_model.specs.declared.mode.Mode.TheVariants as mode
use Rattle.volume_model.specs.Modes.{mode_of}
use Rattle.volume_model.specs.PlainStep.{plain_step}
use Rattle.range_turns.specs.declared.ticket.Ticket.{Ticket}
use Rattle.range_turns.specs.Order.{ticket_at}
use Rattle.replica_node.specs.Node.{Node, Kept}
use Rattle.replica_node.specs.Held.{block_named}
use Rattle.open_calls.specs.Calls.{node_at}
use Rattle.open_calls.specs.Starts.{KeepsNodes}
use Rattle.open_calls.specs.declared.maint.MaintCall.{MaintCall}
use Rattle.open_calls.specs.Maint.{command_at}
use Rattle.open_rebuild.specs.declared.rebuilding.Rebuilding.{Rebuilding}
use Rattle.volume_core.specs.State.{State, modes_in, told_of}
use Rattle.volume_core.specs.Sound.{IsSound}
use Rattle.volume_core.specs.Steps.{with_place, answered, marked, aborted, has_part, aborted_with, behind_fall}
use Rattle.volume_core.specs.Streams.{turning, commands_in}
use Rattle.volume_core.specs.Answers.{IsAnsweredNow, failed_by, failed_in, after_fail}
use Rattle.volume_core.proofs.InTurn.{first_started}
use Rattle.desk_lock.specs.Account.{Each}
use Rattle.desk_lock.proofs.Lists.{Each-all}
use Rattle.world_holder.specs.Counted.{ArePagesKept, IsRebuildKept, CountsOn, AreOthersCounted, kept_later}
use Rattle.world_holder.specs.Laid.{IsLater}

-- ---- the rebuild stays as it is

-- one replica is another now, with the same layers
layers-set : (ns : List Node) (r q : ℕ) (node : Node) → node.layers ≡ (node_at ns r).layers
    → (node_at (set ns r node) q).layers ≡ (node_at ns q).layers
layers-set [] r q node same = refl
layers-set (n ∷ ns) zero zero node same = same
layers-set (n ∷ ns) zero (suc q) node same = refl
layers-set (n ∷ ns) (suc r) zero node same = refl
layers-set (n ∷ ns) (suc r) (suc q) node same = layers-set ns r q node same

module _ (s s2 : State) (rebuild : s2.rebuild ≡ s.rebuild) (ended : s2.ended ≡ s.ended) where
  -- where its pages do
  pub kept_pages : ((b : Rebuilding) → s.rebuild ≡ Some b → b.may_copy ≡ true → ArePagesKept b s s2) → IsRebuildKept s.rebuild s s2
  kept_pages pages = by s.rebuild refl
    where
      by : (o : Option Rebuilding) → s.rebuild ≡ o → IsRebuildKept o s s2
      by None is = record { none = rebuild ∙ is; ended = ended }
      by (Some b) is = inl (record { is = rebuild ∙ is; ended = ended; pages = pages b is })

  -- where only heads of replicas change
  pub kept_layers : ((r : ℕ) → (node_at s2.nodes r).layers ≡ (node_at s.nodes r).layers) → IsRebuildKept s.rebuild s s2
  kept_layers layers = kept_pages (λ b is may name block has. ap (λ (ks : List Kept). block_named ks name block) (layers b.source))

  -- where replicas get places
  pub kept_roomier : KeepsNodes s.nodes s2.nodes → IsRebuildKept s.rebuild s s2
  kept_roomier keeps = kept_layers (λ r. ap (λ (n : Node). n.layers) (keeps.same r))

  -- where one replica takes a write
  pub kept_put : (r : ℕ) (node : Node) → s2.nodes ≡ set s.nodes r node → node.layers ≡ (node_at s.nodes r).layers
      → IsRebuildKept s.rebuild s s2
  kept_put r node is same = kept_layers (λ q. ap (λ (ns : List Node). (node_at ns q).layers) is ∙ layers-set s.nodes r q node same)

  -- where no replica changes
  pub kept_same : s2.nodes ≡ s.nodes → IsRebuildKept s.rebuild s s2
  kept_same nodes = kept_layers (λ r. ap (λ (ns : List Node). (node_at ns r).layers) nodes)

-- what is kept, and then no more changed
pub kept_then : (o : Option Rebuilding) (s s2 s3 : State) → IsRebuildKept o s s2 → s3.rebuild ≡ s2.rebuild
    → s3.ended ≡ s2.ended → s3.nodes ≡ s2.nodes → IsRebuildKept o s s3
kept_then o s s2 s3 kept rebuild ended nodes = kept_later o s s2 s3 kept (kept_same s2 s3 rebuild ended nodes)

-- ---- a replica falls, behind its mark in s1

module _ (s s1 : State) (rebuild : s1.rebuild ≡ s.rebuild) (ended : s1.ended ≡ s.ended) (nodes : s1.nodes ≡ s.nodes) where
  -- then the rebuild stays or is aborted
  pub kept_fall : (r : ℕ) → IsRebuildKept s.rebuild s (behind_fall s1 r)
  kept_fall r = by s1.rebuild refl
    where
      chosen : (b : Rebuilding) → s1.rebuild ≡ Some b → (c : Bool) → IsRebuildKept s.rebuild s (cond c (aborted s1 b.target) s1)
      chosen b is true = subst (λ (o : Option Rebuilding). IsRebuildKept o s (aborted s1 b.target)) (sym is ∙ rebuild)
          (inr (record { none = refl; ended = refl }))
      chosen b is false = kept_same s s1 rebuild ended nodes

      by : (o : Option Rebuilding) → s1.rebuild ≡ o → IsRebuildKept s.rebuild s (aborted_with o s1 r)
      by None is = kept_same s s1 rebuild ended nodes
      by (Some b) is = chosen b is (has_part (Some b) r)

module _ (s s1 : State) (rebuild : s1.rebuild ≡ s.rebuild) (ended : s1.ended ≡ s.ended) (nodes : s1.nodes ≡ s.nodes) where
  kept_failed : (r : ℕ) (m : Mode) → IsRebuildKept s.rebuild s (failed_in m s1 r)
  kept_failed r mode.Rw = kept_fall s (marked s1 (mark.Failed r)) rebuild ended nodes r
  kept_failed r mode.Wo = kept_fall s (marked s1 (mark.Failed r)) rebuild ended nodes r
  kept_failed r mode.Err = kept_same s s1 rebuild ended nodes

  -- so it is where a call lets one fail
  pub kept_after_fail : (f : Option ℕ) → IsRebuildKept s.rebuild s (after_fail s1 f)
  kept_after_fail None = kept_same s s1 rebuild ended nodes
  kept_after_fail (Some r) = kept_failed r (mode_of (modes_in s1) r)

-- and where the call is answered at once
pub kept_answered : (n : ℕ) (c : Call) (place : ℕ) (s s2 : State) → IsAnsweredNow s n c place s2 → IsRebuildKept s.rebuild s s2
kept_answered n c place s s2 is =
    let fell : State = after_fail (with_place s) (failed_by c) in
    let last : State = answered fell n (length s.book.entries) c (plain_step (modes_in s) (told_of s) c).1 in
    subst (IsRebuildKept s.rebuild s) (sym is.state)
    (kept_then s.rebuild s fell last (kept_after_fail s (with_place s) refl refl refl (failed_by c)) refl refl refl)

-- ---- what others count on

-- is kept for each
pub others_kept : (n : ℕ) (s s2 : State) → IsRebuildKept s.rebuild s s2 → AreOthersCounted n s s2
others_kept n s s2 kept m other = Each-all (λ (p : Ticket × MaintCall). CountsOn p.0 s s2) (λ p started. kept) (turning s m)

-- what is so of each command of the stream that has started
each_started : (m : ℕ) (P : Type 0) (ts : List Ticket) (cs : List MaintCall)
    → ((k : ℕ) → k < length ts → k < length cs → (ticket_at ts k).started ≡ true → (command_at cs k).stream ≡ m → P)
    → Each (λ (p : Ticket × MaintCall). p.0.started ≡ true → P) (commands_in m ts cs)
each_started m P [] cs f = tt
each_started m P (t ∷ ts) [] f = tt
each_started m P (t ∷ ts) (c ∷ cs) f =
    by (each_started m P ts cs (λ k less fewer started own. f (suc k) (omega (arith, less)) (omega (arith, fewer)) started own))
    (eqb c.stream m) refl
  where
    by : Each (λ (p : Ticket × MaintCall). p.0.started ≡ true → P) (commands_in m ts cs) → (b : Bool) → eqb c.stream m ≡ b
        → Each (λ (p : Ticket × MaintCall). p.0.started ≡ true → P) (cond b ((t, c) ∷ commands_in m ts cs) (commands_in m ts cs))
    by rest true own = ((λ started. f zero (omega arith) (omega arith) started (eqb-true c.stream m own)), rest)
    by rest false own = rest

-- where the first command is the stream's, no other stream's has the turn, so that the step owes nothing
pub own_turn : (n : ℕ) (s s2 : State) → IsSound s → (command_at s.commands 0).stream ≡ n → AreOthersCounted n s s2
own_turn n s s2 ok own m other = each_started m (IsRebuildKept s.rebuild s s2) s.maint s.commands
    (λ k less fewer started theirs.
    absurd (other (sym theirs ∙ ap (λ (i : ℕ). (command_at s.commands i).stream)
    (first_started s.maint ok.maint.queued.order ok.maint.queued.kinds k less started) ∙ own)))

-- ---- what its own stream finds

-- the rebuild that is open while its one command has the turn was kept
pub kept_in_turn : (n : ℕ) (s t : State) (p : Ticket) (c : MaintCall) → IsLater n s t → turning s n ≡ (p, c) ∷ []
    → p.started ≡ true → IsRebuildKept s.rebuild s t
kept_in_turn n s t p c later is started = (subst (Each (λ (q : Ticket × MaintCall). CountsOn q.0 s t)) is later.counted).0 started
