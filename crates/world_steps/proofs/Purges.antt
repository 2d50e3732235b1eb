-- How a purge may be answered, and what a page that was folded leaves to fold, by what is seen of the volume.
use Rattle.std.specs.Prelude.{not, ◌&&◌}
use Rattle.std.proofs.Common.{◌≡◌, ℕ, ◌<◌, true, inr, List, length, Option, None, Some, Result, Ok, IfErr, subst, sym, refl, ap, ◌∙◌}
use Rattle.std.proofs.Common.{Err as Failed}
use Rattle.std.specs.Option.{option_map}
use Rattle.std.proofs.lemmas.Bool.{false≢true}
use Rattle.std.proofs.lemmas.List.{get_or-set_same}
use Rattle.volume_model.specs.declared.command.Command.{Command}
use Rattle.volume_model.specs.declared.command.Command.TheVariants as command
use Rattle.volume_model.specs.declared.call.Reply.{Reply}
use Rattle.volume_model.specs.declared.call.Reply.TheVariants as reply
use Rattle.volume_model.specs.declared.mode.Mode.TheVariants.{Rw}
use Rattle.volume_model.specs.Modes.{mode_of, source_of}
use Rattle.volume_model.specs.OneWorker.{want_of_replica}
use Rattle.volume_model.specs.Purge.{CanFold}
use Rattle.volume_model.specs.Snapshots.{Snapshot}
use Rattle.volume_model.proofs.SpotLemmas.{has_source, no_source}
use Rattle.volume_model.proofs.StepLemmas.{has_no_source}
use Rattle.replica_node.specs.Fold.{tree_of, page_folded, own_named, HasBlockOf}
use Rattle.replica_node.specs.Node.{Node, blank, has_own}
use Rattle.replica_node.proofs.FoldedNode.{page_folded_tree, page_folded_own}
use Rattle.step_answers.specs.declared.answers.NotThis.{NotThis}
use Rattle.step_answers.specs.declared.answers.NotThis.TheVariants as against
use Rattle.open_calls.specs.Calls.{node_at}
use Rattle.open_calls.specs.Clients.{IsIdle}
use Rattle.open_calls.specs.Maint.{command_at}
use Rattle.open_calls.specs.declared.whole.Whole.{Whole}
use Rattle.volume_core.specs.State.{State, modes_in}
use Rattle.volume_maint.specs.Answers as world
use Rattle.volume_maint.specs.Answers.{refused_in}
use Rattle.volume_maint.specs.Places as place
use Rattle.volume_maint.specs.Steps.{folded_on}
use Rattle.volume_maint.proofs.Purging.{one_child}
use Rattle.stream_steps.specs.Seen.{MayEndPurge, RefusesFold}
use Rattle.world_steps.specs.Seen.{number_of, seen_of}

-- where nothing stands against the answer but an operation on the whole volume
pub none_kept : (w : Option Whole) → option_map number_of w ≡ None → w ≡ None
none_kept None e = refl
none_kept (Some w) e = absurd cc

purge_refused : (x : State) (c : Command) → c ≡ command.Purge → (v : Option ℕ) → source_of (modes_in x) ≡ v
    → refused_in x c ≡ want_of_replica true v
purge_refused x c is v e = ap (refused_in x) is ∙ ap (want_of_replica true) e

pub purge_ends : (x : State) (c : Command) → c ≡ command.Purge → (r : Reply) → MayEndPurge r (seen_of x).log → world.MayEnd x c r
purge_ends x c is reply.Done may = subst (world.MayBeDone x) (sym is) (by (source_of (modes_in x)) refl, may.0)
  where
    by : (v : Option ℕ) → source_of (modes_in x) ≡ v → refused_in x command.Purge ≡ None
    by (Some q) e = purge_refused x command.Purge refl (Some q) e
    by None e = absurd (has_no_source (modes_in x) may.1 (no_source (modes_in x) e))
purge_ends x c is (reply.Refused why) may = ((None, by (source_of (modes_in x)) refl), subst (world.HasNoRebuild x) (sym is) tt)
  where
    by : (v : Option ℕ) → source_of (modes_in x) ≡ v → refused_in x c ≡ Some why
    by (Some q) e = absurd (has_no_source (modes_in x) (has_source (modes_in x) q e) may.1)
    by None e = purge_refused x c is None e ∙ ap Some (sym may.0)
purge_ends x c is (reply.Read bytes) may = absurd may
purge_ends x c is (reply.Status layers modes) may = absurd may
purge_ends x c is (reply.Aborted place) may = absurd may

-- a page that was folded is wanted no more
pub unwanted : (x : State) (r page : ℕ) (p c : List ℕ) → r < length x.nodes
    → CanFold (tree_of (node_at x.nodes r)) (node_at x.nodes r).on p c → world.WantsFold (folded_on x r p c page) r p page → ⊥
unwanted x r page p c within can wants =
    by (get_or-set_same x.nodes r (page_folded (node_at x.nodes r) p c page) (blank 0) within) wants
  where
    by : node_at (folded_on x r p c page).nodes r ≡ page_folded (node_at x.nodes r) p c page
        → world.WantsFold (folded_on x r p c page) r p page → ⊥
    by is wants =
        let node = page_folded (node_at x.nodes r) p c page in
        let has = subst (λ (k : Node). HasBlockOf k wants.c page) is wants.has in
        let could = subst (λ (k : Node). CanFold (tree_of k) k.on p wants.c) is wants.can in
        let same : wants.c ≡ c = one_child (tree_of (node_at x.nodes r)) (node_at x.nodes r).on p wants.c c
        (subst (λ (l : List Snapshot). CanFold l (node_at x.nodes r).on p wants.c)
        (page_folded_tree (node_at x.nodes r) p c page) could) can in
        false≢true (sym (ap (λ b. not b && has_own (own_named (node_at x.nodes r).layers c) has.0) has.1)
        ∙ sym (page_folded_own (node_at x.nodes r) p c page has.0)
        ∙ ap (λ (name : List ℕ). has_own (own_named node.layers name) has.0) (sym same) ∙ has.2)

-- a replica that is read folds what can be folded in the volume
pub refuses_fold : (s : State) (r page : ℕ) (p : List ℕ) → place.IsTurnOf s command.Purge × IsIdle (command_at s.commands 0).stream s.calls
    → mode_of (modes_in s) r ≡ Rw → (res : Result (Unit {0}) NotThis) → IfErr res (world.AgainstFold s r p)
    → IfErr res (RefusesFold r p page (modes_in s) (seen_of s).log)
refuses_fold s r page p purges read (Ok v) z = tt
refuses_fold s r page p purges read (Failed against.Ticket) z = absurd (z purges)
refuses_fold s r page p purges read (Failed (against.Mode m)) z = (z.1, z.2)
refuses_fold s r page p purges read (Failed against.Page) z = inr z.2
refuses_fold s r page p purges read (Failed (against.Pending q)) z = absurd z
refuses_fold s r page p purges read (Failed (against.Count c)) z = absurd z
