use Rattle.std.proofs.Common.{◌≡◌, ℕ, List, sym, subst, rules, arith, refl}
use Rattle.volume_model.specs.declared.mark.FoldOrDrop.TheVariants as part
use Rattle.volume_model.specs.declared.mode.Mode.TheVariants.{Rw}
use Rattle.volume_model.specs.Modes.{mode_of}
use Rattle.volume_model.specs.Purge.{CanFold}
use Rattle.replica_node.specs.Fold.{tree_of}
use Rattle.open_calls.specs.Calls.{node_at}
use Rattle.open_calls.specs.Clients.{IsIdle}
use Rattle.open_calls.specs.Maint.{command_at}
use Rattle.volume_core.specs.State.{State, state_of, modes_in}
use Rattle.volume_core.specs.Sound.{IsSound}
use Rattle.volume_maint.specs.Answers.{snapshots_told, IsNew, IsFreePurge}
use Rattle.volume_maint.proofs.Owes.{folded_goes}
use Rattle.volume_maint.proofs.Purging.{IsPurging, can_told, told_can, long_on, folded_sound, one_child, not_onto_new}
use Rattle.volume_core.proofs.Moves.{may_same}
use Rattle.volume_maint.proofs.fold.fold_page.Goals as goal

-- where the purge has the turn, and the replica is read
module _ (s : State) (r : ℕ) (p : List ℕ) (ok : IsSound s) (idle : IsIdle (command_at s.commands 0).stream s.calls)
    (read : mode_of (modes_in s) r ≡ Rw) where
  abbrev purging : IsPurging s
  purging = record { stream = (command_at s.commands 0).stream; own = refl; idle = idle }

  can_fold : (c : List ℕ) → CanFold (tree_of (node_at s.nodes r)) (node_at s.nodes r).on p c → (IsNew s c → ⊥)
      → CanFold (snapshots_told s).tree (snapshots_told s).on p c
  can_fold c can off = can_told s r ok purging read (part.Fold p c) can off

  -- what is not folded there could not be
  none_on : ((c : List ℕ) → CanFold (tree_of (node_at s.nodes r)) (node_at s.nodes r).on p c → ⊥) → (c : List ℕ)
      → CanFold (snapshots_told s).tree (snapshots_told s).on p c → ⊥
  none_on none c could = none c (told_can s r ok purging read (part.Fold p c) could)

  new_on : (c : List ℕ) → CanFold (tree_of (node_at s.nodes r)) (node_at s.nodes r).on p c → IsNew s c → (d : List ℕ)
      → CanFold (snapshots_told s).tree (snapshots_told s).on p d → ⊥
  new_on c can new d could =
      not_onto_new s (part.Fold p d) ok could
      (subst (IsNew s) (one_child (tree_of (node_at s.nodes r)) (node_at s.nodes r).on p c d can
      (told_can s r ok purging read (part.Fold p d) could)) new)

pub fold_on-requires-clause-inside : goal.fold_on-requires-clause-inside
fold_on-requires-clause-inside c =
    let s : State = state_of c.args.world.now in
    let read : mode_of (modes_in s) c.args.replica ≡ Rw = search rules in
    let turn : IsFreePurge s = search rules in
    let long = long_on s c.args.replica c.requires.sound
    (record { stream = (command_at s.commands 0).stream; own = refl; idle = turn.1 }) read in
    omega (arith, c.requires.page, long)

pub returns-in-Some-clause-sound : goal.returns-in-Some-clause-sound
returns-in-Some-clause-sound c =
    let s : State = state_of c.args.world.now in
    let read : mode_of (modes_in s) c.args.replica ≡ Rw = search rules in
    let turn : IsFreePurge s = search rules in
    let off : IsNew s c.in-Some.child → ⊥ = search rules in
    let can = can_fold s c.args.replica c.args.parent.now c.requires.sound turn.1 read c.in-Some.child c.in-Some.ensures off in
    subst IsSound (sym c.fold_on.ensures)
    (folded_sound s c.args.replica c.requires.sound
    (record { stream = (command_at s.commands 0).stream; own = refl; idle = turn.1 }) read c.args.parent.now
    c.in-Some.child c.args.page turn.0.command can)

pub returns-in-Some-clause-ok : goal.returns-in-Some-clause-ok
returns-in-Some-clause-ok c =
    let s : State = state_of c.args.world.now in
    let read : mode_of (modes_in s) c.args.replica ≡ Rw = search rules in
    let turn : IsFreePurge s = search rules in
    let off : IsNew s c.in-Some.child → ⊥ = search rules in
    record {
      c = c.in-Some.child;
      turn = turn.0;
      idle = turn.1;
      read = read;
      can = can_fold s c.args.replica c.args.parent.now c.requires.sound turn.1 read c.in-Some.child c.in-Some.ensures off;
      state = c.fold_on.ensures;
    }

pub returns-in_default-clause-why : goal.returns-in_default-clause-why
returns-in_default-clause-why c =
    let s : State = state_of c.args.world.now in
    let turn : IsFreePurge s = search rules in
    let read : mode_of (modes_in s) c.args.replica ≡ Rw = search rules in
    let new : IsNew s c.in-Some.child = search rules in
    (turn, read, new_on s c.args.replica c.args.parent.now c.requires.sound turn.1 read c.in-Some.child c.in-Some.ensures new)

pub returns-in_default-2-clause-why : goal.returns-in_default-2-clause-why
returns-in_default-2-clause-why c =
    let s : State = state_of c.args.world.now in
    let turn : IsFreePurge s = search rules in
    let read : mode_of (modes_in s) c.args.replica ≡ Rw = search rules in
    let none : (child : List ℕ) → CanFold (tree_of (node_at s.nodes c.args.replica)) (node_at s.nodes c.args.replica).on
    c.args.parent.now child → ⊥ = search rules in
    (turn, read, none_on s c.args.replica c.args.parent.now c.requires.sound turn.1 read none)

pub returns-in-Some-clause-may : goal.returns-in-Some-clause-may
returns-in-Some-clause-may c =
    let s : State = state_of c.args.world.now in
    folded_goes (command_at s.commands 0).stream s (state_of c.fold_on.new.world) (returns-in-Some-clause-sound c)
    c.args.replica c.args.parent.now c.in-Some.child c.args.page c.fold_on.ensures

pub returns-then-not-is_purging-clause-may : goal.returns-then-not-is_purging-clause-may
returns-then-not-is_purging-clause-may c = may_same _ (state_of c.args.world.now) c.requires.sound

pub returns-then-ne-clause-may : goal.returns-then-ne-clause-may
returns-then-ne-clause-may c = may_same _ (state_of c.args.world.now) c.requires.sound

pub returns-in_default-clause-may : goal.returns-in_default-clause-may
returns-in_default-clause-may c = may_same _ (state_of c.args.world.now) c.requires.sound

pub returns-in_default-2-clause-may : goal.returns-in_default-2-clause-may
returns-in_default-2-clause-may c = may_same _ (state_of c.args.world.now) c.requires.sound
