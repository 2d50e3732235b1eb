-- What is done to the whole volume is done to each replica, and what stands for the volume fits the replica.
use Rattle.std.proofs.Common.{◌≡◌, ℕ, ◌+◌, ◌<◌, ◌^◌, Bool, true, false, List, length, refl, sym, ap, subst, ◌∙◌, arith}
use Rattle.std.specs.Prelude.{Option}
use Rattle.std.proofs.lemmas.Bool.{false≢true}
use Rattle.sparse_image.specs.Image.{Tables}
use Rattle.vol_units.specs.declared.limits.TheConstants.{MOST_LAYERS}
use Rattle.volume_model.specs.declared.mark.FoldOrDrop.TheVariants as part
use Rattle.volume_model.specs.Names.{NamesOnce, AreNamed, has_name}
use Rattle.volume_model.specs.PlainState.{PlainState, Volume, is_used}
use Rattle.volume_model.specs.Purge.{CanBeDone, with_part}
use Rattle.volume_model.specs.Snapshots.{Snapshots, is_live, layer_count, with_snapshot, with_mark, back_on}
use Rattle.replica_node.specs.Node.{Node}
use Rattle.replica_node.specs.Fold.{tree_of, snapshots_of}
use Rattle.replica_node.specs.Volume.{volume_of_node}
use Rattle.replica_node.proofs.VolumeLemmas.{same_count, free_of, reverted_volume, marked_volume}
use Rattle.replica_node.proofs.PurgeLemmas.{replaced_volume, dropped_volume}
use Rattle.step_answers.specs.declared.whole_op.WholeOp.{WholeOp}
use Rattle.step_answers.specs.declared.whole_op.WholeOp.TheVariants as whole
use Rattle.open_calls.specs.Due.{part_on, due_of}
use Rattle.open_calls.specs.Whole.{MayBeDone, CanTake, IsFit, CanSnap, StandsFor}

-- ---- what it makes of a replica

-- what it does to the snapshots
abbrev pub snaps_of : WholeOp → Snapshots → Snapshots
snaps_of (whole.Snapshot name) s = with_snapshot s name
snaps_of (whole.Remove name) s = with_mark s name
snaps_of (whole.Revert name) s = back_on s name
snaps_of (whole.Purge f) s = with_part s f
snaps_of (whole.Barrier r) s = s

-- an operation that does the same to a replica and to the volume: each but a barrier, which changes replicas alone
abbrev pub IsPlain : WholeOp → Type 0
IsPlain (whole.Barrier r) = ⊥
IsPlain op = Unit {0}

-- what of it is asked of the snapshots alone, that it does the same to a replica and to the volume
abbrev pub CanBe : WholeOp → Snapshots → Type 0
CanBe (whole.Snapshot name) s = Unit {0}
CanBe (whole.Remove name) s = Unit {0}
CanBe (whole.Revert name) s = is_live s.tree name ≡ true
CanBe (whole.Purge f) s = CanBeDone s.tree s.on f
CanBe (whole.Barrier r) s = ⊥

-- what may be done can be
pub can_be : (op : WholeOp) (p : PlainState) → IsPlain op → MayBeDone op p → CanBe op p.volume.snapshots
can_be (whole.Snapshot name) p plain may = tt
can_be (whole.Remove name) p plain may = tt
can_be (whole.Revert name) p plain may = may.0
can_be (whole.Purge f) p plain may = may
can_be (whole.Barrier r) p plain may = absurd plain

-- the due volume has the due snapshots
pub due_snaps : (op : WholeOp) (v : Volume) → (due_of op v).snapshots ≡ snaps_of op v.snapshots
due_snaps (whole.Snapshot name) v = refl
due_snaps (whole.Remove name) v = refl
due_snaps (whole.Revert name) v = refl
due_snaps (whole.Purge f) v = refl
due_snaps (whole.Barrier r) v = refl

-- a replica that took its part is the due volume of the volume that it was
pub op_volume : (op : WholeOp) (n : Node) → NamesOnce (tree_of n) → CanBe op (snapshots_of n)
    → volume_of_node (part_on op n) ≡ due_of op (volume_of_node n)
op_volume (whole.Snapshot name) n once can = refl
op_volume (whole.Remove name) n once can = marked_volume n name
op_volume (whole.Revert name) n once can = reverted_volume n name can
op_volume (whole.Purge (part.Fold p c)) n once can = replaced_volume n p c once can
op_volume (whole.Purge (part.Drop p)) n once can = dropped_volume n p once can
op_volume (whole.Barrier r) n once can = absurd can

-- a replica that is the volume is the due volume once it took its part
pub op_whole : (op : WholeOp) (v : Volume) (n : Node) → NamesOnce v.snapshots.tree → CanBe op v.snapshots
    → volume_of_node n ≡ v → volume_of_node (part_on op n) ≡ due_of op v
op_whole op v n once can is =
    op_volume op n (subst (λ (w : Volume). NamesOnce w.snapshots.tree) (sym is) once)
    (subst (λ (w : Volume). CanBe op w.snapshots) (sym is) can) ∙ ap (due_of op) is

-- and one that has the volume's snapshots has the due ones
pub op_tree : (op : WholeOp) (v : Volume) (n : Node) → NamesOnce v.snapshots.tree → CanBe op v.snapshots
    → snapshots_of n ≡ v.snapshots → snapshots_of (part_on op n) ≡ (due_of op v).snapshots
op_tree op v n once can is =
    ap (λ (w : Volume). w.snapshots) (op_volume op n (subst (λ (s : Snapshots). NamesOnce s.tree) (sym is) once)
    (subst (CanBe op) (sym is) can))
    ∙ due_snaps op (volume_of_node n) ∙ ap (snaps_of op) is ∙ sym (due_snaps op v)

-- the disk of the due volume is as long as the volume's
pub due_size : (op : WholeOp) (p : PlainState) → MayBeDone op p → length (due_of op p.volume).disk ≡ length p.volume.disk
due_size (whole.Snapshot name) p may = refl
due_size (whole.Remove name) p may = refl
due_size (whole.Revert name) p may = may.1
due_size (whole.Purge f) p may = refl
due_size (whole.Barrier r) p may = refl

-- ---- what then fits the replica

-- a replica that owes its part stands so where it has the volume's snapshots, and the operation is no barrier
pub plain_stands : (op : WholeOp) (s : Snapshots) (n : Node) → IsPlain op → snapshots_of n ≡ s → StandsFor op s n
plain_stands (whole.Snapshot name) s n plain is = is
plain_stands (whole.Remove name) s n plain is = is
plain_stands (whole.Revert name) s n plain is = is
plain_stands (whole.Purge f) s n plain is = is
plain_stands (whole.Barrier r) s n plain is = absurd plain

-- a name that was not taken is no snapshot's
pub not_there : (p : PlainState) (name : List ℕ) → AreNamed p → is_used p.used name ≡ false → has_name p.volume.snapshots.tree name ≡ false
not_there p name named unused = go (has_name p.volume.snapshots.tree name) refl
  where
    go : (has : Bool) → has_name p.volume.snapshots.tree name ≡ has → has ≡ false
    go true is = absurd (false≢true (sym unused ∙ named.taken name is))
    go false is = refl

-- a snapshot of the volume can be taken of a replica that has its snapshots
pub can_snap : (p : PlainState) (n : Node) (name : List ℕ) → AreNamed p → snapshots_of n ≡ p.volume.snapshots
    → is_used p.used name ≡ false → layer_count p.volume.snapshots < MOST_LAYERS
    → p.volume.snapshots.number + 1 < 2 ^ 64 → CanSnap n name
can_snap p n name named same unused few number = record {
  layers = omega (arith, few, same_count n, ap layer_count same);
  free = free_of n name (ap (λ (t : Snapshots). has_name t.tree name) same ∙ not_there p name named unused);
  number = omega (arith, number, ap (λ (t : Snapshots). t.number) same);
}

-- what may be done to the volume can be done on each replica that owes its part
pub fits : (op : WholeOp) (p : PlainState) (n : Node) (spare : Option Tables) → AreNamed p
    → CanTake op p.volume.snapshots n spare → MayBeDone op p → p.volume.snapshots.number + 1 < 2 ^ 64 → IsFit op n
fits (whole.Snapshot name) p n spare named takes may number = can_snap p n name named takes.still may.1 may.2 number
fits (whole.Remove name) p n spare named takes may number = ap (λ (t : Snapshots). is_live t.tree name) takes.still ∙ may
fits (whole.Revert name) p n spare named takes may number = record {
  live = ap (λ (t : Snapshots). is_live t.tree name) takes.still ∙ may.0;
  number = omega (arith, number, ap (λ (t : Snapshots). t.number) takes.still);
}
fits (whole.Purge f) p n spare named takes may number = record {
  can = subst (λ (t : Snapshots). CanBeDone t.tree t.on f) (sym takes.still) may;
  folded = takes.folded;
}
fits (whole.Barrier r) p n spare named takes may number = takes.still.1
