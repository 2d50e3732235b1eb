use Rattle.std.proofs.Common.{◌≡◌, Bool, ◌&&◌, List, sym, ap, ◌∙◌}
use Rattle.std.proofs.lemmas.List.{get_or_default}
use Rattle.volume_model.specs.Names.{has_name}
use Rattle.volume_model.specs.Snapshots.{Snapshot}
use Rattle.replica_node.specs.Node.{Node, blank}
use Rattle.replica_node.specs.Fold.{tree_of}
use Rattle.layer_pages.specs.Chains.{is_over}
use Rattle.open_calls.specs.Calls.{node_at}
use Rattle.volume_core.specs.State.{State, state_of, told_of}
use Rattle.volume_backup.proofs.Worlds.{node_in, tells}
use Rattle.volume_backup.proofs.pages.is_base.Goals as goal

pub returns : goal.returns
returns c =
    let s : State = state_of c.args.world.now in
    let n : Node = c.index.result.now in
    let read : n ≡ node_at s.nodes c.args.replica = c.index.ensures
    ∙ get_or_default s.nodes c.args.replica n (blank 0) (node_in s c.args.replica c.requires.sound c.requires.read) in
    let told = tells s c.args.replica c.requires.sound c.requires.read c.args.name.now c.requires.calm c.requires.live in
    let over = c.is_over.ensures ∙ ap (λ (x : Node). is_over (tree_of x) c.args.name.now c.args.base.now) read
    ∙ ap (λ (chain : List Snapshot). has_name chain c.args.base.now) told.chain in
    over ∙ ap (λ (b : Bool). b && is_over (told_of s).volume.snapshots.tree c.args.name.now c.args.base.now)
    (sym c.if-not-is_live.false ∙ c.is_live.ensures)
