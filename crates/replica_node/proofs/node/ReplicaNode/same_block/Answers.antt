use Rattle.std.proofs.Common.{◌≡◌, ◌*◌, ◌/◌, None, ap, sym, ◌∙◌}
use Rattle.std.specs.Option.{option_copied}
use Rattle.vol_units.specs.Bytes.{bytes_at}
use Rattle.sparse_image.specs.Disk.{bytes_of}
use Rattle.replica_node.proofs.ReadLemmas.{node_block}
use Rattle.replica_node.proofs.node.ReplicaNode.same_block.Goals as goal

pub returns : goal.returns
returns c =
    let own : bytes_of (option_copied c.read_head.result) ≡ bytes_at c.args.self.now.disk (c.args.block * 4096) 4096 =
    ap bytes_of c.read_head.ensures.value
    ∙ node_block c.self.inside.tree (c.self.inside.size / 4096) c.args.self.now None c.args.block c.self.view_is
    c.self.invariant tt c.requires.inside in
    let others : bytes_of (option_copied c.read_head-2.result) ≡ bytes_at c.args.other.now.disk (c.args.block * 4096) 4096 =
    ap bytes_of c.read_head-2.ensures.value
    ∙ node_block c.other.inside.tree (c.other.inside.size / 4096) c.args.other.now None c.args.block c.other.view_is
    c.other.invariant tt c.requires.other in
    (λ is. sym own ∙ c.reads_same.ensures.0 is ∙ others, λ same. c.reads_same.ensures.1 (own ∙ same ∙ sym others))
