use Rattle.std.proofs.Common.{◌*◌, length, ap, ◌∙◌}
use Rattle.vol_units.specs.Bytes.{bytes_at}
use Rattle.replica_node.specs.Node.{Node, disk_of_layer}
use Rattle.replica_node.proofs.ReadLemmas.{part_of_block, part_of_zeros}
use Rattle.replica_node.proofs.node.ReplicaNode.read_piece.Goals as goal

pub returns-then-not-locate-clause-bytes : goal.returns-then-not-locate-clause-bytes
returns-then-not-locate-clause-bytes c =
    c.fill.ensures.after (λ y same. same)
    ∙ part_of_zeros (disk_of_layer c.args.self.now c.args.layer.now) (c.args.block * 4096) c.args.start (length c.args.into.now)
    (c.locate.ensures.zeros c.if-not-locate.true) c.requires.part

pub returns : goal.returns
returns c = record {
  bytes =
      c.copy_from_slice.ensures.after
      ∙ part_of_block (disk_of_layer c.args.self.now c.args.layer.now) c.block-found.result.now (c.args.block * 4096) c.args.start
      (length c.args.into.now)
      (c.block-found.ensures.disk
      ∙ ap (λ (n : Node). bytes_at (disk_of_layer n c.args.layer.now) (c.args.block * 4096) 4096) c.locate.ensures.same)
      c.requires.part;
  same = c.locate.ensures.same;
}
