use Rattle.std.proofs.Common.{◌*◌, ◌++◌, ap, sym, ◌∙◌}
use Rattle.std.proofs.lemmas.Result.{on_ok_weaker}
use Rattle.vol_units.specs.Bytes.{bytes_at}
use Rattle.replica_node.specs.Node.{Node}
use Rattle.replica_node.proofs.ReadLemmas.{part_of_block}
use Rattle.replica_node.proofs.node.ReplicaNode.append_piece.Goals as goal

pub returns-then-not-locate-clause-bytes : goal.returns-then-not-locate-clause-bytes
returns-then-not-locate-clause-bytes c =
    let place = c.args.block * 4096 in
    on_ok_weaker c.append_part.result (λ e. e ∙ ap (λ l. c.args.into.now.items ++ l)
    (part_of_block c.args.self.now.disk c.zero_block.result.now place c.args.start c.args.count
    (c.zero_block.ensures.value ∙ sym (c.locate.ensures.zeros c.if-not-locate.true)) c.requires.part)) c.append_part.ensures

pub returns-clause-bytes : goal.returns-clause-bytes
returns-clause-bytes c =
    let place = c.args.block * 4096 in
    on_ok_weaker c.append_part-2.result (λ e. e ∙ ap (λ l. c.args.into.now.items ++ l)
    (part_of_block c.args.self.now.disk c.block.result.now place c.args.start c.args.count
    (c.block.ensures.disk ∙ ap (λ (n : Node). bytes_at n.disk place 4096) c.locate.ensures.same) c.requires.part))
    c.append_part-2.ensures
