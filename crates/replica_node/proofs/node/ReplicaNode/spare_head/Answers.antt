use Rattle.std.proofs.Common.{◌≡◌, ◌*◌, ◌/◌, length, sym, ap, subst, ◌∙◌, arith}
use Rattle.std.proofs.lemmas.Result.{IfOk-weaker}
use Rattle.sparse_image.specs.Image.{IsEmpty}
use Rattle.replica_node.proofs.NodeLemmas.{length-made_in}
use Rattle.replica_node.proofs.node.ReplicaNode.spare_head.Goals as goal

pub returns : goal.returns
returns c =
    let size = c.self.inside.size in
    let blocks : c.page_count.result * 512 ≡ size / 4096 = omega (arith, c.page_count.ensures) in
    let room : size / 4096 ≡ length c.args.self.now.room = sym (length-made_in c.self.inside.tree.head (size / 4096))
    ∙ ap (λ n. length n.room) c.self.view_is in
    IfOk-weaker c.new.result _ _
    (λ s e. (ap (λ n. n * 512) e.count ∙ blocks ∙ room, subst (IsEmpty s) (sym e.count) e))
    c.new.ensures
