use Rattle.std.proofs.Common.{◌≡◌, replicate, subst, sym, rules}
use Rattle.replica_node.specs.Node.{blank}
use Rattle.journal_book.specs.declared.opening.Opening.{Opening}
use Rattle.volume_core.specs.Opened.{MayOpen, blank_opening}
use Rattle.volume_core.proofs.Opens.{blank_may_open}
use Rattle.volume_core.proofs.world.World.blank.Goals as goal

pub open-requires : goal.open-requires
open-requires c =
    let nodes : c.in_ok-nodes.nodes.items ≡ replicate c.args.replicas (blank c.args.size) = c.in_ok-nodes.ensures in
    let opening : record { modes = c.new.result; layers = 1; names = c.none.result } ≡ blank_opening c.args.replicas = search rules in
    subst (MayOpen c.args.size (record { modes = c.new.result; layers = 1; names = c.none.result })) (sym nodes)
    (subst (λ (o : Opening). MayOpen c.args.size o (replicate c.args.replicas (blank c.args.size))) (sym opening)
    (blank_may_open c.args.size c.args.replicas c.requires.some))
