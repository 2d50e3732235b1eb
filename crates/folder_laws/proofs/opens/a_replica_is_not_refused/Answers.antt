use Rattle.std.proofs.Common.{subst, arith}
use Rattle.replica_node.specs.Node.{IsKept}
use Rattle.folder_laws.proofs.FitLemmas.{fit}
use Rattle.folder_laws.proofs.NodeLemmas.{IsSoundNode}
use Rattle.folder_laws.proofs.OpensLemmas.{unflagged, undamaged}
use Rattle.folder_laws.proofs.opens.a_replica_is_not_refused.Goals as goal

pub returns : goal.returns
returns c =
    let node = c.args.node.now in
    let count = c.block_count-blocks.result in
    let sound : IsSoundNode node count = record {
      few = omega arith;
      small = omega arith;
      size = c.block_count-blocks.ensures.value;
      own = c.block_count-blocks.ensures.own;
      disks = c.block_count-blocks.ensures.disks;
      head_own = c.block_count-blocks.ensures.chained.head.blocks;
      head_kept = subst (IsKept node) c.head_parent-on.ensures.on c.head_parent-on.ensures.kept;
      layers = c.head_parent-on.ensures.older;
    } in
    record {
      unflagged = λ folder stamps v flag is. unflagged folder stamps node v flag is;
      good = λ folder stamps file place is. undamaged folder stamps node count file place sound is;
      fit = λ folder stamps file place is. fit folder stamps node count file place sound is;
    }
