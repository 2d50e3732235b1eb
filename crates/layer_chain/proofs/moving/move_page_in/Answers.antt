use Rattle.std.proofs.Common.{arith}
use Rattle.layer_chain.proofs.FoldLemmas.{moves_page}
use Rattle.layer_chain.proofs.moving.move_page_in.Goals as goal

pub returns-clause-moves : goal.returns-clause-moves
returns-clause-moves c =
    moves_page c.args.layers.now c.split_at_mut-newer.result.0.now c.split_at_mut-newer.result.1.now c.args.parent c.args.child c.args.page
    c.index-newer-child.result c.index-older-0.result c.move_page_onto.new.below c.move_page_onto.new.self
    c.split_at_mut-newer.ensures.value c.split_at_mut-newer.ensures.front_len c.requires.older (omega arith)
    c.move_page_onto.ensures.own c.move_page_onto.ensures.under
