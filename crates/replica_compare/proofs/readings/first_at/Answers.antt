use Rattle.std.proofs.Common.{sym, ◌∙◌}
use Rattle.std.proofs.lemmas.Bool.{false≢true}
use Rattle.replica_compare.proofs.ReadLemmas.{first_layer, first_head, no_first}
use Rattle.replica_compare.proofs.readings.first_at.Goals as goal

pub returns-in-Some : goal.returns-in-Some
returns-in-Some c = first_layer c.args.one.now c.args.other.now c.args.block c.in-Some.name c.in-Some.ensures

pub returns-then-same_block : goal.returns-then-same_block
returns-then-same_block c =
    no_first c.args.one.now c.args.other.now c.args.block c.in_default.ensures (c.same_block.ensures.0 c.if-same_block.true)

pub returns : goal.returns
returns c =
    first_head c.args.one.now c.args.other.now c.args.block c.in_default.ensures
    (λ same. false≢true (sym c.if-same_block.false ∙ c.same_block.ensures.1 same))
