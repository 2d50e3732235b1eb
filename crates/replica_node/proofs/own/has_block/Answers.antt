use Rattle.std.proofs.Common.{⊎_elim, ◌/◌, length, refl, arith}
use Rattle.std.proofs.lemmas.Bool.{cases_lt}
use Rattle.replica_node.proofs.HasLemmas.{none_past}
use Rattle.replica_node.proofs.OwnLemmas.{is_in-same}
use Rattle.replica_node.proofs.own.has_block.Goals as goal

pub returns-clause-none : goal.returns-clause-none
returns-clause-none c = λ _ block. ⊎_elim
    (λ inside. c.loop-page.invariant (block / 512) (omega (arith, inside, c.page_count-page-end.ensures.count)) block
    (is_in-same (block / 512) block refl))
    (λ past. none_past c.args.image.now block past)
    (cases_lt (block / 512) (length c.args.image.now))
