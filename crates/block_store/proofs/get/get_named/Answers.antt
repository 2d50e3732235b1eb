use Rattle.std.proofs.Common.{rules}
use Rattle.backup_units.specs.Blocks.{page_bytes}
use Rattle.block_store.proofs.BlockLemmas.{whole, nowhere, damaged}
use Rattle.block_store.proofs.get.get_named.Goals as goal

pub returns-in-None-clause-answer : goal.returns-in-None-clause-answer
returns-in-None-clause-answer g c tells = nowhere page_bytes _ (rw c.in-None.is at (c.in_ok-get.ensures.bytes tells))

pub returns-then-is_block-clause-answer : goal.returns-then-is_block-clause-answer
returns-then-is_block-clause-answer g c tells =
    whole page_bytes _ c.in-Some.bytes.items (rw c.in-Some.is at (c.in_ok-get.ensures.bytes tells)) (search rules)

pub returns-else-is_block-clause-answer : goal.returns-else-is_block-clause-answer
returns-else-is_block-clause-answer g c tells =
    damaged c.args.checksum.now c.in-Some.bytes.items _ (rw c.in-Some.is at (c.in_ok-get.ensures.bytes tells)) (search rules)
