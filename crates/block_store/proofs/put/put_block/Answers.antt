use Rattle.std.proofs.Common.{rules}
use Rattle.digest.specs.Digest.{digest_text}
use Rattle.block_store.proofs.BlockLemmas.{keeps_free}
use Rattle.block_store.proofs.put.put_block.Goals as goal

pub returns-in_err-put-in-Free-clause-keeps : goal.returns-in_err-put-in-Free-clause-keeps
returns-in_err-put-in-Free-clause-keeps g c tells =
    keeps_free c.args.volume.now (digest_text c.args.page.now) _ _ (search rules) (search rules)

pub returns-clause-keeps : goal.returns-clause-keeps
returns-clause-keeps g c tells =
    keeps_free c.args.volume.now (digest_text c.args.page.now) _ _ (search rules) (search rules)
