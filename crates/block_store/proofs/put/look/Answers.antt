use Rattle.std.proofs.Common.{◌≡◌, Some, subst, rules}
use Rattle.backup_units.specs.Blocks.{page_bytes}
use Rattle.block_store.proofs.BlockLemmas.{whole, none_there, free}
use Rattle.block_store.proofs.put.look.Goals as goal

pub returns-in-None-clause-seen : goal.returns-in-None-clause-seen
returns-in-None-clause-seen g c tells bytes is block =
    none_there page_bytes _ (rw c.in-None.is at (c.in_ok-get.ensures.bytes tells)) bytes is

pub returns-then-eq-clause-seen : goal.returns-then-eq-clause-seen
returns-then-eq-clause-seen g c tells =
    let same : c.in-Some.held.items ≡ c.args.page.now = search rules in
    subst (λ page. g.T.Target.holds c.args.target.now c.args.name.now ≡ Some page) same
    (whole page_bytes _ c.in-Some.held.items (rw c.in-Some.is at (c.in_ok-get.ensures.bytes tells)) (search rules))

pub returns-then-is_block-clause-seen : goal.returns-then-is_block-clause-seen
returns-then-is_block-clause-seen g c tells = (
  c.in-Some.held.items,
  whole page_bytes _ c.in-Some.held.items (rw c.in-Some.is at (c.in_ok-get.ensures.bytes tells)) (search rules),
  search rules,
  search rules,
)

pub returns-clause-seen : goal.returns-clause-seen
returns-clause-seen g c tells =
    free c.args.checksum.now c.in-Some.held.items _ (rw c.in-Some.is at (c.in_ok-get.ensures.bytes tells)) (search rules)
