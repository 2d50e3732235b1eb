use Rattle.std.proofs.Common.{◌≡◌, ◌∙◌, rules, arith, replicate, None}
use Rattle.backup_config.proofs.ListLemmas.{pages_begin, pages_more, pages_end}
use Rattle.backup_config.proofs.list.pages_of.Goals as goal

pub loop-i-init : goal.loop-i-init
loop-i-init c =
    let none : c.in_ok-blocks.blocks.items ≡ replicate c.args.count None = search rules in
    none ∙ pages_begin c.args.listed.now c.args.count

pub loop-i-preserved : goal.loop-i-preserved
loop-i-preserved c =
    pages_more c.args.listed.now c.args.count c.loop-i.i c.index-listed-listed.result c.loop-i.blocks.items c.loop-i-test.true
    c.index-listed-listed.is (search (rules, arith)) c.loop-i.invariant

pub returns : goal.returns
returns c = c.loop-i.invariant ∙ pages_end c.args.listed.now c.args.count c.loop-i.i c.loop-i-test.false
