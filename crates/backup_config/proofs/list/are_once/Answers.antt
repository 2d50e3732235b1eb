use Rattle.std.proofs.Common.{◌≡◌, true, false, true≢false, sym, below_more, arith}
use Rattle.std.proofs.lemmas.Grind.{common_steps}
use Rattle.std.proofs.lemmas.List.Folds.{list_any_more}
use Rattle.backup_config.proofs.ListLemmas.{is_before, IsFresh, is_fresh, not_fresh}
use Rattle.backup_config.proofs.list.are_once.Goals as goal

pub returns-then-not-is_new : goal.returns-then-not-is_new
returns-then-not-is_new c =
    let page = c.block-item.result.page in
    let there : is_before c.args.listed.now c.loop-block.block-index page ≡ true =
    grind (arith, common_steps, c.loop-block.invariant.seen page) in
    let twice = not_fresh c.args.listed.now c.loop-block.block-index c.block-item.result c.loop-block-test.true c.block-item.is there in
    (λ yes. absurd (true≢false (sym yes)), λ once. absurd (twice once))

pub loop-block-preserved : goal.loop-block-preserved
loop-block-preserved c =
    let page = c.block-item.result.page in
    let none : is_before c.args.listed.now c.loop-block.block-index page ≡ false =
    grind (arith, common_steps, c.loop-block.invariant.seen page) in
    record {
      seen = λ page. grind (arith, common_steps, list_any_more, c.loop-block.invariant.seen page);
      fresh = below_more (IsFresh c.args.listed.now) c.loop-block.block-index c.loop-block.invariant.fresh
          (is_fresh c.args.listed.now c.loop-block.block-index c.block-item.result c.loop-block-test.true c.block-item.is none);
    }
