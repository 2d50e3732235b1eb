use Rattle.std.proofs.Common.{map, sym, ◌∙◌, arith, below_more}
use Rattle.serde_json.specs.View.{view}
use Rattle.backup_config.specs.Lists.{listed_from}
use Rattle.backup_config.proofs.ListLemmas.{values_more, values_end, good_at, values_count, listed_short}
use Rattle.backup_config.proofs.backup_cfg.block_values.Goals as goal

pub loop-page-preserved : goal.loop-page-preserved
loop-page-preserved c =
    let blocks = c.args.blocks.now in
    let entry = c.index-blocks-page in
    record {
      so_far =
          values_more (map view c.loop-page.values.items) (map view c.push_block.new.values.items) blocks c.loop-page.page entry.result
          c.loop-page-test.true entry.is c.in_ok-push_block.ensures.value
          ∙ c.loop-page.invariant.so_far;
      good =
          below_more _ _ c.loop-page.invariant.good
          (good_at blocks c.loop-page.page entry.result c.loop-page-test.true entry.is c.in_ok-push_block.ensures.good);
    }

pub returns-clause-values : goal.returns-clause-values
returns-clause-values c =
    sym (values_end _ c.args.blocks.now c.loop-page.page c.loop-page-test.false) ∙ c.loop-page.invariant.so_far

pub returns-clause-count : goal.returns-clause-count
returns-clause-count c = values_count c.loop-page.values.items (listed_from 0 c.args.blocks.now) (returns-clause-values c)

pub returns-clause-most : goal.returns-clause-most
returns-clause-most c = omega (arith, returns-clause-count c, listed_short 0 c.args.blocks.now, c.requires)
