use Rattle.std.proofs.Common.{rules}
use Rattle.page_text.specs.Text.{block_at}
use Rattle.page_text.proofs.TextLemmas.{joined_init, joined_step, joined_most, joined_nothing}
use Rattle.page_text.proofs.text.append_blocks.Goals as goal

pub loop-place-init : goal.loop-place-init
loop-place-init c = record {
  spelled = joined_init _ _;
  few = joined_nothing _ 4096;
  room = search rules;
}

pub loop-place-preserved : goal.loop-place-preserved
loop-place-preserved c = record {
  spelled = joined_step (block_at c.args.page.now) _ _ _ _ c.loop-place.invariant.spelled (search rules);
  few = joined_most (block_at c.args.page.now) _ 4096 c.loop-place.invariant.few (search rules);
  room = search rules;
}
