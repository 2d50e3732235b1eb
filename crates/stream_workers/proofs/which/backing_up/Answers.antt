use Rattle.std.proofs.Common.{sym, ap, ◌∙◌}
use Rattle.script_text.specs.Good.{backs_up}
use Rattle.stream_workers.proofs.OnlyOne.{only_one}
use Rattle.stream_workers.proofs.which.backing_up.Goals as goal

pub returns-then-backs_up-clause-others : goal.returns-then-backs_up-clause-others
returns-then-backs_up-clause-others c =
    only_one backs_up c.args.streams.now c.requires c.loop-place.place c.index-streams-place.result c.loop-place-test.true
    (ap backs_up (sym c.index-streams-place.is) ∙ (sym c.backs_up.ensures ∙ c.if-backs_up.true))
