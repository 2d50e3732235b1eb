use Rattle.std.proofs.Common.{arith}
use Rattle.folder_layers.specs.Rings.{AtRoot, Further}
use Rattle.folder_layers.proofs.WalkLemmas.{ends_below, never_back}
use Rattle.folder_layers.proofs.rings.walk_up.Goals as goal

pub returns-in_default : goal.returns-in_default
returns-in_default c =
    ends_below c.args.parents.now c.loop-step.step c.args.place c.loop-step.at c.loop-step.invariant.is
    (AtRoot c.in_default.is)

pub returns-then-marks-parent : goal.returns-then-marks-parent
returns-then-marks-parent c =
    ends_below c.args.parents.now c.loop-step.step c.args.place c.loop-step.at c.loop-step.invariant.is
    (Further c.in-Some.parent c.in-Some.is (c.requires.marked.ends c.in-Some.parent c.if-marks-parent.true))

pub returns : goal.returns
returns c = never_back c.args.parents.now c.requires.marked.within c.args.place c.requires.within
    (λ steps less is. c.loop-step.invariant.not_back steps (omega arith) is)
