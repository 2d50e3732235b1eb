use Rattle.std.proofs.Common.{subst}
use Rattle.std.specs.Prelude.{IfOk, IfNone}
use Rattle.frame_stream.specs.Frames.{HasNoFrame}
use Rattle.script_text.proofs.fed_reader.FedReader.next.Goals as goal

pub returns-clause-none : goal.returns-clause-none
returns-clause-none c =
    subst (λ b. IfOk c.next_of.result (λ next. IfNone next (HasNoFrame b))) c.self.view_is c.next_of.ensures.none
