use Rattle.std.proofs.Common.{IfOk, subst}
use Rattle.std.specs.Prelude.{IfNone}
use Rattle.frame_stream.specs.Frames.{HasNoFrame}
use Rattle.script_text.proofs.fed_reader.FedReader.next_head.Goals as goal

pub returns-clause-none : goal.returns-clause-none
returns-clause-none c =
    subst (λ bytes. IfOk c.next_head_of.result (λ next. IfNone next (HasNoFrame bytes))) c.self.view_is c.next_head_of.ensures.none
