use Rattle.std.proofs.Common.{◌≡◌, ◌++◌, Option, Some, ap, ◌∙◌}
use Rattle.std.proofs.lemmas.Result.{IfOk-at_ok}
use Rattle.volume_model.specs.PlainState.{Volume}
use Rattle.replica_node.specs.Volume.{volume_of_node}
use Rattle.run_report.specs.Summary.{volume_lines}
use Rattle.report_writer.specs.Written.{calls_text}
use Rattle.report_writer.proofs.summary.print_summary.Goals as goal

pub returns : goal.returns
returns g c =
    let calls = calls_text c.args.heads.now c.args.journal.now in
    let lines = volume_lines (Some (volume_of_node c.in-Some.replica.now)) in
    let front : c.in_ok-text.text.items ≡ calls = IfOk-at_ok (λ v. v.items ≡ calls) c.in_ok-text.was c.join-volume.ensures.second in
    let back : c.in_ok-volume.field-0.items ≡ lines = IfOk-at_ok (λ v. v.items ≡ lines) c.in_ok-volume.was c.join-volume.ensures.first in
    c.in_ok-append.ensures.items ∙ ap (λ l. l ++ c.in_ok-volume.field-0.items) front ∙ ap (λ l. calls ++ l) back
    ∙ ap (λ (o : Option Volume). calls ++ volume_lines o) c.in-Some.ensures
