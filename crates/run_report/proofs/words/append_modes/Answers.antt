use Rattle.std.proofs.Common.{◌++◌, ap, ◌∙◌}
use Rattle.std.proofs.lemmas.Result.{on_ok_weaker}
use Rattle.run_report.proofs.Appends.{kept_more, two_appends}
use Rattle.volume_model.specs.declared.mode.Mode.TheVariants.{Rw}
use Rattle.run_report.specs.Lines.{mode_text}
use Rattle.run_report.proofs.PartedWords.{words_apart}
use Rattle.run_report.proofs.words.append_modes.Goals as goal

pub returns-clause-ok : goal.returns-clause-ok
returns-clause-ok c =
    let old = c.args.into.now.items in
    let first = c.in_ok-extend_from_slice.ensures.items ∙ ap (λ l. old ++ l) (c.as_bytes.ensures.value ∙ c.text_of_mode.ensures) in
    on_ok_weaker c.append_more_modes.result (λ more. two_appends old _ _ _ _ first more
    ∙ ap (λ l. old ++ l) (words_apart mode_text Rw c.args.modes.now c.in-len1-up.len_at_least)) c.append_more_modes.ensures.ok

pub returns-clause-kept : goal.returns-clause-kept
returns-clause-kept c = kept_more _ _ _ _ c.in_ok-extend_from_slice.ensures.items c.append_more_modes.ensures.kept
