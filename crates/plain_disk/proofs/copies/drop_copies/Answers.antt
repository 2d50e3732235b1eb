use Rattle.std.proofs.Common.{rules, ◌∙◌}
use Rattle.std.proofs.lemmas.Fn.{filter_same}
use Rattle.plain_disk.proofs.CopyLemmas.{is_other, filter_others}
use Rattle.plain_disk.proofs.copies.drop_copies.Goals as goal

pub returns : goal.returns
returns c =
    filter_same _ (is_other c.args.name.now) _ (λ x b q t. search rules) _ _ c.retain.ensures.filtered
    ∙ filter_others c.args.name.now c.args.copies.now.items
