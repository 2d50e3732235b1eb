use Rattle.std.proofs.Common.{rules}
use Rattle.folder_names.proofs.NameLemmas.{of_map, of_meta, only_meta}
use Rattle.replica_shelf.proofs.names.is_of_an_image.Goals as goal

pub returns-then-is_image_before : goal.returns-then-is_image_before
returns-then-is_image_before c = (λ _. of_map c.args.file.now (c.is_image_before.ensures.0 (search rules)), λ _. search rules)

pub returns : goal.returns
returns c = (
  λ yes. of_meta c.args.file.now (c.is_image_before-2.ensures.0 yes),
  λ ours. c.is_image_before-2.ensures.1 (only_meta c.args.file.now
      (λ named. search (rules, c.is_image.ensures.1 named)) (λ m. search (rules, c.is_image_before.ensures.1 m)) ours),
)
