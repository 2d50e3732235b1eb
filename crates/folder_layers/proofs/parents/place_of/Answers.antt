use Rattle.std.proofs.Common.{string_bytes, rules}
use Rattle.std.proofs.lemmas.Fn.{always_returns_same}
use Rattle.std.specs.Cmp.Lexicographic.{slice_cmp}
use Rattle.std.specs.Ordering.{nat_cmp}
use Rattle.folder_layers.proofs.ParentLemmas.{found_name, found_none}
use Rattle.folder_layers.proofs.parents.place_of.Goals as goal

pub returns-in-Ok : goal.returns-in-Ok
returns-in-Ok c = λ rising. (
  c.in-Ok.ensures.bound,
  found_name string_bytes c.args.names.now c.args.name.now c.in-Ok.place c.in-Ok.ensures.bound
      (c.in-Ok.ensures.position (λ x. slice_cmp nat_cmp (string_bytes x) c.args.name.now)
      (always_returns_same _ _ _ (λ x r f k. search rules))),
)

pub returns-in-Err : goal.returns-in-Err
returns-in-Err c =
    found_none string_bytes c.args.names.now c.args.name.now c.in-Err.field-0
    (c.in-Err.ensures.position (λ x. slice_cmp nat_cmp (string_bytes x) c.args.name.now)
    (always_returns_same _ _ _ (λ x r f k. search rules)))
