use Rattle.std.proofs.Common.{◌≡◌, None, rules}
use Rattle.folder_target.proofs.NameLemmas.{cut_at, uncut, path_more, path_end}
use Rattle.folder_target.proofs.object_names.is_path.Goals as goal

pub loop-parts-preserved : goal.loop-parts-preserved
loop-parts-preserved c =
    let rest = c.loop-parts.rest.now in
    let so_far = c.loop-parts.invariant.1 in
    let cut = cut_at rest c.split_once.result c.in-Some.parts c.split_once.ensures.cases c.in-Some.is in
    let plain = c.is_part.ensures.0 (search rules) in
    let more = path_more rest c.in-Some.parts.0.now c.in-Some.parts.1.now cut.0 cut.1 plain in
    (search rules, (λ path. more.0 (so_far.0 path), λ path. so_far.1 (more.1 path)))

pub returns : goal.returns
returns c =
    let rest = c.loop-parts.rest.now in
    let so_far = c.loop-parts.invariant.1 in
    let none : c.split_once.result ≡ None = search rules in
    let end = path_end rest (uncut rest c.split_once.result c.split_once.ensures.cases none) in
    (λ yes. so_far.1 (end.1 (c.is_part-2.ensures.0 yes)), λ path. c.is_part-2.ensures.1 (end.0 (so_far.0 path)))
