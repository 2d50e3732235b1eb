use Rattle.std.proofs.Common.{◌≡◌, ◌<◌, Some, length, map, get_or, refl, sym, ap, subst, ◌∙◌}
use Rattle.std.proofs.lemmas.Option.{slice_get_read, slice_get-map}
use Rattle.std.specs.Prelude.{option_and_then, option_map, slice_get}
use Rattle.replica_node.specs.Volume.{volume_of_node}
use Rattle.report_writer.proofs.summary.source_of.Goals as goal

pub returns : goal.returns
returns c =
    let replicas = c.args.replicas.now in
    let source = c.in_ok-source.source in
    let replica = c.index-replicas-from.result in
    let volumes = map volume_of_node replicas in
    let inside : source < length replicas = subst (λ n. source < n) (sym c.requires) c.in_ok-source.ensures.within in
    let at : slice_get replicas source ≡ Some replica = slice_get_read replicas (length replicas) source replica refl inside
    (c.index-replicas-from.is ∙ ap (λ n. get_or replicas n replica) c.from.ensures) in
    sym (ap (option_and_then (slice_get volumes)) (sym c.in_ok-source.ensures.value) ∙ slice_get-map volume_of_node replicas source
    ∙ ap (option_map volume_of_node) at)
