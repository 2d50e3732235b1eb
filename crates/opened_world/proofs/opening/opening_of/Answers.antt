use Rattle.std.proofs.Common.{refl, sym, ap, subst, ◌∙◌}
use Rattle.std.specs.Option.{IsSome}
use Rattle.volume_model.specs.Modes.{source_of}
use Rattle.opened_world.proofs.OpensLemmas.{source_is}
use Rattle.opened_world.proofs.opening.opening_of.Goals as goal

pub unwrap-source-requires : goal.unwrap-source-requires
unwrap-source-requires c =
    let (size, replicas, source, known) = c.requires.known in
    subst IsSome
    (sym (c.source.ensures.value ∙ ap source_of c.in_ok-modes.ensures
    ∙ source_is size replicas source c.args.nodes.now c.args.reasons.now known)) refl
