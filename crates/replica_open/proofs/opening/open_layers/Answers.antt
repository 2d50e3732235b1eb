use Rattle.std.proofs.Common.{sym, subst, arith, map, string_bytes, Global}
use Rattle.std.specs.Prelude.{IfSome, Contains}
use Rattle.std.proofs.lemmas.List.{length-map}
use Rattle.folder_checks.specs.Snapshots.{metas_of}
use Rattle.folder_checks.specs.declared.parts.ImageParts.{ImageParts}
use Rattle.folder_layers.specs.Ordered.{CanBeLayers, AreOrdered}
use Rattle.replica_open.specs.Building.{CanBeBuilt, IsBuiltOrNot}
use Rattle.replica_open.proofs.AnswerLemmas.{can_be_layers, replica_is_told, none_is_short}
use Rattle.replica_open.proofs.KnownLemmas.{built_is_known}
use Rattle.replica_open.proofs.opening.open_layers.Goals as goal

pub order_layers-requires-clause-fit : goal.order_layers-requires-clause-fit
order_layers-requires-clause-fit g c =
    let text = string_bytes {Z = Global} in
    let parts = c.args.parts in
    subst (λ ns. CanBeLayers (map text ns) (metas_of c.as_slice-snapshots.result.now)) (sym c.as_slice-names.ensures.value)
    (subst (λ ss. CanBeLayers (map text parts.names.items) (metas_of ss)) (sym c.as_slice-snapshots.ensures.value)
    (can_be_layers parts.volume.head parts.head.meta (map text parts.names.items) (metas_of parts.snapshots.items)
    c.requires.known.low c.requires.fit))

pub parent_name-on-requires-clause-fit : goal.parent_name-on-requires-clause-fit
parent_name-on-requires-clause-fit g c =
    let text = string_bytes {Z = Global} in
    let parts = c.args.parts in
    subst (λ ns. CanBeLayers (map text ns) (metas_of c.as_slice-snapshots.result.now)) (sym c.as_slice-names.ensures.value)
    (subst (λ ss. CanBeLayers (map text parts.names.items) (metas_of ss)) (sym c.as_slice-snapshots.ensures.value)
    (can_be_layers parts.volume.head parts.head.meta (map text parts.names.items) (metas_of parts.snapshots.items)
    c.requires.known.low c.requires.fit))

pub returns-in-Ok-clause-told : goal.returns-in-Ok-clause-told
returns-in-Ok-clause-told g c =
    replica_is_told (g.S.Shelves.holds c.args.shelves.now) c.args.shelf c.args.size c.args.parts c.in_ok-node.field-0 c.in-Ok.node
    c.head_of.result c.in-Ok.is c.head_of.ensures c.in_ok-node.ensures.told

pub returns-in-Ok-clause-known : goal.returns-in-Ok-clause-known
returns-in-Ok-clause-known g c =
    let parts = c.args.parts in
    let layers = c.in_ok-layers.layers.items in
    let on = c.parent_name-on.result in
    let text = string_bytes {Z = Global} in
    let names = c.as_slice-names.ensures.value in
    let snapshots = c.as_slice-snapshots.ensures.value in
    let can : CanBeBuilt c.args.size parts layers on = record {
      known = c.requires.known;
      in_turn = subst (λ ss. AreOrdered (map text parts.names.items) (metas_of ss) layers) snapshots
          (subst (λ ns. AreOrdered (map text ns) (metas_of c.as_slice-snapshots.result.now) layers) names c.in_ok-layers.ensures);
      few = omega (arith, c.requires.fit.few, length-map parts.snapshots.items (λ (p : ImageParts). p.meta));
      file = c.parent_name-on.ensures.file;
      named = subst (λ ns. IfSome on (Contains (map text ns))) names c.parent_name-on.ensures.named;
    } in
    built_is_known c.args.size parts layers on c.in-Ok.node can c.requires.fit
    (subst (IsBuiltOrNot c.args.size parts layers on) c.in-Ok.is c.in_ok-node.ensures.built)

pub returns-in-Err-clause-told : goal.returns-in-Err-clause-told
returns-in-Err-clause-told g c =
    none_is_short (g.S.Shelves.holds c.args.shelves.now) c.args.shelf c.args.size c.args.parts c.in_ok-node.field-0 c.in-Err.damage _
    c.in-Err.is c.in_ok-node.ensures.told
