use Rattle.std.proofs.Common.{◌<◌, length, map, string_bytes, sym, ap, subst, ◌∙◌, arith, Global}
use Rattle.std.proofs.lemmas.List.{length-map}
use Rattle.folder_checks.specs.Snapshots.{metas_of}
use Rattle.folder_checks.specs.declared.parts.ImageParts.{ImageParts}
use Rattle.folder_names.specs.Files.{meta_of}
use Rattle.folder_layers.specs.Folders.{misfit_file}
use Rattle.replica_open.proofs.AnswerLemmas.{IsWithin, within, snapshot_told, same_file}
use Rattle.replica_open.proofs.opening.misfit_damage.Goals as goal

pub returns-in-Snapshot : goal.returns-in-Snapshot
returns-in-Snapshot c =
    let parts = c.args.parts.now in
    let names = map (string_bytes {Z = Global}) parts.names.items in
    let snapshots = parts.snapshots.items in
    let place = c.in-Snapshot.place in
    let inside : place < length (metas_of snapshots) =
    subst (IsWithin (length (metas_of snapshots))) c.in-Snapshot.is
    (within parts.volume.head parts.head.meta names (metas_of snapshots) c.args.misfit c.requires.misfit) in
    let less : place < length snapshots = omega (arith, inside, length-map snapshots (λ (p : ImageParts). p.meta)) in
    same_file c.meta_damage-in-Snapshot.result (meta_of c.index.result.now.meta.name) (misfit_file parts.volume.head names c.args.misfit)
    (ap (λ (p : ImageParts). meta_of p.meta.name) c.index.ensures
    ∙ snapshot_told names snapshots place c.index.result.now c.requires.listed less
    ∙ ap (misfit_file parts.volume.head names) (sym c.in-Snapshot.is))
    c.meta_damage-in-Snapshot.ensures
