use Rattle.std.proofs.Common.{subst}
use Rattle.chain_meta.specs.ImageNames.{IsImageName}
use Rattle.folder_names.proofs.NameLemmas.{one_front}
use Rattle.replica_shelf.proofs.names.is_image_before.Goals as goal

pub returns-in-Some : goal.returns-in-Some
returns-in-Some c = (
  λ yes. (c.in-Some.image.now, c.is_image.ensures.0 yes, c.in-Some.ensures),
  λ (image, named, e). c.is_image.ensures.1 (subst IsImageName
      (one_front c.args.file.now c.args.back.now image c.in-Some.image.now e c.in-Some.ensures) named),
)
