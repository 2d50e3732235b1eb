use Rattle.std.proofs.Common.{◌∙◌, subst}
use Rattle.std.specs.Option.{option_copied}
use Rattle.chain_meta.specs.DiskMetas.{SaysDisk}
use Rattle.folder_checks.specs.Told.{Told, IsToldAlone}
use Rattle.folder_checks.proofs.ToldLemmas.{told_map}
use Rattle.folder_checks.proofs.MetaLemmas.{good_found}
use Rattle.folder_checks.proofs.images.good_meta.Goals as goal

pub returns-clause-told : goal.returns-clause-told
returns-clause-told g c =
    let a = g.S.Shelves.holds c.args.shelves.now in
    let shelf = c.args.shelf in
    let found = c.in_ok-found.found in
    told_map a _ _
    (subst (λ f. Told a (λ files. IsToldAlone (files shelf) f SaysDisk found)) (c.as_str.ensures.value ∙ c.in_ok-file.ensures)
    c.in_ok-found.ensures.told)
    (λ files t. good_found (files shelf) c.args.image.now (option_copied c.args.head) found c.keep_right.result t c.keep_right.ensures)
