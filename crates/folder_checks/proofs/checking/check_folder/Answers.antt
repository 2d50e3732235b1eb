use Rattle.std.proofs.Common.{◌∙◌, sym, ap, subst, lit<, IfOk}
use Rattle.std.specs.Prelude.{◌/◌}
use Rattle.std.proofs.Math.Nat.{mul-div_cancel}
use Rattle.folder_checks.specs.Told.{Told}
use Rattle.folder_checks.specs.Checks.{IsFolderCheck, IsKnown}
use Rattle.folder_checks.proofs.checking.check_folder.Goals as goal

pub check_files-requires : goal.check_files-requires
check_files-requires g c =
    sym (mul-div_cancel c.block_count.result (lit< tt)) ∙ ap (λ n. n / 4096) (c.block_count.ensures ∙ sym c.bytes.ensures.value)

pub returns-clause-told : goal.returns-clause-told
returns-clause-told g c =
    let a = g.S.Shelves.holds c.args.shelves.now in
    subst (λ n. IfOk c.check_files.result (λ found. Told a (λ files. IsFolderCheck (files c.args.shelf) n found)))
    c.bytes.ensures.value c.check_files.ensures.told

pub returns-clause-known : goal.returns-clause-known
returns-clause-known g c = subst (λ n. IfOk c.check_files.result (IsKnown n)) c.bytes.ensures.value c.check_files.ensures.known
