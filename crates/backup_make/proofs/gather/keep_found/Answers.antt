use Rattle.std.proofs.Common.{sym, subst, ◌∙◌}
use Rattle.backup_units.specs.Backups.{IsBackup}
use Rattle.backup_make.specs.Making.{KeptElse}
use Rattle.backup_make.proofs.KeptLemmas.{lent_whole}
use Rattle.backup_make.proofs.gather.keep_found.Goals as goal

pub returns-clause-kept : goal.returns-clause-kept
returns-clause-kept g c disk is start =
    let tells = g.T.Target.tells in
    let holds = g.T.Target.holds in
    let volume = c.args.volume.now in
    let after = c.keep_pages.new.blocks in
    subst (λ blocks. IsBackup tells (holds c.keep_pages.new.target) volume disk blocks)
    (sym (lent_whole c.args.blocks.len after c.args.blocks.items (c.keep_pages.ensures.size ∙ c.deref_mut.ensures.len)))
    (c.in_ok-keep_pages.ensures.kept disk is
    (subst (λ blocks. KeptElse tells (holds c.args.target.now) volume disk blocks 0 c.args.wanted.now)
    (sym c.deref_mut.ensures.value) start))
