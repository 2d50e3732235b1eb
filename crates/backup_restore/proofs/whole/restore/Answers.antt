use Rattle.std.proofs.Common.{subst, OnOk}
use Rattle.std.specs.Io.KnownBytes.{Appends}
use Rattle.outer_traits.specs.Passing.{WritesPrefix}
use Rattle.backup_units.specs.Backups.{disk_of}
use Rattle.backup_restore.specs.Restoring.{AnswersBlocks}
use Rattle.backup_restore.proofs.WholeLemmas.{blocks_answer, disk_written, some_written}
use Rattle.backup_restore.proofs.whole.restore.Goals as goal

pub returns-in-Ok-clause-whole : goal.returns-in-Ok-clause-whole
returns-in-Ok-clause-whole g c t =
    let objects = g.T.Target.holds c.args.target.now in
    let volume = c.args.volume.now in
    let old = g.K.Sink.contents c.args.sink.now in
    let new = g.K.Sink.contents c.restore_blocks.new.sink in
    let result = c.restore_blocks.result in
    disk_written objects volume c.args.backup.now c.in-Ok.cfg (c.in-Ok.ensures.answer t) result old new
    (subst (λ listed. OnOk result (Appends old new (disk_of objects volume listed))) c.blocks-in-Ok.ensures.value
    (subst (λ o. OnOk result (Appends old new (disk_of o volume c.blocks-in-Ok.result.now))) c.read_cfg.ensures.same
    (c.restore_blocks.ensures.whole t)))

pub returns-in-Ok-clause-prefix : goal.returns-in-Ok-clause-prefix
returns-in-Ok-clause-prefix g c t =
    let objects = g.T.Target.holds c.args.target.now in
    let volume = c.args.volume.now in
    let old = g.K.Sink.contents c.args.sink.now in
    let new = g.K.Sink.contents c.restore_blocks.new.sink in
    some_written objects volume c.args.backup.now c.in-Ok.cfg (c.in-Ok.ensures.answer t) old new
    (subst (λ listed. WritesPrefix old new (disk_of objects volume listed)) c.blocks-in-Ok.ensures.value
    (subst (λ o. WritesPrefix old new (disk_of o volume c.blocks-in-Ok.result.now)) c.read_cfg.ensures.same
    (c.restore_blocks.ensures.prefix t)))

pub returns-in-Ok-clause-answer : goal.returns-in-Ok-clause-answer
returns-in-Ok-clause-answer g c t =
    let objects = g.T.Target.holds c.args.target.now in
    let volume = c.args.volume.now in
    let result = c.restore_blocks.result in
    blocks_answer objects volume c.args.backup.now c.in-Ok.cfg (c.in-Ok.ensures.answer t) result
    (subst (λ listed. AnswersBlocks objects volume listed result) c.blocks-in-Ok.ensures.value
    (subst (λ o. AnswersBlocks o volume c.blocks-in-Ok.result.now result) c.read_cfg.ensures.same
    (c.restore_blocks.ensures.answer t)))
