use Rattle.std.proofs.Common.{subst, OnOk}
use Rattle.std.specs.Io.KnownBytes.{Appends}
use Rattle.outer_traits.specs.Passing.{WritesPrefix}
use Rattle.backup_units.specs.Backups.{disk_of}
use Rattle.backup_restore.specs.Restoring.{AnswersBlocks}
use Rattle.backup_restore.proofs.RestoreLemmas.{prefix_none, unwritten}
use Rattle.backup_restore.proofs.blocks.restore_blocks.Goals as goal

pub returns-in-Ok-clause-whole : goal.returns-in-Ok-clause-whole
returns-in-Ok-clause-whole g c t =
    subst (λ o. OnOk c.write_blocks.result
    (Appends (g.K.Sink.contents c.args.sink.now) (g.K.Sink.contents c.write_blocks.new.sink)
    (disk_of o c.args.volume.now c.args.listed.now)))
    c.check_blocks.ensures.same (c.write_blocks.ensures.whole t)

pub returns-in-Ok-clause-prefix : goal.returns-in-Ok-clause-prefix
returns-in-Ok-clause-prefix g c t =
    subst (λ o. WritesPrefix (g.K.Sink.contents c.args.sink.now) (g.K.Sink.contents c.write_blocks.new.sink)
    (disk_of o c.args.volume.now c.args.listed.now))
    c.check_blocks.ensures.same (c.write_blocks.ensures.prefix t)

pub returns-in-Ok-clause-unwritten : goal.returns-in-Ok-clause-unwritten
returns-in-Ok-clause-unwritten g c t =
    unwritten (g.T.Target.holds c.args.target.now) c.args.volume.now c.args.listed.now _ c.write_blocks.result (c.in-Ok.ensures.answer t)
    (subst (λ o. AnswersBlocks o c.args.volume.now c.args.listed.now c.write_blocks.result)
    c.check_blocks.ensures.same (c.write_blocks.ensures.answer t))

pub returns-in-Ok-clause-answer : goal.returns-in-Ok-clause-answer
returns-in-Ok-clause-answer g c t =
    subst (λ o. AnswersBlocks o c.args.volume.now c.args.listed.now c.write_blocks.result)
    c.check_blocks.ensures.same (c.write_blocks.ensures.answer t)

pub returns-in-Err-clause-prefix : goal.returns-in-Err-clause-prefix
returns-in-Err-clause-prefix g c t = prefix_none _ _
