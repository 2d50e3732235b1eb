use Rattle.volume_cli.proofs.laws.a_backup_that_was_made_is_there.Goals as goal

pub returns : goal.returns
returns c = λ first now from count volume spot journal before after a backup snapshot store at call done.
    (store.told before after a backup snapshot at call).made done
