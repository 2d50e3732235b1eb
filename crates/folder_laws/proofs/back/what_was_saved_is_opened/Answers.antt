use Rattle.std.proofs.Common.{length, false, sym, subst, ◌∙◌, ⊎_elim}
use Rattle.replica_open.specs.Opening.{AnswersOpen, IsKnownOpened}
use Rattle.folder_laws.specs.Back.{IsBack}
use Rattle.folder_laws.proofs.BackLemmas.{told_timed}
use Rattle.folder_laws.proofs.back.what_was_saved_is_opened.Goals as goal

pub returns-in-Clean : goal.returns-in-Clean
returns-in-Clean c = λ folder stamps is earlier answer known.
    let saved = c.args.saved.now in
    let size = length saved.disk in
    let found = subst (AnswersOpen folder size) c.in-Clean.is answer in
    let kept = subst (IsKnownOpened size) c.in-Clean.is known in
    let law = c.one_folder_is_one_replica.ensures in
    let told = law.told folder stamps _ false false is found.1 in
    subst (IsBack stamps saved) (sym c.in-Clean.is) (
      law.alike folder stamps _ false false is found.1,
      λ name. told name ∙ told_timed found.0 stamps.now c.in-Clean.node.layers name kept.timed,
      sym (law.head folder stamps _ false false is found.1),
    )

pub returns-in-Unclean : goal.returns-in-Unclean
returns-in-Unclean c = λ folder stamps is earlier answer known.
    let found = subst (AnswersOpen folder (length c.args.saved.now.disk)) c.in-Unclean.is answer in
    absurd (c.a_replica_is_not_refused.ensures.unflagged folder stamps found.0 _ is found.1 found.2)

pub returns-in-Damaged : goal.returns-in-Damaged
returns-in-Damaged c = λ folder stamps is earlier answer known.
    let law = c.a_replica_is_not_refused-in-Damaged.ensures in
    let found = subst (AnswersOpen folder (length c.args.saved.now.disk)) c.in-Damaged.is answer in
    absurd (⊎_elim (λ fault. law.good folder stamps _ _ is fault) (λ misfit. law.fit folder stamps _ _ is earlier misfit) found)
