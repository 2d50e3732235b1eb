use Rattle.std.proofs.Common.{sym, ap, ◌∙◌}
use Rattle.volume_model.specs.declared.call.Call.TheVariants as call
use Rattle.volume_model.specs.Names.{is_used_in}
use Rattle.volume_model.specs.PlainStep.{refusal_of}
use Rattle.journal_book.specs.Book.{names_of}
use Rattle.volume_core.specs.State.{state_of, told_of, modes_in}
use Rattle.volume_maint.proofs.Refusals.{told_used, name_used, name_unused}
use Rattle.volume_maint.proofs.refusal.volume_refusal.Goals as goal

pub returns-then-used : goal.returns-then-used
returns-then-used c =
    let s = state_of c.args.world.now in
    let name = c.in-Snapshot.name in
    let used = sym (told_used s name c.requires.sound) ∙ ap (is_used_in (names_of s.book)) (sym c.from.ensures) ∙ sym c.used.ensures in
    name_used s name (used ∙ c.if-used.true) ∙ ap (λ d. refusal_of (modes_in s) (told_of s) (call.Command d)) (sym c.in-Snapshot.is)

pub returns-else-used : goal.returns-else-used
returns-else-used c =
    let s = state_of c.args.world.now in
    let name = c.in-Snapshot.name in
    let used = sym (told_used s name c.requires.sound) ∙ ap (is_used_in (names_of s.book)) (sym c.from.ensures) ∙ sym c.used.ensures in
    name_unused s name c.chain_refusal.result (used ∙ c.if-used.false) c.chain_refusal.ensures
    ∙ ap (λ d. refusal_of (modes_in s) (told_of s) (call.Command d)) (sym c.in-Snapshot.is)
