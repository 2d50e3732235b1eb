use Rattle.std.proofs.Common.{◌≡◌, rules}
use Rattle.std.specs.Prelude.{Some}
use Rattle.open_rebuild.specs.declared.rebuilding.Rebuilding.{Rebuilding}
use Rattle.open_rebuild.specs.Pages.{IsFrozenPage}
use Rattle.volume_core.specs.State.{State, state_of}
use Rattle.volume_rebuild.proofs.Left.{source_kept, source_inside}
use Rattle.volume_rebuild.proofs.copying.copy_out.Goals as goal

pub give_page-requires-clause-kept : goal.give_page-requires-clause-kept
give_page-requires-clause-kept c =
    let s : State = state_of c.args.world.now in
    let b : Rebuilding = c.in-Some.rebuild in
    let begun : s.rebuild ≡ Some b = search rules in
    let frozen : IsFrozenPage b c.args.page.now = search rules in
    source_kept s b c.requires.sound begun c.args.page.now frozen

pub give_page-requires-clause-inside : goal.give_page-requires-clause-inside
give_page-requires-clause-inside c =
    let s : State = state_of c.args.world.now in
    let b : Rebuilding = c.in-Some.rebuild in
    let begun : s.rebuild ≡ Some b = search rules in
    let frozen : IsFrozenPage b c.args.page.now = search rules in
    source_inside s b c.requires.sound begun c.args.page.now frozen
