use Rattle.std.proofs.Common.{◌≡◌, ℕ, List, Some, true}
use Rattle.backup_make.specs.Giving.{KeepsGiver, Stays}
use Rattle.backup_make.specs.Making.{AddsBlocks, KeptElse}
use Rattle.backup_make.proofs.keep.keep_pages.Given as goal

abbrev pub invariant-loop-page : goal.invariant-loop-page
invariant-loop-page g l =
    let copies = g.P.PageGiver.copies in
    let asked = g.P.PageGiver.asked in
    let tells = g.T.Target.tells in
    let holds = g.T.Target.holds in
    record {
      giver : KeepsGiver g.P.PageGiver.ready g.P.PageGiver.home g.P.PageGiver.lasts l.initial.pages l.pages;
      stays : Stays (copies l.initial.pages) (copies l.pages) (asked l.initial.pages) (asked l.pages);
      adds : tells ≡ true → AddsBlocks l.volume (holds l.initial.target) (holds l.target);
      faults : g.T.Target.faults l.target ≡ g.T.Target.faults l.initial.target;
      kept : (disk : List ℕ) → copies l.initial.pages (asked l.initial.pages) ≡ Some disk
          → KeptElse tells (holds l.initial.target) l.volume disk l.initial.blocks 0 l.wanted
          → KeptElse tells (holds l.target) l.volume disk l.blocks l.page-index l.wanted;
    }
