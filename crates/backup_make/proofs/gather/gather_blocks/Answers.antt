use Rattle.std.proofs.Common.{option_map}
use Rattle.backup_make.proofs.KeptLemmas.{giver_then, stays_then}
use Rattle.backup_make.proofs.GatherLemmas.{copy_stays, pages_within, gathered, live, weaker}
use Rattle.backup_make.proofs.gather.gather_blocks.Goals as goal

pub keep_found-requires : goal.keep_found-requires
keep_found-requires g c =
    let old = c.args.pages.now in
    let new = c.pages.new.self in
    let copies = g.P.PageGiver.copies in
    let asked = g.P.PageGiver.asked in
    let name = option_map (λ n. n.now) c.args.base_name in
    let blocks = c.in_ok-blocks.blocks.items in
    record {
      ready = c.pages.ensures.keeps.ready;
      copy = copy_stays (copies old) (copies new) (asked old) (asked new) c.args.count blocks
          c.pages.ensures.stays c.requires.copy c.in_ok-blocks.ensures.size;
      within = pages_within (copies old) (copies new) (asked old) (asked new) name c.in_ok-found.found c.args.count
          c.list_of.result.now blocks c.pages.ensures.stays c.requires.copy c.in_ok-found.ensures.ok c.list_of.ensures
          c.in_ok-blocks.ensures.size;
    }

pub returns-clause-backup : goal.returns-clause-backup
returns-clause-backup g c =
    let old = c.args.pages.now in
    let new = c.pages.new.self in
    let copies = g.P.PageGiver.copies in
    let asked = g.P.PageGiver.asked in
    let name = option_map (λ n. n.now) c.args.base_name in
    let base = option_map (λ b. b.now) c.args.base in
    weaker _ _ c.keep_found.result
    (λ after kept disk there.
    kept disk (live (copies old) (copies new) (asked old) (asked new) disk c.pages.ensures.stays there)
    (gathered g.T.Target.tells (g.T.Target.holds c.args.target.now) c.args.volume.now disk (copies old) (copies new)
    (asked old) (asked new) name base c.in_ok-found.found c.args.count c.list_of.result.now c.in_ok-blocks.blocks.items
    c.pages.ensures.stays c.requires.copy c.pages.ensures.base c.in_ok-found.ensures.ok c.requires.base
    c.in_ok-blocks.ensures c.list_of.ensures there))
    c.keep_found.ensures.kept

pub returns-clause-stays : goal.returns-clause-stays
returns-clause-stays g c = stays_then _ _ _ _ _ _ c.pages.ensures.stays c.keep_found.ensures.stays
