use Rattle.std.proofs.Common.{◌<◌, length, sym, arith}
use Rattle.std.proofs.lemmas.Option.{get_or_from_slice_get}
use Rattle.packed_entries.specs.View.{entry_seen}
use Rattle.report_laws.specs.Fits.{EntryFits}
use Rattle.report_laws.proofs.Knowing.{one_more, all_of_them}
use Rattle.report_laws.proofs.known.know_journal.Goals as goal

pub loop-place-preserved : goal.loop-place-preserved
loop-place-preserved c =
    let entries = c.args.journal.now.entries in
    let place = c.loop-place.place in
    let e = entry_seen c.entry.result in
    let inside : place < length entries = omega (arith, c.len-place-end.ensures) in
    one_more EntryFits entries place e inside (sym (get_or_from_slice_get entries place e e c.entry.ensures))
    c.know_entry.ensures c.loop-place.invariant

pub returns : goal.returns
returns c = all_of_them EntryFits _ _ (omega (arith, c.len-place-end.ensures)) c.loop-place.invariant
