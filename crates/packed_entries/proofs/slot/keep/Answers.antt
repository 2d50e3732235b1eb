use Rattle.std.proofs.Common.{ap}
use Rattle.packed_entries.proofs.SlotLemmas.{kept_plain, kept_whole}
use Rattle.packed_entries.proofs.slot.keep.Goals as goal

pub returns-in-Some-clause-kept : goal.returns-in-Some-clause-kept
returns-in-Some-clause-kept c =
    kept_plain c.args.store.now c.keep_plain.new.store c.args.rares.now.items c.args.entry c.in-Some.plain c.requires.short
    c.in-Some.ensures

pub returns-in-None-clause-kept : goal.returns-in-None-clause-kept
returns-in-None-clause-kept c =
    kept_whole c.args.store.now.items c.keep_plain.new.store.items c.args.rares.now.items c.keep_whole.new.rares.items c.args.entry
    c.keep_whole.result (ap (λ s. s.items) c.in-None.ensures.same) c.keep_whole.ensures.slot c.keep_whole.ensures.rares
