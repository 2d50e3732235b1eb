use Rattle.std.proofs.Common.{◌<◌, ◌^◌, ◌++◌, ◌∷◌, [], length, ap, ◌∙◌, arith}
use Rattle.packed_bytes.proofs.RunLemmas.{packed_short}
use Rattle.packed_bytes.specs.declared.list.Place.{Place}
use Rattle.packed_entries.specs.declared.slot.Slot.TheVariants as slot
use Rattle.packed_entries.specs.Plain.{data_of}
use Rattle.packed_entries.proofs.SlotLemmas.{kept_plain, entries-push}
use Rattle.packed_entries.proofs.entries.PackedEntries.push_plain.Goals as goal

pub overflow_sub-self-2 : goal.overflow_sub-self-2
overflow_sub-self-2 c =
    let taken = ap (λ (p : Place). p.taken) c.in-Some.ensures.put.place in
    omega (arith, c.from.ensures, taken, packed_short (data_of c.args.entry.now), ap (λ v. v.spare_data) c.self.view_is)

pub invariant_of-self-2 : goal.invariant_of-self-2
invariant_of-self-2 c =
    let j = c.self.inside in
    let e = c.args.entry.now in
    let plain = c.in-Some.plain in
    let known = ap (λ v. v.spare_data) c.self.view_is in
    let put = c.in-Some.ensures.put in
    let taken = ap (λ (p : Place). p.taken) put.place in
    let short : length (data_of e) < 2 ^ 32 = omega (arith, known) in
    let kept = kept_plain j.store c.keep_plain.new.store j.rares.items e plain short c.in-Some.ensures in
    let keeps = entries-push j.store.items c.keep_plain.new.store.items j.rares.items j.rares.items j.slots.items
    c.push.new.self.items (slot.Plain plain) e c.self.invariant.slots c.push.ensures.items kept in
    record {
      slots = keeps.0;
      spare = omega arith;
      spare_rares = omega arith;
      spare_data = omega (arith, c.from.ensures, put.room, taken, packed_short (data_of e), known);
      most = omega arith;
    }

pub returns-clause-pushed : goal.returns-clause-pushed
returns-clause-pushed c = λ yes.
    let j = c.self.inside in
    let e = c.args.entry.now in
    let plain = c.in-Some.plain in
    let known = ap (λ v. v.spare_data) c.self.view_is in
    let taken = ap (λ (p : Place). p.taken) c.in-Some.ensures.put.place in
    let short : length (data_of e) < 2 ^ 32 = omega (arith, known) in
    let kept = kept_plain j.store c.keep_plain.new.store j.rares.items e plain short c.in-Some.ensures in
    let keeps = entries-push j.store.items c.keep_plain.new.store.items j.rares.items j.rares.items j.slots.items
    c.push.new.self.items (slot.Plain plain) e c.self.invariant.slots c.push.ensures.items kept in
    record {
      entries = keeps.1 ∙ ap (λ v. v.entries ++ e ∷ []) c.self.view_is;
      spare = omega (arith, ap (λ v. v.spare) c.self.view_is);
      spare_data = omega (arith, c.from.ensures, taken, packed_short (data_of e), known);
    }
