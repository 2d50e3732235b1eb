use Rattle.std.proofs.Common.{◌++◌, ◌∷◌, [], ap, ◌∙◌, arith}
use Rattle.packed_bytes.proofs.RunLemmas.{packed_short}
use Rattle.packed_entries.specs.Plain.{data_of}
use Rattle.packed_entries.proofs.SlotLemmas.{entries-push}
use Rattle.packed_entries.proofs.entries.PackedEntries.push.Goals as goal

pub overflow_sub-self-2 : goal.overflow_sub-self-2
overflow_sub-self-2 c =
    omega (arith, c.from.ensures, c.keep-slot.ensures.taken, packed_short (data_of c.args.entry), ap (λ v. v.spare_data) c.self.view_is)

pub invariant_of-self : goal.invariant_of-self
invariant_of-self c =
    let j = c.self.inside in
    let keep = c.keep-slot in
    let taken = packed_short (data_of c.args.entry) in
    let known = ap (λ v. v.spare_data) c.self.view_is in
    let keeps = entries-push j.store.items keep.new.store.items j.rares.items keep.new.rares.items j.slots.items
    c.push.new.self.items keep.result.0 c.args.entry c.self.invariant.slots c.push.ensures.items keep.ensures.kept in
    record {
      slots = keeps.0;
      spare = omega arith;
      spare_rares = omega (arith, keep.ensures.places);
      spare_data = omega (arith, c.from.ensures, keep.ensures.room, keep.ensures.taken, taken, known);
      most = omega arith;
    }

pub returns-clause-entries : goal.returns-clause-entries
returns-clause-entries c =
    let j = c.self.inside in
    let keep = c.keep-slot in
    let keeps = entries-push j.store.items keep.new.store.items j.rares.items keep.new.rares.items j.slots.items
    c.push.new.self.items keep.result.0 c.args.entry c.self.invariant.slots c.push.ensures.items keep.ensures.kept in
    keeps.1 ∙ ap (λ v. v.entries ++ c.args.entry ∷ []) c.self.view_is

pub returns-clause-spare_data : goal.returns-clause-spare_data
returns-clause-spare_data c =
    let list = data_of c.args.entry in
    omega (arith, c.from.ensures, c.keep-slot.ensures.taken, packed_short list, ap (λ v. v.spare_data) c.self.view_is)
