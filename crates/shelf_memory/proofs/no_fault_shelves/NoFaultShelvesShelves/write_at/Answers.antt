use Rattle.std.proofs.Common.{Some, List, ℕ}
use Rattle.shelf_traits.specs.Files.{written}
use Rattle.shelf_memory.proofs.KeptLemmas.{others_at, becomes_at}
use Rattle.shelf_memory.proofs.no_fault_shelves.NoFaultShelvesShelves.write_at.Goals as goal

pub returns-in_err-write-clause-others : goal.returns-in_err-write-clause-others
returns-in_err-write-clause-others c =
    let made = c.in_ok-place.ensures in
    let items = c.self.inside.files.items in
    others_at c.args.self.now c.place_for.new.self items c.args.shelf c.args.file.now c.in_ok-place.place
    c.index_mut.result.now c.write.new.self c.self.view_is made.at made.others c.index_mut.ensures.value
    c.write.ensures.named

pub returns-clause-others : goal.returns-clause-others
returns-clause-others c =
    let made = c.in_ok-place.ensures in
    let items = c.self.inside.files.items in
    others_at c.args.self.now c.place_for.new.self items c.args.shelf c.args.file.now c.in_ok-place.place
    c.index_mut.result.now c.write.new.self c.self.view_is made.at made.others c.index_mut.ensures.value
    c.write.ensures.named

pub returns-clause-ok : goal.returns-clause-ok
returns-clause-ok c =
    let made = c.in_ok-place.ensures in
    let items = c.self.inside.files.items in
    becomes_at c.args.self.now c.place_for.new.self items c.args.shelf c.args.file.now c.in_ok-place.place
    c.index_mut.result.now c.write.new.self (λ (held : List ℕ). written (Some held) c.args.at c.args.bytes.now)
    c.self.view_is made.at made.others c.index_mut.ensures.value c.write.ensures.named made.made c.in_ok-write.ensures.ok
