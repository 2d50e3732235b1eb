use Rattle.std.proofs.Common.{Some, List, ℕ}
use Rattle.shelf_traits.specs.Files.{resized}
use Rattle.shelf_memory.proofs.KeptLemmas.{others_at, becomes_at}
use Rattle.shelf_memory.proofs.no_fault_shelves.NoFaultShelvesShelves.set_len.Goals as goal

pub returns-in_err-set_len-clause-others : goal.returns-in_err-set_len-clause-others
returns-in_err-set_len-clause-others c =
    let made = c.in_ok-place.ensures in
    let items = c.self.inside.files.items in
    others_at c.args.self.now c.place_for.new.self items c.args.shelf c.args.file.now c.in_ok-place.place
    c.index_mut.result.now c.set_len.new.self c.self.view_is made.at made.others c.index_mut.ensures.value
    c.set_len.ensures.named

pub returns-clause-others : goal.returns-clause-others
returns-clause-others c =
    let made = c.in_ok-place.ensures in
    let items = c.self.inside.files.items in
    others_at c.args.self.now c.place_for.new.self items c.args.shelf c.args.file.now c.in_ok-place.place
    c.index_mut.result.now c.set_len.new.self c.self.view_is made.at made.others c.index_mut.ensures.value
    c.set_len.ensures.named

pub returns-clause-ok : goal.returns-clause-ok
returns-clause-ok c =
    let made = c.in_ok-place.ensures in
    let items = c.self.inside.files.items in
    becomes_at c.args.self.now c.place_for.new.self items c.args.shelf c.args.file.now c.in_ok-place.place
    c.index_mut.result.now c.set_len.new.self (λ (held : List ℕ). resized (Some held) c.args.len)
    c.self.view_is made.at made.others c.index_mut.ensures.value c.set_len.ensures.named made.made c.in_ok-set_len.ensures.ok
