use Rattle.std.proofs.Common.{List, refl, subst, ◌∙◌, false, ◌≡◌}
use Rattle.std.specs.List.{All}
use Rattle.shelf_memory.specs.Kept.{Kept, IsAt, is_file}
use Rattle.shelf_memory.proofs.KeptLemmas.{makes_itself, makes_behind, makes_new}
use Rattle.shelf_memory.proofs.no_fault_shelves.NoFaultShelves.place_for.Goals as goal

pub returns-in-Some-clause-made : goal.returns-in-Some-clause-made
returns-in-Some-clause-made c =
    let same = c.deref.ensures.value ∙ c.self.view_is in
    makes_itself c.args.self.now c.args.shelf c.args.name.now c.in-Some.place
    (subst (λ (ks : List Kept). IsAt ks c.args.shelf c.args.name.now c.in-Some.place) same c.in-Some.ensures)

pub returns-clause-made : goal.returns-clause-made
returns-clause-made c =
    let ks = c.args.self.now in
    let name = c.args.name.now in
    let none = subst (λ (files : List Kept). All (λ k. is_file c.args.shelf name k ≡ false) files)
    (c.deref.ensures.value ∙ c.self.view_is) c.in_default.ensures in
    makes_new ks c.push.new.self.items c.args.shelf name none
    (makes_behind ks c.self.inside.files.items c.push.new.self.items c.args.shelf name _ none c.self.view_is
    c.in_ok-push.ensures.items refl c.in_ok-name.ensures.ok c.new-bytes.ensures.items)

pub returns-clause-others : goal.returns-clause-others
returns-clause-others c =
    let ks = c.args.self.now in
    let name = c.args.name.now in
    let none = subst (λ (files : List Kept). All (λ k. is_file c.args.shelf name k ≡ false) files)
    (c.deref.ensures.value ∙ c.self.view_is) c.in_default.ensures in
    let made = makes_behind ks c.self.inside.files.items c.push.new.self.items c.args.shelf name _ none c.self.view_is
    c.in_ok-push.ensures.items refl c.in_ok-name.ensures.ok c.new-bytes.ensures.items in
    made.others
