use Rattle.std.proofs.Common.{rules, subst, ap, ◌∙◌, List}
use Rattle.shelf_memory.specs.Kept.{Kept, IsAt, files_of}
use Rattle.shelf_memory.proofs.KeptLemmas.{gone_other, files_nowhere}
use Rattle.shelf_memory.proofs.no_fault_shelves.NoFaultShelves.drop_file.Goals as goal

pub loop-place-preserved : goal.loop-place-preserved
loop-place-preserved c s f other =
    let at = subst (λ (ks : List Kept). IsAt ks c.args.shelf c.args.name.now c.in-Some.place)
    c.deref.ensures.value c.in-Some.ensures in
    ap (λ l. files_of l s f) c.remove.ensures.items
    ∙ gone_other c.loop-place.self-inside.files.items c.args.shelf s c.args.name.now f c.in-Some.place at other
    ∙ c.loop-place.invariant s f other

pub returns : goal.returns
returns c = record {
  here = files_nowhere c.loop-place.self-inside.files.items c.args.shelf c.args.name.now (search rules);
  others = λ s f other. c.loop-place.invariant s f other ∙ ap (λ (ks : List Kept). files_of ks s f) c.self.view_is;
}
