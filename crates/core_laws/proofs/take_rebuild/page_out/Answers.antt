use Rattle.std.proofs.Common.{Bool, refl, sym, subst}
use Rattle.sparse_image.specs.Image.{HasNoBlock}
use Rattle.volume_core.specs.State.{State, state_of}
use Rattle.volume_rebuild.specs.Answers.{CopiesOut}
use Rattle.volume_rebuild.proofs.Bare.{out_none}
use Rattle.core_laws.proofs.take_rebuild.page_out.Goals as goal

pub returns-in-Ok-false : goal.returns-in-Ok-false
returns-in-Ok-false c =
    let s : State = state_of c.args.world.now in
    let page = c.args.page.now in
    out_none s page c.in_ok-into.into c.copy_out.new.into c.unmade-in-Ok-false.result
    (subst (λ (f : Bool). CopiesOut s page f c.in_ok-into.into c.copy_out.new.into) c.in-Ok-false.field-0-test c.in-Ok-false.ensures.ok)
    (subst HasNoBlock (sym c.unmade-in-Ok-false.ensures) (λ i. refl))
