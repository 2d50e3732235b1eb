use Rattle.std.proofs.Common.{MatchOption, subst}
use Rattle.std.specs.Prelude.{Option}
use Rattle.sparse_image.specs.Image.{Table}
use Rattle.volume_core.specs.State.{State, state_of}
use Rattle.volume_rebuild.specs.Answers.{IsNoPage, IsOutOfSource}
use Rattle.core_laws.proofs.Copies.{in_made, none_made}
use Rattle.core_laws.proofs.take_rebuild.take_in.Goals as goal

pub returns-in-Some-clause-ok : goal.returns-in-Some-clause-ok
returns-in-Some-clause-ok c =
    let s : State = state_of c.args.world.now in
    let page = c.args.page.now in
    let out : IsOutOfSource s page c.in-Some.out =
    subst (λ (x : Option Table). MatchOption x (IsNoPage s page) (IsOutOfSource s page)) c.in-Some.is c.in_ok-out.ensures in
    let into = c.copy_in.ensures in
    in_made s page c.copy_in.result (state_of c.copy_in.new.world) c.in-Some.out c.copy_in.new.with out into.ok into.err into.why

pub returns-in-None-clause-ok : goal.returns-in-None-clause-ok
returns-in-None-clause-ok c =
    let s : State = state_of c.args.world.now in
    let page = c.args.page.now in
    none_made s page (subst (λ (x : Option Table). MatchOption x (IsNoPage s page) (IsOutOfSource s page)) c.in-None.is c.in_ok-out.ensures)
