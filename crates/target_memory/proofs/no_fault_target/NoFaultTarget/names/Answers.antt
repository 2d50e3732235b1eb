use Rattle.std.proofs.Common.{◌∙◌}
use Rattle.std.specs.Map.Iter.{deref}
use Rattle.std.proofs.lemmas.Map.Iter.{rest_more, rest_all}
use Rattle.target_memory.proofs.KeyLemmas.{lists}
use Rattle.target_memory.proofs.NameLemmas.{names_step}
use Rattle.target_memory.proofs.no_fault_target.NoFaultTarget.names.Goals as goal

pub loop-name-preserved : goal.loop-name-preserved
loop-name-preserved c =
    let is = rest_more deref c.loop-name.name-iterator c.next.new.self c.next.result c.in-Some.name c.in-Some.is c.next.ensures.steps in
    names_step c.args.prefix.now _ _ c.loop-name.name-iterator c.next.new.self c.in-Some.name.now is c.in_ok-push_named.ensures
    ∙ c.loop-name.invariant

pub returns : goal.returns
returns c =
    let none = rest_all deref c.loop-name.name-iterator c.next.new.self c.next.result c.in-None.is c.next.ensures.steps in
    lists c.args.prefix.now c.args.self.now.objects _ c.loop-name.name-iterator none c.loop-name.invariant
    c.keys-name-items.ensures.ordered
