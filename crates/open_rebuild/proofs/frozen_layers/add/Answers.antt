use Rattle.std.proofs.Common.{sym, subst}
use Rattle.std.proofs.Common.{[]}
use Rattle.std.specs.List.{insert}
use Rattle.open_rebuild.specs.Frozen.{IsInByteOrder, AddsName}
use Rattle.open_rebuild.proofs.FrozenLemmas.{added_found, searched_new}
use Rattle.open_rebuild.proofs.frozen_layers.add.Goals as goal

pub returns-in-Ok : goal.returns-in-Ok
returns-in-Ok c =
    subst (λ ns. AddsName ns ns c.args.name) c.deref.ensures.value
    (added_found c.deref.result.now c.args.name c.in-Ok._there c.in-Ok.ensures.bound (c.in-Ok.ensures.ok [])
    (subst IsInByteOrder (sym c.deref.ensures.value) c.requires))

pub returns-in_ok-insert-in-Err : goal.returns-in_ok-insert-in-Err
returns-in_ok-insert-in-Err c =
    subst (λ ns. AddsName c.args.names.now.items ns c.args.name) (sym c.in_ok-insert-in-Err.ensures.items)
    (subst (λ ns. AddsName ns (insert ns c.in-Err.place c.args.name) c.args.name) c.deref.ensures.value
    (searched_new c.deref.result.now c.args.name c.in-Err.place c.in-Err.ensures.bound c.in-Err.ensures.position
    (subst IsInByteOrder (sym c.deref.ensures.value) c.requires)))
