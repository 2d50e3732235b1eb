use Rattle.std.proofs.Common.{◌/◌, map, string_bytes}
use Rattle.folder_checks.specs.Snapshots.{metas_of}
use Rattle.replica_open.specs.Building.{HasLayers}
use Rattle.replica_open.proofs.NameLemmas.{head_there}
use Rattle.replica_open.proofs.OpenLemmas.{if_ok_is, built_is, opened_is}
use Rattle.replica_open.proofs.replica.read_replica.Goals as goal

pub replica_of-requires-clause-there : goal.replica_of-requires-clause-there
replica_of-requires-clause-there g c =
    let parts = c.args.parts.now in
    let ordered = c.args.layers.items in
    head_there (map string_bytes parts.names.items) (metas_of parts.snapshots.items) ordered (c.args.size / 4096) c.in-Ok.tree c.args.on
    c.requires.in_turn c.requires.known.listed.count
    (if_ok_is c.in_ok-tree.field-0 c.in-Ok.tree (HasLayers (c.args.size / 4096) ordered) c.in-Ok.is c.in_ok-tree.ensures.layers)
    c.requires.named

pub returns-in-Ok-2-clause-built : goal.returns-in-Ok-2-clause-built
returns-in-Ok-2-clause-built g c =
    built_is c.args.size c.args.parts.now c.args.layers.items c.args.on c.replica_of.result c.in-Ok.tree c.in-Ok-2.head c.requires
    (if_ok_is c.in_ok-tree.field-0 c.in-Ok.tree (HasLayers (c.args.size / 4096) c.args.layers.items) c.in-Ok.is
    c.in_ok-tree.ensures.layers)
    c.replica_of.ensures.built

pub returns-in-Ok-2-clause-told : goal.returns-in-Ok-2-clause-told
returns-in-Ok-2-clause-told g c =
    opened_is (g.S.Shelves.holds c.args.shelves.now) (g.S.Shelves.holds c.read_layers.new.shelves) c.args.shelf c.args.size
    c.args.parts.now c.deref.result.now c.args.layers.items c.args.on c.replica_of.result c.in-Ok.tree c.in-Ok-2.head
    c.in_ok-tree.field-0 c.in_ok-head.field-0 c.in_ok-tree.ensures.same c.deref.ensures.value c.in-Ok.is c.in-Ok-2.is c.requires
    (if_ok_is c.in_ok-tree.field-0 c.in-Ok.tree (HasLayers (c.args.size / 4096) c.args.layers.items) c.in-Ok.is
    c.in_ok-tree.ensures.layers)
    c.replica_of.ensures.built c.replica_of.ensures.sizes c.in_ok-tree.ensures.told c.in_ok-head.ensures.told
