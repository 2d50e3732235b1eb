use Rattle.std.proofs.Common.{◌≡◌, ◌/◌, OnOk, OnErr, length, ap, ◌∙◌, arith}
use Rattle.std.proofs.lemmas.Result.{on_ok_weaker, on_err_weaker}
use Rattle.replica_node.specs.Node.{node_of}
use Rattle.replica_node.specs.Room.{with_room}
use Rattle.replica_node.proofs.NodeLemmas.{length-made_in}
use Rattle.replica_node.proofs.RoomLemmas.{end_within, made_node, room_made, answer_kept, answer_same}
use Rattle.replica_node.proofs.node.ReplicaNode.make_room.Goals as goal

pub make_room-requires : goal.make_room-requires
make_room-requires c =
    omega (
      arith,
      end_within c.self.inside.tree (c.self.inside.size / 4096) c.args.self.now c.args.range.end c.self.view_is
          c.self.invariant c.requires,
      c.self.invariant.pages,
    )

ok : (c : goal.After-make_room) → OnOk c.make_room.result
    (node_of c.make_room.new.self (c.self.inside.size / 4096) ≡ with_room c.args.self.now c.args.range)
ok c = on_ok_weaker c.make_room.result
    (made_node c.self.inside.tree c.make_room.new.self (c.self.inside.size / 4096) c.args.self.now c.args.range
    c.self.view_is c.make_room.ensures.rest)
    c.make_room.ensures.ok

err : (c : goal.After-make_room) → OnErr c.make_room.result (node_of c.make_room.new.self (c.self.inside.size / 4096) ≡ c.args.self.now)
err c = on_err_weaker c.make_room.result (λ same. ap (λ t. node_of t (c.self.inside.size / 4096)) same ∙ c.self.view_is)
    c.make_room.ensures.err

pub returns-clause-ok : goal.returns-clause-ok
returns-clause-ok c = ok c

pub returns-clause-err : goal.returns-clause-err
returns-clause-err c = err c

pub returns-clause-room : goal.returns-clause-room
returns-clause-room c =
    let count = c.self.inside.size / 4096 in
    let inside = end_within c.self.inside.tree count c.args.self.now c.args.range.end c.self.view_is c.self.invariant c.requires in
    on_ok_weaker c.make_room.result
    (room_made c.args.self.now _ c.args.range
    (omega (arith, inside, length-made_in c.self.inside.tree.head count, ap (λ n. length n.room) c.self.view_is)))
    (ok c)

pub returns-clause-kept : goal.returns-clause-kept
returns-clause-kept c = answer_kept c.make_room.result c.args.self.now _ c.args.range (ok c) (err c)

pub returns-clause-same : goal.returns-clause-same
returns-clause-same c = answer_same c.make_room.result c.args.self.now _ c.args.range (ok c) (err c)
