use Rattle.std.proofs.Common.{◌≡◌, ℕ, ◌≤◌, List, subst, refl, sym, arith}
use Rattle.replica_node.specs.Node.{Node}
use Rattle.open_calls.specs.Starts.{KeepsNodes}
use Rattle.volume_core.specs.State.{State, state_of}
use Rattle.volume_core.specs.Answers.{IsRoomier}
use Rattle.volume_core.proofs.Rows.{same_room, on_err}
use Rattle.volume_core.proofs.world.World.begin_write.Goals as goal

at_most : (n : ℕ) → n ≤ n
at_most n = omega arith

-- the same replicas, read
read_room : (s : State) (nodes : List Node) → nodes ≡ s.nodes → IsRoomier s (record s { nodes = nodes })
read_room s nodes same = subst (λ (ns : List Node). IsRoomier s (record s { nodes = ns })) (sym same) (same_room s)

pub returns-in_err-front-clause-err : goal.returns-in_err-front-clause-err
returns-in_err-front-clause-err c = on_err _ _ (read_room (state_of c.args.self.now) c.edges_in.new.nodes.items c.edges_in.ensures.same)

pub returns-in_err-front_too-inside-clause-err : goal.returns-in_err-front_too-inside-clause-err
returns-in_err-front_too-inside-clause-err c =
    on_err _ _ (read_room (state_of c.args.self.now) c.edges_in.new.nodes.items c.edges_in.ensures.same)

pub returns-in_err-back_too-clause-err : goal.returns-in_err-back_too-clause-err
returns-in_err-back_too-clause-err c = on_err _ _ (read_room (state_of c.args.self.now) c.edges_in.new.nodes.items c.edges_in.ensures.same)

pub returns-in_err-make_rooms-clause-err : goal.returns-in_err-make_rooms-clause-err
returns-in_err-make_rooms-clause-err c =
    let s : State = state_of c.args.self.now in
    let more : IsRoomier s (record s { nodes = c.make_rooms.new.nodes.items }) =
    record {
      nodes = c.make_rooms.new.nodes.items;
      spare = s.book.spare;
      spare_data = s.book.spare_data;
      keeps = subst (λ (ns : List Node). KeepsNodes ns c.make_rooms.new.nodes.items) c.edges_in.ensures.same c.make_rooms.ensures.keeps;
      more = at_most s.book.spare;
      more_data = at_most s.book.spare_data;
      state = refl;
    } in
    on_err _ _ more
