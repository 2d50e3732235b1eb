use Rattle.std.proofs.Common.{rules, arith, ◌≡◌, ◌<◌, [], length, map, set, length-set}
use Rattle.std.proofs.Math.Seq.{map-set_same}
use Rattle.stream_steps.specs.Mine.{with_running}
use Rattle.client_worker.specs.Serving.{IsShown}
use Rattle.client_worker.proofs.Counts.{at_map, later_set}
use Rattle.client_worker.proofs.Told.{on_set}
use Rattle.client_worker.proofs.Shown.{shown_later}
use Rattle.control_worker.proofs.Goes.{goes_on}
use Rattle.control_worker.proofs.CopierLemmas.{within_lines, lines_still, came, fell_goes, fell_shown, count_here, add_goes}
use Rattle.control_worker.proofs.CopierLemmas.{hand_kept, one_of_both, texts_kept}
use Rattle.control_worker.proofs.copier.CopierCopySteps.carry.Given.{Over}
use Rattle.control_worker.proofs.copier.CopierCopySteps.carry.Goals as goal
use Rattle.control_worker.proofs.copier.CopierCopySteps.carry.Goals.{After-carry_on}

-- the frame goes to one of the lines
within : (g : Over) (c : After-carry_on g) → c.replica_for-replica.result < length c.args.self.now.channels.now
within g c = within_lines (λ x. g.L.Line.carried x.line) c.args.self.now.channels.now c.args.side c.args.self.now.copy.source
    c.args.self.now.copy.target c.replica_for-replica.result c.replica_for-replica.ensures c.requires.ready.1.lines

-- which is further then
shown : (g : Over) (c : After-carry_on g) → IsShown (with_running (g.C.CommandSteps.mine c.args.self.now.steps.now) [])
    (map (λ x. g.L.Line.count x.line) (set c.args.self.now.channels.now c.replica_for-replica.result c.carry_on.new.channel))
    (map (λ x. g.L.Line.carried x.line) (set c.args.self.now.channels.now c.replica_for-replica.result c.carry_on.new.channel))
shown g c =
    let xs = c.args.self.now.channels.now in
    let r = c.replica_for-replica.result in
    let ys = set xs r c.carry_on.new.channel in
    shown_later (with_running (g.C.CommandSteps.mine c.args.self.now.steps.now) []) (map (λ x. g.L.Line.count x.line) xs)
    (map (λ x. g.L.Line.count x.line) ys) (map (λ x. g.L.Line.carried x.line) xs) (map (λ x. g.L.Line.carried x.line) ys)
    (later_set (λ x. g.L.Line.count x.line) xs r _ c.index-self-replica.result (within g c) c.carry_on.ensures.later)
    (on_set (λ x. g.L.Line.carried x.line) xs r _ c.index-self-replica.result (within g c) c.carry_on.ensures.told)
    c.requires.ready.1.shown

-- ---- it came through

pub returns-then-carry_on-clause-keeps : goal.returns-then-carry_on-clause-keeps
returns-then-carry_on-clause-keeps g c = record {
  ready = (
    c.requires.ready.0,
    record {
      turn = c.requires.ready.1.turn;
      rebuild = c.requires.ready.1.rebuild;
      shown = shown g (goal.at.returns-then-carry_on-clause-keeps g c).After-carry_on;
      lines = lines_still (λ x. g.L.Line.carried x.line) c.args.self.now.channels.now c.replica_for-replica.result
          c.args.self.now.copy.source c.args.self.now.copy.target c.carry_on.new.channel c.requires.ready.1.lines;
      page = c.requires.ready.1.page;
    },
  );
  home = λ j. (
    g.C.CommandSteps.home c.args.self.now.steps.now,
    c.args.self.now.steps.ghost_name,
    c.args.self.now.channels.ghost_name,
    length-set c.args.self.now.channels.now c.replica_for-replica.result c.carry_on.new.channel j,
    map-set_same (λ x. g.L.Line.ends x.line) c.args.self.now.channels.now c.replica_for-replica.result
        c.carry_on.new.channel c.index-self-replica.result c.carry_on.ensures.ends j,
    c.args.self.now.copy.source,
    c.args.self.now.copy.target,
  );
  ended = λ place h. h;
  texts = λ page text h. h;
  stays = λ f h. h;
  fewer = omega (arith);
}

pub returns-then-carry_on-clause-ok : goal.returns-then-carry_on-clause-ok
returns-then-carry_on-clause-ok g c =
    let carries = c.carry_on.ensures.carries c.if-carry_on.true in
    came (λ x. g.L.Line.carried x.line) (λ x. x.seq) c.args.self.now.channels.now c.replica_for-replica.result
    c.carry_on.new.channel c.index-self-replica.result c.args.side c.args.self.now.copy.source c.args.self.now.copy.target
    c.replica_for-replica.ensures (within g (goal.at.returns-then-carry_on-clause-ok g c).After-carry_on)
    c.requires.ready.1.lines.apart (g.C.AddSteps.left c.args.self.now.steps.now) c.args.self.now.hand c.args.self.now.read
    c.args.frame.now c.carry_on.new.bytes (λ place. g.C.AddSteps.is_aborted c.args.self.now.steps.now place)
    carries.told carries.spelled carries.number

-- ---- the line failed

pub copy_fault-place-requires-clause-fault : goal.copy_fault-place-requires-clause-fault
copy_fault-place-requires-clause-fault g c =
    let replica = c.replica_for-replica.result in
    let at = at_map (λ x. g.L.Line.count x.line) c.args.self.now.channels.now replica c.index-self-replica.result
    (within g (goal.at.copy_fault-place-requires-clause-fault g c).After-carry_on) in
    let counted : c.faults-count.result ≡ g.L.Line.count c.carry_on.new.channel.line = search rules in
    record {
      end = (
        c.args.self.now.copy.source,
        c.args.self.now.copy.target,
        c.requires.ready.1.rebuild,
        one_of_both c.args.side c.args.self.now.copy.source c.args.self.now.copy.target replica c.replica_for-replica.ensures,
      );
      above = omega (arith, c.requires.ready.1.shown.counted replica, at, counted, c.carry_on.ensures.failed c.if-carry_on.false);
    }

pub returns-clause-keeps : goal.returns-clause-keeps
returns-clause-keeps g c =
    let at = (goal.at.returns-clause-keeps g c).After-carry_on in
    let xs = c.args.self.now.channels.now in
    let r = c.replica_for-replica.result in
    let ys = set xs r c.carry_on.new.channel in
    let mine_before = g.C.CommandSteps.mine c.args.self.now.steps.now in
    let mine_fell = g.C.CommandSteps.mine c.copy_fault-place.new.self in
    let kept = c.copy_fault-place.ensures.kept in
    let fell = c.copy_fault-place.ensures.fell.fell in
    let goes = fell_goes r c.faults-count.result mine_before mine_fell fell in
    let counted : c.faults-count.result ≡ g.L.Line.count c.carry_on.new.channel.line = search rules in
    let here = count_here (λ x. g.L.Line.count x.line) xs r c.carry_on.new.channel (within g at) in
    record {
      ready = (
        c.copy_fault-place.ensures.stands.ready,
        record {
          turn = add_goes c.args.self.now.copy.turn mine_before mine_fell goes c.requires.ready.1.turn;
          rebuild = kept.rebuild.begun c.args.self.now.copy.source c.args.self.now.copy.target c.requires.ready.1.rebuild;
          shown = fell_shown r c.faults-count.result mine_before mine_fell (map (λ x. g.L.Line.count x.line) ys)
              (map (λ x. g.L.Line.carried x.line) ys) fell (omega (arith, counted, here)) (shown g at);
          lines = lines_still (λ x. g.L.Line.carried x.line) xs r c.args.self.now.copy.source c.args.self.now.copy.target
              c.carry_on.new.channel c.requires.ready.1.lines;
          page = hand_kept _ _ _ _ c.args.self.now.hand c.args.self.now.read c.args.self.now.rooms.now.page
              kept.awaits kept.rebuild.pages c.requires.ready.1.page;
        },
      );
      home = λ j. (
        c.copy_fault-place.ensures.stands.home j,
        c.args.self.now.steps.ghost_name,
        c.args.self.now.channels.ghost_name,
        length-set xs r c.carry_on.new.channel j,
        map-set_same (λ x. g.L.Line.ends x.line) xs r c.carry_on.new.channel c.index-self-replica.result
            c.carry_on.ensures.ends j,
        c.args.self.now.copy.source,
        c.args.self.now.copy.target,
      );
      ended = kept.rebuild.ended;
      texts = texts_kept _ _ kept.rebuild.pages;
      stays = λ f h. goes_on f mine_before mine_fell h goes;
      fewer = kept.rebuild.fewer;
    }
