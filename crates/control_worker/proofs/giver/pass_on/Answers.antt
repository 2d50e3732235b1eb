use Rattle.std.proofs.Common.{rules, arith, ◌≡◌, [], map, set, length-set, refl}
use Rattle.std.proofs.Math.Seq.{map-set_same}
use Rattle.stream_steps.specs.Mine.{with_running}
use Rattle.client_worker.specs.Serving.{IsShown}
use Rattle.client_worker.proofs.Counts.{later_set}
use Rattle.client_worker.proofs.Told.{on_set}
use Rattle.client_worker.proofs.Shown.{shown_later}
use Rattle.control_worker.proofs.CopierLemmas.{count_here, serving_on}
use Rattle.control_worker.proofs.GiverLemmas.{came_on, gives_none}
use Rattle.control_worker.proofs.Goes.{goes_same, goes_told}
use Rattle.control_worker.proofs.ShownLemmas.{idle_told}
use Rattle.control_worker.proofs.giver.pass_on.Given.{Over}
use Rattle.control_worker.proofs.giver.pass_on.Goals as goal
use Rattle.control_worker.proofs.giver.pass_on.Goals.{After-carry_on}

-- one line is further
shown : (g : Over) (c : After-carry_on g) → IsShown (with_running (g.C.CommandSteps.mine c.args.steps.now) [])
    (map (λ x. g.L.Line.count x.line) (set c.args.channels.now c.args.replica c.carry_on.new.channel))
    (map (λ x. g.L.Line.carried x.line) (set c.args.channels.now c.args.replica c.carry_on.new.channel))
shown g c =
    let xs = c.args.channels.now in
    let r = c.args.replica in
    let ys = set xs r c.carry_on.new.channel in
    shown_later (with_running (g.C.CommandSteps.mine c.args.steps.now) []) (map (λ x. g.L.Line.count x.line) xs)
    (map (λ x. g.L.Line.count x.line) ys) (map (λ x. g.L.Line.carried x.line) xs) (map (λ x. g.L.Line.carried x.line) ys)
    (later_set (λ x. g.L.Line.count x.line) xs r _ c.index-channels-replica.result c.requires.line c.carry_on.ensures.later)
    (on_set (λ x. g.L.Line.carried x.line) xs r _ c.index-channels-replica.result c.requires.line c.carry_on.ensures.told)
    c.requires.serving.shown

pub returns-in_err-reserve-clause-keeps : goal.returns-in_err-reserve-clause-keeps
returns-in_err-reserve-clause-keeps g c = gives_none _

pub returns-then-carry_on-clause-serving : goal.returns-then-carry_on-clause-serving
returns-then-carry_on-clause-serving g c =
    serving_on g.C.CommandSteps.mine (record { steps = c.args.steps.now; channels = c.args.channels.now }) c.args.steps.now
    (set c.args.channels.now c.args.replica c.carry_on.new.channel) c.requires.serving c.requires.serving.ready
    (length-set c.args.channels.now c.args.replica c.carry_on.new.channel) (goes_same _ _ refl)
    (shown g (goal.at.returns-then-carry_on-clause-serving g c).After-carry_on)

pub returns-then-carry_on-clause-keeps : goal.returns-then-carry_on-clause-keeps
returns-then-carry_on-clause-keeps g c = record {
  stays = record {
    home = refl;
    lines = record {
      count = length-set c.args.channels.now c.args.replica c.carry_on.new.channel;
      ends = map-set_same (λ x. g.L.Line.ends x.line) c.args.channels.now c.args.replica c.carry_on.new.channel
          c.index-channels-replica.result c.carry_on.ensures.ends;
    };
  };
  goes = goes_same _ _ refl;
  kept = λ name disk is. is;
}

pub returns-clause-serving : goal.returns-clause-serving
returns-clause-serving g c =
    let at = (goal.at.returns-clause-serving g c).After-carry_on in
    let xs = c.args.channels.now in
    let r = c.args.replica in
    let ys = set xs r c.carry_on.new.channel in
    let counted : c.faults-count.result ≡ g.L.Line.count c.carry_on.new.channel.line = search rules in
    let here = count_here (λ x. g.L.Line.count x.line) xs r c.carry_on.new.channel c.requires.line in
    let does = c.backup_fault.ensures.does in
    serving_on g.C.CommandSteps.mine (record { steps = c.args.steps.now; channels = xs }) c.backup_fault.new.self ys
    c.requires.serving c.backup_fault.ensures.stands.ready (length-set xs r c.carry_on.new.channel)
    (goes_told c.backup_fault.result r c.faults-count.result _ _ does.ok does.err)
    (idle_told c.backup_fault.result r c.faults-count.result _ _ (map (λ x. g.L.Line.count x.line) ys)
    (map (λ x. g.L.Line.carried x.line) ys) does.ok does.err (omega (arith, counted, here)) (shown g at))

pub returns-clause-keeps : goal.returns-clause-keeps
returns-clause-keeps g c =
    let does = c.backup_fault.ensures.does in
    record {
      stays = record {
        home = c.backup_fault.ensures.stands.home;
        lines = record {
          count = length-set c.args.channels.now c.args.replica c.carry_on.new.channel;
          ends = map-set_same (λ x. g.L.Line.ends x.line) c.args.channels.now c.args.replica c.carry_on.new.channel
              c.index-channels-replica.result c.carry_on.ensures.ends;
        };
      };
      goes = goes_told c.backup_fault.result c.args.replica c.faults-count.result _ _ does.ok does.err;
      kept = c.backup_fault.ensures.kept;
    }

pub returns-then-carry_on-clause-came : goal.returns-then-carry_on-clause-came
returns-then-carry_on-clause-came g c = λ is.
    came_on g.L.Line.carried c.args.channels.now c.args.replica c.carry_on.new.channel c.index-channels-replica.result
    c.args.frame.now c.carry_on.new.bytes c.requires.line (c.carry_on.ensures.carries c.if-carry_on.true)
