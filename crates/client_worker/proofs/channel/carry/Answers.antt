use Rattle.std.proofs.Common.{rules, refl, ◌≡◌, ◌≤◌, is_ok, true, false, slice_index_or, length-set}
use Rattle.std.proofs.Math.Seq.{map-set_same}
use Rattle.outer_traits.specs.Causes.{HasLineCause}
use Rattle.outer_traits.specs.Lines.{Carries}
use Rattle.client_worker.specs.declared.channel.Channel.{Channel}
use Rattle.client_worker.proofs.Counts.{later_set, rose_set, line_rose}
use Rattle.client_worker.proofs.Told.{on_set, here_set, other_set, carry_more, carry_ok}
use Rattle.client_worker.proofs.channel.carry.Given.{Over}
use Rattle.client_worker.proofs.channel.carry.Goals.{After-is_ok}
use Rattle.client_worker.proofs.channel.carry.Goals as goal

-- the channel to the replica, as it was
abbrev before : (g : Over) (c : After-is_ok g) → Channel g.row.L.Denot
before g c = slice_index_or c.args.channels.now c.args.replica c.index-channels-replica.result

pub returns-clause-keeps : goal.returns-clause-keeps
returns-clause-keeps g c =
    let cs = c.args.channels.now in
    let same : g.L.Line.ends c.carry.new.self ≡ g.L.Line.ends (before g c).line = search rules in
    record {
      count = length-set cs c.args.replica _;
      ends = map-set_same (λ x. g.L.Line.ends x.line) cs c.args.replica _ c.index-channels-replica.result same;
      begun = map-set_same (λ x. x.seq) cs c.args.replica _ c.index-channels-replica.result refl;
    }

pub returns-clause-counts : goal.returns-clause-counts
returns-clause-counts g c =
    let cs = c.args.channels.now in
    let low : g.L.Line.count (before g c).line ≤ g.L.Line.count c.carry.new.self = search rules in
    let cause : HasLineCause (g.L.Line.count (before g c).line) (g.L.Line.count c.carry.new.self) c.carry.result = search rules in
    record {
      later = later_set (λ x. g.L.Line.count x.line) cs c.args.replica _ c.index-channels-replica.result c.requires.line low;
      failed = λ e.
          let no : is_ok c.carry.result ≡ false = search rules in
          rose_set (λ x. g.L.Line.count x.line) cs c.args.replica _ c.index-channels-replica.result c.requires.line
          (line_rose c.carry.result _ _ no cause);
    }

pub returns-clause-tells : goal.returns-clause-tells
returns-clause-tells g c =
    let cs = c.args.channels.now in
    let s = g.L.Line.carried (before g c).line in
    let t = g.L.Line.carried c.carry.new.self in
    let told : Carries s t c.args.frame.now c.carry.result = search rules in
    record {
      on = on_set (λ x. g.L.Line.carried x.line) cs c.args.replica _ c.index-channels-replica.result c.requires.line
          (carry_more c.carry.result s t c.args.frame.now c.requires.frame.whole told);
      carried = λ e.
          let yes : is_ok c.carry.result ≡ true = search rules in
          here_set (λ x. g.L.Line.carried x.line) cs c.args.replica _ c.index-channels-replica.result _ c.requires.line
          (carry_ok c.carry.result s t c.args.frame.now yes told);
      others = λ r apart. other_set (λ x. g.L.Line.carried x.line) cs c.args.replica r _ apart;
    }
