use Rattle.std.proofs.Common.{rules, ◌≡◌, is_ok, true}
use Rattle.outer_traits.specs.Lines.{Carries}
use Rattle.client_worker.proofs.Told.{carry_more, carry_ok}
use Rattle.control_worker.proofs.FrameLemmas.{whole_numbered}
use Rattle.control_worker.proofs.line.carry_on.Goals as goal

pub returns-clause-told : goal.returns-clause-told
returns-clause-told g c =
    let told : Carries (g.L.Line.carried c.args.channel.now.line) (g.L.Line.carried c.carry.new.self)
    c.put_number-channel.new.bytes c.carry.result = search rules in
    carry_more c.carry.result (g.L.Line.carried c.args.channel.now.line) (g.L.Line.carried c.carry.new.self)
    c.put_number-channel.new.bytes
    (whole_numbered c.put_number-channel.result c.args.bytes.now c.put_number-channel.new.bytes (search rules) c.requires.frame.whole
    c.put_number-channel.ensures.spelled) told

pub returns-clause-carries : goal.returns-clause-carries
returns-clause-carries g c = λ e.
    let told : Carries (g.L.Line.carried c.args.channel.now.line) (g.L.Line.carried c.carry.new.self)
    c.put_number-channel.new.bytes c.carry.result = search rules in
    let came : is_ok c.carry.result ≡ true = search rules in
    record {
      told = carry_ok c.carry.result (g.L.Line.carried c.args.channel.now.line) (g.L.Line.carried c.carry.new.self)
          c.put_number-channel.new.bytes came told;
      spelled = c.put_number-channel.ensures.spelled;
      number = c.put_number-channel.ensures.number;
    }
