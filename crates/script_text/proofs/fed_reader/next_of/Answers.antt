use Rattle.std.proofs.Common.{◌-◌, subst, drop}
use Rattle.frame_stream.specs.Frames.{BeginsWithFrame, HasNoFrame}
use Rattle.frame_stream.specs.Reading.{GivesNext}
use Rattle.script_text.proofs.FedLemmas.{passed, none_bad}
use Rattle.script_text.proofs.fed_reader.next_of.Goals as goal

pub returns-in-Frame-clause-fed : goal.returns-in-Frame-clause-fed
returns-in-Frame-clause-fed c =
    let l = c.loop-frame in
    let gives = subst (GivesNext l.reader c.next.new.self) c.in-Frame.is c.in_ok-frame.ensures.next in
    (passed l.reader c.next.new.self l.end c.args.bytes.now c.in-Frame.frame l.invariant.fed gives).fed

pub returns-in-Frame-clause-some : goal.returns-in-Frame-clause-some
returns-in-Frame-clause-some c =
    let l = c.loop-frame in
    let bytes = c.args.bytes.now in
    let gives = subst (GivesNext l.reader c.next.new.self) c.in-Frame.is c.in_ok-frame.ensures.next in
    let is = passed l.reader c.next.new.self l.end bytes c.in-Frame.frame l.invariant.fed gives in
    subst (λ p. BeginsWithFrame (drop p bytes) c.in-Frame.frame (drop c.next.new.self.place bytes)) l.invariant.same is.front

pub returns-in-Bad-clause-none : goal.returns-in-Bad-clause-none
returns-in-Bad-clause-none c =
    let l = c.loop-frame in
    let bytes = c.args.bytes.now in
    let gives = subst (GivesNext l.reader c.next.new.self) c.in-Bad.is c.in_ok-frame.ensures.next in
    subst (λ p. HasNoFrame (drop p bytes)) l.invariant.same
    (none_bad l.reader c.next.new.self (l.end - l.reader.place) c.in-Bad.field-0 (drop l.reader.place bytes) l.invariant.fed.has gives)
