use Rattle.std.proofs.Common.{subst, drop}
use Rattle.frame_stream.specs.Frames.{HasNoFrame}
use Rattle.frame_stream.specs.Reading.{TakesNext}
use Rattle.script_text.specs.Fed.{BeginsWithHead}
use Rattle.script_text.proofs.FedLemmas.{head_passed, none_taken}
use Rattle.script_text.proofs.fed_reader.next_head_of.Goals as goal

pub returns-in-Frame-clause-fed : goal.returns-in-Frame-clause-fed
returns-in-Frame-clause-fed c =
    let l = c.loop-head in
    let takes = subst (TakesNext l.reader c.next_head.new.self) c.in-Frame.is c.in_ok-head.ensures.next in
    (head_passed l.reader c.next_head.new.self l.end c.args.bytes.now c.in-Frame.head c.in-Frame.field-1 l.invariant.fed takes).0

pub returns-in-Frame-clause-some : goal.returns-in-Frame-clause-some
returns-in-Frame-clause-some c =
    let l = c.loop-head in
    let bytes = c.args.bytes.now in
    let takes = subst (TakesNext l.reader c.next_head.new.self) c.in-Frame.is c.in_ok-head.ensures.next in
    let front = (head_passed l.reader c.next_head.new.self l.end bytes c.in-Frame.head c.in-Frame.field-1 l.invariant.fed takes).1 in
    subst (λ p. BeginsWithHead (drop p bytes) c.in-Frame.head (drop c.next_head.new.self.place bytes)) l.invariant.same front

pub returns-in-BadMagic-clause-none : goal.returns-in-BadMagic-clause-none
returns-in-BadMagic-clause-none c =
    let l = c.loop-head in
    let bytes = c.args.bytes.now in
    let found = c.in_ok-head.field-0 in
    subst (λ p. HasNoFrame (drop p bytes)) l.invariant.same
    (none_taken l.reader c.next_head.new.self l.end bytes found l.invariant.fed c.in_ok-head.ensures.next c.in-BadMagic.is)
