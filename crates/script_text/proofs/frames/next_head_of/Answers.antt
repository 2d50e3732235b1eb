use Rattle.std.proofs.Common.{subst}
use Rattle.std.specs.Prelude.{IfSome, IfNone}
use Rattle.frame_stream.specs.Frames.{HasNoFrame}
use Rattle.script_text.specs.Fed.{BeginsWithHead}
use Rattle.script_text.proofs.KeptLemmas.{some_kept, next_head_kept}
use Rattle.script_text.proofs.frames.next_head_of.Goals as goal

pub returns-in-None-clause-hold : goal.returns-in-None-clause-hold
returns-in-None-clause-hold c =
    let none = subst (λ next. IfNone next (HasNoFrame c.args.reader.now)) c.in-None.is c.in_ok-next_head.ensures.none in
    absurd (some_kept c.args.count.now c.args.reader.now c.if-count-eq0.false c.requires none)

pub returns-in-None-clause-none : goal.returns-in-None-clause-none
returns-in-None-clause-none c =
    let none = subst (λ next. IfNone next (HasNoFrame c.args.reader.now)) c.in-None.is c.in_ok-next_head.ensures.none in
    absurd (some_kept c.args.count.now c.args.reader.now c.if-count-eq0.false c.requires none)

pub returns-in-None-clause-end : goal.returns-in-None-clause-end
returns-in-None-clause-end c =
    let none = subst (λ next. IfNone next (HasNoFrame c.args.reader.now)) c.in-None.is c.in_ok-next_head.ensures.none in
    absurd (some_kept c.args.count.now c.args.reader.now c.if-count-eq0.false c.requires none)

pub returns-in-Some-clause-hold : goal.returns-in-Some-clause-hold
returns-in-Some-clause-hold c =
    let front = subst (λ next. IfSome next (λ head. BeginsWithHead c.args.reader.now head c.next_head.new.self))
    c.in-Some.is c.in_ok-next_head.ensures.some in
    (next_head_kept c.args.count.now c.args.reader.now c.next_head.new.self c.in-Some.head c.if-count-eq0.false c.requires front).0

pub returns-in-Some-clause-some : goal.returns-in-Some-clause-some
returns-in-Some-clause-some c =
    let front = subst (λ next. IfSome next (λ head. BeginsWithHead c.args.reader.now head c.next_head.new.self))
    c.in-Some.is c.in_ok-next_head.ensures.some in
    (next_head_kept c.args.count.now c.args.reader.now c.next_head.new.self c.in-Some.head c.if-count-eq0.false c.requires front).1
