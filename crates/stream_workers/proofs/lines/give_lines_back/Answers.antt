use Rattle.std.proofs.Common.{◌≡◌, ◌++◌, ◌∷◌, ◌∙◌, [], arith}
use Rattle.std.proofs.lemmas.List.{nil_from_length}
use Rattle.outer_traits.proofs.Lines.{RecordsOf-step, cut_further}
use Rattle.stream_turns.proofs.Channels.{all_records}
use Rattle.stream_workers.proofs.Wrapped.{same_records}
use Rattle.stream_workers.proofs.lines.give_lines_back.Goals as goal

pub loop-channel-preserved : goal.loop-channel-preserved
loop-channel-preserved g c =
    let cut : c.args.channels.items ≡ (c.loop-channel.yielded ++ c.in-Some.channel ∷ []) ++ c.next.new.self.rest.items =
    cut_further c.args.channels.items c.loop-channel.yielded c.loop-channel.channel-iterator.rest.items c.in-Some.channel
    c.next.new.self.rest.items c.loop-channel.invariant.all c.in-Some.ensures.steps.0 in
    record {
      all = cut;
      counts = λ worker lined. RecordsOf-step _ _ (λ c. g.V.Wrapped.Line.ends c.line) (λ c. g.V.Wrapped.Line.count c.line) _
          _ _ worker c.args.channels.items c.loop-channel.yielded c.in-Some.channel c.next.new.self.rest.items cut lined
          (c.loop-channel.invariant.counts worker lined)
          (same_records _ _ _ _ _ _ c.unwrap.ensures.ends c.unwrap.ensures.count c.take_back.ensures.counts);
      carried = λ worker lined. RecordsOf-step _ _ (λ c. g.V.Wrapped.Line.ends c.line)
          (λ c. g.V.Wrapped.Line.carried c.line) _ _ _ worker c.args.channels.items c.loop-channel.yielded c.in-Some.channel
          c.next.new.self.rest.items cut lined (c.loop-channel.invariant.carried worker lined)
          (same_records _ _ _ _ _ _ c.unwrap.ensures.ends c.unwrap.ensures.carried c.take_back.ensures.carried);
      asked = c.take_back.ensures.asked ∙ c.loop-channel.invariant.asked;
    }

pub returns-clause-counts : goal.returns-clause-counts
returns-clause-counts g c worker lined =
    all_records _ (λ c. g.V.Wrapped.Line.count c.line) _ _ worker c.args.channels.items c.loop-channel.yielded
    c.loop-channel.channel-iterator.rest.items c.loop-channel.invariant.all
    (nil_from_length _ (omega (arith, c.in-None.ensures.steps.0)))
    (c.loop-channel.invariant.counts worker lined)

pub returns-clause-carried : goal.returns-clause-carried
returns-clause-carried g c worker lined =
    all_records _ (λ c. g.V.Wrapped.Line.carried c.line) _ _ worker c.args.channels.items c.loop-channel.yielded
    c.loop-channel.channel-iterator.rest.items c.loop-channel.invariant.all
    (nil_from_length _ (omega (arith, c.in-None.ensures.steps.0)))
    (c.loop-channel.invariant.carried worker lined)
