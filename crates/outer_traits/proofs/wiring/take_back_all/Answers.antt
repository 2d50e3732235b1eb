use Rattle.std.proofs.Common.{◌≡◌, ◌++◌, ◌∷◌, ◌∙◌, []}
use Rattle.outer_traits.proofs.Lines.{RecordsOf-step, cut_further}
use Rattle.outer_traits.proofs.wiring.take_back_all.Goals as goal

pub loop-line-preserved : goal.loop-line-preserved
loop-line-preserved g c =
    let items_next = c.next.new.self.rest.items in
    let cut : c.args.lines.items ≡ (c.loop-line.yielded ++ c.in-Some.line ∷ []) ++ items_next =
    cut_further c.args.lines.items c.loop-line.yielded c.loop-line.line-iterator.rest.items c.in-Some.line items_next
    c.loop-line.invariant.all c.in-Some.ensures.steps.0 in
    record {
      all = cut;
      counts = λ worker lined. RecordsOf-step _ _ g.W.L.Line.ends g.W.L.Line.count _ _ _ worker c.args.lines.items
          c.loop-line.yielded c.in-Some.line items_next cut lined (c.loop-line.invariant.counts worker lined)
          c.take_back.ensures.counts;
      carried = λ worker lined. RecordsOf-step _ _ g.W.L.Line.ends g.W.L.Line.carried _ _ _ worker c.args.lines.items
          c.loop-line.yielded c.in-Some.line items_next cut lined (c.loop-line.invariant.carried worker lined)
          c.take_back.ensures.carried;
      asked = c.take_back.ensures.asked ∙ c.loop-line.invariant.asked;
    }
