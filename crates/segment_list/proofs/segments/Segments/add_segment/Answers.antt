use Rattle.std.proofs.Common.{◌≡◌, [], ◌∷◌, ◌++◌, cond, ap, ◌∙◌, arith}
use Rattle.std.specs.Result.{is_ok}
use Rattle.segment_list.proofs.CutLemmas.{whole-append}
use Rattle.segment_list.proofs.segments.Segments.add_segment.Goals as goal

pub invariant_of-self-2 : goal.invariant_of-self-2
invariant_of-self-2 g c =
    let j = c.self.inside in
    let vs = j.segments.items in
    let v = c.in_ok-segment.segment in
    let pushed : c.push.new.self.items ≡ vs ++ v ∷ [] =
    c.push.ensures.items ∙ ap (λ o. cond (is_ok o) (c.reserve.new.self.items ++ v ∷ []) c.reserve.new.self.items) c.unwrap.ensures
    ∙ ap (λ l. l ++ v ∷ []) c.in_ok-reserve.ensures.items in
    let made = c.in_ok-segment.ensures in
    whole-append g.row.SIZE j.len j.room vs v _ c.self.invariant made.len made.capacity (omega arith) pushed
