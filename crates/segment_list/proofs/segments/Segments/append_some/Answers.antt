use Rattle.std.proofs.Common.{◌++◌, cond, take, ap, ◌∙◌, arith, length-take}
use Rattle.std.specs.Result.{is_ok}
use Rattle.segment_list.proofs.CutLemmas.{spot_of, whole_put}
use Rattle.segment_list.proofs.segments.Segments.append_some.Goals as goal

pub unwrap-requires : goal.unwrap-requires
unwrap-requires g c =
    let j = c.self.inside in
    let room = ap (λ x. x.room) c.self.view_is in
    let long = length-take c.min-count.result c.args.items.now in
    let at = spot_of g.row.SIZE j.len j.room j.len j.segments.items _ c.self.invariant (omega (arith, room))
    c.index_mut-segment.ensures.value in
    c.extend_from_slice.ensures.succeeds (omega (arith, at.share, at.room, at.within, at.is, room, long))

pub invariant_of-self : goal.invariant_of-self
invariant_of-self g c =
    let j = c.self.inside in
    let v = c.index_mut-segment.result.now in
    let w = c.extend_from_slice.new.self in
    let n = c.min-count.result in
    let more = take n c.args.items.now in
    let long = length-take n c.args.items.now in
    let some = c.self.invariant.some in
    let room = ap (λ x. x.room) c.self.view_is in
    let pushed = c.extend_from_slice.ensures.items ∙ ap (λ o. cond (is_ok o) (v.items ++ more) v.items) c.unwrap.ensures in
    (whole_put g.row.SIZE j.len j.room n j.segments.items v w more c.self.invariant c.index_mut-segment.ensures.value
    (omega (arith, long)) (omega (arith, some)) (omega (arith, room)) (omega (arith, some))
    pushed c.extend_from_slice.ensures.capacity).0

pub returns-clause-items : goal.returns-clause-items
returns-clause-items g c =
    let j = c.self.inside in
    let v = c.index_mut-segment.result.now in
    let w = c.extend_from_slice.new.self in
    let n = c.min-count.result in
    let more = take n c.args.items.now in
    let long = length-take n c.args.items.now in
    let some = c.self.invariant.some in
    let room = ap (λ x. x.room) c.self.view_is in
    let pushed = c.extend_from_slice.ensures.items ∙ ap (λ o. cond (is_ok o) (v.items ++ more) v.items) c.unwrap.ensures in
    (whole_put g.row.SIZE j.len j.room n j.segments.items v w more c.self.invariant c.index_mut-segment.ensures.value
    (omega (arith, long)) (omega (arith, some)) (omega (arith, room)) (omega (arith, some))
    pushed c.extend_from_slice.ensures.capacity).1
    ∙ ap (λ x. x.items ++ more) c.self.view_is
