use Rattle.std.proofs.Common.{[], ◌∷◌, ◌++◌, cond, refl, ap, ◌∙◌, arith}
use Rattle.std.specs.Result.{is_ok}
use Rattle.segment_list.proofs.CutLemmas.{spot_of, whole_put}
use Rattle.segment_list.proofs.segments.Segments.push.Goals as goal

pub unwrap-requires : goal.unwrap-requires
unwrap-requires g c =
    let j = c.self.inside in
    let room = ap (λ x. x.room) c.self.view_is in
    let at = spot_of g.row.SIZE j.len j.room j.len j.segments.items _ c.self.invariant (omega (arith, room))
    c.index_mut-segment.ensures.value in
    c.push.ensures.succeeds (omega (arith, at.share, at.room, at.within, at.is))

pub invariant_of-self : goal.invariant_of-self
invariant_of-self g c =
    let j = c.self.inside in
    let v = c.index_mut-segment.result.now in
    let w = c.push.new.self in
    let pushed =
    c.push.ensures.items ∙ ap (λ o. cond (is_ok o) (v.items ++ c.args.item ∷ []) v.items) c.unwrap.ensures in
    let room = ap (λ x. x.room) c.self.view_is in
    (whole_put g.row.SIZE j.len j.room 1 j.segments.items v w (c.args.item ∷ []) c.self.invariant
    c.index_mut-segment.ensures.value refl (omega arith) (omega (arith, room)) (omega (arith, c.self.invariant.some))
    pushed c.push.ensures.capacity).0

pub returns-clause-items : goal.returns-clause-items
returns-clause-items g c =
    let j = c.self.inside in
    let v = c.index_mut-segment.result.now in
    let w = c.push.new.self in
    let pushed =
    c.push.ensures.items ∙ ap (λ o. cond (is_ok o) (v.items ++ c.args.item ∷ []) v.items) c.unwrap.ensures in
    let room = ap (λ x. x.room) c.self.view_is in
    (whole_put g.row.SIZE j.len j.room 1 j.segments.items v w (c.args.item ∷ []) c.self.invariant
    c.index_mut-segment.ensures.value refl (omega arith) (omega (arith, room)) (omega (arith, c.self.invariant.some))
    pushed c.push.ensures.capacity).1
    ∙ ap (λ x. x.items ++ c.args.item ∷ []) c.self.view_is
