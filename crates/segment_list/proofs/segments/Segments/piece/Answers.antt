use Rattle.std.proofs.Common.{List, ◌<◌, ◌%◌, length, drop, ap, ◌∙◌, subst, arith, length-drop}
use Rattle.segment_list.specs.Listed.{IsPiece}
use Rattle.segment_list.specs.Cut.{items_of}
use Rattle.segment_list.proofs.CutLemmas.{cut_length, spot, piece_of}
use Rattle.segment_list.proofs.segments.Segments.piece.Goals as goal

pub index-requires : goal.index-requires
index-requires g c =
    let j = c.self.inside in
    let whole = c.self.invariant in
    let long = cut_length g.row.SIZE j.len j.segments.items whole.cut in
    let same = ap (λ x. length x.items) c.self.view_is in
    let at = spot g.row.SIZE j.len j.room (length j.segments.items) c.args.place whole.some whole.whole (omega (arith, long, same)) in
    omega (arith, j.segments.ok.0, at.0)

pub split_at-requires : goal.split_at-requires
split_at-requires g c =
    let j = c.self.inside in
    let segment = c.index.result.now in
    let inside : c.args.place < length (items_of j.segments.items) = omega (arith, ap (λ x. length x.items) c.self.view_is) in
    let p = piece_of g.row.SIZE j.len j.room c.args.place j.segments.items segment c.self.invariant inside c.index.ensures in
    omega (arith, p.some, length-drop (c.args.place % g.row.SIZE) segment.items, ap length c.deref.ensures.value)

pub returns : goal.returns
returns g c =
    let j = c.self.inside in
    let place = c.args.place in
    let segment = c.index.result.now in
    let inside : place < length (items_of j.segments.items) = omega (arith, ap (λ x. length x.items) c.self.view_is) in
    let p = piece_of g.row.SIZE j.len j.room place j.segments.items segment c.self.invariant inside c.index.ensures in
    let cut = c.split_at.ensures.back ∙ ap (drop (place % g.row.SIZE)) c.deref.ensures.value in
    let is_piece = λ (l : List g.row.T.Denot). IsPiece place l (drop (place % g.row.SIZE) segment.items) in
    rw cut (subst is_piece (ap (λ x. x.items) c.self.view_is) p)
