use Rattle.std.proofs.Common.{rules, ◌≡◌, ◌++◌, List, ℕ, take, ap, ◌∙◌, append_assoc, arith}
use Rattle.segment_list.proofs.CutLemmas.{take_piece}
use Rattle.session_serve.proofs.copy.copy_plain.Goals as goal

pub loop-next-preserved : goal.loop-next-preserved
loop-next-preserved c =
    let list : List ℕ = c.args.list.now in
    let had = c.args.into.now.items in
    let next = c.loop-next.next in
    let piece = c.piece-piece.result.now in
    let grew : c.extend_from_slice.new.self.items ≡ c.loop-next.into.items ++ piece = search rules in
    record {
      within = c.piece-piece.ensures.within;
      bytes = grew ∙ ap (λ l. l ++ piece) c.loop-next.invariant.bytes ∙ append_assoc had (take next list) piece
          ∙ ap (λ l. had ++ l) (take_piece next list piece c.piece-piece.ensures);
      room = omega (arith, c.loop-next.invariant.room, c.extend_from_slice.ensures.capacity);
    }
