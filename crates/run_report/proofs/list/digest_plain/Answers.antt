use Rattle.std.proofs.Common.{◌++◌, List, ℕ, take, ap, ◌∙◌, append_assoc}
use Rattle.segment_list.proofs.CutLemmas.{take_piece}
use Rattle.run_report.proofs.list.digest_plain.Goals as goal

pub loop-next-preserved : goal.loop-next-preserved
loop-next-preserved c =
    let list : List ℕ = c.args.list.now in
    let had = c.args.digest.now in
    let next = c.loop-next.next in
    let piece = c.piece-piece.result.now in
    record {
      within = c.piece-piece.ensures.within;
      bytes = c.add.ensures ∙ ap (λ l. l ++ piece) c.loop-next.invariant.bytes ∙ append_assoc had (take next list) piece
          ∙ ap (λ l. had ++ l) (take_piece next list piece c.piece-piece.ensures);
    }
