use Rattle.std.proofs.Common.{◌≡◌, [], subst, arith}
use Rattle.frame_wire.specs.declared.decoded.Decoded.TheVariants.{Short}
use Rattle.frame_wire.specs.Decoding.{Decodes}
use Rattle.std.proofs.lemmas.Grind.{common_steps}
use Rattle.frame_stream.proofs.ReadingLemmas.{decodes_on}
use Rattle.frame_stream.proofs.reader.find_behind.Goals as goal

pub returns-after-loop-piece-clause-means : goal.returns-after-loop-piece-clause-means
returns-after-loop-piece-clause-means c =
    let l = c.loop-piece in
    let none : l.found ≡ Short → l.piece ≡ [] = λ same. grind (arith, common_steps) in
    subst (λ bytes. Decodes bytes c.args.most l.found) l.invariant.same
    (decodes_on l.held.items l.piece c.args.most l.found none l.invariant.means)
