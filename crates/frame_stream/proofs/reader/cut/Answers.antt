use Rattle.std.proofs.Common.{◌≡◌, ◌∙◌, length, drop, ap, arith}
use Rattle.std.proofs.lemmas.Grind.{common_steps}
use Rattle.frame_stream.proofs.ReadingLemmas.{body_held}
use Rattle.frame_stream.proofs.reader.cut.Goals as goal

pub returns-clause-body : goal.returns-clause-body
returns-clause-body c =
    let held = c.args.held.now.items in
    let some : length held ≡ 0 → ⊥ = λ none. grind (arith, common_steps) in
    c.advance-2.ensures ∙ ap (drop 26) c.in_ok-body-2.ensures.front ∙ body_held held c.args.piece.now c.args.used some c.requires.within
