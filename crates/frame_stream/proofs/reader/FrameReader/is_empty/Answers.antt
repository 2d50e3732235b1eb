use Rattle.std.proofs.Common.{◌≡◌, ◌∙◌, ◌++◌, length, ap, arith, length-append}
use Rattle.std.proofs.lemmas.Grind.{common_steps}
use Rattle.frame_stream.specs.Reading.{Fed}
use Rattle.frame_stream.proofs.reader.FrameReader.is_empty.Goals as goal

pub returns-else-is_empty : goal.returns-else-is_empty
returns-else-is_empty c =
    let fields = c.self.inside in
    let left = ap (λ (fed : Fed). length fed.left) c.self.view_is in
    let both = length-append fields.held.items fields.piece in (
      λ yes. absurd (grind (arith, common_steps)),
      λ none. let all : length (fields.held.items ++ fields.piece) ≡ 0 = left ∙ ap length none in grind (arith, common_steps),
    )
