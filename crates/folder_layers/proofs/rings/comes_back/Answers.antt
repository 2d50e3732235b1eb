use Rattle.folder_layers.proofs.WalkLemmas.{ends_not_back}
use Rattle.folder_layers.proofs.rings.comes_back.Goals as goal

pub returns-in-Ends-clause-answer : goal.returns-in-Ends-clause-answer
returns-in-Ends-clause-answer c =
    (λ no. absurd (cc), λ back. absurd (ends_not_back c.args.parents.now c.args.place c.in-Ends.ensures back))
