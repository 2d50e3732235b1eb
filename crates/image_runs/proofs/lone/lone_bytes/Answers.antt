use Rattle.std.proofs.Common.{ℕ, ◌+◌, ◌<◌, get_or, sym, ap, ◌∙◌, arith}
use Rattle.std.proofs.lemmas.Bool.{OnFalse_at}
use Rattle.std.proofs.lemmas.List.{get_or-take}
use Rattle.image_runs.proofs.lone.lone_bytes.Goals as goal

pub returns-then-not-has_pair-clause-differ : goal.returns-then-not-has_pair-clause-differ
returns-then-not-has_pair-clause-differ c =
    let bytes = c.args.bytes.now in
    let at = λ (k : ℕ) (inside : k < 33). ap (λ xs. get_or xs k 0) c.in-Some.ensures.cases.same ∙ get_or-take 33 bytes k 0 inside in
    let apart = OnFalse_at c.if-not-has_pair.true c.has_pair.ensures in
    λ k below equal. apart k below (at k (omega arith) ∙ equal ∙ sym (at (k + 1) (omega arith)))
