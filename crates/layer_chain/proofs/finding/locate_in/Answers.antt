use Rattle.std.proofs.Common.{◌≡◌, slice_index, slice_set, List, ℕ, ap, sym, ◌∙◌, arith}
use Rattle.std.proofs.lemmas.List.{set-get_or}
use Rattle.layer_chain.proofs.finding.locate_in.Goals as goal

pub returns-else-found-gt0-clause-learned : goal.returns-else-found-gt0-clause-learned
returns-else-found-gt0-clause-learned c =
    let index = c.args.index.now in
    let none : c.search-found.result ≡ slice_index index.bytes c.args.block =
    omega (arith, c.find-known.ensures, c.if-known-gt0.false, c.if-found-gt0.false) in
    ap (λ (bytes : List ℕ). record { ages = index.ages; bytes = bytes })
    (sym (ap (λ n. slice_set index.bytes c.args.block n) none ∙ set-get_or index.bytes c.args.block 0))
