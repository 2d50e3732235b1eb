use Rattle.std.proofs.Common.{◌≡◌, ℕ, subst, arith}
use Rattle.coalesce.specs.Search.{IsBest}
use Rattle.coalesce.proofs.FirstLemmas.{best_is}
use Rattle.coalesce.proofs.next.next_fold.Goals as goal

pub returns : goal.returns
returns c =
    let all : c.loop-place.place ≡ 0 = omega (arith, c.loop-place-test.false) in
    best_is c.args.tree.now c.loop-place.best (subst (λ (n : ℕ). IsBest c.args.tree.now n c.loop-place.best) all c.loop-place.invariant.0)
