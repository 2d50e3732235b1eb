use Rattle.std.proofs.Common.{Some, sym, subst, ap, ◌∙◌, arith}
use Rattle.std.specs.Prelude.{◌↔◌, IsTrue}
use Rattle.std.specs.Option.{option_copied}
use Rattle.std.specs.Str.{bytes_eq}
use Rattle.std.proofs.lemmas.Slice.Eq.{bytes_eq-Decides}
use Rattle.replica_node.specs.Node.{IsKept}
use Rattle.replica_compare.specs.Comparing.{ReadsAlikeAt}
use Rattle.replica_compare.proofs.ShapeLemmas.{differ}
use Rattle.replica_compare.proofs.ReadLemmas.{AtPlace, kept_here, kept_there, both_own, neither_own}
use Rattle.replica_compare.proofs.alike.own_differs.Goals as goal
use Rattle.replica_compare.proofs.alike.own_differs.Goals.{After-own_block-lower}

at_place : (c : After-own_block-lower) → AtPlace c.args.one.now c.args.other.now c.args.block c.args.place c.args.twin
at_place c = record {
  pair = c.requires.pair;
  stands = c.requires.stands;
  within = c.requires.within;
  inside = omega (arith, c.requires.inside, c.requires.pair.size);
}

pub block_differs-requires-clause-one : goal.block_differs-requires-clause-one
block_differs-requires-clause-one c =
    let here = (goal.at.block_differs-requires-clause-one c).After-own_block-lower in
    subst (λ m. IsKept c.args.one.now (Some m.name)) (sym c.meta.ensures)
    (kept_here c.args.one.now c.args.other.now c.args.block c.args.place c.args.twin (at_place here))

pub block_differs-requires-clause-other : goal.block_differs-requires-clause-other
block_differs-requires-clause-other c =
    let here = (goal.at.block_differs-requires-clause-other c).After-own_block-lower in
    subst (λ m. IsKept c.args.other.now (Some m.name)) (sym c.meta.ensures)
    (kept_there c.args.one.now c.args.other.now c.args.block c.args.place c.args.twin (at_place here))

pub returns-in-None-None : goal.returns-in-None-None
returns-in-None-None c =
    let here = (goal.at.returns-in-None-None c).After-own_block-lower in
    neither_own c.args.one.now c.args.other.now c.args.block c.args.place c.args.twin (at_place here)
    (sym c.own_block-upper.ensures.value ∙ ap option_copied c.in-None-None.is-0)
    (sym c.own_block-lower.ensures.value ∙ ap option_copied c.in-None-None.is-1)

pub returns-in-Some-Some : goal.returns-in-Some-Some
returns-in-Some-Some c =
    let here = (goal.at.returns-in-Some-Some c).After-own_block-lower in
    let upper = c.in-Some-Some.upper.now in
    let lower = c.in-Some-Some.lower.now in
    both_own c.args.one.now c.args.other.now c.args.block c.args.place c.args.twin upper lower c.ne.result (at_place here)
    (sym c.own_block-upper.ensures.value ∙ ap option_copied c.in-Some-Some.is-0)
    (sym c.own_block-lower.ensures.value ∙ ap option_copied c.in-Some-Some.is-1)
    (differ c.ne.result (bytes_eq upper lower) c.ne.ensures (bytes_eq-Decides upper lower))

pub returns-in_default : goal.returns-in_default
returns-in_default c =
    let here = (goal.at.returns-in_default c).After-own_block-lower in
    let kept = kept_here c.args.one.now c.args.other.now c.args.block c.args.place c.args.twin (at_place here) in
    let tells = subst (λ m. IsTrue c.block_differs.result ↔ (ReadsAlikeAt c.args.one.now c.args.other.now
    (Some m.name) c.args.block → ⊥))
    c.meta.ensures c.block_differs.ensures in
    ((λ yes. (kept, tells.0 yes)), (λ other. tells.1 other.1))
