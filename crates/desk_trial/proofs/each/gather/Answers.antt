use Rattle.std.proofs.Common.{rules, ◌≡◌, ℕ, ◌<◌, List, true, false, Some, length, get_or, ap, sym, ◌∙◌, subst, inl, inr, refl}
use Rattle.desk_lock.specs.Seats.{known, number_of, last_of, IsSeatOf}
use Rattle.desk_trial.specs.declared.each.Done.{Done}
use Rattle.desk_trial.specs.Jobs.{HasPair}
use Rattle.desk_trial.proofs.Gathers.{some_is, at_next, each_snoc, whole_next, whole_end}
use Rattle.desk_trial.proofs.each.gather.Goals as goal

pub join-requires-clause-other : goal.join-requires-clause-other
join-requires-clause-other c = let next =
    at_next (λ (k : ℕ) (x : Done). IsSeatOf c.args.desk.now x.seat × (number_of x.seat ≡ Some k)) _ _ _ _ c.in-Some.done
    c.loop-done.invariant.whole c.in-Some.ensures.steps.0 c.requires.all in
    (next.0, some_is _ _ next.1)

pub loop-done-preserved-then-ok : goal.loop-done-preserved-then-ok
loop-done-preserved-then-ok c = let inv = c.loop-done.invariant in
    let next = at_next (λ (k : ℕ) (x : Done). IsSeatOf c.args.desk.now x.seat × (number_of x.seat ≡ Some k)) _ _ _ _
    c.in-Some.done inv.whole c.in-Some.ensures.steps.0 c.requires.all in
    let kept = c.join.ensures.kept _ next.1 in
    let joined = ap (λ v. v.joined) kept in record {
      whole = whole_next _ _ _ _ c.in-Some.done inv.whole c.in-Some.ensures.steps.0;
      seat = search rules;
      first = search rules;
      made = ap (λ v. v.made) kept ∙ inv.made;
      pairs = each_snoc (λ (k : ℕ) (x : Done). HasPair k (last_of x.seat) (known c.join.new.seat).joined) c.loop-done.yielded c.in-Some.done
          (λ k d lt. subst (HasPair k (last_of (get_or c.loop-done.yielded k d).seat)) (sym joined) (inr (inv.pairs k d lt)))
          (subst (HasPair (length c.loop-done.yielded) (last_of c.in-Some.done.seat)) (sym joined) (inl (refl, refl)));
      ok = λ is. each_snoc (λ (k : ℕ) (x : Done). x.ok ≡ true) c.loop-done.yielded c.in-Some.done (inv.ok c.if-ok.true) is;
    }

pub loop-done-preserved : goal.loop-done-preserved
loop-done-preserved c = let inv = c.loop-done.invariant in
    let next = at_next (λ (k : ℕ) (x : Done). IsSeatOf c.args.desk.now x.seat × (number_of x.seat ≡ Some k)) _ _ _ _
    c.in-Some.done inv.whole c.in-Some.ensures.steps.0 c.requires.all in
    let kept = c.join.ensures.kept _ next.1 in
    let joined = ap (λ v. v.joined) kept in record {
      whole = whole_next _ _ _ _ c.in-Some.done inv.whole c.in-Some.ensures.steps.0;
      seat = search rules;
      first = search rules;
      made = ap (λ v. v.made) kept ∙ inv.made;
      pairs = each_snoc (λ (k : ℕ) (x : Done). HasPair k (last_of x.seat) (known c.join.new.seat).joined) c.loop-done.yielded c.in-Some.done
          (λ k d lt. subst (HasPair k (last_of (get_or c.loop-done.yielded k d).seat)) (sym joined) (inr (inv.pairs k d lt)))
          (subst (HasPair (length c.loop-done.yielded) (last_of c.in-Some.done.seat)) (sym joined) (inl (refl, refl)));
      ok = λ is. let f : false ≡ true = sym c.if-ok.false ∙ is in absurd (cc);
    }

pub returns-clause-pairs : goal.returns-clause-pairs
returns-clause-pairs c =
    let none : length c.loop-done.done-iterator.rest.items ≡ 0 = search rules in
    let all = whole_end _ _ _ c.loop-done.invariant.whole none in
    subst (λ (l : List Done). (k : ℕ) (d : Done) → k < length l
    → HasPair k (last_of (get_or l k d).seat) (known c.loop-done.seat).joined) all c.loop-done.invariant.pairs
