-- Lists of steps, one step longer.
use Rattle.std.proofs.Common.{ℕ, ◌+◌, ◌<◌, List, [], ◌∷◌, ◌++◌, length, take, refl, sym, subst}
use Rattle.std.proofs.lemmas.List.{take_more}
use Rattle.std.proofs.Math.ListN.{get_or}
use Rattle.volume_core.specs.State.{State}
use Rattle.core_laws.specs.declared.step.Step.{Step}
use Rattle.core_laws.specs.Takes.{Makes, MakeInTurn}

-- a step behind others
pub in_turn-push : (xs : List Step) (x : Step) (a b c : State) → MakeInTurn xs a b → Makes x b c → MakeInTurn (xs ++ x ∷ []) a c
in_turn-push [] x a b c h m = (c, subst (λ (s : State). Makes x s c) h m, refl)
in_turn-push (y ∷ ys) x a b c h m = (h.0, h.1, in_turn-push ys x h.0 b c h.2 m)

-- and so of the first of a list
pub in_turn-more : (xs : List Step) (i : ℕ) (d : Step) (a b c : State) → i < length xs → MakeInTurn (take i xs) a b
    → Makes (get_or xs i d) b c
    → MakeInTurn (take (i + 1) xs) a c
in_turn-more xs i d a b c h made m =
    subst (λ (ys : List Step). MakeInTurn ys a c) (sym (take_more xs i d h)) (in_turn-push (take i xs) (get_or xs i d) a b c made m)
