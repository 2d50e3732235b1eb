-- Lemmas on specs/LinePlans.antt.
use Rattle.std.proofs.Common.{◌≡◌, ℕ, ◌<◌, ◌≤◌, List, [], ◌∷◌, ◌++◌, refl, arith}
use Rattle.std.specs.Prelude.{All}
use Rattle.std.proofs.lemmas.List.Elements.{All-nil, All-cons, All-head, All-tail, All-push}
use Rattle.script_head.specs.declared.line_plan.LinePlan.{LinePlan}
use Rattle.script_head.specs.LinePlans.{RisesAbove, AreApart, NoPairTwice}

-- ---- numbers that rise

-- they rise above the first number, and the last of them, or this where there is none, is the other
abbrev pub RisesTo : ℕ → List ℕ → ℕ → Type 0
RisesTo low [] high = low ≡ high
RisesTo low (n ∷ ns) high = (low < n) × RisesTo n ns high

pub RisesAbove-of_to : (low : ℕ) (ns : List ℕ) (high : ℕ) → RisesTo low ns high → RisesAbove low ns
RisesAbove-of_to low [] high rises = tt
RisesAbove-of_to low (n ∷ ns) high (above, rises) = (above, RisesAbove-of_to n ns high rises)

pub RisesTo-push : (low : ℕ) (ns : List ℕ) (high n : ℕ) → RisesTo low ns high → high < n → RisesTo low (ns ++ n ∷ []) n
RisesTo-push low [] high n rises above = (omega (arith, rises), refl)
RisesTo-push low (m ∷ ms) high n (first, rises) above = (first, RisesTo-push m ms high n rises above)

-- one that is not above the last does not rise
pub not_above : (low : ℕ) (ns : List ℕ) (high n : ℕ) → RisesTo low ns high → n ≤ high → RisesAbove low (ns ++ n ∷ []) → ⊥
not_above low [] high n rises most (above, none) = omega (arith, rises, above)
not_above low (m ∷ ms) high n (first, rises) most (above, more) = not_above m ms high n rises most more

pub RisesAbove-front : (low : ℕ) (ms ns : List ℕ) → RisesAbove low (ms ++ ns) → RisesAbove low ms
RisesAbove-front low [] ns rises = tt
RisesAbove-front low (m ∷ ms) ns (above, rises) = (above, RisesAbove-front m ms ns rises)

-- ---- plans of lines

pub NoPairTwice-push : (ps : List LinePlan) (p : LinePlan) → NoPairTwice ps → All (λ q. AreApart q p) ps → NoPairTwice (ps ++ p ∷ [])
NoPairTwice-push [] p none apart = (All-nil (AreApart p), tt)
NoPairTwice-push (q ∷ qs) p (first, none) apart = (
  All-push (AreApart q) qs p first (All-head (λ r. AreApart r p) q qs apart),
  NoPairTwice-push qs p none (All-tail (λ r. AreApart r p) q qs apart),
)

All-front : (P : LinePlan → Type 0) (ps qs : List LinePlan) → All P (ps ++ qs) → All P ps
All-front P [] qs all = All-nil P
All-front P (p ∷ ps) qs all = All-cons P p ps (All-head P p (ps ++ qs) all) (All-front P ps qs (All-tail P p (ps ++ qs) all))

All-behind : (P : LinePlan → Type 0) (ps : List LinePlan) (q : LinePlan) → All P (ps ++ q ∷ []) → P q
All-behind P [] q all = All-head P q [] all
All-behind P (p ∷ ps) q all = All-behind P ps q (All-tail P p (ps ++ q ∷ []) all)

pub NoPairTwice-front : (ps qs : List LinePlan) → NoPairTwice (ps ++ qs) → NoPairTwice ps
NoPairTwice-front [] qs none = tt
NoPairTwice-front (p ∷ ps) qs (first, none) = (All-front (AreApart p) ps qs first, NoPairTwice-front ps qs none)

-- the last is apart from those before
pub last_apart : (ps : List LinePlan) (p : LinePlan) → NoPairTwice (ps ++ p ∷ []) → All (λ q. AreApart q p) ps
last_apart [] p none = All-nil (λ q. AreApart q p)
last_apart (q ∷ qs) p (first, none) = All-cons (λ r. AreApart r p) q qs (All-behind (AreApart q) qs p first) (last_apart qs p none)
