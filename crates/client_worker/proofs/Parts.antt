-- A worker was made of steps and lines, and gave steps and lines back: what it did is told of these.
use Rattle.std.proofs.Common.{◌≡◌, ℕ, List, Option, subst}
use Rattle.outer_traits.specs.declared.ends.Ends.{Ends}
use Rattle.stream_steps.specs.Mine.{Mine}
use Rattle.client_worker.specs.declared.channel.Channel.{Channel}
use Rattle.client_worker.specs.Working.{Work, IsIdle, Stays, KeepsLines}

module _ {C L : Type 0} {w w2 : Work C L} {s s2 : C} {cs cs2 : List (Channel L)}
    (made : w ≡ record { steps = s; channels = cs }) (back : w2 ≡ record { steps = s2; channels = cs2 }) where
  abbrev first : Work C L
  first = record { steps = s; channels = cs }

  abbrev last : Work C L
  last = record { steps = s2; channels = cs2 }

  pub stays_of : {H : Type 0} {at : C → H} {between : L → Ends} → Stays at between w w2 → Stays at between first last
  stays_of {H} {at} {between} stays =
      subst (λ (x : Work C L). Stays at between x last) made (subst (λ (x : Work C L). Stays at between w x) back stays)

  pub lines_of : {between : L → Ends} → KeepsLines between w w2 → KeepsLines between first last
  lines_of {between} lines =
      subst (λ (x : Work C L). KeepsLines between x last) made (subst (λ (x : Work C L). KeepsLines between w x) back lines)

  pub home_of : {H : Type 0} (at : C → H) → at w2.steps ≡ at w.steps → at s2 ≡ at s
  home_of at home =
      subst (λ (x : Work C L). at s2 ≡ at x.steps) made (subst (λ (x : Work C L). at x.steps ≡ at w.steps) back home)

  pub idle_of : {can : C → Type 0} {mine : C → Mine} {count : L → ℕ} {carried : L → Option (List (List ℕ))}
      → IsIdle can mine count carried w2 → IsIdle can mine count carried last
  idle_of {can} {mine} {count} {carried} idle = subst (λ (x : Work C L). IsIdle can mine count carried x) back idle

  pub mine_of : {can : C → Type 0} {mine : C → Mine} {count : L → ℕ} {carried : L → Option (List (List ℕ))}
      → IsIdle can mine count carried w2 → (P : Mine → Mine → Type 0) → P (mine w.steps) (mine w2.steps) → P (mine s) (mine s2)
  mine_of {can} {mine} {count} {carried} idle P p =
      subst (λ (x : Work C L). P (mine x.steps) (mine s2)) made (subst (λ (x : Work C L). P (mine w.steps) (mine x.steps)) back p)
