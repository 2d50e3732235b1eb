-- What holds of a carrier while steps are taken and frames are carried.
use Rattle.std.proofs.Common.{◌≡◌, ◌≤◌, ℕ, Bool, List, [], length, map, get_or, Option, Vec, arith, subst, sym, refl, ap, ◌∙◌}
use Rattle.std.specs.Vec.{with_items}
use Rattle.std.proofs.lemmas.List.{with_items_is}
use Rattle.outer_traits.specs.declared.ends.Ends.{Ends}
use Rattle.stream_steps.specs.Mine.{Mine, with_running}
use Rattle.client_worker.specs.Asking.{TellOn}
use Rattle.client_worker.specs.Exchanges.{told_in}
use Rattle.client_worker.specs.Serving.{IsShown}
use Rattle.client_worker.specs.Working.{Work, IsServing, Stays, counts_of, told_by}
use Rattle.client_worker.specs.declared.channel.Channel.{Channel}
use Rattle.client_worker.proofs.Shown.{shown_later}
use Rattle.client_worker.proofs.Told.{tells_on_same}
use Rattle.control_worker.specs.Carrying.{Keeps}
use Rattle.control_worker.proofs.ShownLemmas.{StaysShown, stays_same}

-- ---- one behind the other

-- the lines are as they were
pub stays_lines : {C L H : Type 0} {at : C → H} {between : L → Ends} (a b : Work C L) → at b.steps ≡ at a.steps
    → b.channels ≡ a.channels → Stays at between a b
stays_lines {between = between} a b home lines = record {
  home = home;
  lines = record { count = ap length lines; ends = ap (map (λ x. between x.line)) lines };
}

pub stays_both : {C L H : Type 0} {at : C → H} {between : L → Ends} (a b c : Work C L) → Stays at between a b
    → Stays at between b c → Stays at between a c
stays_both a b c f k = record {
  home = k.home ∙ f.home;
  lines = record { count = k.lines.count ∙ f.lines.count; ends = k.lines.ends ∙ f.lines.ends };
}

pub keeps_none : {C L H : Type 0} {at : C → H} {begun : C → Bool → ℕ → ℕ → Type 0} {between : L → Ends} (a : Work C L)
    → Keeps at begun between a a
keeps_none a = record {
  stays = record { home = refl; lines = record { count = refl; ends = refl } };
  begun = λ past source r is. is;
}

pub keeps_both : {C L H : Type 0} {at : C → H} {begun : C → Bool → ℕ → ℕ → Type 0} {between : L → Ends} (a b c : Work C L)
    → Keeps at begun between a b → Keeps at begun between b c → Keeps at begun between a c
keeps_both a b c f k = record {
  stays = stays_both a b c f.stays k.stays;
  begun = λ past source r is. k.begun past source r (f.begun past source r is);
}

-- ---- a step

-- a step was taken, and the lines are as they were
pub serves_step : {C L : Type 0} {can : C → Type 0} {count : L → ℕ} {carried : L → Option (List (List ℕ))} (mine : C → Mine)
    (w : Work C L) (c : C) → can c → StaysShown (mine w.steps) (mine c)
    → IsServing can (λ s. with_running (mine s) []) count carried w
    → IsServing can (λ s. with_running (mine s) []) count carried (record { steps = c; channels = w.channels })
serves_step {count = count} {carried = carried} mine w c can stays h = record {
  ready = can;
  few = h.few;
  lines = h.lines ∙ sym stays.replicas;
  shown = stays.shown (counts_of count w) (told_by carried w) h.shown;
}

pub keeps_step : {C L H : Type 0} {at : C → H} {begun : C → Bool → ℕ → ℕ → Type 0} {between : L → Ends} (a b : Work C L) (c : C)
    → at c ≡ at b.steps → ((past : Bool) (source r : ℕ) → begun b.steps past source r → begun c past source r)
    → Keeps at begun between a b → Keeps at begun between a (record { steps = c; channels = b.channels })
keeps_step a b c home on k = record {
  stays = record {
    home = home ∙ k.stays.home;
    lines = record { count = k.stays.lines.count; ends = k.stays.lines.ends };
  };
  begun = λ past source r is. on past source r (k.begun past source r is);
}

-- an exchange was begun
pub serves_begun : {C L : Type 0} {can : C → Type 0} {count : L → ℕ} {carried : L → Option (List (List ℕ))} (mine : C → Mine)
    (w : Work C L) (channels : List (Channel L)) → length channels ≡ length w.channels
    → map (λ x. count x.line) channels ≡ counts_of count w → map (λ x. carried x.line) channels ≡ told_by carried w
    → IsServing can (λ s. with_running (mine s) []) count carried w
    → IsServing can (λ s. with_running (mine s) []) count carried (record { steps = w.steps; channels = channels })
serves_begun {count = count} {carried = carried} mine w channels same counts told h = record {
  ready = h.ready;
  few = subst (λ n. n ≤ 8) (sym same) h.few;
  lines = same ∙ h.lines;
  shown = subst (λ ns. IsShown (with_running (mine w.steps) []) ns (map (λ x. carried x.line) channels)) (sym counts)
      (subst (IsShown (with_running (mine w.steps) []) (counts_of count w)) (sym told) h.shown);
}

-- ---- the core has to be waited for

-- for the stream nothing has changed
pub record IsUnchanged {C L H : Type 0} (can : C → Type 0) (mine : C → Mine) (at : C → H) (count : L → ℕ)
    (carried : L → Option (List (List ℕ))) (w w2 : Work C L) : Type 0 where
  pub serves : IsServing can (λ s. with_running (mine s) []) count carried w2
  pub home : at w2.steps ≡ at w.steps
  pub lines : w2.channels ≡ w.channels
  pub same : mine w2.steps ≡ mine w.steps

pub unchanged_first : {C L H : Type 0} {can : C → Type 0} {mine : C → Mine} {at : C → H} {count : L → ℕ}
    {carried : L → Option (List (List ℕ))} (w w2 : Work C L) → w2 ≡ w
    → IsServing can (λ s. with_running (mine s) []) count carried w2 → IsUnchanged can mine at count carried w w2
unchanged_first {mine = mine} {at = at} w w2 e h = record {
  serves = h;
  home = ap (λ x. at x.steps) e;
  lines = ap (λ x. x.channels) e;
  same = ap (λ x. mine x.steps) e;
}

pub unchanged_next : {C L H : Type 0} {can : C → Type 0} {mine : C → Mine} {at : C → H} {count : L → ℕ}
    {carried : L → Option (List (List ℕ))} (w w2 : Work C L) (c : C) → can c → at c ≡ at w2.steps → mine c ≡ mine w2.steps
    → IsUnchanged can mine at count carried w w2 → IsUnchanged can mine at count carried w (record { steps = c; channels = w2.channels })
unchanged_next {mine = mine} w w2 c can home same u = record {
  serves = serves_step mine w2 c can (stays_same (mine w2.steps) (mine c) same) u.serves;
  home = home ∙ u.home;
  lines = u.lines;
  same = same ∙ u.same;
}

-- ---- the lines are lent

-- what holds of the lines while they are lent holds of the carrier that has them again
pub of_lines : {C L Z : Type 0} (P : Work C L → Work C L → Type 0) (s s2 : C) (v : Vec (Channel L) Z) (lent now : List (Channel L))
    (w : Work C L) → record { steps = s; channels = v.items } ≡ w → lent ≡ v.items → length lent ≡ v.len → length now ≡ length lent
    → P (record { steps = s; channels = lent }) (record { steps = s2; channels = now })
    → P w (record { steps = s2; channels = (with_items v now).items })
of_lines P s s2 v lent now w view is all same h =
    subst (λ x. P x (record { steps = s2; channels = (with_items v now).items }))
    (ap (λ xs. record { steps = s; channels = xs }) is ∙ view)
    (subst (λ xs. P (record { steps = s; channels = lent }) (record { steps = s2; channels = xs }))
    (sym (with_items_is v now (same ∙ all))) h)

-- a step was taken that changes nothing for the stream, and the lines are further
pub record GoesFurther {C L H : Type 0} (can : C → Type 0) (mine : C → Mine) (at : C → H) (begun : C → Bool → ℕ → ℕ → Type 0)
    (count : L → ℕ) (carried : L → Option (List (List ℕ))) (between : L → Ends) (w w2 : Work C L) : Type 0 where
  pub serves : IsServing can (λ s. with_running (mine s) []) count carried w2
  pub keeps : Keeps at begun between w w2
  pub same : mine w2.steps ≡ mine w.steps
  pub told : TellOn (told_by carried w) (told_by carried w2)

pub lines_further : {C L H Z : Type 0} {can : C → Type 0} {mine : C → Mine} {at : C → H} {begun : C → Bool → ℕ → ℕ → Type 0}
    {count : L → ℕ} {carried : L → Option (List (List ℕ))} {between : L → Ends} (s s2 : C) (v : Vec (Channel L) Z)
    (lent now : List (Channel L)) (w : Work C L) → record { steps = s; channels = v.items } ≡ w → lent ≡ v.items
    → length lent ≡ v.len → length now ≡ length lent → map (λ x. between x.line) now ≡ map (λ x. between x.line) lent
    → ((k : ℕ) → get_or (map (λ x. count x.line) lent) k 0 ≤ get_or (map (λ x. count x.line) now) k 0)
    → TellOn (map (λ x. carried x.line) lent) (map (λ x. carried x.line) now)
    → can s2 → at s2 ≡ at s → mine s2 ≡ mine s → ((past : Bool) (source r : ℕ) → begun s past source r → begun s2 past source r)
    → IsServing can (λ s. with_running (mine s) []) count carried (record { steps = s; channels = v.items })
    → GoesFurther can mine at begun count carried between w (record { steps = s2; channels = (with_items v now).items })
lines_further {can = can} {mine = mine} {at = at} {begun = begun} {count = count} {carried = carried} {between = between}
    s s2 v lent now w view is all size ends later told ready home same on h =
    let first = subst (λ xs. IsServing can (λ s. with_running (mine s) []) count carried (record { steps = s2; channels = xs })) (sym is)
    (serves_step mine (record { steps = s; channels = v.items }) s2 ready (stays_same (mine s) (mine s2) same) h) in
    of_lines (GoesFurther can mine at begun count carried between) s s2 v lent now w view is all size (record {
      serves = record {
        ready = ready;
        few = subst (λ n. n ≤ 8) (sym size) first.few;
        lines = size ∙ first.lines;
        shown = shown_later (with_running (mine s2) []) (map (λ x. count x.line) lent) (map (λ x. count x.line) now)
            (map (λ x. carried x.line) lent) (map (λ x. carried x.line) now) later told first.shown;
      };
      keeps = record { stays = record { home = home; lines = record { count = size; ends = ends } }; begun = on };
      same = same;
      told = told;
    })

-- lines that are as they were
pub later_same : (before now : List ℕ) → now ≡ before → (k : ℕ) → get_or before k 0 ≤ get_or now k 0
later_same before now e k = subst (λ xs. get_or before k 0 ≤ get_or xs k 0) (sym e) (omega (arith))

pub tells_same : (before now : List (Option (List (List ℕ)))) → now ≡ before → TellOn before now
tells_same before now e = subst (TellOn before) (sym e) (λ r. tells_on_same (told_in before r))
