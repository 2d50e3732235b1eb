-- What holds while calls are carried goes on, step after step and frame after frame.
use Rattle.std.proofs.Common.{arith, ◌≡◌, ℕ, ◌≤◌, List, ◌++◌, length, take, map, get_or, Option, subst, sym, ap, ◌∙◌}
use Rattle.std.proofs.Math.Seq.{take-append_seam}
use Rattle.outer_traits.specs.declared.ends.Ends.{Ends}
use Rattle.stream_steps.specs.Mine.{Mine, OwnCall, IsOwn}
use Rattle.client_worker.specs.declared.channel.Channel.{Channel}
use Rattle.client_worker.specs.Exchanges.{told_in}
use Rattle.client_worker.specs.Asking.{TellsOn, TellOn}
use Rattle.client_worker.specs.Working.{Work, IsServing, Stays, StaysHome}
use Rattle.client_worker.proofs.Shown.{ShowsOn, shown_later}
use Rattle.client_worker.proofs.Told.{tells_on_same}

-- what was lent whole comes back whole
pub whole_back : {A : Type 0} (n : ℕ) (xs ys : List A) → length xs ≡ n → take n (xs ++ ys) ≡ xs
whole_back n xs ys long = subst (λ k. take k (xs ++ ys) ≡ xs) long (take-append_seam xs ys)

-- the open call of the value is that of its parts
pub own_inside : {C L : Type 0} (mine : C → Mine) (w v : Work C L) → w ≡ v → (t : ℕ) (o : OwnCall) → IsOwn t o (mine v.steps)
    → IsOwn t o (mine w.steps)
own_inside mine w v e t o own = subst (λ x. IsOwn t o (mine x.steps)) (sym e) own

-- nothing changed for the stream from the value that was opened to one that is opened now
pub steps_back : {C L : Type 0} (w v u t : Work C L) → w ≡ v → v.steps ≡ u.steps → u ≡ t → w.steps ≡ t.steps
steps_back w v u t opened same first = ap (λ x. x.steps) opened ∙ same ∙ ap (λ x. x.steps) first

-- ---- what stays

module _ {C L H : Type 0} {at : C → H} {between : L → Ends} where
  pub stays_then : (a b c : Work C L) → Stays at between a b → Stays at between b c → Stays at between a c
  stays_then a b c f h = record {
    home = h.home ∙ f.home;
    lines = record { count = h.lines.count ∙ f.lines.count; ends = h.lines.ends ∙ f.lines.ends };
  }

  -- over steps alone
  pub stays_home : (a b : Work C L) → StaysHome at a b → Stays at between a b
  stays_home a b f = record {
    home = f.home;
    lines = record { count = ap length f.lines; ends = ap (map (λ c. between c.line)) f.lines };
  }

  -- behind a step
  pub stays_step : (a b w : Work C L) (s : C) → Stays at between a b → w ≡ b → at s ≡ at w.steps
      → Stays at between a (record { steps = s; channels = w.channels })
  stays_step a b w s f opened home = record {
    home = home ∙ ap (λ x. at x.steps) opened ∙ f.home;
    lines = record {
      count = ap (λ x. length x.channels) opened ∙ f.lines.count;
      ends = ap (λ x. map (λ c. between c.line) x.channels) opened ∙ f.lines.ends;
    };
  }

  -- over lines that were lent and came back between the same
  pub stays_lent : (a w : Work C L) (lent back more : List (Channel L)) (n : ℕ)
      → w ≡ a → lent ≡ w.channels → length back ≡ length lent
      → map (λ c. between c.line) back ≡ map (λ c. between c.line) lent → length back ≡ n
      → Stays at between a (record { steps = w.steps; channels = take n (back ++ more) })
  stays_lent a w lent back more n opened is long ends all = record {
    home = ap (λ x. at x.steps) opened;
    lines = record {
      count = ap length (whole_back n back more all) ∙ long ∙ ap length is ∙ ap (λ x. length x.channels) opened;
      ends = ap (map (λ c. between c.line)) (whole_back n back more all) ∙ ends ∙ ap (map (λ c. between c.line)) is
          ∙ ap (λ x. map (λ c. between c.line) x.channels) opened;
    };
  }

-- ---- what holds

module _ {C L : Type 0} {can : C → Type 0} {mine : C → Mine} {count : L → ℕ} {carried : L → Option (List (List ℕ))} where
  -- behind a step
  pub serving_on : (s s2 : C) (cs : List (Channel L)) → IsServing can mine count carried (record { steps = s; channels = cs })
      → can s2 → ShowsOn (mine s) (mine s2) → IsServing can mine count carried (record { steps = s2; channels = cs })
  serving_on s s2 cs h ready on = record {
    ready = ready;
    few = h.few;
    lines = h.lines ∙ sym on.0;
    shown = on.1 (map (λ c. count c.line) cs) (map (λ c. carried c.line) cs) h.shown;
  }

  -- over lines that were lent and came back further
  pub serving_later : (s : C) (cs lent back more : List (Channel L)) (n : ℕ)
      → IsServing can mine count carried (record { steps = s; channels = cs }) → lent ≡ cs → length back ≡ length lent
      → ((k : ℕ) → get_or (map (λ c. count c.line) lent) k 0 ≤ get_or (map (λ c. count c.line) back) k 0)
      → TellOn (map (λ c. carried c.line) lent) (map (λ c. carried c.line) back) → length back ≡ n
      → IsServing can mine count carried (record { steps = s; channels = take n (back ++ more) })
  serving_later s cs lent back more n h is long later on all =
      let was = subst (λ l. IsServing can mine count carried (record { steps = s; channels = l })) (sym is) h in
      subst (λ l. IsServing can mine count carried (record { steps = s; channels = l })) (sym (whole_back n back more all)) (record {
        ready = h.ready;
        few = omega (arith, was.few, long);
        lines = long ∙ was.lines;
        shown = shown_later (mine s) (map (λ c. count c.line) lent) (map (λ c. count c.line) back)
            (map (λ c. carried c.line) lent) (map (λ c. carried c.line) back) later on was.shown;
      })

  -- or as they were
  pub serving_same : (s : C) (cs lent back more : List (Channel L)) (n : ℕ)
      → IsServing can mine count carried (record { steps = s; channels = cs }) → lent ≡ cs → length back ≡ length lent
      → map (λ c. count c.line) back ≡ map (λ c. count c.line) lent
      → map (λ c. carried c.line) back ≡ map (λ c. carried c.line) lent → length back ≡ n
      → IsServing can mine count carried (record { steps = s; channels = take n (back ++ more) })
  serving_same s cs lent back more n h is long counts told = serving_later s cs lent back more n h is long
      (λ k. omega (arith, ap (λ l. get_or l k 0) counts))
      (λ r. subst (λ l. TellsOn (told_in (map (λ c. carried c.line) lent) r) (told_in l r)) (sym told)
      (tells_on_same (told_in (map (λ c. carried c.line) lent) r)))
