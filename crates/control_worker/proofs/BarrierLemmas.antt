-- A barrier is asked to start.
use Rattle.std.proofs.Common.{◌≡◌, ◌≢◌, ℕ, ◌<◌, false, List, Option, Some, None, subst, sym, ◌∙◌}
use Rattle.step_answers.specs.declared.answers.AdmitWhole.TheVariants as admit
use Rattle.step_answers.specs.declared.whole_op.WholeOp.TheVariants as whole
use Rattle.stream_steps.specs.Mine.{Mine, OwnCall}
use Rattle.stream_steps.specs.Maint.{HasWhole}
use Rattle.stream_steps.specs.declared.add.Added.{Added}
use Rattle.stream_steps.specs.declared.add.AdmitBarrier.{AdmitBarrier}
use Rattle.stream_steps.specs.declared.add.AdmitBarrier.TheVariants as barrier
use Rattle.stream_steps.specs.Add.{AdmitsBarrier, BeginsBy, IfBegun, IsFromOther, IsStillUnbegun}
use Rattle.control_worker.specs.Whole.{IsWhole, RefusedWhole}
use Rattle.control_worker.proofs.PartLemmas.{admitted_stays}
use Rattle.control_worker.proofs.ShownLemmas.{StaysShown}
use Rattle.control_worker.specs.Adding.{StartsBy}

module _ {t : ℕ} {m0 m : Mine} (m2 : Mine) (a : AdmitBarrier) (same : m ≡ m0)
    (ok : (r : ℕ) (turn : List OwnCall) (o : OwnCall) → HasWhole t (whole.Barrier r) turn o m → AdmitsBarrier r turn o a m m2) where
  told : (r : ℕ) (turn : List OwnCall) (o : OwnCall) → HasWhole t (whole.Barrier r) turn o m0 → AdmitsBarrier r turn o a m0 m2
  told = subst (λ (x : Mine). (r : ℕ) (turn : List OwnCall) (o : OwnCall) → HasWhole t (whole.Barrier r) turn o x
      → AdmitsBarrier r turn o a x m2) same ok

  pub goes : (added : Added) → a ≡ barrier.Go added → (r : ℕ) (turn : List OwnCall) (o : OwnCall)
      → HasWhole t (whole.Barrier r) turn o m0 → BeginsBy added r turn o m0 m2
  goes added e r turn o h = subst (λ b. AdmitsBarrier r turn o b m0 m2) e (told r turn o h)

  pub refused : a ≡ barrier.Refused → (r : ℕ) (turn : List OwnCall) (o : OwnCall) → HasWhole t (whole.Barrier r) turn o m0
      → RefusedWhole o m0 m2
  refused e r turn o h =
      let x = subst (λ b. AdmitsBarrier r turn o b m0 m2) e (told r turn o h) in
      record { why = x.0; answers = x.1; right = x.2 }

  pub waits : (n : ℕ) → a ≡ barrier.After n → ((r : ℕ) × IsWhole false t (whole.Barrier r) m0) → m2 ≡ m
  waits n e w = subst (λ b. AdmitsBarrier w.0 w.1.0 w.1.1 b m m2) e
      (ok w.0 w.1.0 w.1.1 (subst (HasWhole t (whole.Barrier w.0) w.1.0 w.1.1) (sym same) w.1.2))

  pub admits_stays : ((r : ℕ) × IsWhole false t (whole.Barrier r) m0) → StaysShown m m2
  admits_stays w =
      let h : HasWhole t (whole.Barrier w.0) w.1.0 w.1.1 m = subst (HasWhole t (whole.Barrier w.0) w.1.0 w.1.1) (sym same) w.1.2 in
      stays w.0 w.1.0 w.1.1 m h a (ok w.0 w.1.0 w.1.1 h)
    where
      stays : (r : ℕ) (turn : List OwnCall) (o : OwnCall) (b : Mine) → HasWhole t (whole.Barrier r) turn o b → (x : AdmitBarrier)
          → AdmitsBarrier r turn o x b m2 → StaysShown b m2
      stays r turn o b h (barrier.Go added) s = admitted_stays t (whole.Barrier r) turn o admit.Go b m2 h s.starts
      stays r turn o b h (barrier.After n) s = admitted_stays t (whole.Barrier r) turn o (admit.After n) b m2 h s
      stays r turn o b h barrier.Never s = admitted_stays t (whole.Barrier r) turn o admit.Never b m2 h s
      stays r turn o b h barrier.Refused s = admitted_stays t (whole.Barrier r) turn o (admit.Refused s.0 0) b m2 h (s.1, s.2)

pub begins : {t : ℕ} {m0 m : Mine} (a : AdmitBarrier) → m ≡ m0 → (added : Added) → a ≡ barrier.Go added
    → (begun : ℕ → ℕ → Type 0)
    → ((r : ℕ) (turn : List OwnCall) (o : OwnCall) → HasWhole t (whole.Barrier r) turn o m → IfBegun a r m.replicas begun)
    → (r : ℕ) (turn : List OwnCall) (o : OwnCall) → HasWhole t (whole.Barrier r) turn o m0
    → IsFromOther added.source r m0.replicas begun
begins {t = t} {m = m} a same added e begun tells r turn o h =
    subst (λ (x : Mine). IsFromOther added.source r x.replicas begun) same
    (subst (λ b. IfBegun b r m.replicas begun) e (tells r turn o (subst (HasWhole t (whole.Barrier r) turn o) (sym same) h)))

pub unbegun_still : (a : AdmitBarrier) (n : ℕ) → a ≡ barrier.After n → (before now : Type 0) → IsStillUnbegun a before now
    → before → now
unbegun_still a n e before now still = subst (λ b. IsStillUnbegun b before now) e still

-- ---- past it

pub starts_by : (s : Option Added) (added : Added) (r : ℕ) (turn : List OwnCall) (o : OwnCall) (a b : Mine) → s ≡ Some added
    → StartsBy s r turn o a b → BeginsBy added r turn o a b
starts_by s added r turn o a b e h = subst (λ x. StartsBy x r turn o a b) e h

pub refused_by : (s : Option Added) (r : ℕ) (turn : List OwnCall) (o : OwnCall) (a b : Mine) → s ≡ None
    → StartsBy s r turn o a b → RefusedWhole o a b
refused_by s r turn o a b e h = subst (λ x. StartsBy x r turn o a b) e h

pub two_lines : (count source r before now : ℕ) (begun : ℕ → ℕ → Type 0) → now ≡ before → count ≡ before
    → IsFromOther source r now begun → (source < count) × (r < count) × (source ≢ r)
two_lines count source r before now begun same is h = (
  subst (λ n. source < n) (same ∙ sym is) h.from,
  subst (λ n. r < n) (same ∙ sym is) h.to,
  h.apart,
)
