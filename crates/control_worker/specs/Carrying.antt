-- What stays, and what is known, while frames are carried.
use Rattle.std.specs.Prelude.{◌≡◌, ℕ, Bool, true, false, List, Option}
use Rattle.volume_model.specs.declared.mode.Mode.{Mode}
use Rattle.volume_model.specs.declared.mode.Mode.TheVariants.{Err}
use Rattle.volume_model.specs.Modes.{mode_of}
use Rattle.outer_traits.specs.declared.ends.Ends.{Ends}
use Rattle.client_worker.specs.Working.{Work, Passes, Stays}

-- the home and the lines stay, and whatever rebuild was begun is begun
pub record Keeps {C L H : Type 0} (at : C → H) (was_begun : C → Bool → ℕ → ℕ → Type 0) (between : L → Ends) (w w2 : Work C L)
    : Type 0 where
  pub stays : Stays at between w w2
  pub begun : (past : Bool) (source r : ℕ) → was_begun w.steps past source r → was_begun w2.steps past source r

-- the frame came through, or the replica has failed
abbrev pub PassesOr : {C L : Type 0} → (C → List Mode) → (L → Option (List (List ℕ))) → ℕ → List ℕ → Bool → Work C L
    → Work C L → Type 0
PassesOr modes told r frame true w w2 = Passes told r frame w w2
PassesOr modes told r frame false w w2 = mode_of (modes w2.steps) r ≡ Err
