-- What the backups of a run and the target that they go to have to do with each other, where the target tells what it holds.
use Rattle.std.specs.Prelude.{◌≡◌, ℕ, ◌≤◌, List, ◌∷◌, ◌++◌, Some, IsSome}
use Rattle.target_traits.specs.Objects.{Objects}
use Rattle.backup_units.specs.Blocks.{KeepsBlocks}
use Rattle.backup_units.specs.Names.{cfg_name}
use Rattle.volume_model.specs.declared.call.Call.TheVariants as call
use Rattle.volume_model.specs.declared.command.Command.TheVariants as command
use Rattle.volume_model.specs.declared.entry.Answer.{Answer}
use Rattle.volume_model.specs.declared.entry.Entry.{Entry}
use Rattle.volume_model.specs.declared.entry.Entry.TheVariants as entry
use Rattle.volume_model.specs.History.{Spot}
use Rattle.volume_model.specs.OneWorker.{behind_entries}
use Rattle.control_worker.specs.Store.{IsThere, IsToldBy, IsWell, OthersStay}

-- each answer of a backup in a journal that begins at that spot tells what the store was, where it stands
abbrev pub IsTold : Objects → Objects → List ℕ → Type 0 → Spot → List Entry → Type 0
IsTold first now volume well spot journal =
    (before after : List Entry) (a : Answer) (backup snapshot : List ℕ) → journal ≡ before ++ entry.Answer a ∷ after
    → a.call ≡ call.Command (command.Backup backup snapshot)
    → IsToldBy first now volume well before (behind_entries spot before) backup snapshot a.reply

-- From what the target held at first, when it had failed so often, it has come to this, and to so many faults, behind a
-- journal that begins at that spot. Each block stays that was held, and so does the cfg of each backup that was there.
pub record StoreOfRun (first : Objects) (from : ℕ) (now : Objects) (count : ℕ) (volume : List ℕ) (spot : Spot)
    (journal : List Entry) : Type 0 where
  pub told : IsTold first now volume (IsWell from count) spot journal
  pub cfgs : IsWell from count → (backup : List ℕ) → IsSome (now (cfg_name volume backup)) → IsThere first volume journal backup
  pub blocks : KeepsBlocks volume first now
  pub kept : (backup bytes : List ℕ) → first (cfg_name volume backup) ≡ Some bytes → now (cfg_name volume backup) ≡ Some bytes
  pub others : OthersStay volume first now
  pub later : from ≤ count
