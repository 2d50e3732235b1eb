-- That each snapshot which can be used has a copy, that it is as long as the disk, and that it is kept until it is removed.
use Rattle.std.specs.Prelude.{◌≡◌, ℕ, Bool, true, List, [], ◌∷◌, length}
use Rattle.std.specs.List.{list_any}
use Rattle.std.specs.Str.{bytes_eq}
use Rattle.volume_model.specs.declared.command.Command.TheVariants as command
use Rattle.volume_model.specs.declared.call.Call.TheVariants as call
use Rattle.volume_model.specs.declared.entry.Entry.{Entry}
use Rattle.volume_model.specs.declared.entry.Entry.TheVariants as entry
use Rattle.volume_model.specs.Replay.{is_refusal}
use Rattle.volume_model.specs.Snapshots.{is_live}
use Rattle.volume_model.specs.PlainState.{Copy, Volume, copy_of}

-- one of the copies has the name
abbrev pub has_copy : List Copy → List ℕ → Bool
has_copy copies name = list_any (λ c. bytes_eq name c.name) copies

-- the disk has that many bytes, and each snapshot that can be used has a copy with as many
pub record HasCopies (size : ℕ) (volume : Volume) : Type 0 where
  pub disk : length volume.disk ≡ size
  pub there : (name : List ℕ) → is_live volume.snapshots.tree name ≡ true → has_copy volume.copies name ≡ true
  pub copy : (name : List ℕ) → is_live volume.snapshots.tree name ≡ true → length (copy_of volume.copies name) ≡ size

-- the snapshot of the name can be used, and that is its copy
pub record IsCopyOf (volume : Volume) (name disk : List ℕ) : Type 0 where
  pub live : is_live volume.snapshots.tree name ≡ true
  pub copy : copy_of volume.copies name ≡ disk

-- no removal of the name stands among the entries that was done
abbrev pub RemovesNone : List ℕ → List Entry → Type 0
RemovesNone name [] = Unit {0}
RemovesNone name (entry.Answer a ∷ es) =
    (a.call ≡ call.Command (command.Remove name) → is_refusal a.reply ≡ true) × RemovesNone name es
RemovesNone name (entry.Mark m ∷ es) = RemovesNone name es
