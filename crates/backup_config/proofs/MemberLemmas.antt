-- Members are one.
use Rattle.std.proofs.Common.{◌≡◌, ℕ, true, false, List, Option, Some, None, Result}
use Rattle.std.proofs.Common.{inl, inr, refl, sym, ap, ◌∙◌}
use Rattle.std.specs.Prelude.{codes}
use Rattle.serde_json.specs.Data.{Data}
use Rattle.serde_json.specs.Find.{get}
use Rattle.backup_config.specs.BackupCfgs.{HasMembers, Members, answer_of, SaysBackup, IsOnlyBackup}
use Rattle.backup_config.specs.Kinds.{are_within, blocks_in, HasDiskSize, IsTime, IsLast}
use Rattle.backup_config.specs.VolumeCfgs.{HasVolumeMembers, volume_answer_of, SaysVolume, IsOnlyVolume}
use Rattle.backup_config.specs.declared.backup_cfg.BackupCfg.{BackupCfg}
use Rattle.backup_config.specs.declared.volume_cfg.VolumeCfg.{VolumeCfg}
use Rattle.backup_config.specs.declared.volume_cfg.VolumeMembers.{VolumeMembers}
use Rattle.backup_config.specs.declared.error.CfgError.{CfgError}
use Rattle.backup_config.specs.declared.list.ListedBlock.{ListedBlock}
use Rattle.backup_config.proofs.Found.{same_value}
use Rattle.backup_config.proofs.OneAnswer.{only_answer}
use Rattle.backup_config.proofs.SizeLemmas.{one_disk_size, one_volume_size}

one_time : (text : Option (List ℕ)) (a b : List ℕ) → IsTime text a → IsTime text b → a ≡ b
one_time None a b is too = is ∙ sym too
one_time (Some text) a b (inl is) (inl too) = is.1 ∙ sym too.1
one_time (Some text) a b (inl is) (inr too) = absurd (too.0 is.0)
one_time (Some text) a b (inr is) (inl too) = absurd (is.0 too.0)
one_time (Some text) a b (inr is) (inr too) = is.1 ∙ sym too.1

-- ---- of a backup

one_backup : (volume backup : List ℕ) (told : Option ℕ) (d : Data) (a b : Members) → HasMembers volume backup told d a
    → HasMembers volume backup told d b → a ≡ b
one_backup volume backup told d a b is too =
    let named : a.named ≡ b.named = same_value _ is.named too.named in
    let of_volume : a.of_volume ≡ b.of_volume = same_value _ is.of_volume too.of_volume in
    let snapshot : a.snapshot ≡ b.snapshot = same_value _ is.snapshot too.snapshot in
    let created : a.created ≡ b.created = one_time _ a.created b.created is.created too.created in
    let blocks : a.blocks ≡ b.blocks = same_value _ is.blocks too.blocks in
    let size : a.size ≡ b.size = one_disk_size told _ a.size b.size is.size too.size in
    let compressed : a.compressed ≡ b.compressed = sym is.compressed ∙ too.compressed in
    λ i. record {
      named = named i;
      of_volume = of_volume i;
      snapshot = snapshot i;
      created = created i;
      blocks = blocks i;
      size = size i;
      compressed = compressed i;
    }

pub only_backup : (volume backup : List ℕ) (told : Option ℕ) (bytes : List ℕ) (result : Result BackupCfg CfgError)
    → SaysBackup volume backup told bytes result → IsOnlyBackup volume backup told bytes result
only_backup volume backup told = only_answer (HasMembers volume backup told) (answer_of volume backup) (one_backup volume backup told)

-- where a block does not lie within the disk there are no members
pub not_within : (volume backup : List ℕ) (told : Option ℕ) (d : Data) (blocks : List ListedBlock) (size : Option ℕ)
    → blocks_in (get (codes "Blocks") d) ≡ Some blocks → HasDiskSize told (get (codes "DiskSize") d) size
    → false ≡ are_within size blocks → (m : Members) → HasMembers volume backup told d m → ⊥
not_within volume backup told d blocks size listed is out m has =
    let inside : are_within size blocks ≡ true =
    ap (λ s. are_within s blocks) (one_disk_size told _ size m.size is has.size)
    ∙ ap (are_within m.size) (same_value _ listed has.blocks) ∙ has.within in
    differ (out ∙ inside)
  where
    differ : false ≡ true → ⊥
    differ e = cc

-- ---- of a volume

one_last : (text a b : Option (List ℕ)) → IsLast text a → IsLast text b → a ≡ b
one_last None a b is too = is ∙ sym too
one_last (Some text) None None is too = refl
one_last (Some text) None (Some b) is too = absurd (is too.1)
one_last (Some text) (Some a) None is too = absurd (too is.1)
one_last (Some text) (Some a) (Some b) is too = ap Some (is.0 ∙ sym too.0)

one_volume : (d : Data) (a b : VolumeMembers) → HasVolumeMembers d a → HasVolumeMembers d b → a ≡ b
one_volume d a b is too =
    let created : a.created ≡ b.created = one_time _ a.created b.created is.created too.created in
    let last : a.last ≡ b.last = one_last _ a.last b.last is.last too.last in
    let size : a.size ≡ b.size = one_volume_size _ a.size b.size is.size too.size in
    let backed : a.backed ≡ b.backed = sym is.backed ∙ too.backed in
    λ i. record { created = created i; last = last i; size = size i; backed = backed i }

pub only_volume : (volume bytes : List ℕ) (result : Result VolumeCfg CfgError) → SaysVolume volume bytes result
    → IsOnlyVolume volume bytes result
only_volume volume = only_answer HasVolumeMembers (volume_answer_of volume) one_volume
