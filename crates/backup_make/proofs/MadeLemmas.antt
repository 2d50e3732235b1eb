-- What stays of other backups while one is made.
use Rattle.std.proofs.Common.{◌≡◌, ℕ, ◌+◌, ◌≤◌, Bool, true, List, length, codes, decimal, Option, Some}
use Rattle.std.proofs.Common.{inr, ⊎_elim, sym, ap, subst, ◌∙◌, arith, length-append}
use Rattle.std.specs.Prelude.{Result, Ok, Err, OnOk}
use Rattle.serde_json.specs.Written.{compact_text}
use Rattle.std.proofs.lemmas.Fmt.{length-decimal-le}
use Rattle.vol_units.specs.Name.{IsNameOfLayer, IsSnapName, IsOwnName}
use Rattle.target_traits.specs.Objects.{Objects}
use Rattle.backup_units.specs.Backups.{IsBackup, KeepsBackups}
use Rattle.backup_units.specs.Blocks.{KeepsBlocks}
use Rattle.backup_units.specs.Names.{block_name, cfg_name, volume_name}
use Rattle.backup_units.proofs.NameLemmas.{one_cfg, block_no_cfg, block_no_volume, cfg_no_volume}
use Rattle.backup_config.specs.BackupCfgs.{backup_data, SaysBackup}
use Rattle.backup_config.specs.VolumeCfgs.{volume_data, SaysVolume}
use Rattle.backup_config.specs.Lists.{Listing}
use Rattle.backup_config.specs.declared.backup_cfg.BackupCfg.{BackupCfg}
use Rattle.backup_config.specs.declared.volume_cfg.VolumeCfg.{VolumeCfg}
use Rattle.backup_make.specs.Made.{OnlyBackup, OnlyCfgs, IsMade, IsMadeDisk, HasBlocksIfSeen, HoldsCopy, HasCfgs, volume_cfg_of}
use Rattle.backup_make.specs.Making.{AddsBlocks}
use Rattle.backup_make.proofs.DiskLemmas.{is_disk}
use Rattle.backup_make.proofs.KeptLemmas.{adds_then, backup_stays}

-- where two cfgs change, blocks stay
pub cfgs_keep : (volume backup : List ℕ) (old new : Objects) → OnlyCfgs volume backup old new → KeepsBlocks volume old new
cfgs_keep volume backup old new only c bytes held = record {
  there = only (block_name volume c) (block_no_cfg volume c backup) (block_no_volume volume c) ∙ held.there;
  block = held.block;
}

-- where blocks come the cfg of each backup stays
pub cfg_stays : (volume backup : List ℕ) (old new : Objects) → AddsBlocks volume old new
    → new (cfg_name volume backup) ≡ old (cfg_name volume backup)
cfg_stays volume backup old new adds = adds.others (cfg_name volume backup) (λ c e. block_no_cfg volume c backup (sym e))

-- so no backup changes
pub adds_keep : (volume backup : List ℕ) (old new : Objects) → AddsBlocks volume old new → KeepsBackups volume backup old new
adds_keep volume backup old new adds = record {
  blocks = adds.blocks;
  cfgs = λ other apart. cfg_stays volume other old new adds;
}

pub keeps_then : (volume backup : List ℕ) (old mid new : Objects) → AddsBlocks volume old mid
    → OnlyCfgs volume backup mid new → KeepsBackups volume backup old new
keeps_then volume backup old mid new adds only = record {
  blocks = λ c bytes held. cfgs_keep volume backup mid new only c bytes (adds.blocks c bytes held);
  cfgs = λ other apart. only (cfg_name volume other) (λ e. apart (one_cfg volume other backup e)) (cfg_no_volume volume other)
      ∙ cfg_stays volume other old mid adds;
}

-- all else stays too
pub only_backup : (volume backup : List ℕ) (old mid new : Objects) → AddsBlocks volume old mid
    → OnlyCfgs volume backup mid new → OnlyBackup volume backup old new
only_backup volume backup old mid new adds only name no_block no_cfg no_volume =
    only name no_cfg no_volume ∙ adds.others name no_block

-- where no cfg is put
pub adds_only : (volume backup : List ℕ) (old new : Objects) → AddsBlocks volume old new → OnlyBackup volume backup old new
adds_only volume backup old new adds name no_block no_cfg no_volume = adds.others name no_block

-- once the blocks are held the cfgs may come
pub seen_then : (tells : Bool) (volume backup : List ℕ) (copy : Option (List ℕ)) (blocks : List (Option (List ℕ)))
    (old mid new : Objects) → tells ≡ true → ((disk : List ℕ) → copy ≡ Some disk → IsBackup tells mid volume disk blocks)
    → OnlyCfgs volume backup mid new → HasBlocksIfSeen volume backup copy old new
seen_then tells volume backup copy blocks old mid new t is only = inr held
  where
    held : HoldsCopy new volume copy
    held disk there page low some =
        let whole = is disk there in
        cfgs_keep volume backup mid new only _ _ ((whole.pages page (omega (arith, whole.size, low))).held t some)

-- where nothing changes
pub same_adds : (volume : List ℕ) (old new : Objects) → new ≡ old → AddsBlocks volume old new
same_adds volume old new same = record {
  blocks = λ c bytes held. record {
    there = ap (λ (o : Objects). o (block_name volume c)) same ∙ held.there;
    block = held.block;
  };
  others = λ name none. ap (λ (o : Objects). o name) same;
}

pub adds_since : (volume : List ℕ) (old mid new : Objects) → mid ≡ old → AddsBlocks volume mid new → AddsBlocks volume old new
adds_since volume old mid new same adds = adds_then volume old mid new (same_adds volume old mid same) adds

-- ---- the name of a layer is short

snap_short : (name : List ℕ) → IsSnapName name → length name ≤ 64
snap_short name is = is.spelled.most

own_short : (name : List ℕ) → IsOwnName name → length name ≤ 64
own_short name is =
    let digits : length (decimal is.0) ≤ 20 = length-decimal-le 20 is.0 (omega arith) (omega (arith, is.1)) is.1 in
    let long : length name ≡ 4 + length (decimal is.0) = ap length is.2 ∙ length-append (codes "sys-") (decimal is.0) in
    omega (arith, digits, long)

pub name_short : (name : List ℕ) → IsNameOfLayer name → length name ≤ 64
name_short name is = ⊎_elim (snap_short name) (own_short name) is

-- ---- what was made

-- two facts on an answer that is good
pub both_ok : {T E A B C : Type 0} (r : Result T E) → (A → B → C) → OnOk r A → OnOk r B → OnOk r C
both_ok (Ok x) f a b = f a b
both_ok (Err e) f a b = tt

-- the list of the blocks that were put, once the cfgs stand too
pub is_made : (tells : Bool) (objects after : Objects) (volume backup : List ℕ) (copy : Option (List ℕ)) (name : List ℕ)
    (list : Listing) (snapshot : List ℕ) (blocks : List (Option (List ℕ)))
    → list ≡ record { snapshot = snapshot; blocks = blocks } → snapshot ≡ name
    → ((disk : List ℕ) → copy ≡ Some disk → IsBackup tells objects volume disk blocks)
    → OnlyCfgs volume backup objects after → IsMade tells after volume copy name list
is_made tells objects after volume backup copy name list snapshot blocks is named each only = record {
  named = ap (λ (l : Listing). l.snapshot) is ∙ named;
  backup = λ disk there. subst (λ (l : Listing). IsBackup tells after volume disk l.blocks) (sym is)
      (backup_stays tells objects after volume disk blocks (λ t. cfgs_keep volume backup objects after only) (each disk there));
}

-- and its disk
pub is_made_disk : (tells : Bool) (objects : Objects) (volume : List ℕ) (copy : Option (List ℕ)) (name : List ℕ) (list : Listing)
    → tells ≡ true → IsMade tells objects volume copy name list → IsMadeDisk objects volume copy list
is_made_disk tells objects volume copy name list t made disk there =
    is_disk objects volume disk list.blocks (subst (λ b. IsBackup b objects volume disk list.blocks) t (made.backup disk there))

-- both cfgs, where their texts stand under their names
pub has_cfgs : (objects : Objects) (cfg : BackupCfg) (size : ℕ) (made : VolumeCfg)
    (first first_bytes volume_text last last_bytes text : List ℕ) → first ≡ volume_name cfg.volume → first_bytes ≡ volume_text
    → last ≡ cfg_name cfg.volume cfg.name → last_bytes ≡ text → made ≡ volume_cfg_of cfg size
    → volume_text ≡ compact_text (volume_data made) → SaysVolume made.name volume_text (Ok made)
    → text ≡ compact_text (backup_data cfg) → ((told : Option ℕ) → SaysBackup cfg.volume cfg.name told text (Ok cfg))
    → objects first ≡ Some first_bytes → objects last ≡ Some last_bytes → HasCfgs objects cfg size
has_cfgs objects cfg size made first first_bytes volume_text last last_bytes text at_first is_first at_last is_last is_made
    is_volume says_volume is_text says put_first put_last = record {
      backup = ap objects (sym at_last) ∙ put_last ∙ ap (λ (b : List ℕ). Some b) (is_last ∙ is_text);
      says = λ told. subst (λ b. SaysBackup cfg.volume cfg.name told b (Ok cfg)) is_text (says told);
      volume = ap objects (sym at_first) ∙ put_first
          ∙ ap (λ (b : List ℕ). Some b) (is_first ∙ is_volume ∙ ap (λ m. compact_text (volume_data m)) is_made);
      says_volume = subst (λ m. SaysVolume m.name (compact_text (volume_data m)) (Ok m)) is_made
          (subst (λ b. SaysVolume made.name b (Ok made)) is_volume says_volume);
    }
