-- Laws: what a target holds has one answer, to the call for a backup and to that for the list of a volume's backups.
use Rattle.std.proofs.Common.{◌≡◌, ◌≢◌, ◌⊎◌, ℕ, List, [], ◌∷◌, ◌++◌, Option, None, Some, Result, Ok, Err}
use Rattle.std.proofs.Common.{inl, inr, refl, sym, ap, subst, ◌∙◌}
use Rattle.std.proofs.lemmas.Cmp.{nat_list_cmp_total}
use Rattle.target_traits.specs.Objects.{Objects}
use Rattle.backup_units.specs.Backups.{IsWhole, disk_of, listed_at}
use Rattle.backup_units.specs.Names.{volume_name, cfg_name, block_name}
use Rattle.backup_config.specs.BackupCfgs.{SaysBackup}
use Rattle.backup_config.specs.VolumeCfgs.{SaysVolume}
use Rattle.backup_config.specs.declared.backup_cfg.BackupCfg.{BackupCfg}
use Rattle.backup_config.specs.declared.volume_cfg.VolumeCfg.{VolumeCfg}
use Rattle.backup_config.specs.declared.error.CfgError.{CfgError}
use Rattle.backup_config.specs.declared.error.CfgError.TheVariants.{NoMemory}
use Rattle.backup_config.proofs.MemberLemmas.{only_backup, only_volume}
use Rattle.backup_restore.specs.Listed.{AreBackups, AreLines, IsListOf, IsListed, RefusesList, IsFirstRefused, HasCfg, name_at, backup_line}
use Rattle.backup_restore.specs.ReadCfg.{kind_of, IsRefused, IsSaid, LacksSize, IsTold, IsCfgOf, RefusesCfg}
use Rattle.backup_restore.specs.Restored.{IsDiskOf, IsRestorable, RefusesBackup}
use Rattle.backup_restore.specs.Restoring.{IsBad, IsBadPage, IsFirstBad}
use Rattle.backup_restore.specs.declared.error.Refusal.{Refusal}
use Rattle.backup_restore.specs.declared.error.Refusal.TheVariants as refusal
use Rattle.backup_restore.specs.declared.error.StoredObject.{StoredObject}
use Rattle.backup_restore.specs.declared.error.StoredObject.TheVariants.{BackupCfg as CfgOf, VolumeCfg as CfgOfVolume, Block}
use Rattle.backup_restore.proofs.CfgLemmas.{no_value, one_value}
use Rattle.backup_restore.proofs.LineLemmas.{has_cfgs}
use Rattle.backup_restore.proofs.OrderLemmas.{one_order, one_place}
use Rattle.backup_restore.proofs.RestoreLemmas.{whole_page}

-- ---- what an object says

abbrev read_as : {T : Type 0} → T → Result T CfgError
read_as value = Ok value

abbrev refused_by : {T : Type 0} → CfgError → Result T CfgError
refused_by e = Err e

no_memory : {T : Type 0} (e : CfgError) (kind : Refusal) → kind_of e ≡ Some kind → (r : Result T CfgError) → r ≡ Err e → r ≢ Err NoMemory
no_memory e kind of r is none =
    let same : e ≡ NoMemory = cc in no_value (sym (ap kind_of same) ∙ of)

module _ {T : Type 0} (says : List ℕ → Result T CfgError → Type 0)
    (one_says : (bytes : List ℕ) (a b : Result T CfgError) → a ≢ Err NoMemory → b ≢ Err NoMemory → says bytes a → says bytes b → a ≡ b)
  where
    one_said : (held : Option (List ℕ)) (a b : T) → IsSaid says held a → IsSaid says held b → a ≡ b
    one_said held a b (bytes, there, is) (others, here, too) =
        by (one_says bytes (Ok a) (Ok b) (λ e. cc) (λ e. cc) is (subst (λ x. says x (Ok b)) (one_value (sym here ∙ there)) too))
      where
        by : {x y : T} → read_as x ≡ read_as y → x ≡ y
        by e = cc

    one_refused : (held : Option (List ℕ)) (k l : Refusal) → IsRefused says held k → IsRefused says held l → k ≡ l
    one_refused None k l is too = is ∙ sym too
    one_refused (Some bytes) k l (e, is, of) (f, too, off) =
        one_value (sym of ∙ ap kind_of (by (one_says bytes (Err e) (Err f) (no_memory e k of (Err e) refl) (no_memory f l off (Err f) refl)
        is too)) ∙ off)
      where
        by : {x y : CfgError} → refused_by {T = T} x ≡ refused_by y → x ≡ y
        by e = cc

    not_refused : (held : Option (List ℕ)) (a : T) (kind : Refusal) → IsSaid says held a → IsRefused says held kind → ⊥
    not_refused None a kind (bytes, there, is) refused = no_value there
    not_refused (Some held) a kind (bytes, there, is) (e, too, of) =
        by (one_says held (Ok a) (Err e) (λ q. cc) (no_memory e kind of (Err e) refl)
        (subst (λ x. says x (Ok a)) (sym (one_value there)) is) too)
      where
        by : {x : T} {y : CfgError} → Ok x ≡ Err y → ⊥
        by e = cc

one_of_two : {T : Type 0} (a b : Result T CfgError) → a ≢ Err NoMemory → (a ≡ b) ⊎ (a ≡ Err NoMemory) → a ≡ b
one_of_two a b told (inl same) = same
one_of_two a b told (inr none) = absurd (told none)

one_backup : (volume backup : List ℕ) (told : Option ℕ) (bytes : List ℕ) (a b : Result BackupCfg CfgError) → a ≢ Err NoMemory
    → b ≢ Err NoMemory → SaysBackup volume backup told bytes a → SaysBackup volume backup told bytes b → a ≡ b
one_backup volume backup told bytes a b some other is too = one_of_two a b some (only_backup volume backup told bytes a is b other too)

one_volume : (volume bytes : List ℕ) (a b : Result VolumeCfg CfgError) → a ≢ Err NoMemory → b ≢ Err NoMemory
    → SaysVolume volume bytes a → SaysVolume volume bytes b → a ≡ b
one_volume volume bytes a b some other is too = one_of_two a b some (only_volume volume bytes a is b other too)

-- ---- the cfg of a backup

module _ (objects : Objects) (volume backup : List ℕ) where
  one_told : (a b : Option ℕ) → IsTold objects volume backup a → IsTold objects volume backup b → a ≡ b
  one_told None None is too = refl
  one_told None (Some n) none (lacks, cfg, said, sized) = absurd (none lacks)
  one_told (Some n) None (lacks, cfg, said, sized) none = absurd (none lacks)
  one_told (Some n) (Some m) (lacks, cfg, said, sized) (also, other, too, size) =
      ap Some (sym sized ∙ ap (λ (c : VolumeCfg). c.size)
      (one_said (SaysVolume volume) (one_volume volume) (objects (volume_name volume)) cfg other said too) ∙ size)

  -- the cfg of a backup is one
  pub one_cfg : (a b : BackupCfg) → IsCfgOf objects volume backup a → IsCfgOf objects volume backup b → a ≡ b
  one_cfg a b (told, is, said) (other, too, also) =
      one_said (SaysBackup volume backup told) (one_backup volume backup told) (objects (cfg_name volume backup)) a b said
      (subst (λ t. IsSaid (SaysBackup volume backup t) (objects (cfg_name volume backup)) b) (one_told other told too is) also)

  -- where the size is asked of the volume's cfg, that is not refused
  told_volume : (told : Option ℕ) (kind : Refusal) → IsTold objects volume backup told → LacksSize objects volume backup
      → IsRefused (SaysVolume volume) (objects (volume_name volume)) kind → ⊥
  told_volume None kind none lacks refused = none lacks
  told_volume (Some n) kind (also, cfg, said, sized) lacks refused =
      not_refused (SaysVolume volume) (one_volume volume) (objects (volume_name volume)) cfg kind said refused

  -- a cfg that is read is not refused
  pub not_both_cfgs : (cfg : BackupCfg) (kind : Refusal) (object : StoredObject) → IsCfgOf objects volume backup cfg
      → RefusesCfg objects volume backup kind object → ⊥
  not_both_cfgs cfg kind (CfgOf named) (told, is, said) (same, other, too, refused) =
      not_refused (SaysBackup volume backup told) (one_backup volume backup told) (objects (cfg_name volume backup)) cfg kind said
      (subst (λ t. IsRefused (SaysBackup volume backup t) (objects (cfg_name volume backup)) kind) (one_told other told too is) refused)
  not_both_cfgs cfg kind CfgOfVolume (told, is, said) (lacks, refused) = told_volume told kind is lacks refused
  not_both_cfgs cfg kind (Block checksum) is refused = refused

  -- and it is refused in one way
  pub one_cfg_refusal : (k l : Refusal) (x y : StoredObject) → RefusesCfg objects volume backup k x
      → RefusesCfg objects volume backup l y → (k ≡ l) × (x ≡ y)
  one_cfg_refusal k l (CfgOf a) (CfgOf b) (same, told, is, refused) (alike, other, too, also) = (
    one_refused (SaysBackup volume backup told) (one_backup volume backup told) (objects (cfg_name volume backup)) k l refused
        (subst (λ t. IsRefused (SaysBackup volume backup t) (objects (cfg_name volume backup)) l) (one_told other told too is) also),
    ap CfgOf (same ∙ sym alike),
  )
  one_cfg_refusal k l (CfgOf a) CfgOfVolume (same, told, is, refused) (lacks, also) = absurd (told_volume told l is lacks also)
  one_cfg_refusal k l CfgOfVolume (CfgOf b) (lacks, refused) (alike, told, too, also) = absurd (told_volume told k too lacks refused)
  one_cfg_refusal k l CfgOfVolume CfgOfVolume (lacks, refused) (also, too) =
      (one_refused (SaysVolume volume) (one_volume volume) (objects (volume_name volume)) k l refused too, refl)
  one_cfg_refusal k l (Block checksum) y refused too = absurd refused
  one_cfg_refusal k l (CfgOf a) (Block checksum) is refused = absurd refused
  one_cfg_refusal k l CfgOfVolume (Block checksum) is refused = absurd refused

-- ---- its blocks

-- of which kind a block is refused that is held so
abbrev bad_kind : Option (List ℕ) → Refusal
bad_kind None = refusal.Missing
bad_kind (Some bytes) = refusal.Damaged

one_bad : (held : Option (List ℕ)) (checksum : List ℕ) (kind : Refusal) → IsBad held checksum kind → kind ≡ bad_kind held
one_bad held checksum refusal.Missing none = sym (ap bad_kind none)
one_bad held checksum refusal.Damaged (bytes, there, bad) = sym (ap bad_kind there)
one_bad held checksum refusal.Syntax bad = absurd bad
one_bad held checksum refusal.Compressed bad = absurd bad
one_bad held checksum refusal.Backing bad = absurd bad

one_bad_page : (objects : Objects) (volume : List ℕ) (page : Option (List ℕ)) (k l : Refusal) (x y : StoredObject)
    → IsBadPage objects volume page k x → IsBadPage objects volume page l y → (k ≡ l) × (x ≡ y)
one_bad_page objects volume None k l x y bad too = absurd bad
one_bad_page objects volume (Some checksum) k l (Block a) (Block b) (same, bad) (alike, too) =
    let held = objects (block_name volume checksum) in
    (one_bad held checksum k bad ∙ sym (one_bad held checksum l too), ap Block (same ∙ sym alike))
one_bad_page objects volume (Some checksum) k l (CfgOf a) y bad too = absurd bad
one_bad_page objects volume (Some checksum) k l CfgOfVolume y bad too = absurd bad
one_bad_page objects volume (Some checksum) k l (Block a) (CfgOf b) bad too = absurd too
one_bad_page objects volume (Some checksum) k l (Block a) CfgOfVolume bad too = absurd too

one_first_bad : (objects : Objects) (volume : List ℕ) (listed : List (Option (List ℕ))) (i j : ℕ) (k l : Refusal) (x y : StoredObject)
    → IsFirstBad objects volume listed i k x → IsFirstBad objects volume listed j l y → (k ≡ l) × (x ≡ y)
one_first_bad objects volume listed i j k l x y first second =
    let Good = λ (page : ℕ). IsWhole objects volume (listed_at listed page) in
    let same : i ≡ j = one_place Good i j
    (λ whole. whole_page objects volume (listed_at listed i) k x whole first.bad)
    (λ whole. whole_page objects volume (listed_at listed j) l y whole second.bad) first.before second.before in
    one_bad_page objects volume (listed_at listed j) k l x y
    (subst (λ page. IsBadPage objects volume (listed_at listed page) k x) same first.bad) second.bad

-- ---- a backup

module _ (objects : Objects) (volume backup : List ℕ) where
  -- the disk of a backup is one
  pub one_disk : (a b : List ℕ) → IsDiskOf objects volume backup a → IsDiskOf objects volume backup b → a ≡ b
  one_disk a b (cfg, is, disk) (other, too, also) =
      disk ∙ ap (λ (c : BackupCfg). disk_of objects volume c.list.blocks) (one_cfg objects volume backup cfg other is too) ∙ sym also

  -- a backup is refused in one way
  pub one_refusal : (k l : Refusal) (x y : StoredObject) → RefusesBackup objects volume backup k x
      → RefusesBackup objects volume backup l y → (k ≡ l) × (x ≡ y)
  one_refusal k l x y (inl refused) (inl too) = one_cfg_refusal objects volume backup k l x y refused too
  one_refusal k l x y (inl refused) (inr (cfg, is, page, bad)) = absurd (not_both_cfgs objects volume backup cfg k x is refused)
  one_refusal k l x y (inr (cfg, is, page, bad)) (inl refused) = absurd (not_both_cfgs objects volume backup cfg l y is refused)
  one_refusal k l x y (inr (cfg, is, page, bad)) (inr (other, too, place, also)) =
      one_first_bad objects volume other.list.blocks page place k l x y
      (subst (λ (c : BackupCfg). IsFirstBad objects volume c.list.blocks page k x) (one_cfg objects volume backup cfg other is too) bad)
      also

  -- one that can be restored is not refused
  pub not_both : (kind : Refusal) (object : StoredObject) → IsRestorable objects volume backup
      → RefusesBackup objects volume backup kind object → ⊥
  not_both kind object (cfg, is, whole) (inl refused) = not_both_cfgs objects volume backup cfg kind object is refused
  not_both kind object (cfg, is, whole) (inr (other, too, page, bad)) =
      let same = one_cfg objects volume backup other cfg too is in
      let first = subst (λ (c : BackupCfg). IsFirstBad objects volume c.list.blocks page kind object) same bad in
      whole_page objects volume (listed_at cfg.list.blocks page) kind object (whole page first.within) first.bad

-- ---- the list of a volume's backups

module _ (objects : Objects) (volume : List ℕ) where
  -- the names of the backups are one list
  pub one_names : (a b : List (List ℕ)) → AreBackups objects volume a → AreBackups objects volume b → a ≡ b
  one_names a b are too =
      one_order nat_list_cmp_total a b are.ascending too.ascending
      (λ name c. (too.exact name).1 ((are.exact name).0 c)) (λ name c. (are.exact name).1 ((too.exact name).0 c))

  one_lines : (names : List (List ℕ)) (a b : List ℕ) → AreLines objects volume names a → AreLines objects volume names b → a ≡ b
  unfolding AreLines
  one_lines [] a b is too = is ∙ sym too
  one_lines (name ∷ names) a b (cfg, is, rest, more, text) (other, too, left, also, same) =
      text ∙ ap (λ (c : BackupCfg). backup_line name c ++ (10 ∷ rest)) (one_cfg objects volume name cfg other is too)
      ∙ ap (λ r. backup_line name other ++ (10 ∷ r)) (one_lines names rest left more also) ∙ sym same

  -- and so is its text
  pub one_list : (a b : List ℕ) → IsListOf objects volume a → IsListOf objects volume b → a ≡ b
  one_list a b (names, are, lines) (others, too, also) =
      one_lines names a b lines (subst (λ n. AreLines objects volume n b) (one_names others names too are) also)

  refused_there : (name : List ℕ) (kind : Refusal) (object : StoredObject) → RefusesCfg objects volume name kind object
      → HasCfg objects volume name → ⊥
  refused_there name kind object refused (cfg, is) = not_both_cfgs objects volume name cfg kind object is refused

  -- a list is refused in one way
  pub one_list_refusal : (k l : Refusal) (x y : StoredObject) → RefusesList objects volume k x → RefusesList objects volume l y
      → (k ≡ l) × (x ≡ y)
  one_list_refusal k l x y (names, are, i, first) (others, too, j, also) =
      let second = subst (λ n. IsFirstRefused objects volume n j l y) (one_names others names too are) also in
      let same : i ≡ j = one_place (λ place. HasCfg objects volume (name_at names place)) i j
      (refused_there (name_at names i) k x first.refused) (refused_there (name_at names j) l y second.refused)
      first.before second.before in
      one_cfg_refusal objects volume (name_at names j) k l x y
      (subst (λ place. RefusesCfg objects volume (name_at names place) k x) same first.refused) second.refused

  -- one that can be written is not refused
  pub not_both_lists : (kind : Refusal) (object : StoredObject) → IsListed objects volume → RefusesList objects volume kind object → ⊥
  not_both_lists kind object (text, (names, are, lines)) (others, too, place, bad) =
      let first = subst (λ n. IsFirstRefused objects volume n place kind object) (one_names others names too are) bad in
      refused_there (name_at names place) kind object first.refused (has_cfgs objects volume names text lines place first.within)
