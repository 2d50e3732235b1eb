-- What as much of an object as is read says as a cfg, and what follows for the answer.
use Rattle.std.proofs.Common.{◌≡◌, ◌⊎◌, ℕ, Bool, true, false, List, length, take, Option, None, Some, Result, Ok, Err}
use Rattle.std.proofs.Common.{◌≢◌, Vec, Global, inl, inr, refl, sym, ap, subst, ◌∙◌, arith, length-take}
use Rattle.std.proofs.lemmas.Bool.{leb-true, leb-false}
use Rattle.std.proofs.lemmas.List.{take_all}
use Rattle.std.specs.Option.{option_map}
use Rattle.std.specs.Prelude.{nat_le}
use Rattle.serde_json.specs.Data.{Data}
use Rattle.target_traits.specs.Objects.{Objects}
use Rattle.backup_units.specs.Names.{volume_name, cfg_name}
use Rattle.backup_config.specs.Answers.{AreMembers, Says}
use Rattle.backup_config.specs.BackupCfgs.{HasMembers, answer_of, SaysBackup, IsOnlyBackup}
use Rattle.backup_config.specs.declared.backup_cfg.BackupCfg.{BackupCfg}
use Rattle.backup_config.specs.declared.error.CfgError.{CfgError}
use Rattle.backup_config.specs.declared.error.CfgError.TheVariants.{Syntax, Missing, Compressed, Backing, NoMemory}
use Rattle.backup_config.specs.declared.error.CfgMember.TheVariants.{DiskSize}
use Rattle.backup_restore.specs.ReadCfg.{IsAlike, IsGot, IsTold, LacksSize, AnswersCfg, AnswersSize}
use Rattle.backup_restore.specs.ReadCfg.{IsRefused, RefusesCfg, kind_of, error_of_cfg}
use Rattle.backup_restore.specs.declared.error.Refusal.{Refusal}
use Rattle.backup_restore.specs.declared.error.Refusal.TheVariants as refusal
use Rattle.backup_restore.specs.declared.error.StoredObject.TheVariants as stored

-- ---- as much as is read

alike_back : (a b : List ℕ) → IsAlike a b → IsAlike b a
alike_back a b (inl same) = inl (sym same)
alike_back a b (inr (long, too)) = inr (too, long)

module _ {M T : Type 0} (Has : Data → M → Type 0) (answer : M → Result T CfgError) where
  members_alike : (a b : List ℕ) → IsAlike a b → (m : M) → AreMembers Has answer a m → AreMembers Has answer b m
  members_alike a b (inl same) m is = subst (λ bytes. AreMembers Has answer bytes m) same is
  members_alike a b (inr (long, too)) m (d, object, has) = absurd (omega (arith, long, object.most))

  pub says_alike : (a b : List ℕ) → IsAlike a b → (r : Result T CfgError) → Says Has answer a r → Says Has answer b r
  says_alike a b alike (Ok t) (m, is, gives) = (m, members_alike a b alike m is, gives)
  says_alike a b alike (Err Syntax) none = λ m is. none m (members_alike b a (alike_back a b alike) m is)
  says_alike a b alike (Err (Missing n)) (m, is, gives) = (m, members_alike a b alike m is, gives)
  says_alike a b alike (Err Compressed) (m, is, gives) = (m, members_alike a b alike m is, gives)
  says_alike a b alike (Err Backing) (m, is, gives) = (m, members_alike a b alike m is, gives)
  says_alike a b alike (Err NoMemory) free = tt

alike_cut : (bytes : List ℕ) → IsAlike (take 1048577 bytes) bytes
alike_cut bytes = by_test (nat_le (length bytes) 1048576) refl
  where
    by_test : (t : Bool) → nat_le (length bytes) 1048576 ≡ t → IsAlike (take 1048577 bytes) bytes
    by_test true short = inl (take_all 1048577 bytes (omega (arith, leb-true (length bytes) 1048576 short)))
    by_test false long =
        let most = leb-false (length bytes) 1048576 long in
        inr (omega (arith, most, length-take 1048577 bytes), omega (arith, most))

pub no_value : {A : Type 0} {x : A} → None ≡ Some x → ⊥
no_value e = cc

pub one_value : {A : Type 0} {x y : A} → Some x ≡ Some y → x ≡ y
one_value e = cc

got_some : (held : Option (List ℕ)) (got : List ℕ) → Some got ≡ option_map (take 1048577) held → IsGot held got
got_some None got is = absurd (no_value (sym is))
got_some (Some bytes) got is = (bytes, refl, subst (λ g. IsAlike g bytes) (sym (one_value is)) (alike_cut bytes))

got_none : (held : Option (List ℕ)) → None ≡ option_map (take 1048577) held → held ≡ None
got_none None is = refl
got_none (Some bytes) is = absurd (no_value is)

pub got_held : (held : Option (List ℕ)) (got : Option (Vec ℕ Global)) (bytes : Vec ℕ Global) → got ≡ Some bytes
    → option_map (λ v. v.items) got ≡ option_map (take 1048577) held → IsGot held bytes.items
got_held held got bytes is told = got_some held bytes.items (sym (ap (option_map (λ v. v.items)) is) ∙ told)

pub not_there : (held : Option (List ℕ)) (got : Option (Vec ℕ Global)) → got ≡ None
    → option_map (λ v. v.items) got ≡ option_map (take 1048577) held → held ≡ None
not_there held got is told = got_none held (sym (ap (option_map (λ v. v.items)) is) ∙ told)

-- ---- what is refused

refused : {T : Type 0} (says : List ℕ → Result T CfgError → Type 0) (held : Option (List ℕ)) (bytes : List ℕ) (kind : Refusal)
    (e : CfgError) → held ≡ Some bytes → says bytes (Err e) → kind_of e ≡ Some kind → IsRefused says held kind
refused says held bytes kind e there is of = subst (λ h. IsRefused says h kind) (sym there) (e, is, of)

-- ---- the backup's cfg

module _ (objects : Objects) (volume backup : List ℕ) where
  -- the cfg that was read lacks a size, so the object does
  pub lacks_size : (got : List ℕ) → IsGot (objects (cfg_name volume backup)) got
      → SaysBackup volume backup None got (Err (Missing DiskSize)) → LacksSize objects volume backup
  lacks_size got (bytes, there, alike) says = (
    bytes,
    there,
    says_alike (HasMembers volume backup None) (answer_of volume backup) got bytes alike (Err (Missing DiskSize)) says,
  )

  -- an answer that is another one
  pub told_none : (got : List ℕ) (r : Result BackupCfg CfgError) → IsGot (objects (cfg_name volume backup)) got
      → IsOnlyBackup volume backup None got r → r ≢ Err (Missing DiskSize) → r ≢ Err NoMemory → IsTold objects volume backup None
  told_none got r (bytes, there, alike) only another memory (whole, held, says) =
      by (only (Err (Missing DiskSize)) other
      (says_alike (HasMembers volume backup None) (answer_of volume backup) bytes got (alike_back got bytes alike)
      (Err (Missing DiskSize))
      (subst (λ b. SaysBackup volume backup None b (Err (Missing DiskSize))) (one_value (sym held ∙ there)) says)))
    where
      missing_one : Result BackupCfg CfgError
      missing_one = Err (Missing DiskSize)

      other : missing_one ≢ Err NoMemory
      other e = cc

      by : (r ≡ Err (Missing DiskSize)) ⊎ (r ≡ Err NoMemory) → ⊥
      by (inl e) = another e
      by (inr e) = memory e

  pub told_size : (got : List ℕ) (size : ℕ) → IsGot (objects (cfg_name volume backup)) got
      → SaysBackup volume backup None got (Err (Missing DiskSize)) → AnswersSize (objects (volume_name volume)) volume (Ok size)
      → IsTold objects volume backup (Some size)
  told_size got size is says (cfg, said, sized) = (lacks_size got is says, cfg, said, sized)

  pub cfg_answered : (got : List ℕ) (told : Option ℕ) (cfg : BackupCfg) → IsGot (objects (cfg_name volume backup)) got
      → IsTold objects volume backup told → SaysBackup volume backup told got (Ok cfg) → AnswersCfg objects volume backup (Ok cfg)
  cfg_answered got told cfg (bytes, there, alike) is_told says = (
    told,
    is_told,
    (bytes, there, says_alike (HasMembers volume backup told) (answer_of volume backup) got bytes alike (Ok cfg) says),
  )

  pub cfg_refused : (got : List ℕ) (told : Option ℕ) (e : CfgError) → IsGot (objects (cfg_name volume backup)) got
      → (e ≢ NoMemory → IsTold objects volume backup told) → SaysBackup volume backup told got (Err e)
      → AnswersCfg objects volume backup (Err (error_of_cfg (stored.BackupCfg backup) e))
  cfg_refused got told e (bytes, there, alike) is_told says =
      by e is_told (says_alike (HasMembers volume backup told) (answer_of volume backup) got bytes alike (Err e) says)
    where
      so : (kind : Refusal) (e : CfgError) → kind_of e ≡ Some kind → IsTold objects volume backup told
          → SaysBackup volume backup told bytes (Err e) → RefusesCfg objects volume backup kind (stored.BackupCfg backup)
      so kind e of told_so is =
          (refl, told, told_so, refused (SaysBackup volume backup told) (objects (cfg_name volume backup)) bytes kind e there is of)

      by : (e : CfgError) → (e ≢ NoMemory → IsTold objects volume backup told) → SaysBackup volume backup told bytes (Err e)
          → AnswersCfg objects volume backup (Err (error_of_cfg (stored.BackupCfg backup) e))
      by Syntax t is = so refusal.Syntax Syntax refl (t (λ e. cc)) is
      by (Missing n) t is = so refusal.Syntax (Missing n) refl (t (λ e. cc)) is
      by Compressed t is = so refusal.Compressed Compressed refl (t (λ e. cc)) is
      by Backing t is = so refusal.Backing Backing refl (t (λ e. cc)) is
      by NoMemory t is = tt
