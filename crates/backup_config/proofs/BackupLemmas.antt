-- What is written of a backup is read as the same.
use Rattle.std.proofs.Common.{◌≡◌, ℕ, ◌*◌, ◌/◌, ◌≤◌, true, false, List, length, Option, Some}
use Rattle.std.proofs.Common.{Result, Ok, Err, IfOk, Vec, Global, inl, refl, ap, subst, ◌∙◌, arith}
use Rattle.std.proofs.lemmas.Slice.Eq.{bytes_eq-Decides}
use Rattle.std.specs.Str.{IsUtf8}
use Rattle.serde_json.specs.Data.{Data, string, depth}
use Rattle.serde_json.specs.Read.{read, max_depth}
use Rattle.serde_json.specs.Written.{compact_text, has_float}
use Rattle.serde_json.proofs.OnLiterals.{serde_json_on_literals}
use Rattle.backup_config.specs.Answers.{largest_cfg}
use Rattle.backup_config.specs.BackupCfgs.{backup_data, Members, HasMembers, answer_of, SaysBackup, IsGoodBackup}
use Rattle.backup_config.specs.Kinds.{asked_in}
use Rattle.backup_config.specs.Lists.{listed_from, size_of, pages_of}
use Rattle.backup_config.specs.declared.backup_cfg.BackupCfg.{BackupCfg}
use Rattle.backup_config.specs.declared.error.CfgError.{CfgError}
use Rattle.backup_config.proofs.WrittenLemmas.{pages_back, once_listed, within_listed, blocks_back, shallow, no_float}

-- the members with which it is written
abbrev written_members : BackupCfg → Members
written_members cfg = record {
  named = true;
  of_volume = true;
  snapshot = Some cfg.list.snapshot;
  created = cfg.created;
  blocks = listed_from 0 cfg.list.blocks;
  size = Some (size_of cfg.list);
  compressed = false;
}

named_self : (name : List ℕ) → asked_in name (Some (string name)) ≡ Some true
named_self name = rw ((bytes_eq-Decides name name).1 refl) refl

whole_back : (n : ℕ) → n * 2097152 / 2097152 ≡ n
whole_back n = omega arith

has_members : (cfg : BackupCfg) (told : Option ℕ) → IsGoodBackup cfg
    → HasMembers cfg.volume cfg.name told (backup_data cfg) (written_members cfg)
unfolding serde_json_on_literals
has_members cfg told good = record {
  named = named_self cfg.name;
  of_volume = named_self cfg.volume;
  snapshot = refl;
  created = inl (good.created, refl);
  blocks = blocks_back cfg.list.blocks 0 good.entries;
  once = once_listed cfg.list.blocks 0;
  size = (refl, good.size);
  within = within_listed cfg.list.blocks 0 _ (omega (arith, whole_back (length cfg.list.blocks)));
  compressed = refl;
}

answers : (cfg : BackupCfg) → answer_of cfg.volume cfg.name (written_members cfg) ≡ Ok cfg
answers cfg =
    ap of_blocks (ap (λ n. pages_of n (listed_from 0 cfg.list.blocks)) (whole_back (length cfg.list.blocks)) ∙ pages_back cfg.list.blocks)
  where
    of_blocks : List (Option (List ℕ)) → Result BackupCfg CfgError
    of_blocks blocks = Ok (record {
      volume = cfg.volume;
      name = cfg.name;
      created = cfg.created;
      list = record { snapshot = cfg.list.snapshot; blocks = blocks };
    })

flat : (cfg : BackupCfg) → has_float (backup_data cfg) ≡ false
flat cfg = rw (no_float (listed_from 0 cfg.list.blocks)) refl

pub text_of : {E : Type 0} (cfg : BackupCfg) (d : Data) (r : Result (Vec ℕ Global) E) → d ≡ backup_data cfg
    → IfOk r (λ b. has_float d ≡ false → b.items ≡ compact_text d) → IfOk r (λ b. b.items ≡ compact_text (backup_data cfg))
text_of cfg d (Ok b) is text = text (ap has_float is ∙ flat cfg) ∙ ap compact_text is
text_of cfg d (Err e) is text = tt

says : (cfg : BackupCfg) (told : Option ℕ) (bytes : List ℕ) → IsGoodBackup cfg → IsUtf8 bytes → length bytes ≤ largest_cfg
    → read bytes ≡ Some (backup_data cfg) → SaysBackup cfg.volume cfg.name told bytes (Ok cfg)
says cfg told bytes good text short reads = (
  written_members cfg,
  (backup_data cfg, record { most = short; text = text; value = reads; object = refl }, has_members cfg told good),
  answers cfg,
)

pub says_backup : {E : Type 0} (cfg : BackupCfg) (d : Data) (r : Result (Vec ℕ Global) E) → d ≡ backup_data cfg
    → IsGoodBackup cfg → IfOk r (λ b. IsUtf8 b.items) → IfOk r (λ b. depth d ≤ max_depth → read b.items ≡ Some d)
    → IfOk r (λ b. (told : Option ℕ) → length b.items ≤ largest_cfg → SaysBackup cfg.volume cfg.name told b.items (Ok cfg))
says_backup cfg d (Ok b) is good text reads = λ told short.
    says cfg told b.items good text short
    (subst (λ x. depth x ≤ max_depth → read b.items ≡ Some x) is reads (omega (arith, shallow (listed_from 0 cfg.list.blocks))))
says_backup cfg d (Err e) is good text reads = tt
