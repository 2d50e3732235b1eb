-- A backup that is there stays, while its cfg and all blocks stay.
use Rattle.std.proofs.Common.{◌≡◌, ℕ, suc, ◌<◌, List, [], ◌∷◌, ◌++◌, length, Option, None, Some, refl, sym, ap, ap₂, ◌∙◌, arith}
use Rattle.std.specs.Prelude.{unwrap_or}
use Rattle.target_traits.specs.Objects.{Objects}
use Rattle.backup_units.specs.Backups.{page_of, disk_of, listed_at, IsWhole, AreWhole}
use Rattle.backup_units.specs.Blocks.{KeepsBlocks}
use Rattle.backup_units.specs.Names.{block_name, cfg_name}
use Rattle.backup_config.specs.Lists.{Listing}
use Rattle.backup_make.specs.Made.{IsDisk, IsMadeDisk, HasBackup, HasCopyOf, HasCfgs, cfg_of}

whole_stays : (old new : Objects) (volume : List ℕ) (entry : Option (List ℕ)) → KeepsBlocks volume old new
    → IsWhole old volume entry → IsWhole new volume entry
whole_stays old new volume None keeps whole = tt
whole_stays old new volume (Some c) keeps whole = (whole.0, keeps c whole.0 whole.1)

page_stays : (old new : Objects) (volume : List ℕ) (entry : Option (List ℕ)) → KeepsBlocks volume old new
    → IsWhole old volume entry → page_of new volume entry ≡ page_of old volume entry
page_stays old new volume None keeps whole = refl
page_stays old new volume (Some c) keeps whole =
    ap (λ (held : Option (List ℕ)). unwrap_or held []) ((keeps c whole.0 whole.1).there ∙ sym whole.1.there)

disk_stays : (old new : Objects) (volume : List ℕ) (listed : List (Option (List ℕ))) → KeepsBlocks volume old new
    → AreWhole old volume listed → disk_of new volume listed ≡ disk_of old volume listed
disk_stays old new volume [] keeps whole = refl
disk_stays old new volume (entry ∷ more) keeps whole =
    ap₂ (λ (a b : List ℕ). a ++ b) (page_stays old new volume entry keeps (whole 0 (omega arith)))
    (disk_stays old new volume more keeps (λ page low. whole (suc page) (omega (arith, low))))

-- the blocks of a list are whole still, and its disk is that still
list_stays : (old new : Objects) (volume disk : List ℕ) (listed : List (Option (List ℕ))) → KeepsBlocks volume old new
    → IsDisk old volume disk listed → IsDisk new volume disk listed
list_stays old new volume disk listed keeps is = record {
  whole = λ page low. whole_stays old new volume (listed_at listed page) keeps (is.whole page low);
  bytes = disk_stays old new volume listed keeps is.whole ∙ is.bytes;
}

pub backup_lasts : (old new : Objects) (volume backup disk : List ℕ) → KeepsBlocks volume old new
    → new (cfg_name volume backup) ≡ old (cfg_name volume backup)
    → HasBackup old volume backup disk → HasBackup new volume backup disk
backup_lasts old new volume backup disk keeps same has = record {
  cfg = has.cfg;
  there = same ∙ has.there;
  says = has.says;
  list = list_stays old new volume disk has.cfg.list.blocks keeps has.list;
}

-- so is one that was made
pub backup_of : (objects : Objects) (volume backup now : List ℕ) (copy : Option (List ℕ)) (list : Listing) (size : ℕ)
    → IsMadeDisk objects volume copy list → HasCfgs objects (cfg_of volume backup now list) size
    → HasCopyOf objects volume backup copy
backup_of objects volume backup now copy list size made cfgs disk there = record {
  cfg = cfg_of volume backup now list;
  there = cfgs.backup;
  says = cfgs.says;
  list = made disk there;
}
