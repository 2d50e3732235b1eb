-- A folder that says Dirty has no other answer.
use Rattle.std.proofs.Common.{◌≡◌, inl, inr, ℕ, true, false, refl, sym, ap, ◌∙◌}
use Rattle.std.proofs.lemmas.Bool.{false≢true}
use Rattle.chain_meta.specs.VolumeMetas.{SaysVolume}
use Rattle.chain_meta.specs.declared.volume_meta.VolumeMeta.{VolumeMeta}
use Rattle.folder_names.specs.Files.{Folder, volume_file}
use Rattle.folder_checks.specs.Told.{FileTells}
use Rattle.folder_checks.specs.Checks.{IsFlagged, BadVolume, BadHead, BadSnapshot}
use Rattle.folder_checks.specs.declared.parts.Flag.{Flag}
use Rattle.folder_checks.specs.declared.parts.Flag.TheVariants as flag
use Rattle.replica_shelf.specs.Folder.{IsVolumeOf}
use Rattle.replica_open.specs.Opening.{AnswersOpen}
use Rattle.replica_open.specs.declared.opening.Opened.{Opened}
use Rattle.replica_open.specs.declared.opening.Opened.TheVariants as found
use Rattle.folder_laws.proofs.FileLemmas.{volume_is_one}
use Rattle.folder_laws.proofs.OpensLemmas.{volume_there, volume_told}

module _ (folder : Folder) (size : ℕ) (volume : VolumeMeta) (is : IsVolumeOf folder volume) (dirty : volume.dirty ≡ true) where
  -- what is told of the volume says Dirty
  says_dirty : (v : VolumeMeta) → IsVolumeOf folder v → v.dirty ≡ true
  says_dirty v too = ap (λ (m : VolumeMeta). m.dirty) (volume_is_one folder v volume too is) ∙ dirty

  not_clean : (v : VolumeMeta) → FileTells folder volume_file SaysVolume v → v.dirty ≡ false → ⊥
  not_clean v told clean = false≢true (sym clean ∙ says_dirty v (volume_there folder v told))

  one_flag : (v : VolumeMeta) (f : Flag) → FileTells folder volume_file SaysVolume v → IsFlagged size v f → f ≡ flag.Dirty
  one_flag v flag.Dirty told flagged = refl
  one_flag v flag.Rebuilding told flagged = absurd (not_clean v told flagged.0)
  one_flag v flag.Error told flagged = absurd (not_clean v told flagged.0)
  one_flag v flag.Size told flagged = absurd (not_clean v told flagged.0)

  pub one_answer : (opened : Opened) → AnswersOpen folder size opened → opened ≡ found.Unclean flag.Dirty
  one_answer (found.Clean node head) answer = absurd (false≢true (says_dirty _ answer.1.volume))
  one_answer (found.Unclean f) answer = ap found.Unclean (one_flag answer.0 f answer.1 answer.2)
  one_answer (found.Damaged damage) (inl (BadVolume none)) = absurd (none volume (volume_told folder volume is))
  one_answer (found.Damaged damage) (inl (BadHead _ _ v clean fault)) = absurd (not_clean v clean.told clean.clean.clean)
  one_answer (found.Damaged damage) (inl (BadSnapshot _ _ v head names clean good listed fault)) =
      absurd (not_clean v clean.told clean.clean.clean)
  one_answer (found.Damaged damage) (inr bad) = absurd (not_clean bad.v bad.good.volume.told bad.good.volume.clean.clean)
