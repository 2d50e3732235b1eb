use Rattle.volume_folders.proofs.SavedLemmas.{volume_folder, failed_of}
use Rattle.volume_folders.proofs.laws.what_is_saved_is_a_volume_or_failed.Goals as goal

pub returns : goal.returns
returns c = record { volume = volume_folder; failed = failed_of }
