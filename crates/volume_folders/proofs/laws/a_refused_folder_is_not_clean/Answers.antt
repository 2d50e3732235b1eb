use Rattle.volume_folders.proofs.CleanLemmas.{refused_of, none_of, before_of}
use Rattle.volume_folders.proofs.laws.a_refused_folder_is_not_clean.Goals as goal

pub returns : goal.returns
returns c = record {
  refused = λ folder size why refused clean. refused_of folder size why clean.0 refused clean.1;
  none = none_of;
  before = before_of;
}
