use Rattle.std.proofs.Common.{◌↔◌, length}
use denote.Text.{Utf8}
use denote.Shadow.{shadow}
use Rattle.folder_target.specs.ObjectNames.{IsPath}
use Rattle.folder_target.proofs.object_names.is_path.Given as goal

abbrev pub invariant-loop-parts : goal.invariant-loop-parts
invariant-loop-parts l = shadow (Utf8 l.rest) × (IsPath l.name ↔ IsPath l.rest)

abbrev pub decreases-loop-parts : goal.decreases-loop-parts
decreases-loop-parts l = length l.rest
