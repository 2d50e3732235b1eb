-- Why replicas are not read from the opening on: as a report tells it, and the modes that they have.
use Rattle.std.specs.Prelude.{ℕ, List, ◌++◌, map, codes, string_bytes, Option, Some, None, slice_index_or}
use Rattle.std.specs.Fmt.{decimal}
use Rattle.volume_model.specs.declared.mode.Mode.{Mode}
use Rattle.volume_model.specs.declared.mode.Mode.TheVariants.{Rw, Err}
use Rattle.folder_checks.specs.declared.parts.Flag.{Flag}
use Rattle.folder_checks.specs.declared.parts.Flag.TheVariants as flag
use Rattle.replica_compare.specs.declared.comparing.Difference.{Difference}
use Rattle.replica_compare.specs.declared.comparing.Difference.TheVariants as difference
use Rattle.run_report.specs.Lines.{word, layer_text}
use Rattle.volume_folders.specs.declared.reason.Reason.{Reason}
use Rattle.volume_folders.specs.declared.reason.Reason.TheVariants as reason

-- why a replica is not read, or none where it is
abbrev pub reason_at : List (Option Reason) → ℕ → Option Reason
reason_at reasons r = slice_index_or reasons r None

-- a replica is read and written where there is no reason against it, and in ERR where there is one
abbrev pub mode_for : Option Reason → Mode
mode_for None = Rw
mode_for (Some why) = Err

abbrev pub modes_for : List (Option Reason) → List Mode
modes_for reasons = map mode_for reasons

-- ---- as a report tells it

-- the word of a flag
abbrev pub flag_text : Flag → List ℕ
flag_text flag.Dirty = codes "Dirty"
flag_text flag.Rebuilding = codes "Rebuilding"
flag_text flag.Error = codes "Error"
flag_text flag.Size = codes "Size"

-- how a replica differs
abbrev pub difference_text : Difference → List ℕ
difference_text (difference.Shape layer) = codes "shape " ++ layer_text layer
difference_text (difference.Reads layer block) = codes "differs " ++ word (layer_text layer) ++ decimal block

-- the reason
abbrev pub why_text : Reason → List ℕ
why_text (reason.Unclean f) = codes "unclean " ++ flag_text f
why_text (reason.Damaged damage) = codes "damaged " ++ word (string_bytes damage.file) ++ decimal damage.place
why_text (reason.Differs how) = difference_text how
