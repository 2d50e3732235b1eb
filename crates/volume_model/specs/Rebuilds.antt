-- The rebuilds of replicas, as their marks tell, and when these marks may stand. Longhorn's documentation of rebuilding tells
-- of them; the marks are this project's own.
use Rattle.std.specs.Prelude.{◌≡◌, ◌≢◌, ◌⊎◌, ℕ, suc, ◌<◌, ◌==◌, if◌then◌else◌, false, List, [], ◌∷◌, ◌++◌, length, Option, None, Some}
use Rattle.vol_units.specs.Name.{sys_name}
use Rattle.volume_model.specs.declared.command.Command.TheVariants as command
use Rattle.volume_model.specs.declared.call.Call.{Call}
use Rattle.volume_model.specs.declared.call.Call.TheVariants as call
use Rattle.volume_model.specs.declared.entry.Entry.{Entry}
use Rattle.volume_model.specs.declared.entry.Entry.TheVariants as entry
use Rattle.volume_model.specs.declared.mark.Mark.{Mark}
use Rattle.volume_model.specs.declared.mark.Mark.TheVariants as mark
use Rattle.volume_model.specs.declared.mark.Rebuild.{Rebuild}
use Rattle.volume_model.specs.declared.mark.Rebuild.TheVariants as rebuild
use Rattle.volume_model.specs.declared.mode.Mode.{Mode}
use Rattle.volume_model.specs.declared.mode.Mode.TheVariants.{Err}
use Rattle.volume_model.specs.Snapshots.{layer_count}
use Rattle.volume_model.specs.PlainState.{PlainState, is_used}
use Rattle.volume_model.specs.PlainStep.{most_layers}
use Rattle.volume_model.specs.Modes.{mode_of, IsSource}
use Rattle.volume_model.specs.Standing.{EachStands}

-- ---- how far the rebuild of replica r is

-- the replica that the call asks to be rebuilt, if it is an add
abbrev pub added_by : Call → Option ℕ
added_by (call.Command (command.Add r)) = Some r
added_by c = None

-- after an answer: an answered add of r leaves none
abbrev pub rebuild_after_add : ℕ → Rebuild → Option ℕ → Rebuild
rebuild_after_add r b None = b
rebuild_after_add r b (Some q) = if q == r then rebuild.Unasked else b

-- after a mark at the place
abbrev pub rebuild_after_mark : ℕ → ℕ → Rebuild → Mark → Rebuild
rebuild_after_mark r place b (mark.Added q source name) = if q == r then rebuild.Open source else b
rebuild_after_mark r place b (mark.Promoted q) = if q == r then rebuild.Promoted else b
rebuild_after_mark r place b (mark.Aborted q) = if q == r then rebuild.Aborted place else b
rebuild_after_mark r place b m = b

abbrev pub rebuild_after_entry : ℕ → ℕ → Rebuild → Entry → Rebuild
rebuild_after_entry r place b (entry.Answer a) = rebuild_after_add r b (added_by a.call)
rebuild_after_entry r place b (entry.Mark m) = rebuild_after_mark r place b m

-- after these entries, the first of which has that place
abbrev pub rebuild_from : ℕ → ℕ → Rebuild → List Entry → Rebuild
rebuild_from r place b [] = b
rebuild_from r place b (e ∷ es) = rebuild_from r (suc place) (rebuild_after_entry r place b e) es

-- after a journal
abbrev pub rebuild_of : ℕ → List Entry → Rebuild
rebuild_of r journal = rebuild_from r 0 rebuild.Unasked journal

-- ---- when the marks may stand

-- the last of these entries is the mark
abbrev pub EndsWith : List Entry → Mark → Type 0
EndsWith before m = (front : List Entry) × (before ≡ front ++ entry.Mark m ∷ [])

-- the first of these entries is the mark
abbrev pub NextIsMark : List Entry → Mark → Type 0
NextIsMark [] m = ⊥
NextIsMark (e ∷ es) m = e ≡ entry.Mark m

-- the first of these entries answers an add of r
abbrev pub AddComes : List Entry → ℕ → Type 0
AddComes [] r = ⊥
AddComes (entry.Mark m ∷ es) r = ⊥
AddComes (entry.Answer a ∷ es) r = a.call ≡ call.Command (command.Add r)

-- A rebuild may begin of a failed replica from the first that is read, while none is open and there is room, under the
-- engine's own name of the head's number, which no snapshot had.
pub record MayBegin (modes : List Mode) (state : PlainState) (before : List Entry) (r s : ℕ) (name : List ℕ) : Type 0 where
  pub replica : r < length modes
  pub failed : mode_of modes r ≡ Err
  pub source : IsSource modes s
  pub room : layer_count state.volume.snapshots < most_layers
  pub own : name ≡ sys_name state.volume.snapshots.number
  pub new : is_used state.used name ≡ false
  pub alone : (q t : ℕ) → rebuild_of q before ≢ rebuild.Open t

-- it is promoted as its add ends
pub record MayPromote (before after : List Entry) (r : ℕ) : Type 0 where
  pub source : ℕ
  pub begun : rebuild_of r before ≡ rebuild.Open source
  pub ends : AddComes after r

-- the replica goes to ERR in this mark
abbrev pub Fells : Mark → ℕ → Type 0
Fells (mark.Fault w q count) r = q ≡ r
Fells (mark.Failed q) r = q ≡ r
Fells m r = ⊥

-- what is aborted is open
pub record MayAbort (before : List Entry) (r : ℕ) : Type 0 where
  pub source : ℕ
  pub begun : rebuild_of r before ≡ rebuild.Open source

-- where the source or the target of an open rebuild falls, the rebuild is aborted at once
pub record MayFall (modes : List Mode) (before after : List Entry) (r : ℕ) : Type 0 where
  pub up : mode_of modes r ≢ Err
  pub ends : (q s : ℕ) → rebuild_of q before ≡ rebuild.Open s → (r ≡ q) ⊎ (r ≡ s) → NextIsMark after (mark.Aborted q)

-- ---- that no rebuild was given up: what aborted it was a fall

-- the open rebuild of r is aborted right behind the mark in which its source or r itself went to ERR
pub record IsBehindFall (before : List Entry) (r : ℕ) : Type 0 where
  pub source : ℕ
  pub begun : rebuild_of r before ≡ rebuild.Open source
  pub fell : Mark
  pub last : EndsWith before fell
  pub which : Fells fell r ⊎ Fells fell source

-- an aborted mark stands so behind the entries before it; no other entry asks anything
abbrev pub StandsBehindFall : List Entry → Entry → List Entry → Type 0
StandsBehindFall before (entry.Mark (mark.Aborted r)) after = IsBehindFall before r
StandsBehindFall before e after = Unit {0}

-- so does each aborted mark of the journal
abbrev pub AreBehindFalls : List Entry → Type 0
AreBehindFalls = EachStands StandsBehindFall
