-- What a client that sends frames is answered: what one plain disk answers, call after call.
use Rattle.std.specs.Prelude.{ℕ, List, [], ◌∷◌, ◌++◌}
use Rattle.frame_stream.specs.Asked.{call_of}
use Rattle.frame_stream.specs.Replies.{reply_frame}
use Rattle.frame_stream.specs.declared.frame.Frame.{Frame}
use Rattle.volume_model.specs.declared.call.Call.{Call}
use Rattle.volume_model.specs.declared.call.Call.TheVariants as call
use Rattle.volume_model.specs.declared.call.Reply.{Reply}
use Rattle.volume_model.specs.declared.mode.Mode.TheVariants.{Rw}
use Rattle.volume_model.specs.PlainState.{PlainState, state_of}
use Rattle.volume_model.specs.PlainStep.{plain_step}

-- the plain step of a call on a disk of which no snapshot was taken, with one replica, that is read and written
abbrev pub step_on : List ℕ → Call → PlainState × Reply
step_on disk c = plain_step (Rw ∷ []) (state_of disk) c

-- what it answers
abbrev pub answer_on : List ℕ → Call → Reply
answer_on disk c = (step_on disk c).1

-- the disk behind it
abbrev pub disk_past : List ℕ → Call → List ℕ
disk_past disk c = (step_on disk c).0.volume.disk

-- the call is one that a frame asks: a client has no commands
abbrev pub IsOfFrame : Call → Type 0
IsOfFrame (call.Command c) = ⊥
IsOfFrame c = Unit {0}

-- ---- what frames ask, one after another

-- the frame that replies to one that asks a call
unfoldable pub reply_to : List ℕ → Frame → List ℕ
reply_to disk f = reply_frame f.head (call_of f) (answer_on disk (call_of f))

-- the disk behind that call
unfoldable pub disk_with : List ℕ → Frame → List ℕ
disk_with disk f = disk_past disk (call_of f)

-- the disk behind all of them
abbrev pub disk_behind : List ℕ → List Frame → List ℕ
disk_behind disk [] = disk
disk_behind disk (f ∷ fs) = disk_behind (disk_with disk f) fs

-- and the frames that reply to them
abbrev pub replies_to : List ℕ → List Frame → List ℕ
replies_to disk [] = []
replies_to disk (f ∷ fs) = reply_to disk f ++ replies_to (disk_with disk f) fs
