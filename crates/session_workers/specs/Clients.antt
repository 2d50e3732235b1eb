-- What becomes of a session whose client sends frames: which calls it makes, how it ends, and what it is replied.
use Rattle.std.specs.Prelude.{◌≡◌, ◌≢◌, ℕ, ◌≤◌, ◌%◌, ◌^◌, List, [], ◌++◌, length, map, All, Option, IfSome, Result, Ok, Err}
use Rattle.std.specs.Io.KnownBytes.{Appends}
use Rattle.outer_traits.specs.Causes.{one_more}
use Rattle.outer_traits.specs.Passing.{WritesPrefix}
use Rattle.door_traits.specs.Sessions.{Told}
use Rattle.volume_model.specs.declared.entry.Entry.{Entry}
use Rattle.volume_model.specs.History.{answers_of, calls_of}
use Rattle.frame_stream.specs.Asked.{call_of}
use Rattle.frame_stream.specs.Frames.{spellings, IsCall, IsClose, BeginsWithFrame, HasNoFrame}
use Rattle.frame_stream.specs.declared.frame.Frame.{Frame}
use Rattle.client_input.specs.Inputs.{HasClose}
use Rattle.run_report.specs.Summary.{replying_frames}
use Rattle.run_report.specs.declared.session_line.SessionEnd.{SessionEnd}
use Rattle.run_report.specs.declared.session_line.SessionEnd.TheVariants as end
use Rattle.run_report.specs.declared.session_line.EndedSession.{EndedSession}

-- how many calls a session may make
abbrev pub most_session_calls : ℕ
most_session_calls = 4096

-- a call stands first
abbrev pub CallStandsFirst : List ℕ → Type 0
CallStandsFirst bytes = (f : Frame) × (rest : List ℕ) × BeginsWithFrame bytes f rest × (IsClose f → ⊥)

-- Of the session n: its client's input begins with these frames, the rest stands behind them. All are calls, and they are
-- just the session's calls in the journal, each once and in order.
pub record HasCalled (n : ℕ) (before : Told) (journal : List Entry) (frames : List Frame) (rest : List ℕ) : Type 0 where
  pub input : IfSome before.left (λ told. told ≡ spellings frames ++ rest)
  pub calls : All IsCall frames
  pub asked : calls_of n journal ≡ map call_of frames
  pub few : length frames ≤ most_session_calls

-- the frames that reply to these, one behind another, as bytes
abbrev pub replies_in : ℕ → List Frame → List Entry → List ℕ
replies_in n frames journal = replying_frames (map (λ f. f.head) frames) (answers_of n journal)

-- Why no more is called behind these frames, where the input goes on so, of which the source has this left: a Close, the
-- end, no whole frame, a call too many, a fault of the source before a frame was whole, or one of the sink.
abbrev pub CallsNoMore : SessionEnd → List Frame → List ℕ → Option (List ℕ) → Type 0
CallsNoMore end.Closed frames rest left = HasClose rest
CallsNoMore end.Ended frames rest left = rest ≡ []
CallsNoMore (end.Frame place) frames rest left =
    HasNoFrame rest × (rest ≢ []) × (place ≡ length (spellings frames) % 2 ^ 64)
CallsNoMore end.Full frames rest left = (length frames ≡ most_session_calls) × CallStandsFirst rest
CallsNoMore end.ReadFault frames rest left =
    (came more : List ℕ) × (rest ≡ came ++ more) × IfSome left (λ told. told ≡ more) × HasNoFrame came
CallsNoMore end.WriteFault frames rest left = frames ≢ []

-- what the counts of faults say of an end
abbrev pub CountsSo : SessionEnd → (before now : Told) → Type 0
CountsSo end.ReadFault before now =
    (now.read_faults ≡ one_more before.read_faults) × (now.write_faults ≡ before.write_faults)
CountsSo end.WriteFault before now =
    (now.read_faults ≡ before.read_faults) × (now.write_faults ≡ one_more before.write_faults)
CountsSo e before now = (now.read_faults ≡ before.read_faults) × (now.write_faults ≡ before.write_faults)

-- the sink has got these replies, or where it failed a prefix of them
abbrev pub TakesReplies : SessionEnd → (before now : Told) → List ℕ → Type 0
TakesReplies end.WriteFault before now replies = WritesPrefix before.holds now.holds replies
TakesReplies e before now replies = Appends before.holds now.holds replies

-- The session n has ended so, of a client that told the first before it, and the last now.
pub record SessionEnds (n : ℕ) (before now : Told) (journal : List Entry) (e : EndedSession) : Type 0 where
  pub frames : List Frame
  pub rest : List ℕ
  pub called : HasCalled n before journal frames rest
  pub count : e.calls ≡ length frames
  pub stops : CallsNoMore e.end frames rest now.left
  pub counts : CountsSo e.end before now
  pub replies : TakesReplies e.end before now (replies_in n frames journal)

-- Memory ran out in it: nothing failed, and the sink has got a prefix of the replies to its calls.
pub record HasStopped (n : ℕ) (before now : Told) (journal : List Entry) : Type 0 where
  pub frames : List Frame
  pub rest : List ℕ
  pub called : HasCalled n before journal frames rest
  pub read : now.read_faults ≡ before.read_faults
  pub written : now.write_faults ≡ before.write_faults
  pub replies : WritesPrefix before.holds now.holds (replies_in n frames journal)

-- one of the two
abbrev pub SessionComesTo : {E : Type 0} → ℕ → (before now : Told) → List Entry → Result EndedSession E → Type 0
SessionComesTo n before now journal (Ok e) = SessionEnds n before now journal e
SessionComesTo n before now journal (Err why) = HasStopped n before now journal
