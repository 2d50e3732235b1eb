-- The generated script: what a number, a count of streams and a count of calls make. Its form is this project's own, but for
-- the numbers of the generator, which are those of Knuth's MMIX.
use Rattle.std.specs.Prelude.{◌≡◌, ◌==◌, ℕ, zero, suc, ℤ, pos, ◌+◌, ◌*◌, ◌/◌, ◌%◌, ◌^◌, ◌≤◌, List, [], ◌∷◌, length, replicate, codes}
use Rattle.std.specs.Prelude.{false, if◌then◌else◌}
use Rattle.volume_model.specs.PlainStep.{longest_call}
use Rattle.volume_model.specs.declared.call.Call.{Call}
use Rattle.volume_model.specs.declared.call.Call.TheVariants as call
use Rattle.volume_model.specs.declared.command.Command.{Command}
use Rattle.volume_model.specs.declared.command.Command.TheVariants as command
use Rattle.frame_stream.specs.Asked.{read_kind, write_kind}
use Rattle.frame_stream.specs.declared.frame.Frame.{Frame}
use Rattle.script_text.specs.declared.generated.Drawn.{Drawn}
use Rattle.script_text.specs.declared.script.Script.{Script}
use Rattle.script_text.specs.declared.script.Stream.{Stream}
use Rattle.script_text.specs.declared.script.Stream.TheVariants as stream

-- of so many frame streams, each of so many calls, a script is generated
pub record CanGenerate (streams calls : ℕ) : Type 0 where
  pub some_streams : 1 ≤ streams
  pub few_streams : streams ≤ 15
  pub some_calls : 1 ≤ calls
  pub few_calls : calls ≤ 4096

-- ---- the generator

-- the state behind a state
unfoldable pub next_state : ℕ → ℕ
next_state x = (x * 6364136223846793005 + 1442695040888963407) % 2 ^ 64

-- what is drawn in a state: its upper 31 bits
unfoldable pub drawn_in : ℕ → ℕ
drawn_in x = x / 2 ^ 33

-- the four numbers of a frame, each drawn in a state of its own behind this one, in their order
abbrev pub drawn_behind : ℕ → Drawn
drawn_behind x = record {
  choice = drawn_in (next_state x) % 4;
  offset = drawn_in (next_state (next_state x)) % 2093056;
  size = 1 + drawn_in (next_state (next_state (next_state x))) % 4096;
  byte = drawn_in (next_state (next_state (next_state (next_state x)))) % 256;
}

-- the state in which the last of them was drawn
abbrev pub state_behind : ℕ → ℕ
state_behind x = next_state (next_state (next_state (next_state x)))

-- ---- frames

-- reads so many bytes from there on
abbrev pub read_frame : ℕ → ℕ → ℕ → Frame
read_frame seq place size =
    record { head = record { seq = seq; kind = read_kind; offset = pos place; size = size; len = 0 }; body = [] }

-- writes so many bytes there, each of them this one
abbrev pub write_frame : ℕ → ℕ → ℕ → ℕ → Frame
write_frame seq place size byte = record {
  head = record { seq = seq; kind = write_kind; offset = pos place; size = size; len = size };
  body = replicate size byte;
}

-- the bytes of a page
abbrev pub page_bytes : ℕ
page_bytes = 2097152

-- the frame that four numbers make in a page of the volume: a read where the choice is 0, and else a write
abbrev pub frame_in : ℕ → ℕ → Drawn → Frame
frame_in page seq d = if d.choice == 0 then read_frame seq (page * page_bytes + d.offset) d.size
    else write_frame seq (page * page_bytes + d.offset) d.size d.byte

-- the frames behind a state, so many, the first of them with this seq
abbrev pub frames_behind : ℕ → ℕ → ℕ → ℕ → List Frame
frames_behind page seq x zero = []
frames_behind page seq x (suc more) = frame_in page seq (drawn_behind x) ∷ frames_behind page (seq + 1) (state_behind x) more

-- ---- streams

-- the frames of the stream that has this page: the script's number and the page's make its first state
abbrev pub frames_of : ℕ → ℕ → ℕ → List Frame
frames_of number calls page = frames_behind page 1 ((number + page) % 2 ^ 64) calls

-- the commands of the control stream
abbrev pub control_commands : List Command
control_commands = command.Snapshot (codes "g") ∷ command.Fail 1 ∷ command.Add 1 ∷ command.Remove (codes "g") ∷ command.Purge ∷ []

-- so many frame streams, the first of them with this page, and then the control stream
abbrev pub streams_from : ℕ → ℕ → ℕ → ℕ → List Stream
streams_from number calls page zero = stream.Control control_commands ∷ []
streams_from number calls page (suc more) =
    stream.Frames (frames_of number calls page) ∷ streams_from number calls (page + 1) more

-- ---- the script

-- the script of a number: so many frame streams, each of so many calls and with a page of its own, on two replicas
abbrev pub generated : ℕ → ℕ → ℕ → Script
generated number streams calls = record {
  streams = streams_from number calls 0 streams;
  lines = [];
  now = [];
  volume = codes "gen";
  size = streams * page_bytes;
  replicas = 2;
  opens = false;
  saves = false;
}

-- ---- what its calls keep to

-- so many bytes from there on lie within a page, and are no more than a call may have
pub record LieInPage (page : ℕ) (offset : ℤ) (n : ℕ) : Type 0 where
  pub place : ℕ
  pub is : offset ≡ pos place
  pub from : page * page_bytes ≤ place
  pub to : place + n ≤ page * page_bytes + page_bytes
  pub most : n ≤ longest_call

-- the call reads or writes within a page
abbrev pub KeepsToPage : ℕ → Call → Type 0
KeepsToPage page (call.Read offset n) = LieInPage page offset n
KeepsToPage page (call.Write offset bytes) = LieInPage page offset (length bytes)
KeepsToPage page c = ⊥
