-- What a worker knows of its own stream.
use Rattle.std.specs.Prelude.{◌≡◌, ℕ, ◌++◌, Bool, List, [], ◌∷◌, length, map, Option, Some, None}
use Rattle.std.specs.Option.{option_map}
use Rattle.vol_units.specs.declared.range.BlockRange.{BlockRange}
use Rattle.volume_model.specs.declared.call.Call.{Call}
use Rattle.volume_model.specs.declared.entry.Answer.{Answer}
use Rattle.volume_model.specs.declared.entry.Entry.{Entry}
use Rattle.volume_model.specs.declared.entry.Entry.TheVariants as entry
use Rattle.volume_model.specs.declared.mark.Mark.TheVariants as mark
use Rattle.volume_model.specs.History.{Spot}
use Rattle.volume_model.specs.OneWorker.{behind_entries}
use Rattle.step_answers.specs.declared.parts.Part.{Part}
use Rattle.step_answers.specs.declared.whole_op.WholeOp.{WholeOp}

-- an entry of the stream, with where the run stood before it
pub record Placed : Type 0 where
  pub spot : Spot
  pub entry : Entry

abbrev pub entries_in : List Placed → List Entry
entries_in es = map (λ (p : Placed). p.entry) es

abbrev pub answer_placed : Spot → Answer → Placed
answer_placed spot a = record { spot = spot; entry = entry.Answer a }

abbrev pub fault_placed : Spot → ℕ → ℕ → ℕ → Placed
fault_placed spot stream r count = record { spot = spot; entry = entry.Mark (mark.Fault stream r count) }

-- An open call of the stream: its ticket's number and blocks, whether it has started, what was asked, what the caller
-- had seen, all bytes of a started write's blocks, the bytes that a read has so far, how far each replica is, and what
-- is done to the whole volume, if it is that.
pub record OwnCall : Type 0 where
  pub number : ℕ
  pub range : BlockRange
  pub started : Bool
  pub call : Call
  pub saw : ℕ
  pub whole : List ℕ
  pub buffer : List ℕ
  pub parts : List Part
  pub op : Option WholeOp

-- a journal, and where the run stands behind it
pub record Log : Type 0 where
  pub spot : Spot
  pub entries : List Entry

-- Of one stream: its entries and open calls, that of a command that has the maintenance turn or waits for it before one
-- for the whole volume, how many replicas there are, and the whole journal where nobody else adds to it.
pub record Mine : Type 0 where
  pub stream : ℕ
  pub replicas : ℕ
  pub entries : List Placed
  pub running : List OwnCall
  pub log : Option Log

-- the whole journal, where it is known, with these entries more
abbrev pub longer : Option Log → List Entry → Option Log
longer None es = None
longer (Some log) es = Some (record { spot = behind_entries log.spot es; entries = log.entries ++ es })

-- with these own entries more, of all these that came, and these calls open
abbrev pub with_entries : Mine → List Placed → List Entry → List OwnCall → Mine
with_entries m own all os = record {
  stream = m.stream;
  replicas = m.replicas;
  entries = m.entries ++ own;
  running = os;
  log = longer m.log all;
}

-- with these entries more, all of them own, and these calls open
abbrev pub with_more : Mine → List Placed → List OwnCall → Mine
with_more m es os = with_entries m es (entries_in es) os

-- with these calls open
abbrev pub with_running : Mine → List OwnCall → Mine
with_running m os = record m { running = os }

-- how long a journal is
abbrev pub length_of : Log → ℕ
length_of log = length log.entries

-- how long the whole journal is, where it is known
abbrev pub log_length : Mine → Option ℕ
log_length m = option_map length_of m.log

-- the stream has that call open, under that ticket, and no other
pub record IsOwn (t : ℕ) (o : OwnCall) (m : Mine) : Type 0 where
  pub is : m.running ≡ o ∷ []
  pub number : o.number ≡ t

-- of the call that the stream has open under that ticket
abbrev pub ForOwn : ℕ → Mine → (OwnCall → Type 0) → Type 0
ForOwn t m fact = (o : OwnCall) → IsOwn t o m → fact o
