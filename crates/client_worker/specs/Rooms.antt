-- What a call is carried in.
use Rattle.std.specs.Prelude.{◌≡◌, ℕ, ◌+◌, ◌*◌, ◌<◌, ◌≤◌, ◌^◌, ℤ, true, List, [], vec_capacity, length}
use Rattle.std.specs.Prelude.{drop, All, is_some, Option, Some, None}
use Rattle.vol_units.specs.declared.size.TheConstants.{BLOCK_BYTES}
use Rattle.volume_model.specs.declared.call.Call.TheVariants as call
use Rattle.step_answers.specs.declared.answers.Job.{Job}
use Rattle.frame_wire.specs.Spelling.{header_length}
use Rattle.client_worker.specs.declared.opened.OpenRead.{OpenRead}
use Rattle.client_worker.specs.declared.rooms.Rooms.{Rooms}
use Rattle.stream_steps.specs.declared.with_source.WithSource.{WithSource}
use Rattle.stream_steps.specs.Mine.{Mine, OwnCall, IsOwn}
use Rattle.stream_steps.specs.Steps.{Refuses, IsStarted, IsStartedWrite}
use Rattle.client_worker.specs.Ends.{BeginsAs, NoneAcked}

-- so many boxes, all there
pub record AreBoxes (n : ℕ) (blocks : List (Option (List ℕ))) : Type 0 where
  pub full : All (λ b. is_some b ≡ true) blocks
  pub count : length blocks ≡ n

-- the request, but for its header, of a started write of so many blocks from that one on
pub record CarriesWrite (o : OwnCall) (block n : ℕ) (request : List ℕ) : Type 0 where
  pub writes : IsStartedWrite o
  pub rounded : IsStarted o.call o
  pub header : header_length ≤ length request
  pub few : length request < 2 ^ 32
  pub whole : drop header_length request ≡ o.whole
  pub first : o.range.first ≡ block
  pub count : o.range.first + n ≡ o.range.end
  pub size : length o.whole ≡ n * BLOCK_BYTES

-- a reply with room for the bytes of a started read
pub record CarriesRead (o : OwnCall) (offset : ℤ) (n : ℕ) (reply : List ℕ) : Type 0 where
  pub started : o.started ≡ true
  pub call : o.call ≡ call.Read offset n
  pub long : length o.buffer ≡ n
  pub count : length reply ≡ header_length + n

-- that read is the stream's open call, no replica has acknowledged it, and the reply has room for its bytes
pub record IsOpenRead (read : OpenRead) (m : Mine) (reply : List ℕ) : Type 0 where
  pub own : OwnCall
  pub is : IsOwn read.ticket own m
  pub none : NoneAcked m
  pub carries : CarriesRead own read.offset read.count reply

-- there is room for a write of so many blocks, on so many replicas
pub record HasWriteRoom (count replicas : ℕ) (rooms : Rooms) : Type 0 where
  pub empty : rooms.request.items ≡ []
  pub request : header_length + count * BLOCK_BYTES ≤ vec_capacity rooms.request
  pub arrivals : header_length + (header_length + count * BLOCK_BYTES) ≤ vec_capacity rooms.arrivals
  pub sets : length rooms.sets.items ≡ replicas
  pub boxes : All (AreBoxes count) rooms.sets.items

-- there is room for a read of so many bytes
pub record HasReadRoom (count : ℕ) (rooms : Rooms) : Type 0 where
  pub reply : header_length + count ≤ length rooms.reply.items
  pub arrivals : header_length + (header_length + count) ≤ vec_capacity rooms.arrivals

-- the rooms have a write that has started at that block, on so many replicas
pub record HoldsWrite (o : OwnCall) (block replicas : ℕ) (rooms : Rooms) : Type 0 where
  pub blocks : ℕ
  pub carries : CarriesWrite o block blocks rooms.request.items
  pub boxes : All (AreBoxes blocks) rooms.sets.items
  pub arrivals : header_length + length rooms.request.items ≤ vec_capacity rooms.arrivals
  pub sets : length rooms.sets.items ≡ replicas

-- the write starts, and its request is filled
pub record BeginsIn (o : OwnCall) (job : Job) (replicas : ℕ) (rooms : Rooms) (m m2 : Mine) : Type 0 where
  pub own : OwnCall
  pub begins : BeginsAs o own m m2
  pub filled : HoldsWrite own job.range.first replicas rooms

-- it begins with that job, or there is no replica
abbrev pub BeginsOr : OwnCall → Option Job → ℕ → Rooms → Mine → Mine → Type 0
BeginsOr o None replicas rooms m m2 = Refuses o m m2
BeginsOr o (Some job) replicas rooms m m2 = BeginsIn o job replicas rooms m m2

-- the read of so many bytes starts, and no replica has acknowledged it
pub record ReadsIn (o : OwnCall) (offset : ℤ) (n : ℕ) (m m2 : Mine) : Type 0 where
  pub own : OwnCall
  pub begins : BeginsAs o own m m2
  pub none : NoneAcked m2
  pub started : own.started ≡ true
  pub call : own.call ≡ call.Read offset n
  pub long : length own.buffer ≡ n

-- it begins, or there is no replica
abbrev pub ReadsOr : OwnCall → Option (WithSource Job) → ℤ → ℕ → Mine → Mine → Type 0
ReadsOr o None offset n m m2 = Refuses o m m2
ReadsOr o (Some start) offset n m m2 = ReadsIn o offset n m m2
