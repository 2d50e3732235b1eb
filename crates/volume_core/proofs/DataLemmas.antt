-- What the open calls bring to the journal, as they come, change and go, and what their ends take of its room.
use Rattle.std.proofs.Common.{◌≡◌, ◌≢◌, ℕ, ◌+◌, ◌-◌, ◌<◌, ◌≤◌, List, [], ◌∷◌, ◌++◌, length, take, drop, set, refl, ap, arith}
use Rattle.std.specs.List.{remove}
use Rattle.std.proofs.lemmas.Bool.{lt-ltb}
use Rattle.std.proofs.lemmas.List.{length-take}
use Rattle.std.proofs.lemmas.List.Sums.{sum_by-set, sum_by-remove, sum_by-append, sum_by_more, sum_by_more_le, get_or-le-sum_by}
use Rattle.volume_model.specs.declared.call.Call.{Call}
use Rattle.volume_model.specs.declared.call.Call.TheVariants as call
use Rattle.volume_model.specs.declared.call.Reply.{Reply}
use Rattle.volume_model.specs.declared.call.Reply.TheVariants as reply
use Rattle.volume_model.specs.declared.mode.Mode.{Mode}
use Rattle.volume_model.specs.PlainState.{PlainState}
use Rattle.volume_model.specs.PlainStep.{plain_step, longest_call}
use Rattle.vol_units.specs.Bytes.{bytes_at}
use Rattle.packed_bytes.specs.Packed.{packed}
use Rattle.packed_bytes.proofs.RunLemmas.{packed_short}
use Rattle.packed_entries.specs.Plain.{data_in}
use Rattle.range_turns.specs.declared.ticket.Kind.{Kind}
use Rattle.range_turns.specs.declared.ticket.Kind.TheVariants as kind
use Rattle.replica_node.specs.Node.{Node}
use Rattle.step_answers.specs.Asked.{IsNow}
use Rattle.open_calls.specs.declared.open_call.OpenCall.{OpenCall}
use Rattle.open_calls.specs.Calls.{no_call, open_at, call_asked, read_from}
use Rattle.volume_core.specs.Data.{owed_call, owed_data}

-- ---- the open calls

pub owed_push : (calls : List OpenCall) (c : OpenCall) → owed_data (calls ++ c ∷ []) ≡ owed_data calls + owed_call c
owed_push calls c = omega (arith, sum_by-append owed_call calls (c ∷ []))

pub owed_set : (calls : List OpenCall) (i : ℕ) (c : OpenCall) → i < length calls
    → owed_data (set calls i c) + owed_call (open_at calls i) ≡ owed_data calls + owed_call c
owed_set calls i c h = sum_by-set owed_call calls i c no_call h

-- one that changes, and brings no more
pub owed_less : (calls : List OpenCall) (i : ℕ) (c : OpenCall) (room : ℕ) → i < length calls
    → owed_call c ≤ owed_call (open_at calls i) → owed_data calls ≤ room → owed_data (set calls i c) ≤ room
owed_less calls i c room h less all = omega (arith, owed_set calls i c h, less, all)

pub owed_gone : (calls : List OpenCall) (i : ℕ) → i < length calls
    → owed_data (remove calls i) + owed_call (open_at calls i) ≡ owed_data calls
owed_gone calls i h = sum_by-remove owed_call calls i no_call h

-- one more, in a walk over them
pub owed_more : (calls : List OpenCall) (i : ℕ) → i < length calls
    → owed_data (take (i + 1) calls) ≡ owed_data (take i calls) + owed_call (open_at calls i)
owed_more calls i h = sum_by_more owed_call calls i no_call h

pub owed_part : (calls : List OpenCall) (i room : ℕ) → i < length calls → owed_data calls ≤ room
    → owed_data (take i calls) + owed_call (open_at calls i) ≤ room
owed_part calls i room h all = omega (arith, sum_by_more_le owed_call calls i no_call h, all)

pub owed_one : (calls : List OpenCall) (i room : ℕ) → i < length calls → owed_data calls ≤ room → owed_call (open_at calls i) ≤ room
owed_one calls i room h all = omega (arith, get_or-le-sum_by owed_call calls i no_call h, all)

-- those that a replica gives are no more than the buffer had
pub read_no_more : (c : OpenCall) (r : ℕ) (node : Node) → owed_call (read_from c r node) ≤ owed_call c
read_no_more c r node = more (length (bytes_at node.disk c.at (length c.buffer))) (few node.disk c.at (length c.buffer))
  where
    few : (disk : List ℕ) (at n : ℕ) → length (take (at + n - at) (drop at disk)) ≤ n
    few disk at n = omega (arith, length-take (at + n - at) (drop at disk))

    more : (n : ℕ) → n ≤ length c.buffer → length c.bytes + n ≤ owed_call c
    more n less = omega (arith, less)

-- ---- what an entry takes of the room

-- what was for others stays for them
pub room_left : (others room : ℕ) (list : List ℕ) → others + length list ≤ room → others ≤ room - length (packed list)
room_left others room list all = omega (arith, packed_short list, all)

-- an answer to an open read or write has no bytes but those that the call brought
pub brought : (k : Kind) (c : OpenCall) (r : Reply) → k ≢ kind.Whole → ((bytes : List ℕ) → r ≡ reply.Read bytes → bytes ≡ c.buffer)
    → length (data_in (call_asked k c) r) ≤ owed_call c
brought kind.Whole c r range own = absurd (range refl)
brought kind.Read c (reply.Read bytes) range own = omega (arith, ap length (own bytes refl))
brought kind.Read c reply.Done range own = omega arith
brought kind.Read c (reply.Status layers modes) range own = omega arith
brought kind.Read c (reply.Refused why) range own = omega arith
brought kind.Read c (reply.Aborted place) range own = omega arith
brought kind.Write c (reply.Read bytes) range own = omega arith
brought kind.Write c reply.Done range own = omega arith
brought kind.Write c (reply.Status layers modes) range own = omega arith
brought kind.Write c (reply.Refused why) range own = omega arith
brought kind.Write c (reply.Aborted place) range own = omega arith

-- so its end leaves room for those of the others
pub ended_room : (calls : List OpenCall) (i : ℕ) (k : Kind) (r : Reply) (room : ℕ) → i < length calls → k ≢ kind.Whole
    → ((bytes : List ℕ) → r ≡ reply.Read bytes → bytes ≡ (open_at calls i).buffer) → owed_data calls ≤ room
    → owed_data (remove calls i) + length (data_in (call_asked k (open_at calls i)) r) ≤ room
ended_room calls i k r room h range own all =
    omega (arith, owed_gone calls i h, brought k (open_at calls i) r range own, all)

-- an answer at once has no bytes
pub none_now : (modes : List Mode) (p : PlainState) (c : Call) → IsNow c → data_in c (plain_step modes p c).1 ≡ []
none_now modes p (call.Read offset n) now = rw (lt-ltb longest_call n now) refl
none_now modes p (call.Write offset bytes) now = absurd now
none_now modes p call.Ping now = refl
none_now modes p (call.Other k) now = refl
none_now modes p (call.Command c) now = refl
