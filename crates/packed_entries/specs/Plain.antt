-- What is kept of an entry: of the answers that there are most of their numbers, and their list with the others.
use Rattle.std.specs.Prelude.{◌≡◌, ℕ, Bool, true, false, List, []}
use Rattle.packed_bytes.specs.declared.list.Place.{Place}
use Rattle.packed_bytes.specs.Place.{list_at}
use Rattle.volume_model.specs.declared.call.Call.{Call}
use Rattle.volume_model.specs.declared.call.Call.TheVariants as call
use Rattle.volume_model.specs.declared.call.Reply.{Reply}
use Rattle.volume_model.specs.declared.call.Reply.TheVariants as reply
use Rattle.volume_model.specs.declared.entry.Entry.{Entry}
use Rattle.volume_model.specs.declared.entry.Entry.TheVariants as entry
use Rattle.packed_entries.specs.declared.plain.Plain.{Plain}
use Rattle.packed_entries.specs.declared.plain.Asked.{Asked}
use Rattle.packed_entries.specs.declared.plain.Asked.TheVariants as asked
use Rattle.packed_entries.specs.declared.plain.Answered.{Answered}
use Rattle.packed_entries.specs.declared.plain.Answered.TheVariants as answered

-- what a reply gave
abbrev pub list_read : Reply → List ℕ
list_read (reply.Read bytes) = bytes
list_read _ = []

-- a write is answered so
abbrev pub is_short : Reply → Bool
is_short reply.Done = true
is_short (reply.Refused r) = true
is_short _ = false

-- what a write put that was answered so
abbrev pub list_written : List ℕ → Reply → List ℕ
list_written bytes reply.Done = bytes
list_written bytes (reply.Refused r) = bytes
list_written bytes _ = []

-- The bytes of an entry that are packed: what a write put, or what a call of a client was given.
abbrev pub data_in : Call → Reply → List ℕ
data_in (call.Write o bytes) r = list_written bytes r
data_in (call.Command c) r = []
data_in _ r = list_read r

abbrev pub data_of : Entry → List ℕ
data_of (entry.Answer a) = data_in a.call a.reply
data_of (entry.Mark m) = []

-- the call, the reply and the entry that are kept, with their list
abbrev pub call_of : Plain → List ℕ → Asked → Call
call_of p list asked.Read = call.Read p.offset p.number
call_of p list asked.Write = call.Write p.offset list
call_of p list asked.Ping = call.Ping
call_of p list asked.Other = call.Other p.number

abbrev pub reply_of : Answered → List ℕ → Reply
reply_of answered.Done list = reply.Done
reply_of answered.Read list = reply.Read list
reply_of (answered.Refused r) list = reply.Refused r

abbrev pub entry_with : Plain → List ℕ → Entry
entry_with p list = entry.Answer (record {
  call = call_of p list p.asked;
  reply = reply_of p.answered list;
  index = p.index;
  saw = p.saw;
  stream = p.stream;
})

abbrev pub plain_entry : List ℕ → Plain → Entry
plain_entry store p = entry_with p (list_at store p.place)

-- with that list it is the entry
pub record IsPlainOf (e : Entry) (at : Place) (p : Plain) : Type 0 where
  pub place : p.place ≡ at
  pub is : (list : List ℕ) → list ≡ data_of e → entry_with p list ≡ e
