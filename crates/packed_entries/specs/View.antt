-- What is seen of an entry.
use Rattle.std.specs.Prelude.{ℕ, List}
use Rattle.image_runs.specs.Runs.{ByteRun}
use Rattle.volume_model.specs.declared.call.Call.{Call}
use Rattle.volume_model.specs.declared.call.Call.TheVariants as call
use Rattle.volume_model.specs.declared.call.Reply.{Reply}
use Rattle.volume_model.specs.declared.call.Reply.TheVariants as reply
use Rattle.volume_model.specs.declared.entry.Entry.{Entry}
use Rattle.volume_model.specs.declared.entry.Entry.TheVariants as entry
use Rattle.packed_entries.specs.declared.view.ListView.{ListView}
use Rattle.packed_entries.specs.declared.view.ListView.TheVariants as listview
use Rattle.packed_entries.specs.declared.view.ListRuns.{ListRuns}
use Rattle.packed_entries.specs.declared.view.ListRuns.TheVariants as listruns
use Rattle.packed_entries.specs.declared.view.CallView.{CallView}
use Rattle.packed_entries.specs.declared.view.CallView.TheVariants as callview
use Rattle.packed_entries.specs.declared.view.ReplyView.{ReplyView}
use Rattle.packed_entries.specs.declared.view.ReplyView.TheVariants as replyview
use Rattle.volume_model.specs.declared.entry.Answer.{Answer}
use Rattle.packed_entries.specs.declared.view.AnswerView.{AnswerView}
use Rattle.packed_entries.specs.declared.view.EntryView.{EntryView}
use Rattle.packed_entries.specs.declared.view.EntryView.TheVariants as entryview

-- a list, kept packed or as it is
abbrev pub list_seen : ListView → List ℕ
list_seen (listview.Packed l) = l
list_seen (listview.Whole l) = l.now

-- the runs that are left of one
abbrev pub runs_left : ListRuns → List ByteRun
runs_left (listruns.Packed rs) = rs
runs_left (listruns.Whole rs) = rs

abbrev pub call_seen : CallView → Call
call_seen (callview.Read o n) = call.Read o n
call_seen (callview.Write o l) = call.Write o (list_seen l)
call_seen callview.Ping = call.Ping
call_seen (callview.Other k) = call.Other k
call_seen (callview.Command c) = call.Command c

abbrev pub reply_seen : ReplyView → Reply
reply_seen replyview.Done = reply.Done
reply_seen (replyview.Read l) = reply.Read (list_seen l)
reply_seen (replyview.Status n modes) = reply.Status n modes.now
reply_seen (replyview.Refused r) = reply.Refused r
reply_seen (replyview.Aborted n) = reply.Aborted n

abbrev pub answer_seen : AnswerView → Answer
answer_seen a = record { call = call_seen a.call; reply = reply_seen a.reply; index = a.index; saw = a.saw; stream = a.stream }

abbrev pub entry_seen : EntryView → Entry
entry_seen (entryview.Answer a) = entry.Answer (answer_seen a)
entry_seen (entryview.Mark m) = entry.Mark m.now
