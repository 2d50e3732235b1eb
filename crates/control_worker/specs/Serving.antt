-- How what a worker knows of its stream grows while it answers the stream's commands. The stream's own entries have all
-- answers of those that came (`HasAnswers`), also where the journal is not known.
use Rattle.std.specs.Prelude.{◌≡◌, ◌⊎◌, ℕ, List, [], ◌∷◌, ◌++◌, All, false, Option, IfSome}
use Rattle.vol_units.specs.Name.{begins_sys}
use Rattle.volume_model.specs.declared.command.Command.{Command}
use Rattle.volume_model.specs.declared.command.Command.TheVariants as command
use Rattle.volume_model.specs.declared.call.Call.TheVariants as call
use Rattle.volume_model.specs.declared.call.Reply.TheVariants as reply
use Rattle.volume_model.specs.declared.entry.Answer.{Answer}
use Rattle.volume_model.specs.declared.entry.Entry.{Entry}
use Rattle.volume_model.specs.declared.entry.Entry.TheVariants as entry
use Rattle.volume_model.specs.Commands.{NamesReplica}
use Rattle.stream_steps.specs.Mine.{Mine, Placed, Log, with_entries, longer, length_of}
use Rattle.stream_steps.specs.Steps.{AreMarks, IsCommandAt}
use Rattle.volume_model.specs.OneWorker.{entries_by}
use Rattle.control_worker.specs.OwnAnswers.{HasAnswers}
use Rattle.control_worker.specs.Store.{told_by}
use Rattle.control_worker.specs.Purges.{MayComeBefore}

-- A command that a worker of so many lines takes: a snapshot has a name that a user may give, and one that names a replica
-- names a line.
abbrev pub IsForWorker : ℕ → Command → Type 0
IsForWorker lines (command.Snapshot name) = begins_sys name ≡ false
IsForWorker lines c = NamesReplica lines c

-- The entries are those that one worker makes of the command there, as its stream's call of the answer's index, where the
-- store has against a backup what the answer tells.
abbrev pub IsCommandBy : ℕ → Command → List Entry → Answer → Log → Type 0
IsCommandBy stream (command.Backup backup snapshot) all answer log = all ≡ entries_by (told_by answer.reply) log.spot stream
    (length_of log) answer.index (call.Command (command.Backup backup snapshot))
IsCommandBy stream c all answer log = IsCommandAt stream c all answer log

-- The entries are marks, and then the answer of a command that was taken up behind that journal. Where no line failed,
-- they are those that one worker makes of it there.
pub record Commands (stream : ℕ) (log : Option Log) (c : Command) (es : List Entry) : Type 0 where
  pub marks : List Entry
  pub answer : Answer
  pub is : es ≡ marks ++ entry.Answer answer ∷ []
  pub are : All (MayComeBefore stream) marks
  pub call : answer.call ≡ call.Command c
  pub by : answer.stream ≡ stream
  pub saw : IfSome log (λ l. answer.saw ≡ length_of l)
  pub turn : IfSome log (λ l. AreMarks marks → IsCommandBy stream c es answer l)

-- the same of these commands, each taken up behind the entries of the one before
abbrev pub AreCommanded : ℕ → Option Log → List Command → List Entry → Type 0
AreCommanded stream log [] es = es ≡ []
AreCommanded stream log (c ∷ cs) es = (first more : List Entry) × (es ≡ first ++ more)
    × Commands stream log c first × AreCommanded stream (longer log first) cs more

-- ---- one command

-- the whole journal, where it is known, grew by the entries of the command, and none is open
pub record GrewByCommand (c : Command) (m m2 : Mine) : Type 0 where
  pub own : List Placed
  pub all : List Entry
  pub is : m2 ≡ with_entries m own all []
  pub same : HasAnswers own all
  pub done : Commands m.stream m.log c all

-- memory ran out: it grew by marks, and none is open
pub record GaveUp (m m2 : Mine) : Type 0 where
  pub own : List Placed
  pub marks : List Entry
  pub is : m2 ≡ with_entries m own marks []
  pub same : HasAnswers own marks
  pub are : All (MayComeBefore m.stream) marks

-- the one entry answers an add, which was taken up behind that journal: its rebuild was aborted
pub record IsAborted (stream : ℕ) (log : Option Log) (c : Command) (es : List Entry) : Type 0 where
  pub replica : ℕ
  pub place : ℕ
  pub answer : Answer
  pub is : es ≡ entry.Answer answer ∷ []
  pub add : c ≡ command.Add replica
  pub call : answer.call ≡ call.Command c
  pub by : answer.stream ≡ stream
  pub saw : IfSome log (λ l. answer.saw ≡ length_of l)
  pub reply : answer.reply ≡ reply.Aborted place

-- how a command ends for which memory ran out: with no answer, or as an add whose rebuild was aborted
abbrev pub EndsUndone : ℕ → Option Log → Command → List Entry → Type 0
EndsUndone stream log c es = (es ≡ []) ⊎ IsAborted stream log c es

-- memory ran out: it grew by marks, and then it was left so, and none is open
pub record LeftUndone (c : Command) (m m2 : Mine) : Type 0 where
  pub own : List Placed
  pub marks : List Entry
  pub last : List Entry
  pub is : m2 ≡ with_entries m own (marks ++ last) []
  pub same : HasAnswers own (marks ++ last)
  pub are : All (MayComeBefore m.stream) marks
  pub left : EndsUndone m.stream m.log c last

-- ---- all of them

-- the whole journal, where it is known, grew by those of these commands, each once and in their order, and none is open
pub record Commanded (cs : List Command) (m m2 : Mine) : Type 0 where
  pub own : List Placed
  pub all : List Entry
  pub is : m2 ≡ with_entries m own all []
  pub same : HasAnswers own all
  pub done : AreCommanded m.stream m.log cs all

-- the first of these was left so, if there is one
abbrev pub IsFirstLeft : ℕ → Option Log → List Command → List Entry → Type 0
IsFirstLeft stream log [] es = es ≡ []
IsFirstLeft stream log (c ∷ cs) es = EndsUndone stream log c es

-- the same of some of the first of them, as far as memory lasted, and then by marks of the next one, which was left so
pub record CommandedSome (cs : List Command) (m m2 : Mine) : Type 0 where
  pub some : List Command
  pub left : List Command
  pub are : some ++ left ≡ cs
  pub own : List Placed
  pub all : List Entry
  pub marks : List Entry
  pub last : List Entry
  pub is : m2 ≡ with_entries m own (all ++ (marks ++ last)) []
  pub same : HasAnswers own (all ++ (marks ++ last))
  pub done : AreCommanded m.stream m.log some all
  pub more : All (MayComeBefore m.stream) marks
  pub next : IsFirstLeft m.stream (longer m.log all) left last
