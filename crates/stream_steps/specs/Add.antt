-- What the core's steps of an add say to the stream for which they are taken.
use Rattle.std.specs.Prelude.{◌≡◌, ◌≢◌, ◌⊎◌, ℕ, ◌+◌, ◌<◌, ◌≤◌, Bool, true, List, [], ◌∷◌, ◌++◌, Some, Ok, Result, IfSome, IfOk, OnErr}
use Rattle.volume_model.specs.declared.command.Command.TheVariants as command
use Rattle.sparse_image.specs.Image.{Table, HasBlock, IsLent}
use Rattle.vol_units.specs.declared.page_ref.PageRef.{PageRef}
use Rattle.volume_model.specs.declared.call.Refusal.{Refusal}
use Rattle.volume_model.specs.declared.call.Reply.TheVariants as reply
use Rattle.volume_model.specs.declared.entry.Answer.{Answer}
use Rattle.volume_model.specs.declared.entry.Entry.{Entry}
use Rattle.volume_model.specs.declared.entry.Entry.TheVariants as entry
use Rattle.volume_model.specs.declared.mark.Mark.TheVariants as mark
use Rattle.volume_model.specs.declared.mark.Rebuild.TheVariants as rebuild
use Rattle.volume_model.specs.Faults.{last_count}
use Rattle.volume_model.specs.History.{Spot}
use Rattle.volume_model.specs.OneWorker.{refused_at}
use Rattle.volume_model.specs.Rebuilds.{rebuild_of}
use Rattle.stream_steps.specs.declared.add.Added.{Added}
use Rattle.stream_steps.specs.declared.add.AdmitBarrier.{AdmitBarrier}
use Rattle.stream_steps.specs.declared.add.AdmitBarrier.TheVariants as barrier
use Rattle.stream_steps.specs.declared.add.NextPage.{NextPage}
use Rattle.stream_steps.specs.declared.add.NextPage.TheVariants as next
use Rattle.stream_steps.specs.declared.add.PageOut.{PageOut}
use Rattle.stream_steps.specs.declared.add.PageOut.TheVariants as out
use Rattle.stream_steps.specs.declared.add.PageIn.{PageIn}
use Rattle.stream_steps.specs.declared.add.PageIn.TheVariants as put
use Rattle.stream_steps.specs.Mine.{Mine, OwnCall, entries_in, with_entries, with_running, answer_placed}
use Rattle.stream_steps.specs.Steps.{AreAborts, FallsTo}
use Rattle.stream_steps.specs.Maint.{HasTurn, ForBarrier, AnswersWhole, StartsBarrier}
use Rattle.stream_steps.specs.Seen.{Seen, WaitsFor}

-- the add of that replica is the stream's open call: it has the turn, and nothing is enrolled for the whole volume
abbrev pub HasAdd : ℕ → ℕ → OwnCall → Mine → Type 0
HasAdd t r o m = HasTurn t (command.Add r) o m

-- of the add that is
abbrev pub ForAdd : ℕ → Mine → (ℕ → OwnCall → Type 0) → Type 0
ForAdd t m fact = (r : ℕ) (o : OwnCall) → HasAdd t r o m → fact r o

-- ---- its barrier

-- The barrier starts, and with it the rebuild that began so.
pub record BeginsBy (added : Added) (r : ℕ) (turn : List OwnCall) (o : OwnCall) (m m2 : Mine) : Type 0 where
  pub starts : StartsBarrier r turn o m m2
  pub source : starts.source ≡ added.source
  pub name : starts.name ≡ added.name

abbrev pub AdmitsBarrier : ℕ → List OwnCall → OwnCall → AdmitBarrier → Mine → Mine → Type 0
AdmitsBarrier r turn o (barrier.Go added) m m2 = BeginsBy added r turn o m m2
AdmitsBarrier r turn o (barrier.After other) m m2 = m2 ≡ m
AdmitsBarrier r turn o barrier.Never m m2 = m2 ≡ m
AdmitsBarrier r turn o barrier.Refused m m2 = (why : Refusal) × AnswersWhole o (reply.Refused why) m m2
    × IfSome m.log (λ log. refused_at log.spot o.call ≡ Some why)

-- where it starts, the rebuild is open from another replica, both of them of so many
pub record IsFromOther (source r replicas : ℕ) (begun : ℕ → ℕ → Type 0) : Type 0 where
  pub is : begun source r
  pub from : source < replicas
  pub to : r < replicas
  pub apart : source ≢ r

abbrev pub IfBegun : AdmitBarrier → ℕ → ℕ → (ℕ → ℕ → Type 0) → Type 0
IfBegun (barrier.Go added) r replicas begun = IsFromOther added.source r replicas begun
IfBegun a r replicas begun = Unit {0}

-- where it has to wait, no rebuild was begun, if none was
abbrev pub IsStillUnbegun : AdmitBarrier → Type 0 → Type 0 → Type 0
IsStillUnbegun (barrier.After other) before now = before → now
IsStillUnbegun a before now = Unit {0}

-- What asking it to start makes of the rebuild of the add: where it starts, the rebuild is begun so; where it has to wait,
-- and where memory ran out, none is, if none was; and that of a replica that is there may never start only where one was.
pub record BeginsRebuild {E : Type 0} (t : ℕ) (answer : Result AdmitBarrier E) (m : Mine) (starts : ℕ → ℕ → Type 0)
    (none none_still : Type 0) : Type 0 where
  pub begun : IfOk answer (λ a. ForBarrier t m (λ r turn o. IfBegun a r m.replicas starts))
  pub unbegun : IfOk answer (λ a. IsStillUnbegun a none none_still)
  pub never : answer ≡ Ok barrier.Never → ForBarrier t m (λ r turn o. r < m.replicas → ¬ none)
  pub kept : OnErr answer (none → none_still)

-- the first ticket in its way is that one
abbrev pub WaitsBarrier : ℕ → AdmitBarrier → Seen → Type 0
WaitsBarrier t (barrier.After other) s = WaitsFor s.tickets t other
WaitsBarrier t a s = Unit {0}

-- no earlier call is in the way
abbrev pub IsNoWait : AdmitBarrier → Type 0
IsNoWait (barrier.After other) = ⊥
IsNoWait a = Unit {0}

-- ---- pages

-- What was true of the rebuild is true still: where its aborted mark stands, what the source has of its pages, and that it
-- was begun. No more pages are left.
pub record KeepsRebuild {S : Type 0} (aborted : S → ℕ → Type 0) (of_page : S → PageRef → Table → Type 0)
    (opened : S → Bool → ℕ → ℕ → Type 0) (count : S → ℕ) (s s2 : S) : Type 0 where
  pub ended : (place : ℕ) → aborted s place → aborted s2 place
  pub pages : (page : PageRef) (table : Table) → of_page s page table → of_page s2 page table
  pub begun : (source r : ℕ) → opened s true source r → opened s2 true source r
  pub fewer : count s2 ≤ count s

-- and each page that waited waits
pub record KeepsPages {S : Type 0} (aborted : S → ℕ → Type 0) (of_page : S → PageRef → Table → Type 0)
    (opened : S → Bool → ℕ → ℕ → Type 0) (count : S → ℕ) (waits : S → PageRef → Type 0) (s s2 : S) : Type 0 where
  pub rebuild : KeepsRebuild aborted of_page opened count s s2
  pub awaits : (page : PageRef) → waits s page → waits s2 page

-- a page that waits goes out into one that is lent
pub record GoesOut (page : PageRef) (into : Table) (waits : PageRef → Type 0) : Type 0 where
  pub awaits : waits page
  pub lent : IsLent into

-- a page that waits comes in, with what the source has of it
pub record ComesIn (page : PageRef) (table : Table) (waits : PageRef → Type 0) (of_page : PageRef → Table → Type 0)
    : Type 0 where
  pub awaits : waits page
  pub blocks : of_page page table

-- a page that waits to be copied, of as many as before; none, where none was left; or the rebuild's aborted mark stands
-- there
abbrev pub TakesNext : NextPage → (PageRef → Type 0) → (ℕ → Type 0) → ℕ → ℕ → Type 0
TakesNext (next.Page page) awaits aborted before left = awaits page × (0 < left) × (left ≡ before)
TakesNext next.All awaits aborted before left = (left ≡ 0) × (left ≡ before)
TakesNext (next.Ended place) awaits aborted before left = aborted place

-- what the source itself has of the page, of as many as before: no block, or these
abbrev pub TakesOut : PageOut → PageRef → Table → (PageRef → Table → Type 0) → (ℕ → Type 0) → ℕ → ℕ → Type 0
TakesOut out.Empty page table is_page aborted before left = is_page page [] × (left ≡ before)
TakesOut out.Blocks page table is_page aborted before left = is_page page table × HasBlock table × (left ≡ before)
TakesOut (out.Ended place) page table is_page aborted before left = aborted place

-- one page fewer is left
abbrev pub PutsIn : PageIn → (ℕ → Type 0) → ℕ → ℕ → Type 0
PutsIn put.Listed aborted before now = now + 1 ≡ before
PutsIn (put.Ended place) aborted before now = aborted place

-- The line that failed is that to the source or to the replica that is rebuilt, and its count is above that of its last
-- mark, so that the core has to take it.
pub record IsCopyFault (r count : ℕ) (begun : ℕ → ℕ → Type 0) (m : Mine) : Type 0 where
  pub end : (source target : ℕ) × begun source target × ((r ≡ source) ⊎ (r ≡ target))
  pub above : last_count m.stream r (entries_in m.entries) < count

-- it is marked, unless the replica had failed, and the rebuild's aborted mark stands at that place
pub record FallsAt (r count place : ℕ) (aborted : ℕ → Type 0) (m m2 : Mine) : Type 0 where
  pub fell : FallsTo r count m m2 ⊎ (m2 ≡ m)
  pub is : aborted place

-- ---- its end

-- the add is not answered, and its rebuild is kept so
pub record LeavesOpen (m m2 : Mine) (keeps : Type 0) : Type 0 where
  pub same : m2 ≡ m
  pub kept : keeps

-- the mark tells that the replica is promoted, and the add is answered that it is done
pub record Promotes (r : ℕ) (o : OwnCall) (m m2 : Mine) : Type 0 where
  pub spot : Spot
  pub answer : Answer
  pub is : m2 ≡ with_entries m (answer_placed spot answer ∷ []) (entry.Mark (mark.Promoted r) ∷ entry.Answer answer ∷ []) []
  pub call : answer.call ≡ o.call
  pub by : answer.stream ≡ m.stream
  pub saw : answer.saw ≡ o.saw
  pub reply : answer.reply ≡ reply.Done

-- the add is answered that its rebuild was aborted, as the journal tells where it is known
pub record EndsAborted (r place : ℕ) (o : OwnCall) (m m2 : Mine) : Type 0 where
  pub answers : AnswersWhole o (reply.Aborted place) m m2
  pub right : IfSome m.log (λ log. rebuild_of r log.entries ≡ rebuild.Aborted place)

-- its rebuild is aborted, unless it was before, and the add is answered so
pub record AbandonsAdd (o : OwnCall) (m m2 : Mine) : Type 0 where
  pub place : ℕ
  pub marks : List Entry
  pub are : AreAborts marks
  pub spot : Spot
  pub answer : Answer
  pub is : m2 ≡ with_entries m (answer_placed spot answer ∷ []) (marks ++ entry.Answer answer ∷ []) []
  pub call : answer.call ≡ o.call
  pub by : answer.stream ≡ m.stream
  pub saw : answer.saw ≡ o.saw
  pub reply : answer.reply ≡ reply.Aborted place

-- memory ran out: the turn is given back without an answer, or so
abbrev pub LeavesAdd : OwnCall → Mine → Mine → Type 0
LeavesAdd o m m2 = (m2 ≡ with_running m []) ⊎ AbandonsAdd o m m2
