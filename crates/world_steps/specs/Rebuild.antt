-- What a stream knows of the rebuild of its add, and what a page that comes in makes of it.
use Rattle.std.specs.Prelude.{◌≡◌, ◌⊎◌, ℕ, not, count_by, Bool, false, true, List, [], ◌∷◌, ◌++◌}
use Rattle.std.specs.Prelude.{if◌then◌else◌, Option, None, Some}
use Rattle.sparse_image.specs.Image.{Table}
use Rattle.vol_units.specs.declared.page_ref.PageRef.{PageRef}
use Rattle.replica_node.specs.Held.{IsPageOf}
use Rattle.range_turns.specs.declared.ticket.Ticket.{Ticket}
use Rattle.open_calls.specs.Calls.{node_at}
use Rattle.open_calls.specs.declared.maint.MaintCall.{MaintCall}
use Rattle.open_rebuild.specs.declared.rebuilding.Rebuilding.{Rebuilding}
use Rattle.open_rebuild.specs.Pages.{IsFrozenPage, IsPageLeft}
use Rattle.volume_core.specs.declared.world.EndedRebuild.{EndedRebuild}
use Rattle.volume_core.specs.State.{State}
use Rattle.volume_core.specs.Steps.{has_part}
use Rattle.volume_core.specs.Streams.{turning}
use Rattle.volume_core.specs.Turn.{IsFreeTurn}
use Rattle.volume_rebuild.specs.Answers.{IsNextPage, CopiesOut, CopiesIn, IsAllListed}
use Rattle.volume_rebuild.specs.Places.{IsPast}
use Rattle.volume_model.specs.declared.call.Refusal.{Refusal}
use Rattle.volume_model.specs.declared.command.Command.TheVariants as command
use Rattle.volume_model.specs.declared.entry.Entry.{Entry}
use Rattle.volume_model.specs.declared.entry.Entry.TheVariants as entry
use Rattle.volume_model.specs.declared.mark.Mark.TheVariants as mark
use Rattle.step_answers.specs.declared.answers.AdmitWhole.TheVariants as admit
use Rattle.volume_maint.specs.Answers.{AdmitsWhole}
use Rattle.stream_steps.specs.declared.add.AdmitBarrier.{AdmitBarrier}
use Rattle.stream_steps.specs.declared.add.AdmitBarrier.TheVariants as barrier
use Rattle.stream_steps.specs.declared.add.Added.{Added}
use Rattle.stream_steps.specs.declared.add.NextPage.{NextPage}
use Rattle.stream_steps.specs.declared.add.NextPage.TheVariants as next
use Rattle.stream_steps.specs.declared.add.PageOut.{PageOut}
use Rattle.stream_steps.specs.declared.add.PageOut.TheVariants as out
use Rattle.stream_steps.specs.declared.add.PageIn.{PageIn}
use Rattle.stream_steps.specs.declared.add.PageIn.TheVariants as put
use Rattle.world_holder.specs.Counted.{WasAborted}

-- how many pages may be copied and are not listed
abbrev pub left_of : Rebuilding → ℕ
left_of b = if b.may_copy then count_by not b.listed else 0

-- of the rebuild that is open
abbrev pub left_now : Option Rebuilding → ℕ
left_now (Some b) = left_of b
left_now None = 0

-- where a rebuild is open past its barrier, these are the blocks that its source itself has of the page
abbrev pub IsPageIn : State → PageRef → Table → Type 0
IsPageIn s page table = (b : Rebuilding) → s.rebuild ≡ Some b → IsFrozenPage b page
    → IsPageOf (node_at s.nodes b.source) page.layer page.page table

-- the rebuild of the command that has the turn was aborted, and its mark stands at that place
abbrev pub IsAbortedAt : Option EndedRebuild → ℕ → Type 0
IsAbortedAt None place = ⊥
IsAbortedAt (Some e) place = e.place ≡ place

-- the page is left to copy of the rebuild that is open, or the rebuild was aborted
abbrev pub AwaitsAt : Option Rebuilding → Option EndedRebuild → PageRef → Type 0
AwaitsAt (Some b) ended page = IsPageLeft b page
AwaitsAt None (Some e) page = Unit {0}
AwaitsAt None None page = ⊥

-- the rebuild was aborted, and its mark stands at that place
pub record IsEndedAt (s : State) (place : ℕ) : Type 0 where
  pub closed : s.rebuild ≡ None
  pub ended : IsAbortedAt s.ended place

-- ---- how it begins

-- What asking a barrier to start is answered. Where it starts, its mark is the journal's last, and it is told how its rebuild
-- began.
pub record IsToldBegun (added : Added) (s2 : State) : Type 0 where
  pub front : List Entry
  pub target : ℕ
  pub is : s2.book.entries ≡ front ++ entry.Mark (mark.Added target added.source added.name) ∷ []

abbrev pub AdmitsBarrierIn : State → ℕ → AdmitBarrier → State → Type 0
AdmitsBarrierIn s t (barrier.Go added) s2 = AdmitsWhole s t admit.Go s2 × IsToldBegun added s2
AdmitsBarrierIn s t (barrier.After other) s2 = AdmitsWhole s t (admit.After other) s2
AdmitsBarrierIn s t barrier.Never s2 = AdmitsWhole s t admit.Never s2
AdmitsBarrierIn s t barrier.Refused s2 = (why : Refusal) × (place : ℕ) × AdmitsWhole s t (admit.Refused why place) s2

-- no rebuild is open, and none was aborted, of the command that has the turn
pub record IsUnbegun (s : State) : Type 0 where
  pub closed : s.rebuild ≡ None
  pub first : s.ended ≡ None

-- the rebuild is open from that source of that replica, past its barrier where that is said
pub record IsOpenFrom (s : State) (past : Bool) (source r : ℕ) : Type 0 where
  pub b : Rebuilding
  pub is : s.rebuild ≡ Some b
  pub from : b.source ≡ source
  pub to : b.target ≡ r
  pub ended : past ≡ true → b.may_copy ≡ true

-- the add of that replica is the stream's, and has the turn
pub record AddsInTurn (stream r : ℕ) (s : State) : Type 0 where
  pub p : Ticket × MaintCall
  pub turns : turning s stream ≡ p ∷ []
  pub started : p.0.started ≡ true
  pub adds : p.1.command ≡ command.Add r

-- the stream's add has the turn, and its rebuild is open so, or was aborted
pub record IsBegunIn (stream : ℕ) (s : State) (past : Bool) (source r : ℕ) : Type 0 where
  pub turn : AddsInTurn stream r s
  pub is : IsOpenFrom s past source r ⊎ WasAborted s

-- ---- how it ends

-- the replica is the source or the target of the rebuild that is open, or that was aborted
abbrev pub IsEndOf : State → ℕ → Type 0
IsEndOf s r = (has_part s.rebuild r ≡ true) ⊎ WasAborted s

-- no rebuild is open, or it is not past its barrier, or a page of it is left
abbrev pub IsUnfinished : State → Type 0
IsUnfinished s = (s.rebuild ≡ None)
    ⊎ ((b : Rebuilding) × (s.rebuild ≡ Some b) × (IsPast s b → IsAllListed b → ⊥))

-- so it is, if the command of the ticket has the turn with nothing enrolled
abbrev pub AwaitsPromotion : State → ℕ → Type 0
AwaitsPromotion s t = IsFreeTurn s t → IsUnfinished s

-- ---- what a turn does for it

-- the first page that is left to copy; none is left, of a rebuild that was not aborted; or where its aborted mark stands
abbrev pub IsNextIn : NextPage → State → Type 0
IsNextIn (next.Page page) s = IsNextPage s (Some page)
IsNextIn next.All s = (s.ended ≡ None) × IsNextPage s None
IsNextIn (next.Ended place) s = IsEndedAt s place

-- the page goes out of the source, or its rebuild was aborted
abbrev pub IsOutIn : PageOut → PageRef → Table → Table → State → Type 0
IsOutIn out.Empty page old new s = CopiesOut s page false old new
IsOutIn out.Blocks page old new s = CopiesOut s page true old new
IsOutIn (out.Ended place) page old new s = IsEndedAt s place

-- the page comes in, or its rebuild was aborted, and nothing changes
abbrev pub PutsAt : PageIn → PageRef → Table → Table → State → State → Type 0
PutsAt put.Listed page old new s s2 = CopiesIn s page old new s2
PutsAt (put.Ended place) page old new s s2 = IsEndedAt s2 place × (s2 ≡ s)
