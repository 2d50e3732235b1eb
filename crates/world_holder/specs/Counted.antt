-- What a command that has the maintenance turn may count on, whatever other streams do between two of its steps: the
-- rebuild that is open stays as it is, or it was aborted; and each snapshot that can be used keeps its copy.
use Rattle.std.specs.Prelude.{◌≡◌, ◌≢◌, ◌⊎◌, ℕ, true, List, Contains, Option, Some, None, IsSome}
use Rattle.std.proofs.Common.{inl, inr, refl, sym, ◌∙◌, subst}
use Rattle.range_turns.specs.declared.ticket.Ticket.{Ticket}
use Rattle.replica_node.specs.Held.{block_named}
use Rattle.open_calls.specs.Calls.{node_at}
use Rattle.open_calls.specs.declared.maint.MaintCall.{MaintCall}
use Rattle.open_rebuild.specs.declared.rebuilding.Rebuilding.{Rebuilding}
use Rattle.volume_model.specs.Copies.{IsCopyOf}
use Rattle.volume_core.specs.State.{State, told_of}
use Rattle.volume_core.specs.Streams.{turning}
use Rattle.desk_lock.specs.Account.{Each}

-- the frozen layers of the source have the blocks that they had
abbrev pub ArePagesKept : Rebuilding → State → State → Type 0
ArePagesKept b s s2 = (name : List ℕ) (block : ℕ) → Contains b.frozen name
    → block_named (node_at s2.nodes b.source).layers name block
    ≡ block_named (node_at s.nodes b.source).layers name block

-- the rebuild is open still, as far as it was, and once its barrier has ended with those pages
pub record GoesOn (b : Rebuilding) (s s2 : State) : Type 0 where
  pub is : s2.rebuild ≡ Some b
  pub ended : s2.ended ≡ s.ended
  pub pages : b.may_copy ≡ true → ArePagesKept b s s2

-- it was aborted, which the World keeps for its command
pub record WasAborted (s2 : State) : Type 0 where
  pub none : s2.rebuild ≡ None
  pub ended : IsSome s2.ended

-- none is open, as before, and none was aborted
pub record NoneBegan (s s2 : State) : Type 0 where
  pub none : s2.rebuild ≡ None
  pub ended : s2.ended ≡ s.ended

-- of the rebuild that is open in s, if one is
abbrev pub IsRebuildKept : Option Rebuilding → State → State → Type 0
IsRebuildKept None s s2 = NoneBegan s s2
IsRebuildKept (Some b) s s2 = GoesOn b s s2 ⊎ WasAborted s2

-- what the command of the ticket counts on, from the state s on: nothing before it has the turn
abbrev pub CountsOn : Ticket → State → State → Type 0
CountsOn t s s2 = t.started ≡ true → IsRebuildKept s.rebuild s s2

-- each snapshot that can be used can be used still, and has the copy that it had
abbrev pub AreCopiesKept : State → State → Type 0
AreCopiesKept s s2 = (name disk : List ℕ) → IsCopyOf (told_of s).volume name disk → IsCopyOf (told_of s2).volume name disk

-- so it is for the command of the ticket
abbrev pub KeepsCopies : Ticket → State → State → Type 0
KeepsCopies t s s2 = t.started ≡ true → AreCopiesKept s s2

-- for each command of the stream
abbrev pub AreAllCopiesKept : ℕ → State → State → Type 0
AreAllCopiesKept stream s s2 = Each (λ (p : Ticket × MaintCall). KeepsCopies p.0 s s2) (turning s stream)

-- what each command of the stream counts on is so
abbrev pub AreCounted : ℕ → State → State → Type 0
AreCounted stream s s2 = Each (λ (p : Ticket × MaintCall). CountsOn p.0 s s2) (turning s stream)

-- so it is for each other stream
abbrev pub AreOthersCounted : ℕ → State → State → Type 0
AreOthersCounted stream s s2 = (other : ℕ) → other ≢ stream → AreCounted other s s2

-- ---- each World is so to itself, and it goes on

kept_itself : (o : Option Rebuilding) (s : State) → s.rebuild ≡ o → IsRebuildKept o s s
kept_itself None s is = record { none = is; ended = refl }
kept_itself (Some b) s is = inl (record { is = is; ended = refl; pages = λ may name block has. refl })

pub counts_itself : (t : Ticket) (s : State) → CountsOn t s s
counts_itself t s started = kept_itself s.rebuild s refl

kept_on : (b : Rebuilding) (s s2 s3 : State) → GoesOn b s s2 → IsRebuildKept (Some b) s2 s3 → IsRebuildKept (Some b) s s3
kept_on b s s2 s3 first (inl next) = inl (record {
  is = next.is;
  ended = next.ended ∙ first.ended;
  pages = λ may name block has. next.pages may name block has ∙ first.pages may name block has;
})
kept_on b s s2 s3 first (inr next) = inr next

pub kept_later : (o : Option Rebuilding) (s s2 s3 : State) → IsRebuildKept o s s2 → IsRebuildKept s2.rebuild s2 s3
    → IsRebuildKept o s s3
kept_later None s s2 s3 first next =
    let more = subst (λ (o : Option Rebuilding). IsRebuildKept o s2 s3) first.none next in
    record { none = more.none; ended = more.ended ∙ first.ended }
kept_later (Some b) s s2 s3 (inl first) next =
    kept_on b s s2 s3 first (subst (λ (o : Option Rebuilding). IsRebuildKept o s2 s3) first.is next)
kept_later (Some b) s s2 s3 (inr first) next =
    let more = subst (λ (o : Option Rebuilding). IsRebuildKept o s2 s3) first.none next in
    inr (record { none = more.none; ended = subst IsSome (sym more.ended) first.ended })

pub counts_later : (t : Ticket) (s s2 s3 : State) → CountsOn t s s2 → CountsOn t s2 s3 → CountsOn t s s3
counts_later t s s2 s3 first next started = kept_later s.rebuild s s2 s3 (first started) (next started)

pub copies_itself : (t : Ticket) (s : State) → KeepsCopies t s s
copies_itself t s started name disk is = is

pub copies_later : (t : Ticket) (s s2 s3 : State) → KeepsCopies t s s2 → KeepsCopies t s2 s3 → KeepsCopies t s s3
copies_later t s s2 s3 first next started name disk is = next started name disk (first started name disk is)
