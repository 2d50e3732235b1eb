-- A seat that is lent goes on from what it had seen first.
use Rattle.std.proofs.Common.{◌≡◌, ℕ, Bool, ◌∙◌, subst, sym}
use Rattle.desk_lock.proofs.Lists.{begins_trans}
use Rattle.volume_core.specs.State.{State}
use Rattle.volume_core.specs.Streams.{MayGo}
use Rattle.world_holder.specs.Laid.{IsLater}
use Rattle.world_holder.specs.Lent.{IsSince}

-- by what it finds
pub since_later : (n : ℕ) (o s t u : State) → u ≡ t → IsLater n s t → IsSince o s → IsSince o u
since_later n o s t u same later since = subst (IsSince o) (sym same) (record {
  origin = later.origin ∙ since.origin;
  seen = begins_trans o.book.entries s.book.entries t.book.entries (later.added.0, later.added.1) since.seen;
})

-- and by what it leaves
pub since_gone : (n : ℕ) (o s t u : State) → u ≡ t → MayGo n s t → IsSince o s → IsSince o u
since_gone n o s t u same may since = subst (IsSince o) (sym same) (record {
  origin = may.origin ∙ since.origin;
  seen = begins_trans o.book.entries s.book.entries t.book.entries (may.added.0, may.added.1) since.seen;
})
