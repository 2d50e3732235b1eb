-- What stays of a rebuild where heads, tickets and calls change.
use Rattle.std.proofs.Common.{◌≡◌, ◌≢◌, ⊎_elim, ◌⊎◌, inl, inr, ℕ, ◌*◌, ◌<◌, ◌≤◌, true, List, length, Option, None}
use Rattle.std.proofs.Common.{Some, refl, sym, subst, arith}
use Rattle.std.specs.Prelude.{Contains}
use Rattle.std.proofs.lemmas.Bool.{cases_lt}
use Rattle.volume_model.specs.declared.mode.Mode.{Mode}
use Rattle.range_turns.specs.declared.ticket.Ticket.{Ticket}
use Rattle.range_turns.specs.Order.{ticket_at, AreApart}
use Rattle.replica_node.specs.Node.{Kept, Node, layer_names}
use Rattle.replica_node.specs.Room.{head_block}
use Rattle.open_calls.specs.declared.open_call.OpenCall.{OpenCall}
use Rattle.open_calls.specs.Calls.{node_at}
use Rattle.open_calls.specs.Clients.{IsWriting}
use Rattle.open_calls.proofs.FreeLemmas.{held_apart}
use Rattle.open_calls.specs.declared.whole.Whole.{Whole}
use Rattle.open_rebuild.specs.Rebuild.{IsFreeBlock}
use Rattle.open_rebuild.proofs.RebuildLemmas.{head_keeps}
use Rattle.open_rebuild.specs.declared.rebuilding.Rebuilding.{Rebuilding}
use Rattle.open_rebuild.specs.Claim.{HasRoles, AreRoles, listed_of, AreWritesKept, IsUnderWay, IsClaimed, IsClaim, IsRebuilding}

-- ---- a rebuild, if one is open

-- what is kept of each that is open is kept
pub each_rebuild : (size : ℕ) (modes : List Mode) (ts us : List Ticket) (cs ds : List OpenCall) (w x : Option Whole)
    (ns ms : List Node) (rebuild : Option Rebuilding)
    → ((b : Rebuilding) → rebuild ≡ Some b → HasRoles modes b → IsClaimed size ts cs w ns b → IsClaimed size us ds x ms b)
    → IsRebuilding size modes ts cs w ns rebuild → IsRebuilding size modes us ds x ms rebuild
each_rebuild size modes ts us cs ds w x ns ms rebuild keeps k = record { roles = k.roles; claim = go rebuild keeps k.roles k.claim }
  where
    go : (o : Option Rebuilding) → ((b : Rebuilding) → o ≡ Some b → HasRoles modes b → IsClaimed size ts cs w ns b
        → IsClaimed size us ds x ms b)
        → AreRoles modes o → IsClaim size ts cs w ns o → IsClaim size us ds x ms o
    go None f roles c = tt
    go (Some b) f roles c = f b refl roles c

-- ---- other heads

-- the layers of the replica are as they were, and so is what its head stands on
pub record HasLayers (old new : Node) : Type 0 where
  pub layers : new.layers ≡ old.layers
  pub on : new.on ≡ old.on
  pub number : new.number ≡ old.number

pub moved : (size : ℕ) (ts us : List Ticket) (cs ds : List OpenCall) (ns ms : List Node) (b : Rebuilding)
    → HasLayers (node_at ns b.source) (node_at ms b.source) → HasLayers (node_at ns b.target) (node_at ms b.target)
    → ((block : ℕ) → IsFreeBlock us block → head_block (node_at ms b.target) block ≡ head_block (node_at ms b.source) block)
    → AreWritesKept us ds ms → IsUnderWay size ts cs ns b → IsUnderWay size us ds ms b
moved size ts us cs ds ns ms b s t heads writes u = record {
  pages = u.pages;
  bits = u.bits;
  frozen = λ name c. subst (λ (ks : List Kept). Contains (layer_names ks) name) (sym s.layers) (u.frozen name c);
  rebuilt = head_keeps b.frozen (listed_of b) (IsFreeBlock ts) (IsFreeBlock us) (node_at ns b.source) (node_at ns b.target)
      (node_at ms b.source) (node_at ms b.target)
      s.layers s.on s.number t.layers t.on t.number heads u.rebuilt;
  writes = writes;
}

-- ---- blocks and tickets

-- the block is none of the ticket
abbrev pub IsOutside : Ticket → ℕ → Type 0
IsOutside t block = (block < t.range.first) ⊎ (t.range.end ≤ block)

-- a block that is free is none of a started write
pub free_outside : (ts : List Ticket) (i block : ℕ) → i < length ts → IsWriting (ticket_at ts i) → IsFreeBlock ts block
    → IsOutside (ticket_at ts i) block
free_outside ts i block h w free =
    ⊎_elim
    (λ l. inl l)
    (λ g. let until = free i h w (omega (arith, g)) in inr (omega (arith, until)))
    (cases_lt block (ticket_at ts i).range.first)

-- and so is a block of another started ticket
pub other_outside : (ts : List Ticket) (i j block : ℕ) → AreApart ts → i < length ts → j < length ts → i ≢ j
    → IsWriting (ticket_at ts i) → (ticket_at ts j).started ≡ true
    → (ticket_at ts j).range.first ≤ block → block < (ticket_at ts j).range.end → IsOutside (ticket_at ts i) block
other_outside ts i j block apart h l n w started f u =
    ⊎_elim
    (λ m. inl m)
    (λ g. ⊎_elim
    (λ m. let until = held_apart ts i j (block * 4096) apart h l n w started (omega (arith, g)) (omega (arith, m)) (omega (arith, f)) in
    absurd (omega (arith, until, u)))
    (λ m. inr m)
    (cases_lt block (ticket_at ts i).range.end))
    (cases_lt block (ticket_at ts i).range.first)
