-- What the steps of a World keep of a rebuild that is open.
use Rattle.std.proofs.Common.{◌≡◌, ℕ, List, ap, sym, ◌∙◌}
use Rattle.std.specs.Prelude.{Option, None}
use Rattle.volume_model.specs.declared.mode.Mode.{Mode}
use Rattle.range_turns.specs.declared.ticket.Ticket.{Ticket}
use Rattle.replica_node.specs.Node.{Node}
use Rattle.replica_node.specs.Room.{head_block}
use Rattle.open_calls.specs.declared.open_call.OpenCall.{OpenCall}
use Rattle.open_calls.specs.Calls.{node_at}
use Rattle.open_calls.specs.Starts.{KeepsNodes}
use Rattle.open_rebuild.specs.declared.rebuilding.Rebuilding.{Rebuilding}
use Rattle.open_rebuild.specs.Claim.{IsRebuilding}
use Rattle.open_rebuild.proofs.UnderWay.{each_rebuild, moved, HasLayers}

-- the replicas get places
pub roomed : (size : ℕ) (modes : List Mode) (ts : List Ticket) (cs : List OpenCall) (ns ms : List Node)
    (rebuild : Option Rebuilding) → KeepsNodes ns ms
    → IsRebuilding size modes ts cs None ns rebuild → IsRebuilding size modes ts cs None ms rebuild
roomed size modes ts cs ns ms rebuild keeps =
    each_rebuild size modes ts ts cs cs None None ns ms rebuild
    (λ b _ _ o. let u = o.under_way in record {
      under_way = moved size ts ts cs cs ns ms b (same_layers b.source) (same_layers b.target)
          (λ block f. same_head b.target block ∙ u.rebuilt.head block f ∙ sym (same_head b.source block))
          (λ j l writes q taken block f t. same_head q block ∙ u.writes j l writes q taken block f t) u;
      beside = o.beside;
    })
  where
    same_layers : (q : ℕ) → HasLayers (node_at ns q) (node_at ms q)
    same_layers q = record {
      layers = ap (λ (n : Node). n.layers) (keeps.same q);
      on =
          ap (λ (n : Node). n.on) (keeps.same q);
      number = ap (λ (n : Node). n.number) (keeps.same q);
    }

    same_head : (q block : ℕ) → head_block (node_at ms q) block ≡ head_block (node_at ns q) block
    same_head q block = ap (λ (n : Node). head_block n block) (keeps.same q)
