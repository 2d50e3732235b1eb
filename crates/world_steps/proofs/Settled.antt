-- While no add has the turn, no rebuild is open and none was aborted: so the turn is given, and given back.
use Rattle.std.proofs.Common.{◌≡◌, ℕ, false, List, Option, None, Some, subst, sym, refl, ◌∙◌}
use Rattle.std.proofs.lemmas.Bool.{false≢true}
use Rattle.range_turns.specs.declared.ticket.Ticket.{Ticket}
use Rattle.range_turns.specs.Order.{ticket_at}
use Rattle.open_calls.specs.declared.maint.MaintCall.{MaintCall}
use Rattle.open_calls.specs.Maint.{command_at}
use Rattle.open_rebuild.specs.declared.rebuilding.Rebuilding.{Rebuilding}
use Rattle.volume_core.specs.declared.world.EndedRebuild.{EndedRebuild}
use Rattle.volume_core.specs.State.{State}
use Rattle.volume_core.specs.Sound.{IsSound, AreAdds, HasAdd}
use Rattle.volume_maint.specs.Steps.{abandoned_with, gives_back, turn_abandoned}
use Rattle.stream_steps.specs.Maint.{IsNoAdd}
use Rattle.world_steps.specs.Rebuild.{IsUnbegun}

-- where no add has the turn
module _ (maint : List Ticket) (commands : List MaintCall) (none : (r : ℕ) → HasAdd maint commands r → ⊥) where
  no_begun : (b : Option Rebuilding) (g : Option EndedRebuild) → AreAdds maint commands b g → b ≡ None
  no_begun None g adds = refl
  no_begun (Some b) g adds = absurd (none b.target adds.of_begun)

  no_ended : (b : Option Rebuilding) (g : Option EndedRebuild) → AreAdds maint commands b g → g ≡ None
  no_ended b None adds = refl
  no_ended b (Some e) adds = absurd (none e.target adds.of_ended)

-- so it is while the command is no add
no_add : (maint : List Ticket) (commands : List MaintCall) → IsNoAdd (command_at commands 0).command → (r : ℕ)
    → HasAdd maint commands r → ⊥
no_add maint commands other r add = subst IsNoAdd add.turn.command other

-- which gives the turn back without an answer
pub given_back : (s : State) → IsSound s → IsNoAdd (command_at s.commands 0).command → turn_abandoned s ≡ gives_back s
given_back s ok other =
    let none = no_add s.maint s.commands other in
    let begun = no_begun s.maint s.commands none s.rebuild s.ended ok.adds in
    let ended = no_ended s.maint s.commands none s.rebuild s.ended ok.adds in
    λ i. abandoned_with (begun i) (ended i) s

-- and while the first command waits
pub none_begun : (s : State) → IsSound s → (ticket_at s.maint 0).started ≡ false → IsUnbegun s
none_begun s ok waits =
    let none : (r : ℕ) → HasAdd s.maint s.commands r → ⊥ = λ r add. false≢true (sym waits ∙ add.turn.started) in
    record {
      closed = no_begun s.maint s.commands none s.rebuild s.ended ok.adds;
      first = no_ended s.maint s.commands none s.rebuild s.ended ok.adds;
    }
