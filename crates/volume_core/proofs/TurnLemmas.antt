-- Lemmas on the command that has the maintenance turn, and on its end.
use Rattle.std.proofs.Common.{◌≡◌, ◌≢◌, ℕ, zero, suc, Bool, cond, eqb, List, [], ◌∷◌, length, sym, refl, ap, subst, arith, ne_eqb}
use Rattle.std.specs.List.{remove}
use Rattle.std.specs.Prelude.{Option, None}
use Rattle.volume_model.specs.Names.{AreNamed}
use Rattle.volume_model.proofs.NamesLemmas.{stay_named}
use Rattle.range_turns.specs.declared.ticket.Ticket.{Ticket}
use Rattle.range_turns.specs.Order.{StandsAt}
use Rattle.open_calls.specs.declared.maint.MaintCall.{MaintCall}
use Rattle.open_calls.specs.Maint.{command_at}
use Rattle.open_rebuild.specs.declared.rebuilding.Rebuilding.{Rebuilding}
use Rattle.volume_core.specs.declared.world.EndedRebuild.{EndedRebuild}
use Rattle.volume_core.specs.State.{State, told_of, opening_of}
use Rattle.volume_core.specs.Sound.{IsSound, AreAdds}
use Rattle.volume_core.specs.Streams.{commands_in}
use Rattle.volume_core.specs.Turn.{ForAsker}

-- ---- the commands of a stream

abbrev Pairs : Type 0
Pairs = List (Ticket × MaintCall)

pub without_head : (n : ℕ) (t : Ticket) (c : MaintCall) (ts : List Ticket) (cs : List MaintCall) → c.stream ≢ n
    → commands_in n (t ∷ ts) (c ∷ cs) ≡ commands_in n ts cs
without_head n t c ts cs e = ap (λ (b : Bool). cond b ((t, c) ∷ commands_in n ts cs) (commands_in n ts cs)) (ne_eqb c.stream n e)

-- it is gone
pub commands-remove_other : (n : ℕ) (ts : List Ticket) (cs : List MaintCall) (k : ℕ) → length cs ≡ length ts
    → (command_at cs k).stream ≢ n → commands_in n (remove ts k) (remove cs k) ≡ commands_in n ts cs
commands-remove_other n [] [] zero e b = refl
commands-remove_other n [] [] (suc k) e b = refl
commands-remove_other n [] (d ∷ cs) k e b = absurd (omega arith)
commands-remove_other n (u ∷ ts) [] k e b = absurd (omega arith)
commands-remove_other n (u ∷ ts) (d ∷ cs) zero e b = sym (without_head n u d ts cs b)
commands-remove_other n (u ∷ ts) (d ∷ cs) (suc k) e b =
    ap (λ (ps : Pairs). cond (eqb d.stream n) ((u, d) ∷ ps) ps) (commands-remove_other n ts cs k (omega arith) b)

-- ---- for the stream whose command has that ticket

pub for_asker : (s : State) (t k : ℕ) (fact : ℕ → Type 0) → StandsAt s.maint t k → fact (command_at s.commands k).stream → ForAsker s t fact
for_asker s t k fact at is = λ j stands. subst (λ n. fact (command_at s.commands n).stream) (stands.only k at.within at.is) is

-- ---- where no rebuild is open

-- whichever commands there are
pub none_adds : (maint : List Ticket) (commands : List MaintCall) (b : Option Rebuilding) (g : Option EndedRebuild)
    → (b ≡ None) × (g ≡ None) → AreAdds maint commands b g
none_adds maint commands b g none =
    subst (λ (x : Option EndedRebuild). AreAdds maint commands b x) (sym none.1)
    (subst (λ (x : Option Rebuilding). AreAdds maint commands x None) (sym none.0) (record { of_begun = tt; of_ended = tt; one = tt }))

-- ---- what the journal tells

pub told_named : (s : State) → IsSound s → AreNamed (told_of s)
told_named s ok = stay_named (opening_of s) s.book.entries ok.on.told.legal ok.on.opened.named
