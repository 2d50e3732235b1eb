-- How an add ends: refused where no rebuild of it was begun, or with the place of the mark that aborted it.
use Rattle.std.proofs.Common.{◌≡◌, ℕ, Bool, true, false, cond, eqb, List, [], ◌∷◌, ◌++◌, refl, sym, ap, subst, ◌∙◌}
use Rattle.std.specs.Prelude.{Option, None, Some, IfSome}
use Rattle.std.proofs.lemmas.Bool.{eq-eqb}
use Rattle.volume_model.specs.declared.command.Command.{Command}
use Rattle.volume_model.specs.declared.command.Command.TheVariants as command
use Rattle.volume_model.specs.declared.call.Call.TheVariants as call
use Rattle.volume_model.specs.declared.call.Refusal.{Refusal}
use Rattle.volume_model.specs.declared.call.Reply.TheVariants as reply
use Rattle.volume_model.specs.declared.entry.Answer.{Answer}
use Rattle.volume_model.specs.declared.entry.Entry.{Entry}
use Rattle.volume_model.specs.declared.entry.Entry.TheVariants as entry
use Rattle.volume_model.specs.declared.mark.Rebuild.{Rebuild}
use Rattle.volume_model.specs.declared.mark.Rebuild.TheVariants as rebuild
use Rattle.volume_model.specs.History.{IsEnded, EndsAdd}
use Rattle.volume_model.specs.PlainStep.{after_call}
use Rattle.volume_model.specs.Rebuilds.{added_by, rebuild_of, rebuild_after_add}
use Rattle.volume_model.proofs.RebuildLemmas.{rebuild_of-push}
use Rattle.range_turns.specs.declared.ticket.Ticket.{Ticket}
use Rattle.open_calls.specs.declared.maint.MaintCall.{MaintCall}
use Rattle.open_calls.specs.Maint.{IsMaint, command_at}
use Rattle.open_rebuild.specs.declared.rebuilding.Rebuilding.{Rebuilding}
use Rattle.volume_core.specs.declared.world.EndedRebuild.{EndedRebuild}
use Rattle.volume_core.specs.State.{State, told_of, modes_in}
use Rattle.volume_core.specs.Sound.{IsSound, AreAdds, how_far}
use Rattle.volume_maint.specs.Answers.{HasNoRebuild, MayBeDone, MayEnd}
use Rattle.volume_maint.proofs.Adds.{no_rebuild}
use Rattle.volume_maint.proofs.Refusals.{told_right, purge_right, backup_right, by_done}

-- ---- what the journal tells of rebuilds

same_either : (t : Bool) → cond t rebuild.Unasked rebuild.Unasked ≡ rebuild.Unasked
same_either true = refl
same_either false = refl

-- behind the answer of the command that has the turn none was asked for
pub still_unasked : (q : ℕ) (x : Option ℕ) → rebuild_after_add q rebuild.Unasked x ≡ rebuild.Unasked
still_unasked q None = refl
still_unasked q (Some p) = same_either (eqb p q)

no_more : (t : Bool) (place : ℕ) → cond t rebuild.Unasked (cond t (rebuild.Aborted place) rebuild.Unasked) ≡ rebuild.Unasked
no_more true place = refl
no_more false place = refl

cleared_none : (maint : List Ticket) (commands : List MaintCall) (g : Option EndedRebuild) (a : Answer)
    → a.call ≡ call.Command (command_at commands 0).command → AreAdds maint commands None g
    → (q : ℕ) → rebuild_after_add q (how_far None g q) (added_by a.call) ≡ rebuild.Unasked
cleared_none maint commands None a is adds q = still_unasked q (added_by a.call)
cleared_none maint commands (Some e) a is adds q =
    ap (rebuild_after_add q (how_far None (Some e) q))
    (ap added_by is ∙ ap (λ (c : Command). added_by (call.Command c)) adds.of_ended.turn.command)
    ∙ no_more (eqb e.target q) e.place

pub cleared : (es : List Entry) (maint : List Ticket) (commands : List MaintCall) (b : Option Rebuilding)
    (g : Option EndedRebuild) (a : Answer) → b ≡ None → a.call ≡ call.Command (command_at commands 0).command
    → AreAdds maint commands b g → ((q : ℕ) → rebuild_of q es ≡ how_far b g q) → (q : ℕ)
    → rebuild_of q (es ++ entry.Answer a ∷ []) ≡ rebuild.Unasked
cleared es maint commands b g a none is adds far q =
    rebuild_of-push q es (entry.Answer a) ∙ ap (λ (x : Rebuild). rebuild_after_add q x (added_by a.call))
    (far q ∙ ap (λ (x : Option Rebuilding). how_far x g q) none)
    ∙ cleared_none maint commands g a is (subst (λ (x : Option Rebuilding). AreAdds maint commands x g) none adds) q

-- ---- none was begun

abbrev IsNoAdd : Command → Type 0
IsNoAdd (command.Add r) = ⊥
IsNoAdd c = Unit {0}

-- of the command that has the turn
pub unbegun : (s : State) → AreAdds s.maint s.commands s.rebuild s.ended → (c : Command)
    → (command_at s.commands 0).command ≡ c → HasNoRebuild s c → (s.rebuild ≡ None) × (s.ended ≡ None)
unbegun s adds (command.Add r) is has = has
unbegun s adds c is has = no_rebuild s.maint s.commands s.rebuild s.ended adds (λ r e. subst IsNoAdd (sym is ∙ e) tt)

-- none is open where one was aborted
pub none_beside : (b : Option Rebuilding) (g : Option EndedRebuild) → IfSome b (λ x. g ≡ None) → (e : EndedRebuild) → g ≡ Some e → b ≡ None
none_beside None g one e is = refl
none_beside (Some b) g one e is = absurd (none_some (sym one ∙ is))
  where
    none_some : None ≡ Some e → ⊥
    none_some f = cc

-- ---- how it ends

-- it is done
pub done_ends : (s : State) (stream saw index : ℕ) (c : Command) → MayEnd s c reply.Done
    → IsEnded (added_by (call.Command c)) s.book.entries (told_of s) (modes_in s)
    (record { call = call.Command c; reply = reply.Done; index = index; saw = saw; stream = stream })
done_ends s stream saw index = by_done s
    (λ c. IsEnded (added_by (call.Command c)) s.book.entries (told_of s) (modes_in s)
    (record { call = call.Command c; reply = reply.Done; index = index; saw = saw; stream = stream }))
    (λ may. purge_right s stream saw index may.0 may.1)
    (λ backup snapshot free. backup_right s stream saw index backup snapshot free)

-- and then it is no add
pub done_no_add : (s : State) (c : Command) → MayBeDone s c → (r : ℕ) → c ≡ command.Add r → ⊥
done_no_add s c may r e = subst (MayBeDone s) e may

-- and leaves the plain volume
pub done_leaves : (s : State) (c : Command) → MayBeDone s c → after_call (told_of s) (call.Command c) ≡ told_of s
done_leaves s = by_done s (λ c. after_call (told_of s) (call.Command c) ≡ told_of s) (λ may. refl) (λ backup snapshot free. refl)

module _ (s : State) (ok : IsSound s) (stream saw index : ℕ) where
  abbrev refused_so : Command → Refusal → Answer
  refused_so c why = record { call = call.Command c; reply = reply.Refused why; index = index; saw = saw; stream = stream }

  abbrev Ends : Command → Refusal → Type 0
  Ends c why = IsEnded (added_by (call.Command c)) s.book.entries (told_of s) (modes_in s) (refused_so c why)

  -- a command is refused
  pub refused_ends : (c : Command) (why : Refusal) → IsMaint c → MayEnd s c (reply.Refused why) → Ends c why
  refused_ends (command.Snapshot name) why wants may = absurd wants
  refused_ends (command.Remove name) why wants may = told_right s stream saw index (command.Remove name) why may.0.0 tt may.0.1
  refused_ends (command.Revert name) why wants may = told_right s stream saw index (command.Revert name) why may.0.0 tt may.0.1
  refused_ends command.Purge why wants may = told_right s stream saw index command.Purge why may.0.0 tt may.0.1
  refused_ends (command.Backup backup snapshot) why wants may =
      told_right s stream saw index (command.Backup backup snapshot) why may.0.0 tt may.0.1
  refused_ends command.Status why wants may = absurd wants
  refused_ends (command.Fail r) why wants may = absurd wants
  refused_ends (command.Add r) why wants may =
      let unasked : rebuild_of r s.book.entries ≡ rebuild.Unasked =
      ok.on.told.ordered.rebuild r ∙ ap (λ (x : Option Rebuilding). how_far x s.ended r) may.1.0
      ∙ ap (λ (x : Option EndedRebuild). how_far None x r) may.1.1 in
      subst (λ (x : Rebuild). EndsAdd x s.book.entries (told_of s) (modes_in s) (refused_so (command.Add r) why) r) (sym unasked)
      (told_right s stream saw index (command.Add r) why may.0.0 tt may.0.1, refl)

-- the rebuild of an add was aborted
pub aborted_far : (s : State) → IsSound s → (r place : ℕ) → s.rebuild ≡ None
    → s.ended ≡ Some (record { target = r; place = place }) → rebuild_of r s.book.entries ≡ rebuild.Aborted place
aborted_far s ok r place none was =
    ok.on.told.ordered.rebuild r ∙ ap (λ (x : Option Rebuilding). how_far x s.ended r) none
    ∙ ap (λ (x : Option EndedRebuild). how_far None x r) was
    ∙ ap (λ (t : Bool). cond t (rebuild.Aborted place) rebuild.Unasked) (eq-eqb r r refl)
