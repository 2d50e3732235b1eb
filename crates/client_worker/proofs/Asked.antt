-- A replica that is asked acknowledges, or has failed: what stood against each step.
use Rattle.std.proofs.Common.{arith, ◌≡◌, ◌≢◌, ℕ, ◌<◌, ◌⊎◌, inl, inr, true, false, Option, List, length, set, is_ok, is_err, Result, Ok}
use Rattle.std.proofs.Common.{Err, OnOk, OnErr, IfErr, subst, sym, refl, ap, ◌∙◌}
use Rattle.std.proofs.lemmas.List.{get_or-set_same, length-set}
use Rattle.volume_model.specs.declared.call.Call.{Call}
use Rattle.volume_model.specs.declared.call.Call.TheVariants as call
use Rattle.volume_model.specs.declared.mode.Mode.{Mode}
use Rattle.volume_model.specs.declared.mode.Mode.TheVariants as mode
use Rattle.volume_model.specs.Faults.{last_count}
use Rattle.volume_model.specs.Modes.{mode_of}
use Rattle.step_answers.specs.declared.parts.Part.{Part}
use Rattle.step_answers.specs.declared.parts.Part.TheVariants.{Apart, Taken, Acked}
use Rattle.step_answers.specs.Parts.{part_at, IsTaken}
use Rattle.step_answers.specs.declared.answers.NotThis.{NotThis}
use Rattle.step_answers.specs.declared.answers.NotThis.TheVariants as against
use Rattle.stream_steps.specs.Mine.{Mine, OwnCall, IsOwn, entries_in}
use Rattle.stream_steps.specs.Steps.{IsReadCall, AcksTo}
use Rattle.stream_steps.specs.Against.{RefusesAck, RefusesFault, RefusesEnd}
use Rattle.client_worker.specs.Ends.{NoneAcked}
use Rattle.client_worker.specs.Serving.{KeepsOpen}
use Rattle.client_worker.specs.Asking.{HasTaken, HasAcked, AckedOrFailed, AckedOrUnread, Falls}
use Rattle.client_worker.proofs.Going.{one_of}

-- ---- refused

fault_failed : (modes : List Mode) (m : Mine) (r count : ℕ) (why : NotThis)
    → last_count m.stream r (entries_in m.entries) < count → RefusesFault modes m r count why → mode_of modes r ≡ mode.Err
fault_failed modes m r count (against.Mode x) above h = sym h.0 ∙ h.1
fault_failed modes m r count (against.Count last) above h = absurd (omega (arith, above, h.0, h.1))
fault_failed modes m r count against.Ticket above h = absurd h
fault_failed modes m r count against.Page above h = absurd h
fault_failed modes m r count (against.Pending q) above h = absurd h

end_unacked : (modes : List Mode) (o : OwnCall) (c : Call) (parts : List Part) (why : NotThis) → IsReadCall c → o.call ≡ c
    → RefusesEnd modes o why → (r : ℕ) → part_at o.parts r ≢ Acked
end_unacked modes o (call.Read offset n) parts (against.Pending q) w e h = by o.call e h
  where
    by : (c : Call) → c ≡ call.Read offset n → RefusesEnd modes (record o { call = c }) (against.Pending q) → (r : ℕ)
        → part_at o.parts r ≢ Acked
    by (call.Read offset2 k) same a = a.1
    by (call.Write offset2 bytes) same a = cc
    by call.Ping same a = a.1
    by (call.Other k) same a = a.1
    by (call.Command c) same a = a.1
end_unacked modes o (call.Read offset n) parts against.Ticket w e h = absurd h
end_unacked modes o (call.Read offset n) parts against.Page w e h = absurd h
end_unacked modes o (call.Read offset n) parts (against.Mode x) w e h = absurd h
end_unacked modes o (call.Read offset n) parts (against.Count x) w e h = absurd h
end_unacked modes o (call.Write offset bytes) parts why w e h = absurd w
end_unacked modes o call.Ping parts why w e h = absurd w
end_unacked modes o (call.Other k) parts why w e h = absurd w
end_unacked modes o (call.Command c) parts why w e h = absurd w

pub fault_why : (res : Result (Unit {0}) NotThis) (modes : List Mode) (m : Mine) (r count : ℕ)
    → last_count m.stream r (entries_in m.entries) < count → OnOk res (mode_of modes r ≡ mode.Err)
    → IfErr res (RefusesFault modes m r count) → mode_of modes r ≡ mode.Err
fault_why (Ok u) modes m r count above ok why = ok
fault_why (Err x) modes m r count above ok why = fault_failed modes m r count x above why

-- a read that cannot end was acknowledged by nobody
pub none_why : (res : Result ℕ NotThis) (t : ℕ) (modes : List Mode) (a b : Mine) → is_ok res ≡ false → OnErr res (b ≡ a)
    → IfErr res (λ why. (o : OwnCall) → IsOwn t o a → RefusesEnd modes o why)
    → ((o : OwnCall) × IsOwn t o a × IsReadCall o.call) → NoneAcked b
none_why (Ok n) t modes a b e err why op = absurd cc
none_why (Err x) t modes a b e err why op = λ o run.
    let same : o ≡ op.0 = one_of o op.0 (sym run ∙ ap (λ (m : Mine). m.running) err ∙ op.1.is) in
    subst (λ (p : OwnCall). (r : ℕ) → part_at p.parts r ≢ Acked) (sym same)
    (end_unacked modes op.0 op.0.call op.0.parts x op.2 refl (why op.0 op.1))

-- ---- the part of a replica

part_here : (parts : List Part) (r : ℕ) (p : Part) → r < length (set parts r p) → part_at (set parts r p) r ≡ p
part_here parts r p inside = get_or-set_same parts r p Apart (omega (arith, inside, length-set parts r p))

pub has_taken : (o : OwnCall) (r : ℕ) (buffer : List ℕ) → HasTaken (record o { buffer = buffer; parts = set o.parts r Taken }) r
has_taken o r buffer = λ inside. subst IsTaken (sym (part_here o.parts r Taken inside)) tt

not_refused : (modes : List Mode) (o : OwnCall) (r : ℕ) (why : NotThis) → HasTaken o r → RefusesAck modes o r why
    → HasAcked o r ⊎ (mode_of modes r ≡ mode.Err)
not_refused modes o r (against.Mode m) taken h = inr (sym h.0 ∙ h.1)
not_refused modes o r (against.Pending q) taken h = inl (λ inside. absurd (h.1 (taken inside)))
not_refused modes o r against.Ticket taken h = absurd h
not_refused modes o r against.Page taken h = absurd h
not_refused modes o r (against.Count n) taken h = absurd h

-- what an acknowledgement leaves
pub acked_why : (res : Result (Unit {0}) NotThis) (t r : ℕ) (modes : List Mode) (o : OwnCall) (a b : Mine) → IsOwn t o a → HasTaken o r
    → OnOk res ((x : OwnCall) → IsOwn t x a → AcksTo x r a b) → OnErr res (b ≡ a)
    → IfErr res (λ why. (x : OwnCall) → IsOwn t x a → RefusesAck modes x r why) → AckedOrFailed modes r b
acked_why (Ok u) t r modes o a b own taken ok err why = λ p run.
    let same : p ≡ record o { parts = set o.parts r Acked } =
    one_of p (record o { parts = set o.parts r Acked }) (sym run ∙ ap (λ (m : Mine). m.running) (ok o own)) in
    subst (λ (x : OwnCall). HasAcked x r ⊎ (mode_of modes r ≡ mode.Err)) (sym same) (inl (λ inside. part_here o.parts r Acked inside))
acked_why (Err x) t r modes o a b own taken ok err why = λ p run.
    let same : p ≡ o = one_of p o (sym run ∙ ap (λ (m : Mine). m.running) err ∙ own.is) in
    subst (λ (y : OwnCall). HasAcked y r ⊎ (mode_of modes r ≡ mode.Err)) (sym same) (not_refused modes o r x taken (why o own))

-- of a replica that has failed
pub falls_goes : (res : Result (Unit {0}) (Option ℕ)) (modes : List Mode) (r : ℕ) (a b : Mine) → is_err res ≡ true
    → IfErr res (Falls modes r a b) → KeepsOpen a b
falls_goes (Ok u) modes r a b e h = absurd cc
falls_goes (Err next) modes r a b e h = h.goes

-- one that has failed is not read
pub failed_unread : (modes : List Mode) (r : ℕ) (m : Mine) → AckedOrFailed modes r m → AckedOrUnread modes r m
failed_unread modes r m asked o run = elim (asked o run) [
  | inl acked ↦ inl acked
  | inr failed ↦ inr (λ e. no_mode (sym failed ∙ e))
]
  where
    no_mode : mode.Err ≡ mode.Rw → ⊥
    no_mode e = cc
