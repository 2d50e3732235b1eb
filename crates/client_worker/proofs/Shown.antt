-- What lines show of the stream, step after step.
use Rattle.std.proofs.Common.{zero, suc, true, ◌≡◌, ℕ, ◌<◌, ◌≤◌, ◌⊎◌, inl, inr, List, [], ◌∷◌, get_or, set, Option, IfSome}
use Rattle.std.proofs.Common.{Result, Ok, Err, OnOk, OnErr, subst, sym, refl, ap}
use Rattle.std.proofs.lemmas.List.Elements.{All-push}
use Rattle.volume_model.specs.declared.call.Call.{Call}
use Rattle.volume_model.specs.declared.call.Call.TheVariants as call
use Rattle.volume_model.specs.declared.call.Reply.{Reply}
use Rattle.volume_model.specs.declared.call.Reply.TheVariants as reply
use Rattle.volume_model.specs.declared.entry.Answer.{Answer}
use Rattle.volume_model.specs.declared.mode.Mode.{Mode}
use Rattle.volume_model.specs.declared.mode.Mode.TheVariants.{Rw}
use Rattle.volume_model.specs.History.{Spot}
use Rattle.volume_model.specs.Modes.{mode_of}
use Rattle.step_answers.specs.declared.parts.Part.{Part}
use Rattle.step_answers.specs.declared.parts.Part.TheVariants.{Taken, Acked}
use Rattle.step_answers.specs.Parts.{part_at}
use Rattle.step_answers.specs.declared.answers.Job.{Job}
use Rattle.stream_steps.specs.Mine.{Placed, Mine, OwnCall, IsOwn, with_more, with_running, answer_placed, fault_placed}
use Rattle.stream_steps.specs.Steps.{HasStarted, IsUncarried, AnswersNow, Answers, Refuses, StartsCall, TakesTo, AcksTo, FaultsTo}
use Rattle.client_worker.specs.Exchanges.{told_in, CarryFrames, HasPart, AreAcked, CarriedOf, IsCarried, AreCarried}
use Rattle.client_worker.specs.Serving.{Counted, IsShown}
use Rattle.client_worker.specs.Ends.{KeepsShown, NoneAcked}
use Rattle.client_worker.specs.Asking.{TellOn, TellsFrame, LacksReply}
use Rattle.client_worker.proofs.Going.{one_of}
use Rattle.client_worker.proofs.Counts.{counted_same, counted_later, counted_answer, counted_fault}
use Rattle.client_worker.proofs.Told.{acked-on, are_carried-on, frames-on, has_part}

pub shown_same : (a b : Mine) → b ≡ a → KeepsShown a b
shown_same a b e = λ counts carried h. subst (λ (m : Mine). IsShown m counts carried) (sym e) h

-- lines that are further
pub shown_later : (m : Mine) (before now : List ℕ) (told told2 : List (Option (List (List ℕ))))
    → ((k : ℕ) → get_or before k 0 ≤ get_or now k 0) → TellOn told told2 → IsShown m before told → IsShown m now told2
shown_later m before now told told2 later on h = record {
  counted = counted_later m before now later h.counted;
  framed = frames-on told told2 on h.framed;
  answered = are_carried-on told told2 on m.replicas m.entries h.answered;
  acked = λ o e started. acked-on told told2 on o (h.acked o e started);
}

-- ---- one entry more

-- the stream has one entry more, and these calls open
pub shown_more : (x : Placed) (os : List OwnCall) (a b : Mine) (counts : List ℕ) (carried : List (Option (List (List ℕ))))
    → b ≡ with_more a (x ∷ []) os → Counted b counts → CarryFrames (told_in carried)
    → IsCarried a.replicas (told_in carried) x.spot.modes x.entry → AreCarried a.replicas (told_in carried) a.entries
    → ((o : OwnCall) → os ≡ o ∷ [] → o.started ≡ true → AreAcked (told_in carried) o) → IsShown b counts carried
shown_more x os a b counts carried e counted framed here before acked =
    subst (λ (m : Mine). IsShown m counts carried) (sym e) (record {
      counted = counted_same b (with_more a (x ∷ []) os) counts (sym e) counted;
      framed = framed;
      answered = All-push (λ (p : Placed). IsCarried a.replicas (told_in carried) p.spot.modes p.entry) a.entries x before here;
      acked = acked;
    })

shown_fault : (r count : ℕ) (a b : Mine) (counts : List ℕ) (carried : List (Option (List (List ℕ)))) → FaultsTo r count a b
    → count ≤ get_or counts r 0 → IsShown a counts carried → IsShown b counts carried
shown_fault r count a b counts carried s low h =
    shown_more (fault_placed s.spot a.stream r count) a.running a b counts carried s.is
    (counted_fault r count a b counts s low h.counted) h.framed tt h.answered h.acked

pub shown_told : {E : Type 0} (res : Result (Unit {0}) E) (r count : ℕ) (a b : Mine) (counts : List ℕ)
    (carried : List (Option (List (List ℕ)))) → OnOk res (FaultsTo r count a b) → OnErr res (b ≡ a)
    → count ≤ get_or counts r 0 → IsShown a counts carried → IsShown b counts carried
shown_told (Ok u) r count a b counts carried ok err low h = shown_fault r count a b counts carried ok low h
shown_told (Err e) r count a b counts carried ok err low h = shown_same a b err counts carried h

pub told_replicas : {E : Type 0} (res : Result (Unit {0}) E) (r count : ℕ) (a b : Mine) → OnOk res (FaultsTo r count a b)
    → OnErr res (b ≡ a) → b.replicas ≡ a.replicas
told_replicas (Ok u) r count a b ok err = ap (λ (m : Mine). m.replicas) ok.is
told_replicas (Err e) r count a b ok err = ap (λ (m : Mine). m.replicas) err

pub no_call : (o : OwnCall) → [] ≡ o ∷ [] → ⊥
no_call o e = cc

-- ---- an answer

uncarried : (n : ℕ) (told : ℕ → Option (List (List ℕ))) (modes : List Mode) (c : Call) (a : Reply) → IsUncarried c a
    → CarriedOf n told modes c a
uncarried n told modes (call.Read offset k) (reply.Read bytes) h = absurd h
uncarried n told modes (call.Read offset k) reply.Done h = tt
uncarried n told modes (call.Read offset k) (reply.Status layers ms) h = tt
uncarried n told modes (call.Read offset k) (reply.Refused why) h = tt
uncarried n told modes (call.Read offset k) (reply.Aborted place) h = tt
uncarried n told modes (call.Write offset bytes) (reply.Read read) h = tt
uncarried n told modes (call.Write offset bytes) reply.Done h = absurd h
uncarried n told modes (call.Write offset bytes) (reply.Status layers ms) h = tt
uncarried n told modes (call.Write offset bytes) (reply.Refused why) h = tt
uncarried n told modes (call.Write offset bytes) (reply.Aborted place) h = tt
uncarried n told modes call.Ping a h = tt
uncarried n told modes (call.Other k) a h = tt
uncarried n told modes (call.Command c) a h = tt

-- what the replicas acknowledged is what was answered
answered : (n : ℕ) (told : ℕ → Option (List (List ℕ))) (modes : List Mode) (c : Call) (a : Reply) (parts : List Part)
    (buffer : List ℕ) → ((r : ℕ) → part_at parts r ≡ Acked → IfSome (told r) (HasPart c buffer))
    → (a ≡ reply.Done → (r : ℕ) → mode_of modes r ≡ Rw → part_at parts r ≡ Acked)
    → ((bytes : List ℕ) → a ≡ reply.Read bytes → (bytes ≡ buffer) × ((r : ℕ) × (r < n) × (part_at parts r ≡ Acked)))
    → CarriedOf n told modes c a
answered n told modes (call.Read offset k) (reply.Read bytes) parts buffer h done read =
    let s = read bytes refl in
    let p : IfSome (told s.1.0) (HasPart (call.Read offset k) bytes) =
    subst (λ b. IfSome (told s.1.0) (HasPart (call.Read offset k) b)) (sym s.0) (h s.1.0 s.1.2) in
    (s.1.0, s.1.1, p)
answered n told modes (call.Read offset k) reply.Done parts buffer h done read = tt
answered n told modes (call.Read offset k) (reply.Status layers ms) parts buffer h done read = tt
answered n told modes (call.Read offset k) (reply.Refused why) parts buffer h done read = tt
answered n told modes (call.Read offset k) (reply.Aborted place) parts buffer h done read = tt
answered n told modes (call.Write offset bytes) (reply.Read bs) parts buffer h done read = tt
answered n told modes (call.Write offset bytes) reply.Done parts buffer h done read = λ r e. h r (done refl r e)
answered n told modes (call.Write offset bytes) (reply.Status layers ms) parts buffer h done read = tt
answered n told modes (call.Write offset bytes) (reply.Refused why) parts buffer h done read = tt
answered n told modes (call.Write offset bytes) (reply.Aborted place) parts buffer h done read = tt
answered n told modes call.Ping a parts buffer h done read = tt
answered n told modes (call.Other k) a parts buffer h done read = tt
answered n told modes (call.Command c) a parts buffer h done read = tt

-- it goes on of as many replicas, and what lines show of the first is shown of the second
abbrev pub ShowsOn : Mine → Mine → Type 0
ShowsOn a b = (b.replicas ≡ a.replicas) × KeepsShown a b

pub shows_same : (a b : Mine) → b ≡ a → ShowsOn a b
shows_same a b e = (ap (λ (m : Mine). m.replicas) e, shown_same a b e)

pub shows_answers : (o : OwnCall) (a b : Mine) → a.running ≡ o ∷ [] → o.started ≡ true → Answers o a b → ShowsOn a b
shows_answers o a b run started s = (
  ap (λ (m : Mine). m.replicas) s.is,
  λ counts carried h.
      shown_more (answer_placed s.spot s.answer) [] a b counts carried s.is
      (counted_answer s.spot s.answer [] a b counts s.is h.counted) h.framed
      (subst (λ c. CarriedOf a.replicas (told_in carried) s.spot.modes c s.answer.reply) (sym s.call)
      (answered a.replicas (told_in carried) s.spot.modes o.call s.answer.reply o.parts o.buffer (h.acked o run started) s.done s.read))
      h.answered (λ p e. absurd (no_call p e)),
)

pub shows_done : {A E : Type 0} (res : Result A E) (t : ℕ) (a b : Mine) → ((o : OwnCall) × IsOwn t o a × HasStarted o)
    → OnOk res ((o : OwnCall) → IsOwn t o a → Answers o a b) → OnErr res (b ≡ a) → ShowsOn a b
shows_done (Ok x) t a b op ok err = shows_answers op.0 a b op.1.is op.2.0 (ok op.0 op.1)
shows_done (Err e) t a b op ok err = shows_same a b err

-- with nothing carried, whatever was open
shows_uncarried : (spot : Spot) (answer : Answer) (c : Call) (a b : Mine) → b ≡ with_more a (answer_placed spot answer ∷ []) []
    → answer.call ≡ c → IsUncarried c answer.reply → ShowsOn a b
shows_uncarried spot answer c a b is call none = (
  ap (λ (m : Mine). m.replicas) is,
  λ counts carried h.
      shown_more (answer_placed spot answer) [] a b counts carried is (counted_answer spot answer [] a b counts is h.counted) h.framed
      (subst (λ x. CarriedOf a.replicas (told_in carried) spot.modes x answer.reply) (sym call)
      (uncarried a.replicas (told_in carried) spot.modes c answer.reply none))
      h.answered (λ p e. absurd (no_call p e)),
)

pub shows_refuses : (o : OwnCall) (a b : Mine) → Refuses o a b → ShowsOn a b
shows_refuses o a b s = shows_uncarried s.ends.spot s.ends.answer o.call a b s.ends.is s.ends.call s.uncarried

pub shows_now : (c : Call) (a b : Mine) → AnswersNow c a b → ShowsOn a b
shows_now c a b s = shows_uncarried s.spot s.answer c a b s.is s.call s.uncarried

-- ---- another open call

-- where that one shows what it has acknowledged, if it has started
shown_open : (o : OwnCall) (a b : Mine) (counts : List ℕ) (carried : List (Option (List (List ℕ))))
    → b ≡ with_running a (o ∷ []) → IsShown a counts carried → (o.started ≡ true → AreAcked (told_in carried) o)
    → IsShown b counts carried
shown_open o a b counts carried e h acked = subst (λ (m : Mine). IsShown m counts carried) (sym e) (record {
  counted = h.counted;
  framed = h.framed;
  answered = h.answered;
  acked = λ p same. subst (λ (x : OwnCall). x.started ≡ true → AreAcked (told_in carried) x) (one_of o p same) acked;
})

shows_open : (o : OwnCall) (a b : Mine) → b ≡ with_running a (o ∷ [])
    → ((counts : List ℕ) (carried : List (Option (List (List ℕ)))) → IsShown a counts carried → o.started ≡ true
    → AreAcked (told_in carried) o) → ShowsOn a b
shows_open o a b e acked =
    (ap (λ (m : Mine). m.replicas) e, λ counts carried h. shown_open o a b counts carried e h (acked counts carried h))

pub shows_starts : (o : OwnCall) (job : Job) (a b : Mine) → StartsCall o job a b → ShowsOn a b
shows_starts o job a b s = shows_open s.own a b s.is (λ counts carried h started r e. absurd (s.none r e))

-- ---- parts

-- one that took its part has not acknowledged it thereby
acked_before : (parts : List Part) (r q : ℕ) → part_at (set parts r Taken) q ≡ Acked → part_at parts q ≡ Acked
acked_before [] r q e = e
acked_before (p ∷ ps) zero zero e = absurd cc
acked_before (p ∷ ps) zero (suc q) e = e
acked_before (p ∷ ps) (suc r) zero e = e
acked_before (p ∷ ps) (suc r) (suc q) e = acked_before ps r q e

acked_now : (parts : List Part) (r q : ℕ) → part_at (set parts r Acked) q ≡ Acked → (q ≡ r) ⊎ (part_at parts q ≡ Acked)
acked_now [] r q e = inr e
acked_now (p ∷ ps) zero zero e = inl refl
acked_now (p ∷ ps) zero (suc q) e = inr e
acked_now (p ∷ ps) (suc r) zero e = inr e
acked_now (p ∷ ps) (suc r) (suc q) e = elim (acked_now ps r q e) [ inl same ↦ inl (ap suc same) | inr was ↦ inr was ]

pub shows_takes : (t r : ℕ) (o : OwnCall) (a b : Mine) → IsOwn t o a → TakesTo o r o.buffer a b → ShowsOn a b
shows_takes t r o a b own e = shows_open (record o { parts = set o.parts r Taken }) a b e
    (λ counts carried h started q was. h.acked o own.is started q (acked_before o.parts r q was))

-- where it took it at all
pub shows_taken : {E : Type 0} (res : Result (Unit {0}) E) (t r : ℕ) (o : OwnCall) (a b : Mine) → IsOwn t o a
    → OnOk res ((x : OwnCall) → IsOwn t x a → TakesTo x r x.buffer a b) → OnErr res (b ≡ a) → ShowsOn a b
shows_taken (Ok u) t r o a b own ok err = shows_takes t r o a b own (ok o own)
shows_taken (Err e) t r o a b own ok err = shows_same a b err

-- the bytes of a read may change while none has acknowledged it
pub shows_reads : (t r : ℕ) (buffer : List ℕ) (o : OwnCall) (a b : Mine) → IsOwn t o a → NoneAcked a
    → TakesTo o r buffer a b → ShowsOn a b
shows_reads t r buffer o a b own none e = shows_open (record o { buffer = buffer; parts = set o.parts r Taken }) a b e
    (λ counts carried h started q was. absurd (none o own.is q (acked_before o.parts r q was)))

-- the reply of a replica came through
pub shown_replied : {E : Type 0} (res : Result (Unit {0}) E) (t r : ℕ) (o : OwnCall) (a b : Mine) (counts : List ℕ)
    (before carried : List (Option (List (List ℕ)))) (reply : List ℕ) → IsOwn t o a
    → LacksReply o (told_in before r) reply → TellsFrame before carried r reply
    → OnOk res ((x : OwnCall) → IsOwn t x a → AcksTo x r a b) → OnErr res (b ≡ a) → IsShown a counts carried
    → IsShown b counts carried
shown_replied (Ok u) t r o a b counts before carried reply own lacks tells ok err h =
    shown_open (record o { parts = set o.parts r Acked }) a b counts carried (ok o own) h
    (λ started q now. by started q (acked_now o.parts r q now))
  where
    by : o.started ≡ true → (q : ℕ) → (q ≡ r) ⊎ (part_at o.parts q ≡ Acked) → IfSome (told_in carried q) (HasPart o.call o.buffer)
    by started q (inl same) = subst (λ k. IfSome (told_in carried k) (HasPart o.call o.buffer)) (sym same)
        (has_part o (told_in before r) (told_in carried r) reply tells lacks)
    by started q (inr was) = h.acked o own.is started q was
shown_replied (Err e) t r o a b counts before carried reply own lacks tells ok err h = shown_same a b err counts carried h
