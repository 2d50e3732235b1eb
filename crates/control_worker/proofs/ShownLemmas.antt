-- What lines show of the stream while it answers commands: of a command there is nothing to show but the counts.
use Rattle.std.proofs.Common.{◌≡◌, ◌≤◌, ℕ, List, [], ◌∷◌, get_or, Option, Result, Ok, Err, OnOk, OnErr, subst, sym, refl, ap}
use Rattle.volume_model.specs.declared.call.Call.{Call}
use Rattle.volume_model.specs.declared.call.Call.TheVariants as call
use Rattle.volume_model.specs.declared.entry.Answer.{Answer}
use Rattle.volume_model.specs.declared.entry.Entry.{Entry}
use Rattle.volume_model.specs.declared.entry.Entry.TheVariants as entry
use Rattle.volume_model.specs.declared.mark.Mark.TheVariants as mark
use Rattle.volume_model.specs.History.{Spot}
use Rattle.volume_model.specs.declared.command.Command.{Command}
use Rattle.stream_steps.specs.Mine.{Placed, Mine, OwnCall, entries_in, with_entries, with_more, with_running, answer_placed, fault_placed}
use Rattle.stream_steps.specs.Steps.{FallsTo}
use Rattle.stream_steps.proofs.MineLemmas.{entries_none}
use Rattle.client_worker.specs.Exchanges.{told_in, CarriedOf}
use Rattle.client_worker.specs.Serving.{IsShown}
use Rattle.client_worker.specs.Ends.{KeepsShown}
use Rattle.client_worker.proofs.Counts.{counted_answer}
use Rattle.client_worker.proofs.Shown.{shown_same, shown_more, shown_told, no_call}

-- where no call is open
pub idle_of : (m : Mine) → m.running ≡ [] → m ≡ with_running m []
idle_of m e = ap (with_running m) e

-- entries that are not the stream's show nothing
pub shown_log : (a : Mine) (own : List Placed) (es fs : List Entry) (counts : List ℕ) (carried : List (Option (List (List ℕ))))
    → IsShown (with_entries a own es []) counts carried → IsShown (with_entries a own fs []) counts carried
shown_log a own es fs counts carried h = record {
  counted = h.counted;
  framed = h.framed;
  answered = h.answered;
  acked = h.acked;
}

-- ---- while no call is open

-- there are as many replicas, and with no call open, lines show what they showed before
pub record StaysShown (a b : Mine) : Type 0 where
  pub replicas : b.replicas ≡ a.replicas
  pub shown : KeepsShown (with_running a []) (with_running b [])

stays_idle : (a b : Mine) → with_running b [] ≡ with_running a [] → StaysShown a b
stays_idle a b e = record {
  replicas = ap (λ (m : Mine). m.replicas) e;
  shown = shown_same (with_running a []) (with_running b []) e;
}

pub stays_same : (a b : Mine) → b ≡ a → StaysShown a b
stays_same a b e = stays_idle a b (ap (λ (m : Mine). with_running m []) e)

-- other calls are open
pub stays_running : (os : List OwnCall) (a b : Mine) → b ≡ with_running a os → StaysShown a b
stays_running os a b e = stays_idle a b (ap (λ (m : Mine). with_running m []) e)

pub stays_others : (es : List Entry) (os : List OwnCall) (a b : Mine) → b ≡ with_entries a [] es os → StaysShown a b
stays_others es os a b e = record {
  replicas = ap (λ (m : Mine). m.replicas) e;
  shown = λ counts carried h. subst (λ (m : Mine). IsShown m counts carried) (sym (ap (λ (m : Mine). with_running m []) e))
      (shown_log a [] [] es counts carried (subst (λ (m : Mine). IsShown m counts carried) (sym (entries_none a [])) h));
}

-- a command is answered, whatever other entries came
pub stays_answer : (c : Command) (spot : Spot) (answer : Answer) (es : List Entry) (a b : Mine)
    → b ≡ with_entries a (answer_placed spot answer ∷ []) es [] → answer.call ≡ call.Command c → StaysShown a b
stays_answer c spot answer es a b e is =
    let own = answer_placed spot answer ∷ [] in
    record {
      replicas = ap (λ (m : Mine). m.replicas) e;
      shown = λ counts carried h.
          subst (λ (m : Mine). IsShown m counts carried) (sym (ap (λ (m : Mine). with_running m []) e))
          (shown_log (with_running a []) own (entries_in own) es counts carried
          (shown_more (answer_placed spot answer) [] (with_running a []) (with_more (with_running a []) own []) counts carried refl
          (counted_answer spot answer [] (with_running a []) (with_more (with_running a []) own []) counts refl h.counted) h.framed
          (subst (λ (x : Call). CarriedOf a.replicas (told_in carried) spot.modes x answer.reply) (sym is) tt)
          h.answered (λ p no. absurd (no_call p no))));
    }

-- a line failed
pub idle_told : {E : Type 0} (res : Result (Unit {0}) E) (r count : ℕ) (a b : Mine) (counts : List ℕ)
    (carried : List (Option (List (List ℕ)))) → OnOk res (FallsTo r count a b) → OnErr res (b ≡ a)
    → count ≤ get_or counts r 0 → IsShown (with_running a []) counts carried → IsShown (with_running b []) counts carried
idle_told (Ok u) r count a b counts carried ok err low h =
    let own = fault_placed ok.spot a.stream r count ∷ [] in
    let done : Result (Unit {0}) (Unit {0}) = Ok tt in
    subst (λ (m : Mine). IsShown m counts carried) (sym (ap (λ (m : Mine). with_running m []) ok.is))
    (shown_log a own (entries_in own) (entry.Mark (mark.Fault a.stream r count) ∷ ok.aborted) counts carried
    (shown_told done r count (with_running a []) (with_more a own []) counts carried (record { spot = ok.spot; is = refl }) tt low h))
idle_told (Err e) r count a b counts carried ok err low h = (stays_same a b err).shown counts carried h
