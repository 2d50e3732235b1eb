-- What follows for those that run a stream: its frames are such as are asked, and its calls are the journal's.
use Rattle.std.proofs.Common.{◌≡◌, ℕ, suc, ◌≤◌, Bool, true, false, cond, eqb, List, [], ◌∷◌, ◌++◌, map, Option, subst}
use Rattle.std.proofs.Common.{sym, refl, ap, ◌∙◌, append_assoc, ne_eqb, eq-eqb}
use Rattle.std.specs.List.{All}
use Rattle.std.proofs.lemmas.List.Elements.{All-head, All-tail}
use Rattle.volume_model.specs.declared.call.Call.{Call}
use Rattle.volume_model.specs.declared.entry.Answer.{Answer}
use Rattle.volume_model.specs.declared.entry.Entry.{Entry}
use Rattle.volume_model.specs.declared.entry.Entry.TheVariants as entry
use Rattle.volume_model.specs.PlainStep.{longest_call}
use Rattle.volume_model.specs.History.{answers_from}
use Rattle.frame_stream.specs.declared.asked.Asked.TheVariants as asked
use Rattle.frame_stream.specs.declared.frame.Frame.{Frame}
use Rattle.frame_stream.specs.Asked.{call_of, close_kind}
use Rattle.frame_stream.specs.Frames.{IsCall}
use Rattle.stream_steps.specs.Mine.{Log, longer}
use Rattle.client_worker.specs.Asks.{IsAsked}
use Rattle.client_worker.specs.Serving.{IsOwnFault, AreServed}

-- a frame that a script has as a call is one that a worker takes
pub asked_call : (f : Frame) → IsCall f → IsAsked f
asked_call f c = record {
  call = ap (λ (b : Bool). cond b asked.End (asked.Call (call_of f))) (ne_eqb f.head.kind close_kind c.1);
  short = subst (λ n. n ≤ longest_call) (sym c.0.body) c.0.most;
}

-- the calls of answers do not depend on where they stand
abbrev calls_at : ℕ → ℕ → List Entry → List Call
calls_at stream place es = map (λ (p : ℕ × Answer). p.1.call) (answers_from stream place es)

by_head : (b : Bool) (place : ℕ) (a : Answer) (more : List (ℕ × Answer))
    → map (λ (p : ℕ × Answer). p.1.call) (cond b ((place, a) ∷ more) more) ≡ cond b
    (a.call ∷ map (λ (p : ℕ × Answer). p.1.call) more) (map (λ (p : ℕ × Answer). p.1.call) more)
by_head true place a more = refl
by_head false place a more = refl

-- faults have no calls
calls-faults : (stream place : ℕ) (marks more : List Entry) → All (IsOwnFault stream) marks
    → (q : ℕ) × (calls_at stream place (marks ++ more) ≡ calls_at stream q more)
calls-faults stream place [] more all = (place, refl)
calls-faults stream place (entry.Answer a ∷ marks) more all = absurd (All-head (IsOwnFault stream) (entry.Answer a) marks all)
calls-faults stream place (entry.Mark m ∷ marks) more all =
    calls-faults stream (suc place) marks more (All-tail (IsOwnFault stream) (entry.Mark m) marks all)

-- a stream's served calls are the calls of its answers, each once and in order
pub served_calls : (stream : ℕ) (log : Option Log) (cs : List Call) (es : List Entry) → AreServed stream log cs es
    → (at : ℕ) → calls_at stream at es ≡ cs
served_calls stream log [] es served at = ap (calls_at stream at) served
served_calls stream log (c ∷ cs) es served at =
    let s = served.3 in
    let parts = served.2 ∙ ap (λ l. l ++ served.1) s.is ∙ append_assoc s.marks (entry.Answer s.answer ∷ []) served.1 in
    let skip = calls-faults stream at s.marks (entry.Answer s.answer ∷ served.1) s.faults in
    ap (calls_at stream at) parts ∙ skip.1
    ∙ by_head (eqb s.answer.stream stream) skip.0 s.answer (answers_from stream (suc skip.0) served.1)
    ∙ ap (λ (b : Bool). cond b (s.answer.call ∷ calls_at stream (suc skip.0) served.1) (calls_at stream (suc skip.0) served.1))
    (eq-eqb s.answer.stream stream s.by)
    ∙ (λ i. s.call i ∷ served_calls stream (longer log served.0) cs served.1 served.4 (suc skip.0) i)
