-- The lines that are asked for, one after another.
use Rattle.std.proofs.Common.{◌≡◌, ℕ, suc, ◌+◌, List, [], ◌∷◌, length, Option, Result, OnOk, sym, refl, subst, arith}
use Rattle.outer_traits.specs.Lines.{Asked, TellsMore, ask_of_line}
use Rattle.outer_traits.proofs.Lines.{TellsMore-trans}
use Rattle.script_head.specs.declared.line_plan.LinePlan.{LinePlan}
use Rattle.script_head.specs.LinePlans.{planned}
use Rattle.script_text.specs.declared.script.Script.{Script}
use Rattle.script_text.specs.declared.script.Stream.{Stream}
use Rattle.stream_turns.specs.Volume.{asks_from, asks_in, asks_to}

next : (n later : ℕ) → later ≡ n + 1 → later ≡ suc n
next n later is = omega (arith, is)

-- what a worker asked for stays so, of as many replicas, where the wiring tells the same
pub same_asked : (plans : List LinePlan) (worker many replicas : ℕ) (s t u : Option (List Asked))
    → TellsMore s t (asks_to plans worker many) → u ≡ t → many ≡ replicas → TellsMore s u (asks_to plans worker replicas)
same_asked plans worker many replicas s t u told same as_many =
    subst (λ n. TellsMore s u (asks_to plans worker n)) as_many
    (subst (λ x. TellsMore s x (asks_to plans worker many)) (sym same) told)

-- a worker asked for one line more
pub one_line_more : (plans : List LinePlan) (worker replica : ℕ) (fails : List ℕ) (s t u : Option (List Asked))
    → TellsMore s t (asks_to plans worker replica) → TellsMore t u (ask_of_line worker replica fails ∷ [])
    → fails ≡ planned plans worker replica → TellsMore s u (asks_to plans worker (replica + 1))
one_line_more plans worker replica fails s t u told more is =
    subst (λ n. TellsMore s u (asks_to plans worker n)) (sym (next replica (replica + 1) refl))
    (TellsMore-trans s t u (asks_to plans worker replica) (ask_of_line worker replica (planned plans worker replica) ∷ []) told
    (subst (λ f. TellsMore t u (ask_of_line worker replica f ∷ [])) is more))

-- one worker more asked for its lines
pub one_worker_more : (plans : List LinePlan) (many replicas worker later : ℕ) (s t u : Option (List Asked))
    → TellsMore s t (asks_from plans replicas worker) → TellsMore t u (asks_to plans worker many) → many ≡ replicas
    → later ≡ worker + 1 → TellsMore s u (asks_from plans replicas later)
one_worker_more plans many replicas worker later s t u told more as_many is =
    subst (λ n. TellsMore s u (asks_from plans replicas n)) (sym (next worker later is))
    (TellsMore-trans s t u (asks_from plans replicas worker) (asks_to plans worker replicas) told
    (same_asked plans worker many replicas t u u more refl as_many))

-- so many workers are all of them
pub all_asked : (plans : List LinePlan) (replicas worker many : ℕ) (s t : Option (List Asked))
    → TellsMore s t (asks_from plans replicas worker) → worker ≡ many → TellsMore s t (asks_from plans replicas many)
all_asked plans replicas worker many s t told all = subst (λ n. TellsMore s t (asks_from plans replicas n)) all told

-- the streams, plans and replicas are the script's
pub asked_in : {T E : Type 0} (result : Result T E) (script : Script) (plans : List LinePlan) (replicas : ℕ)
    (streams : List Stream) (s t : Option (List Asked))
    → OnOk result (TellsMore s t (asks_from plans replicas (length streams))) → plans ≡ script.lines
    → replicas ≡ script.replicas → streams ≡ script.streams → OnOk result (TellsMore s t (asks_in script))
asked_in result script plans replicas streams s t told as_planned as_many same =
    subst (λ ps. OnOk result (TellsMore s t (asks_from ps script.replicas (length script.streams)))) as_planned
    (subst (λ n. OnOk result (TellsMore s t (asks_from plans n (length script.streams)))) as_many
    (subst (λ (ss : List Stream). OnOk result (TellsMore s t (asks_from plans replicas (length ss)))) same told))
