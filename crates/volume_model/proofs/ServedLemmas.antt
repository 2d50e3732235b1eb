-- Where one worker stands behind the calls that it has answered, and how its journal goes on.
use Rattle.std.proofs.Common.{◌≡◌, ℕ, suc, ◌+◌, List, [], ◌∷◌, ◌++◌, length, refl, sym, ap, ◌∙◌, arith}
use Rattle.std.proofs.lemmas.List.{append-nil, append_assoc, length-append}
use Rattle.volume_model.specs.declared.call.Call.{Call}
use Rattle.volume_model.specs.declared.entry.Entry.{Entry}
use Rattle.volume_model.specs.declared.mode.Mode.{Mode}
use Rattle.volume_model.specs.PlainState.{PlainState}
use Rattle.volume_model.specs.History.{Spot}
use Rattle.volume_model.specs.OneWorker.{Store, behind_entries, entries_by, after_done, behind, served_from, after_calls}
use Rattle.volume_model.specs.OneWorker.{after_streams, served_streams}
use Rattle.volume_model.proofs.StepLemmas.{replay-append, modes_after-append}
use Rattle.volume_model.proofs.OneWorkerLemmas.{same_after}

-- ---- behind the entries

-- behind one list of entries, and then another
pub behind-append : (spot : Spot) (xs ys : List Entry) → behind_entries spot (xs ++ ys) ≡ behind_entries (behind_entries spot xs) ys
behind-append spot xs ys = both _ _ _ _ (replay-append spot.state xs ys) (modes_after-append spot.modes xs ys)
  where
    at : PlainState → List Mode → Spot
    at s ms = record { state = s; modes = ms }

    both : (s t : PlainState) (ms ns : List Mode) → s ≡ t → ms ≡ ns → at s ms ≡ at t ns
    both s t ms ns e f = cc

-- behind the entries of these calls the worker stands where the calls leave it
pub behind-calls : (store : Store) (spot : Spot) (stream place index : ℕ) (cs : List Call)
    → behind_entries spot (served_from store spot stream place index cs) ≡ after_calls spot cs
behind-calls store spot stream place index [] = refl
behind-calls store spot stream place index (c ∷ cs) =
    let first = entries_by (store place) spot stream place index c in
    let rest = served_from store (after_done spot c) stream (behind place first) (suc index) cs in
    behind-append spot first rest ∙ ap (λ s. behind_entries s rest) (same_after (store place) spot stream place index c)
    ∙ behind-calls store (after_done spot c) stream (behind place first) (suc index) cs

-- and behind those of these streams
pub behind-streams : (store : Store) (spot : Spot) (stream place : ℕ) (css : List (List Call))
    → behind_entries spot (served_streams store spot stream place css) ≡ after_streams spot css
behind-streams store spot stream place [] = refl
behind-streams store spot stream place (cs ∷ css) =
    let first = served_from store spot stream place 0 cs in
    let rest = served_streams store (after_calls spot cs) (suc stream) (behind place first) css in
    behind-append spot first rest ∙ ap (λ s. behind_entries s rest) (behind-calls store spot stream place 0 cs)
    ∙ behind-streams store (after_calls spot cs) (suc stream) (behind place first) css

-- ---- more calls, and one stream more

further : (place : ℕ) (xs ys : List Entry) → behind (behind place xs) ys ≡ behind place (xs ++ ys)
further place xs ys = omega (arith, length-append xs ys)

pub served_streams-push :
    (store : Store) (spot : Spot) (stream place : ℕ) (css : List (List Call)) (cs : List Call)
    → served_streams store spot stream place (css ++ cs ∷ [])
    ≡ served_streams store spot stream place css
    ++ served_from store (after_streams spot css) (stream + length css) (behind place (served_streams store spot stream place css)) 0 cs
served_streams-push store spot stream place [] cs =
    append-nil (served_from store spot stream place 0 cs) ∙ ap (λ n. served_from store spot n place 0 cs) (omega arith)
    ∙ ap (λ n. served_from store spot (stream + length {A = List Call} []) n 0 cs) (omega arith)
served_streams-push store spot stream place (ds ∷ dss) cs =
    let first = served_from store spot stream place 0 ds in
    let next = after_calls spot ds in
    let more = served_streams store next (suc stream) (behind place first) dss in
    ap (λ l. first ++ l) (served_streams-push store next (suc stream) (behind place first) dss cs)
    ∙ sym (append_assoc first more _)
    ∙ ap (λ n. (first ++ more) ++ served_from store (after_streams next dss) n (behind (behind place first) more) 0 cs) (omega arith)
    ∙ ap (λ n. (first ++ more) ++ served_from store (after_streams next dss) (stream + length (ds ∷ dss)) n 0 cs) (further place first more)
