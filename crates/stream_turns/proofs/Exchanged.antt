-- Where each stream's own entries have their exchanges on its lines, the whole journal has them.
use Rattle.std.proofs.Common.{ℕ, Bool, true, false, cond, List, [], ◌∷◌, Option, refl, subst, eq-eqb}
use Rattle.std.proofs.lemmas.List.Elements.{All-head, All-tail}
use Rattle.volume_model.specs.declared.entry.Entry.{Entry}
use Rattle.volume_model.specs.declared.entry.Entry.TheVariants as entry
use Rattle.volume_model.specs.History.{Spot}
use Rattle.volume_model.specs.OneWorker.{behind_entries}
use Rattle.stream_steps.specs.Mine.{Placed}
use Rattle.client_worker.specs.Exchanges.{IsCarried, AreCarried, CarriedHere, ExchangesShown}
use Rattle.world_holder.specs.View.{is_own, own_entries}

module _ (replicas : ℕ) (carried : ℕ → ℕ → Option (List (List ℕ))) where
  abbrev Each : Spot → List Entry → Type 0
  Each spot es = (w : ℕ) → AreCarried replicas (carried w) (own_entries w spot es)

  -- those behind the first
  behind : (w : ℕ) (b : Bool) (p : Placed) (more : List Placed) → AreCarried replicas (carried w) (cond b (p ∷ more) more)
      → AreCarried replicas (carried w) more
  behind w true p more each = All-tail (λ (q : Placed). IsCarried replicas (carried w) q.spot.modes q.entry) p more each
  behind w false p more each = each

  later : (spot : Spot) (e : Entry) (es : List Entry) → Each spot (e ∷ es) → Each (behind_entries spot (e ∷ [])) es
  later spot e es each w = behind w (is_own w e) (record { spot = spot; entry = e })
      (own_entries w (behind_entries spot (e ∷ [])) es) (each w)

  here : (spot : Spot) (e : Entry) (es : List Entry) → Each spot (e ∷ es) → CarriedHere replicas carried spot.modes e
  here spot (entry.Answer a) es each =
      let p : Placed = record { spot = spot; entry = entry.Answer a } in
      let more = own_entries a.stream (behind_entries spot (entry.Answer a ∷ [])) es in
      All-head (λ (q : Placed). IsCarried replicas (carried a.stream) q.spot.modes q.entry) p more
      (subst (λ b. AreCarried replicas (carried a.stream) (cond b (p ∷ more) more)) (eq-eqb a.stream a.stream refl) (each a.stream))
  here spot (entry.Mark m) es each = tt

  pub exchanged : (spot : Spot) (es : List Entry) → Each spot es → ExchangesShown replicas carried spot.modes es
  exchanged spot [] each = tt
  exchanged spot (e ∷ es) each = (here spot e es each, exchanged (behind_entries spot (e ∷ [])) es (later spot e es each))
