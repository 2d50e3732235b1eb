-- Where each mark of a journal stands in its command, no rebuild is open at the end; and where the journal is legal besides,
-- no replica is written alone there.
use Rattle.std.proofs.Common.{◌≡◌, ◌≢◌, ◌⊎◌, inl, inr, ⊎_elim, ℕ, eqb, cond, List, [], ◌∷◌, ◌++◌}
use Rattle.std.proofs.Common.{length, set, get_or-set_same, get_or-set_other, sym, ap, subst, ◌∙◌, arith}
use Rattle.std.specs.Prelude.{Option, None, Some}
use Rattle.std.specs.List.{Any}
use Rattle.std.proofs.lemmas.Bool.{cases_lt, cases_eq, eq-eqb, ne_eqb}
use Rattle.std.proofs.lemmas.List.{append-nil, append_assoc, length-set, get_or_past}
use Rattle.volume_model.specs.declared.command.Command.TheVariants as command
use Rattle.volume_model.specs.declared.entry.Answer.{Answer}
use Rattle.volume_model.specs.declared.entry.Entry.{Entry}
use Rattle.volume_model.specs.declared.entry.Entry.TheVariants as entry
use Rattle.volume_model.specs.declared.mark.Mark.TheVariants as mark
use Rattle.volume_model.specs.declared.mark.Rebuild.{Rebuild}
use Rattle.volume_model.specs.declared.mark.Rebuild.TheVariants as rebuild
use Rattle.volume_model.specs.declared.mode.Mode.{Mode}
use Rattle.volume_model.specs.declared.mode.Mode.TheVariants.{Rw, Wo, Err}
use Rattle.volume_model.specs.PlainState.{PlainState}
use Rattle.volume_model.specs.Replay.{replay}
use Rattle.volume_model.specs.Standing.{StandFrom}
use Rattle.volume_model.specs.Modes.{mode_of, modes_after, modes_after_entry}
use Rattle.volume_model.specs.Rebuilds.{added_by, rebuild_after_add, rebuild_after_entry, rebuild_of}
use Rattle.volume_model.specs.History.{Spot, EndsCommand, StandsInCommand, StandInCommands, IsEnded, EndsAdd, MayStand, LegalAfter, IsLegal}
use Rattle.volume_model.proofs.JournalLemmas.{unasked≢open}
use Rattle.volume_model.proofs.PurgeLemmas.{any_cases}
use Rattle.volume_model.proofs.PushLemmas.{modes_after-push}
use Rattle.volume_model.proofs.RebuildLemmas.{rebuild_of-push}

-- ---- an open rebuild

-- none of the entries answers an add of r
NoAdd : ℕ → List Entry → Type 0
NoAdd r es = (n : ℕ) → Any (EndsCommand (command.Add r) n) es → ⊥

no_more : (r : ℕ) (e : Entry) (es : List Entry) → ((n : ℕ) → EndsCommand (command.Add r) n e → ⊥) → NoAdd r es → NoAdd r (e ∷ es)
unfolding NoAdd
no_more r e es this rest n a = ⊎_elim (this n) (rest n) (any_cases (EndsCommand (command.Add r) n) e es a)

-- of two rebuilds, which one stays by the number of the replica
if_same : {X : Type 0} (q r : ℕ) (a b : X) → q ≡ r → cond (eqb q r) a b ≡ a
if_same q r a b same = ap (λ t. cond t a b) (eq-eqb q r same)

if_other : {X : Type 0} (q r : ℕ) (a b : X) → q ≢ r → cond (eqb q r) a b ≡ b
if_other q r a b apart = ap (λ t. cond t a b) (ne_eqb q r apart)

-- a mark by which the rebuild of q is `then` leaves the one of r open only where they are two
other_open : (q r s : ℕ) (then b : Rebuild) → then ≢ rebuild.Open s → cond (eqb q r) then b ≡ rebuild.Open s
    → (b ≡ rebuild.Open s) × (q ≢ r)
other_open q r s then b closed begun = ⊎_elim
    (λ same. absurd (closed (sym (if_same q r then b same) ∙ begun)))
    (λ apart. (sym (if_other q r then b apart) ∙ begun, apart))
    (cases_eq q r)

promoted≢open : (s : ℕ) → rebuild.Promoted ≢ rebuild.Open s
promoted≢open s e = cc

aborted≢open : (place s : ℕ) → rebuild.Aborted place ≢ rebuild.Open s
aborted≢open place s e = cc

same_number : (q r : ℕ) → Some q ≡ Some r → q ≡ r
same_number q r e = cc

still_open : (r s : ℕ) (b : Rebuild) (asked : Option ℕ) → rebuild_after_add r b asked ≡ rebuild.Open s
    → (b ≡ rebuild.Open s) × (asked ≢ Some r)
still_open r s b None begun = (begun, λ e. cc)
still_open r s b (Some q) begun =
    let was = other_open q r s rebuild.Unasked b (unasked≢open s) begun in
    (was.0, λ e. was.1 (same_number q r e))

-- what is open behind an entry was open before it, if no add behind it is answered
open_before : (r s : ℕ) (before : List Entry) (e : Entry) (es : List Entry) → StandsInCommand before e es
    → rebuild_after_entry r (length before) (rebuild_of r before) e ≡ rebuild.Open s → NoAdd r es
    → (rebuild_of r before ≡ rebuild.Open s) × NoAdd r (e ∷ es)
unfolding NoAdd
open_before r s before (entry.Answer a) es within begun none =
    let was = still_open r s (rebuild_of r before) (added_by a.call) begun in
    (was.0, no_more r (entry.Answer a) es (λ n ends. was.1 (ap added_by ends.0)) none)
open_before r s before (entry.Mark (mark.Purged part)) es within begun none = (begun, no_more r _ es (λ n ends. ends) none)
open_before r s before (entry.Mark (mark.Fault w q n)) es within begun none = (begun, no_more r _ es (λ n ends. ends) none)
open_before r s before (entry.Mark (mark.Failed q)) es within begun none = (begun, no_more r _ es (λ n ends. ends) none)
open_before r s before (entry.Mark (mark.Added q source name)) es within begun none = ⊎_elim
    (λ same. absurd (none (length before) (subst (λ k. Any (EndsCommand (command.Add k) (length before)) es) same within)))
    (λ apart. (sym (if_other q r _ _ apart) ∙ begun, no_more r _ es (λ n ends. ends) none))
    (cases_eq q r)
open_before r s before (entry.Mark (mark.Promoted q)) es within begun none =
    ((other_open q r s _ _ (promoted≢open s) begun).0, no_more r _ es (λ n ends. ends) none)
open_before r s before (entry.Mark (mark.Aborted q)) es within begun none =
    ((other_open q r s _ _ (aborted≢open (length before) s) begun).0, no_more r _ es (λ n ends. ends) none)

open_at_end : (r s : ℕ) (before es : List Entry) → StandFrom StandsInCommand before es → rebuild_of r (before ++ es) ≡ rebuild.Open s
    → (rebuild_of r before ≡ rebuild.Open s) × NoAdd r es
unfolding NoAdd
open_at_end r s before [] within begun =
    (subst (λ l. rebuild_of r l ≡ rebuild.Open s) (append-nil before) begun, λ n a. omega (arith, a.2))
open_at_end r s before (e ∷ es) within begun =
    let rest = open_at_end r s (before ++ e ∷ []) es within.1
    (subst (λ l. rebuild_of r l ≡ rebuild.Open s) (sym (append_assoc before (e ∷ []) es)) begun) in
    open_before r s before e es within.0 (sym (rebuild_of-push r before e) ∙ rest.0) rest.1

pub none_open : (journal : List Entry) (r s : ℕ) → StandInCommands journal → rebuild_of r journal ≢ rebuild.Open s
none_open journal r s within begun = unasked≢open s (open_at_end r s [] journal within begun).0

-- ---- a replica that is written alone

-- its rebuild is open
IsOfRebuild : Spot → List Entry → Type 0
IsOfRebuild opening before = (r : ℕ) → mode_of (modes_after opening.modes before) r ≡ Wo → (s : ℕ) × (rebuild_of r before ≡ rebuild.Open s)

rw≢wo : Rw ≢ Wo
rw≢wo e = cc

err≢wo : Err ≢ Wo
err≢wo e = cc

-- where one replica's mode is set, another's was as it is
was_wo : (modes : List Mode) (q r : ℕ) (m : Mode) → m ≢ Wo → mode_of (set modes q m) r ≡ Wo → (q ≢ r) × (mode_of modes r ≡ Wo)
was_wo modes q r m other wo = ⊎_elim
    (λ same. absurd (not_set (subst (λ k. mode_of (set modes q m) k ≡ Wo) (sym same) wo)))
    (λ apart. (apart, sym (get_or-set_other modes q r m Err (λ e. apart (sym e))) ∙ wo))
    (cases_eq q r)
  where
    not_set : mode_of (set modes q m) q ≡ Wo → ⊥
    not_set is = ⊎_elim
        (λ low. other (sym (get_or-set_same modes q m Err low) ∙ is))
        (λ high. err≢wo (sym (get_or_past (set modes q m) q Err (omega (arith, high, length-set modes q m))) ∙ is))
        (cases_lt q (length modes))

-- an add is not answered while its rebuild is open
not_answered : (before : List Entry) (state : PlainState) (modes : List Mode) (a : Answer) (asked : Option ℕ) (r s : ℕ)
    → IsEnded asked before state modes a → rebuild_of r before ≡ rebuild.Open s
    → rebuild_after_add r (rebuild_of r before) asked ≡ rebuild.Open s
not_answered before state modes a None r s ended begun = begun
not_answered before state modes a (Some q) r s ended begun = ⊎_elim
    (λ same. absurd (never (subst (λ k. rebuild_of k before ≡ rebuild.Open s) (sym same) begun)))
    (λ apart. if_other q r _ _ apart ∙ begun)
    (cases_eq q r)
  where
    never : rebuild_of q before ≡ rebuild.Open s → ⊥
    never is = subst (λ b. EndsAdd b before state modes a q) is ended

wo_behind : (opening : Spot) (before : List Entry) (e : Entry) (es : List Entry) → MayStand opening before e es
    → IsOfRebuild opening before → (r : ℕ) → mode_of (modes_after_entry (modes_after opening.modes before) e) r ≡ Wo
    → (s : ℕ) × (rebuild_after_entry r (length before) (rebuild_of r before) e ≡ rebuild.Open s)
unfolding IsOfRebuild
wo_behind opening before (entry.Answer a) es stands of r is =
    let old = of r is in
    (old.0, not_answered before (replay opening.state before) (modes_after opening.modes before) a (added_by a.call) r old.0 stands old.1)
wo_behind opening before (entry.Mark (mark.Purged part)) es stands of r is = of r is
wo_behind opening before (entry.Mark (mark.Fault w q n)) es stands of r is =
    of r (was_wo (modes_after opening.modes before) q r Err err≢wo is).1
wo_behind opening before (entry.Mark (mark.Failed q)) es stands of r is =
    of r (was_wo (modes_after opening.modes before) q r Err err≢wo is).1
wo_behind opening before (entry.Mark (mark.Added q source name)) es stands of r is = added (cases_eq q r)
  where
    added : (q ≡ r) ⊎ (q ≢ r)
        → (s : ℕ) × (cond (eqb q r) (rebuild.Open source) (rebuild_of r before) ≡ rebuild.Open s)
    added (inl same) = (source, if_same q r (rebuild.Open source) (rebuild_of r before) same)
    added (inr apart) =
        let old = of r (sym (get_or-set_other (modes_after opening.modes before) q r Wo Err (λ e. apart (sym e))) ∙ is) in
        (old.0, if_other q r (rebuild.Open source) (rebuild_of r before) apart ∙ old.1)
wo_behind opening before (entry.Mark (mark.Promoted q)) es stands of r is =
    let was = was_wo (modes_after opening.modes before) q r Rw rw≢wo is in
    let old = of r was.1 in
    (old.0, if_other q r rebuild.Promoted (rebuild_of r before) was.0 ∙ old.1)
wo_behind opening before (entry.Mark (mark.Aborted q)) es stands of r is =
    let was = was_wo (modes_after opening.modes before) q r Err err≢wo is in
    let old = of r was.1 in
    (old.0, if_other q r (rebuild.Aborted (length before)) (rebuild_of r before) was.0 ∙ old.1)

wo_at_end : (opening : Spot) (before es : List Entry) → LegalAfter opening before es → IsOfRebuild opening before
    → IsOfRebuild opening (before ++ es)
unfolding IsOfRebuild
wo_at_end opening before [] legal of = subst (IsOfRebuild opening) (sym (append-nil before)) of
wo_at_end opening before (e ∷ es) legal of = subst (IsOfRebuild opening) (append_assoc before (e ∷ []) es)
    (wo_at_end opening (before ++ e ∷ []) es legal.1 (λ r is.
    let now = wo_behind opening before e es legal.0 of r
    (subst (λ ms. mode_of ms r ≡ Wo) (modes_after-push opening.modes before e) is) in
    (now.0, rebuild_of-push r before e ∙ now.1)))

pub none_alone : (opening : Spot) (journal : List Entry) (r : ℕ) → ((q : ℕ) → mode_of opening.modes q ≢ Wo)
    → IsLegal opening journal → StandInCommands journal → mode_of (modes_after opening.modes journal) r ≢ Wo
unfolding IsOfRebuild
none_alone opening journal r begins legal within is =
    let begun = wo_at_end opening [] journal legal (λ q wo. absurd (begins q wo)) r is in
    none_open journal r begun.0 within begun.1
