-- What one worker answers a call, and which entries it makes of it.
use Rattle.std.proofs.Common.{◌≡◌, ◌≢◌, ℕ, zero, suc, ◌<◌, Bool, true, false, List, [], ◌∷◌, length, refl, sym, subst, ◌∙◌, arith}
use Rattle.std.specs.Prelude.{Option, None, Some}
use Rattle.std.specs.Option.{option_map, option_or}
use Rattle.std.proofs.lemmas.Bool.{true≢false}
use Rattle.std.proofs.lemmas.List.{get_or_default}
use Rattle.volume_model.specs.declared.command.Command.TheVariants as command
use Rattle.volume_model.specs.declared.call.Call.{Call}
use Rattle.volume_model.specs.declared.call.Call.TheVariants as call
use Rattle.volume_model.specs.declared.call.Refusal.{Refusal}
use Rattle.volume_model.specs.declared.entry.Answer.{Answer}
use Rattle.volume_model.specs.declared.mode.Mode.{Mode}
use Rattle.volume_model.specs.declared.mode.Mode.TheVariants.{Rw, Wo, Err}
use Rattle.volume_model.specs.PlainStep.{refusal_of}
use Rattle.volume_model.specs.Purge.{IsPurged}
use Rattle.volume_model.specs.Replay.{is_refusal}
use Rattle.volume_model.specs.Modes.{IsSource, mode_of, asks_replica, asks_store, is_change, HasSource, HasNoSource, source_of}
use Rattle.volume_model.specs.History.{Spot, OfVolume, OfReplicas, OfStore, subject_of, IsAnswered}
use Rattle.volume_model.specs.OneWorker.{Against, Exists, Differs, Fails, want_of_replica, why_against}
use Rattle.volume_model.specs.OneWorker.{refused_at, refused_by, reply_for}
use Rattle.volume_model.proofs.StepLemmas.{says_in, says-refusal, says-reply}

-- ---- the first replica that is read and written

record IsFirstSource (ms : List Mode) (s : ℕ) : Type 0 where
  there : s < length ms
  is : IsSource ms s

later_source : (m : Mode) (ms : List Mode) (s : ℕ) → m ≢ Rw → IsFirstSource ms s → IsFirstSource (m ∷ ms) (suc s)
later_source m ms s other f = record {
  there = omega (arith, f.there);
  is = record { read = f.is.read; first = λ q low. go q low };
}
  where
    go : (q : ℕ) → q < suc s → mode_of (m ∷ ms) q ≢ Rw
    go zero low = other
    go (suc q) low = f.is.first q (omega (arith, low))

wo_not : Wo ≢ Rw
wo_not e = cc

err_not : Err ≢ Rw
err_not e = cc

on_some : (x : Option ℕ) (s : ℕ) → option_map suc x ≡ Some s → (t : ℕ) × (x ≡ Some t) × (s ≡ suc t)
on_some None s e = absurd cc
on_some (Some t) s e = (t, refl, cc)

source_first : (ms : List Mode) (s : ℕ) → source_of ms ≡ Some s → IsFirstSource ms s
source_first [] s e = absurd cc
source_first (Rw ∷ ms) s e = subst (IsFirstSource (Rw ∷ ms)) (zero_is s e)
    (record { there = omega arith; is = record { read = refl; first = λ q low. absurd (none q low) } })
  where
    none : (q : ℕ) → q < 0 → ⊥
    none q low = omega (arith, low)

    zero_is : (s : ℕ) → Some 0 ≡ Some s → 0 ≡ s
    zero_is s e = cc
source_first (Wo ∷ ms) s e =
    let t = on_some (source_of ms) s e in
    subst (IsFirstSource (Wo ∷ ms)) (sym t.2) (later_source Wo ms t.0 wo_not (source_first ms t.0 t.1))
source_first (Err ∷ ms) s e =
    let t = on_some (source_of ms) s e in
    subst (IsFirstSource (Err ∷ ms)) (sym t.2) (later_source Err ms t.0 err_not (source_first ms t.0 t.1))

pub source_is : (ms : List Mode) (s : ℕ) → source_of ms ≡ Some s → IsSource ms s
source_is ms s e = (source_first ms s e).is

on_none : (x : Option ℕ) → option_map suc x ≡ None → x ≡ None
on_none None e = refl
on_none (Some t) e = absurd cc

later_none : (m : Mode) (ms : List Mode) → m ≢ Rw → HasNoSource ms → HasNoSource (m ∷ ms)
later_none m ms other none zero is = other is
later_none m ms other none (suc r) is = none r is

pub no_source : (ms : List Mode) → source_of ms ≡ None → HasNoSource ms
no_source [] e = λ r is. err_not is
no_source (Rw ∷ ms) e = absurd cc
no_source (Wo ∷ ms) e = later_none Wo ms wo_not (no_source ms (on_none (source_of ms) e))
no_source (Err ∷ ms) e = later_none Err ms err_not (no_source ms (on_none (source_of ms) e))

pub has_source : (ms : List Mode) (s : ℕ) → source_of ms ≡ Some s → HasSource ms
has_source ms s e = let f = source_first ms s e in (s, f.there, get_or_default ms s Rw Err f.there ∙ f.is.read)

-- ---- the answer

-- what changes asks for a replica
change_asks : (c : Call) → is_change c ≡ true → asks_replica c ≡ true
change_asks (call.Read offset n) e = refl
change_asks (call.Write offset bytes) e = refl
change_asks call.Ping e = e
change_asks (call.Other kind) e = e
change_asks (call.Command (command.Snapshot name)) e = refl
change_asks (call.Command (command.Remove name)) e = refl
change_asks (call.Command (command.Revert name)) e = refl
change_asks (call.Command command.Purge) e = refl
change_asks (call.Command command.Status) e = e
change_asks (call.Command (command.Fail r)) e = e
change_asks (call.Command (command.Add r)) e = refl
change_asks (call.Command (command.Backup backup snapshot)) e = refl

replicas_not : OfReplicas ≡ OfVolume → ⊥
replicas_not e = cc

store_not : OfStore ≡ OfVolume → ⊥
store_not e = cc

module _ (spot : Spot) (c : Call) where
  abbrev pub answer_by : Option Refusal → ℕ → ℕ → ℕ → Answer
  answer_by why stream place index = record { call = c; reply = reply_for why spot c; index = index; saw = place; stream = stream }

  -- the answer is the volume's where a replica is not wanting
  same_reply : (x : Option Refusal) (asks : Bool) (source : Option ℕ)
      → subject_of (reply_for (option_or x (want_of_replica asks source)) spot c) ≡ OfVolume
      → reply_for (option_or x (want_of_replica asks source)) spot c ≡ reply_for x spot c
  same_reply (Some why) asks source e = refl
  same_reply None false source e = refl
  same_reply None true None e = absurd cc
  same_reply None true (Some r) e = refl

  says_when : (x : Option Refusal) (asks : Bool) (source : Option ℕ) → says_in x ≡ OfVolume
      → subject_of (reply_for (option_or x (want_of_replica asks source)) spot c) ≡ OfReplicas
      → (asks ≡ true) × (x ≡ None) × (source ≡ None)
  says_when (Some why) asks source clear e = absurd (replicas_not (sym e ∙ clear))
  says_when None false source clear e = absurd (replicas_not (sym e ∙ says-reply spot.modes spot.state.volume c))
  says_when None true None clear e = (refl, refl, refl)
  says_when None true (Some r) clear e = absurd (replicas_not (sym e ∙ says-reply spot.modes spot.state.volume c))

  -- it is not about the store
  says_never : (x : Option Refusal) (asks : Bool) (source : Option ℕ) → says_in x ≡ OfVolume
      → subject_of (reply_for (option_or x (want_of_replica asks source)) spot c) ≡ OfStore → ⊥
  says_never (Some why) asks source clear e = store_not (sym e ∙ clear)
  says_never None false source clear e = store_not (sym e ∙ says-reply spot.modes spot.state.volume c)
  says_never None true None clear e = cc
  says_never None true (Some r) clear e = store_not (sym e ∙ says-reply spot.modes spot.state.volume c)

  done_when : (x : Option Refusal) (asks : Bool) (source : Option ℕ) → asks ≡ true
      → is_refusal (reply_for (option_or x (want_of_replica asks source)) spot c) ≡ false → (s : ℕ) × (source ≡ Some s)
  done_when (Some why) asks source is e = absurd cc
  done_when None false source is e = absurd cc
  done_when None true None is e = absurd cc
  done_when None true (Some s) is e = (s, refl)

  -- so it is right where the worker stands
  pub answered_there : (stream place index : ℕ) → ((r : ℕ) → c ≡ call.Command (command.Fail r) → mode_of spot.modes r ≡ Err)
      → (c ≡ call.Command command.Purge → is_refusal (reply_for (refused_at spot c) spot c) ≡ false
      → IsPurged spot.state.volume.snapshots.tree spot.state.volume.snapshots.on)
      → IsAnswered spot.state spot.modes (answer_by (refused_at spot c) stream place index)
  answered_there stream place index fails purged =
      let refusal_here = refusal_of spot.modes spot.state c in
      record {
        reply = λ says. same_reply refusal_here (asks_replica c) (source_of spot.modes) says;
        none = λ says. let w = says_when refusal_here (asks_replica c) (source_of spot.modes) (says-refusal spot.modes spot.state c) says in
            record { asks = w.0; refused = w.1; none = no_source spot.modes w.2 };
        store = λ says. absurd (says_never refusal_here (asks_replica c) (source_of spot.modes)
            (says-refusal spot.modes spot.state c) says);
        fails = fails;
        source = λ change done. let w = done_when refusal_here (asks_replica c) (source_of spot.modes) (change_asks c change) done in
            has_source spot.modes w.0 w.1;
        purged = purged;
      }

-- ---- the answer of a backup of which the store tells

-- it is the volume's, where the volume stands against the backup
same_store : (spot : Spot) (c : Call) (x : Option Refusal) (against : Against)
    → subject_of (reply_for (option_or x (Some (why_against against))) spot c) ≡ OfVolume
    → reply_for (option_or x (Some (why_against against))) spot c ≡ reply_for x spot c
same_store spot c (Some why) against e = refl
same_store spot c None Exists e = absurd (store_not e)
same_store spot c None Differs e = absurd (store_not e)
same_store spot c None Fails e = absurd (store_not e)

store_no_replicas : (spot : Spot) (c : Call) (x : Option Refusal) (against : Against) → says_in x ≡ OfVolume
    → subject_of (reply_for (option_or x (Some (why_against against))) spot c) ≡ OfReplicas → ⊥
store_no_replicas spot c (Some why) against clear e = replicas_not (sym e ∙ clear)
store_no_replicas spot c None Exists clear e = cc
store_no_replicas spot c None Differs clear e = cc
store_no_replicas spot c None Fails clear e = cc

store_when : (spot : Spot) (c : Call) (x : Option Refusal) (against : Against) → says_in x ≡ OfVolume
    → subject_of (reply_for (option_or x (Some (why_against against))) spot c) ≡ OfStore → x ≡ None
store_when spot c (Some why) against clear e = absurd (store_not (sym e ∙ clear))
store_when spot c None against clear e = refl

-- so it is right there
pub answered_by_store : (spot : Spot) (backup snapshot : List ℕ) (against : Against) (stream place index : ℕ)
    → IsAnswered spot.state spot.modes (answer_by spot (call.Command (command.Backup backup snapshot))
    (refused_by (Some against) spot (call.Command (command.Backup backup snapshot))) stream place index)
answered_by_store spot backup snapshot against stream place index =
    let c = call.Command (command.Backup backup snapshot) in
    let refusal_here = refusal_of spot.modes spot.state c in
    let clear = says-refusal spot.modes spot.state c in
    record {
      reply = λ says. same_store spot c refusal_here against says;
      none = λ says. absurd (store_no_replicas spot c refusal_here against clear says);
      store = λ says. record { asks = refl; refused = store_when spot c refusal_here against clear says };
      fails = λ r e. absurd cc;
      source = λ change done. absurd cc;
      purged = λ e done. absurd cc;
    }

-- what is so of each call that is no backup, and of each backup, is so of each call
pub by_store : (P : Call → Type 0) → ((c : Call) → asks_store c ≡ false → P c)
    → ((backup snapshot : List ℕ) → P (call.Command (command.Backup backup snapshot))) → (c : Call) → P c
by_store P other backs (call.Read offset n) = other (call.Read offset n) refl
by_store P other backs (call.Write offset bytes) = other (call.Write offset bytes) refl
by_store P other backs call.Ping = other call.Ping refl
by_store P other backs (call.Other kind) = other (call.Other kind) refl
by_store P other backs (call.Command (command.Snapshot name)) = other (call.Command (command.Snapshot name)) refl
by_store P other backs (call.Command (command.Remove name)) = other (call.Command (command.Remove name)) refl
by_store P other backs (call.Command (command.Revert name)) = other (call.Command (command.Revert name)) refl
by_store P other backs (call.Command command.Purge) = other (call.Command command.Purge) refl
by_store P other backs (call.Command command.Status) = other (call.Command command.Status) refl
by_store P other backs (call.Command (command.Fail r)) = other (call.Command (command.Fail r)) refl
by_store P other backs (call.Command (command.Add r)) = other (call.Command (command.Add r)) refl
by_store P other backs (call.Command (command.Backup backup snapshot)) = backs backup snapshot

-- of any other call the store tells nothing
pub asks_none : (told : Option Against) (spot : Spot) (c : Call) → asks_store c ≡ false → refused_by told spot c ≡ refused_at spot c
asks_none None spot c apart = refl
asks_none (Some against) spot (call.Read offset n) apart = refl
asks_none (Some against) spot (call.Write offset bytes) apart = refl
asks_none (Some against) spot call.Ping apart = refl
asks_none (Some against) spot (call.Other kind) apart = refl
asks_none (Some against) spot (call.Command (command.Snapshot name)) apart = refl
asks_none (Some against) spot (call.Command (command.Remove name)) apart = refl
asks_none (Some against) spot (call.Command (command.Revert name)) apart = refl
asks_none (Some against) spot (call.Command command.Purge) apart = refl
asks_none (Some against) spot (call.Command command.Status) apart = refl
asks_none (Some against) spot (call.Command (command.Fail r)) apart = refl
asks_none (Some against) spot (call.Command (command.Add r)) apart = refl
asks_none (Some against) spot (call.Command (command.Backup backup snapshot)) apart = absurd (true≢false apart)
