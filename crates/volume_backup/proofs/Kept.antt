-- No name is used twice: a snapshot that can be used has the copy that it had wherever it could be used before.
use Rattle.std.proofs.Common.{◌≡◌, ◌⊎◌, inl, inr, Bool, true, false, cond, ℕ, List, [], ◌∷◌, ◌++◌, refl, sym, ap, ◌∙◌}
use Rattle.std.specs.Prelude.{None, Some, IfSome}
use Rattle.std.specs.Str.{bytes_eq}
use Rattle.std.proofs.lemmas.Bool.{cases_Bool, true≢false, false≢true, cond-false, or_right}
use Rattle.std.proofs.lemmas.Slice.Eq.{bytes_eq-Decides}
use Rattle.volume_model.specs.declared.command.Command.TheVariants as command
use Rattle.volume_model.specs.declared.call.Call.{Call}
use Rattle.volume_model.specs.declared.call.Call.TheVariants as call
use Rattle.volume_model.specs.declared.entry.Entry.{Entry}
use Rattle.volume_model.specs.declared.entry.Entry.TheVariants as entry
use Rattle.volume_model.specs.declared.mark.Mark.TheVariants as mark
use Rattle.volume_model.specs.Copies.{IsCopyOf}
use Rattle.volume_model.specs.History.{Spot, LegalAfter}
use Rattle.volume_model.specs.Names.{has_name, AreNamed}
use Rattle.volume_model.specs.PlainState.{PlainState, is_used, copy_of, taken}
use Rattle.volume_model.specs.PlainStep.{after_call}
use Rattle.volume_model.specs.Replay.{is_refusal, after_entry, replay}
use Rattle.volume_model.specs.Snapshots.{is_live}
use Rattle.volume_model.proofs.CopyLemmas.{copy_of-without}
use Rattle.volume_model.proofs.NamesLemmas.{is_live-marked, is_live-part, StandsAt, stands, next, named_entry}
use Rattle.volume_backup.specs.Copies.{live_copies}
use Rattle.volume_backup.proofs.Worlds.{not_live}

-- A snapshot was taken under the name. Where it can be used still, it has that copy.
pub record HadCopy (state : PlainState) (name disk : List ℕ) : Type 0 where
  pub used : is_used state.used name ≡ true
  pub copy : is_live state.volume.snapshots.tree name ≡ true → copy_of state.volume.copies name ≡ disk

-- so it is of one that can be used
pub has_now : (state : PlainState) (name disk : List ℕ) → AreNamed state → IsCopyOf state.volume name disk → HadCopy state name disk
has_now state name disk named is =
    record { used = named.taken name (there (cases_Bool (has_name state.volume.snapshots.tree name))); copy = λ live. is.copy }
  where
    there : (has_name state.volume.snapshots.tree name ≡ true) ⊎ (has_name state.volume.snapshots.tree name ≡ false)
        → has_name state.volume.snapshots.tree name ≡ true
    there (inl has) = has
    there (inr none) = absurd (false≢true (sym (not_live state.volume.snapshots.tree name none) ∙ is.live))

-- and then the copy that is told of it now, if one is, is that
pub had_told : (state : PlainState) (name disk : List ℕ) → HadCopy state name disk
    → IfSome (live_copies state.volume name) (λ now. now ≡ disk)
had_told state name disk had = by (is_live state.volume.snapshots.tree name) refl
  where
    by : (b : Bool) → is_live state.volume.snapshots.tree name ≡ b
        → IfSome (cond b (Some (copy_of state.volume.copies name)) None) (λ now. now ≡ disk)
    by true live = had.copy live
    by false live = tt

-- ---- what an entry leaves of it

-- a name that was used is none that was not
apart : (used : List (List ℕ)) (name new : List ℕ) → is_used used name ≡ true → is_used used new ≡ false → bytes_eq name new ≡ false
apart used name new is free = by (cases_Bool (bytes_eq name new))
  where
    by : (bytes_eq name new ≡ true) ⊎ (bytes_eq name new ≡ false) → bytes_eq name new ≡ false
    by (inl same) = absurd (true≢false (sym is ∙ ap (is_used used) ((bytes_eq-Decides name new).0 same) ∙ free))
    by (inr other) = other

-- a snapshot is taken under a name that was not used
had_taken : (state : PlainState) (name new disk : List ℕ) → is_used state.used new ≡ false → HadCopy state name disk
    → HadCopy (taken state new) name disk
had_taken state name new disk free had =
    let other = apart state.used name new had.used free in
    record {
      used = still (is_used state.used new);
      copy = λ live. cond-false (bytes_eq name new) state.volume.disk (copy_of state.volume.copies name) other
          ∙ had.copy (sym (cond-false (bytes_eq name new) true (is_live state.volume.snapshots.tree name) other) ∙ live);
    }
  where
    still : (there : Bool) → is_used (cond there state.used (new ∷ state.used)) name ≡ true
    still true = had.used
    still false = or_right (bytes_eq name new) (is_used state.used name) had.used

-- one is removed
had_removed : (state : PlainState) (name other disk : List ℕ) → HadCopy state name disk
    → HadCopy (after_call state (call.Command (command.Remove other))) name disk
had_removed state name other disk had = by (cases_Bool (bytes_eq other name))
  where
    around : bytes_eq other name ≡ false → (bytes_eq name other ≡ true) ⊎ (bytes_eq name other ≡ false) → bytes_eq name other ≡ false
    around differs (inl same) =
        absurd (true≢false (sym ((bytes_eq-Decides other name).1 (sym ((bytes_eq-Decides name other).0 same))) ∙ differs))
    around differs (inr differ) = differ

    by : (bytes_eq other name ≡ true) ⊎ (bytes_eq other name ≡ false)
        → HadCopy (after_call state (call.Command (command.Remove other))) name disk
    by (inl same) = record {
      used = had.used;
      copy = λ live. absurd (false≢true (sym (is_live-marked other name state.volume.snapshots.tree
          ∙ ap (λ (b : Bool). cond b false (is_live state.volume.snapshots.tree name)) same) ∙ live));
    }
    by (inr differs) = record {
      used = had.used;
      copy = λ live. copy_of-without state.volume.copies other name (around differs (cases_Bool (bytes_eq name other)))
          ∙ had.copy (sym (is_live-marked other name state.volume.snapshots.tree
          ∙ cond-false (bytes_eq other name) false (is_live state.volume.snapshots.tree name) differs) ∙ live);
    }

-- a call is done
had_called : (state : PlainState) (c : Call) (name disk : List ℕ)
    → ((new : List ℕ) → c ≡ call.Command (command.Snapshot new) → is_used state.used new ≡ false)
    → HadCopy state name disk → HadCopy (after_call state c) name disk
had_called state (call.Read offset n) name disk new had = had
had_called state (call.Write offset bytes) name disk new had = record { used = had.used; copy = had.copy }
had_called state call.Ping name disk new had = had
had_called state (call.Other kind) name disk new had = had
had_called state (call.Command (command.Snapshot x)) name disk new had = had_taken state name x disk (new x refl) had
had_called state (call.Command (command.Remove other)) name disk new had = had_removed state name other disk had
had_called state (call.Command (command.Revert back)) name disk new had = record { used = had.used; copy = had.copy }
had_called state (call.Command command.Purge) name disk new had = had
had_called state (call.Command command.Status) name disk new had = had
had_called state (call.Command (command.Fail r)) name disk new had = had
had_called state (call.Command (command.Add r)) name disk new had = had
had_called state (call.Command (command.Backup backup snapshot)) name disk new had = had

-- or was refused
had_unless : (refused : Bool) (state : PlainState) (c : Call) (name disk : List ℕ)
    → ((new : List ℕ) → c ≡ call.Command (command.Snapshot new) → refused ≡ false → is_used state.used new ≡ false)
    → HadCopy state name disk → HadCopy (cond refused state (after_call state c)) name disk
had_unless true state c name disk new had = had
had_unless false state c name disk new had = had_called state c name disk (λ x e. new x e refl) had

had_entry : (state : PlainState) (e : Entry) (name disk : List ℕ) → StandsAt state e → AreNamed state → HadCopy state name disk
    → HadCopy (after_entry state e) name disk
had_entry state (entry.Answer a) name disk at named had = had_unless (is_refusal a.reply) state a.call name disk at had
had_entry state (entry.Mark (mark.Purged f)) name disk at named had = record {
  used = had.used;
  copy = λ live. had.copy (sym (is_live-part state.volume.snapshots f name named.once at) ∙ live);
}
had_entry state (entry.Mark (mark.Fault stream r count)) name disk at named had = had
had_entry state (entry.Mark (mark.Failed r)) name disk at named had = had
had_entry state (entry.Mark (mark.Added r source new)) name disk at named had = had_taken state name new disk at had
had_entry state (entry.Mark (mark.Promoted r)) name disk at named had = had
had_entry state (entry.Mark (mark.Aborted r)) name disk at named had = had

-- ---- behind entries that may stand there

pub had_behind : (opening : Spot) (before : List Entry) (state : PlainState) (es : List Entry) (name disk : List ℕ)
    → replay opening.state before ≡ state → LegalAfter opening before es → AreNamed state → HadCopy state name disk
    → HadCopy (replay state es) name disk
had_behind opening before state [] name disk at legal named had = had
had_behind opening before state (e ∷ es) name disk at legal named had =
    let here = stands opening before state e es at legal.0 in
    had_behind opening (before ++ e ∷ []) (after_entry state e) es name disk (next opening before state e at) legal.1
    (named_entry state e here named) (had_entry state e name disk here named had)
