-- The engine's own names stay free from the head's number on.
use Rattle.std.proofs.Common.{◌≡◌, ◌≢◌, ℕ, ◌+◌, ◌<◌, ◌≤◌, ◌^◌, ◌||◌, inl, inr, Bool, true, false, cond, List, ◌∷◌}
use Rattle.std.proofs.Common.{refl, sym, ap, subst, ◌∙◌, arith}
use Rattle.std.specs.Fmt.{decimal}
use Rattle.std.specs.Str.{bytes_eq}
use Rattle.std.proofs.lemmas.Bool.{cases_Bool, true≢false}
use Rattle.std.proofs.lemmas.Slice.Eq.{bytes_eq-Decides}
use Rattle.std.proofs.lemmas.Fmt.{decimal_injective}
use Rattle.vol_units.specs.Name.{begins_sys, sys_name}
use Rattle.volume_model.specs.declared.command.Command.TheVariants as command
use Rattle.volume_model.specs.declared.call.Call.{Call}
use Rattle.volume_model.specs.declared.call.Call.TheVariants as call
use Rattle.volume_model.specs.declared.entry.Entry.{Entry}
use Rattle.volume_model.specs.declared.entry.Entry.TheVariants as entry
use Rattle.volume_model.specs.declared.mark.FoldOrDrop.TheVariants as part
use Rattle.volume_model.specs.declared.mark.Mark.TheVariants as mark
use Rattle.volume_model.specs.PlainState.{PlainState, is_used, with_used, taken}
use Rattle.volume_model.specs.PlainStep.{after_call}
use Rattle.volume_model.specs.Replay.{is_refusal, after_entry}
use Rattle.volume_model.specs.Names.{AreOwnFree}
use Rattle.volume_model.proofs.StepLemmas.{call_raises}

-- names of different numbers are different
tails : (m n : ℕ) → sys_name m ≡ sys_name n → decimal m ≡ decimal n
tails m n e = cc

pub sys_name_injective : (m n : ℕ) → m < 2 ^ 64 → n < 2 ^ 64 → sys_name m ≡ sys_name n → m ≡ n
sys_name_injective m n a b e = decimal_injective m n a b (tails m n e)

-- with a name more, no other is used that was not
not_used : (used : List (List ℕ)) (name q : List ℕ) → bytes_eq q name ≡ false → is_used used q ≡ false
    → is_used (with_used used name) q ≡ false
not_used used name q other free = one (is_used used name)
  where
    both : (a b : Bool) → a ≡ false → b ≡ false → (a || b) ≡ false
    both a b e f = cc

    one : (there : Bool) → is_used (cond there used (name ∷ used)) q ≡ false
    one true = free
    one false = both (bytes_eq q name) (is_used used q) other free

-- a snapshot more, whose name is no own name from the next number on
own_taken : (state : PlainState) (name : List ℕ)
    → ((number : ℕ) → state.volume.snapshots.number < number → number < 2 ^ 64 → sys_name number ≢ name)
    → AreOwnFree state → AreOwnFree (taken state name)
own_taken state name other free = λ number low most. not_used state.used name (sys_name number) (not_named number low most)
    (free number (omega (arith, low)) most)
  where
    not_named : (number : ℕ) → state.volume.snapshots.number + 1 ≤ number → number < 2 ^ 64 → bytes_eq (sys_name number) name ≡ false
    not_named number low most = elim (cases_Bool (bytes_eq (sys_name number) name)) [
      | inl same ↦ absurd (other number (omega (arith, low)) most ((bytes_eq-Decides (sys_name number) name).0 same))
      | inr apart ↦ apart
    ]

sys_begins : (number : ℕ) → begins_sys (sys_name number) ≡ true
sys_begins number = refl

-- of a user's snapshot
pub own_user : (state : PlainState) (name : List ℕ) → begins_sys name ≡ false → AreOwnFree state → AreOwnFree (taken state name)
own_user state name user free = own_taken state name
    (λ number low most e. true≢false (sym (sys_begins number) ∙ ap begins_sys e ∙ user)) free

-- of the engine's own
pub own_sys : (state : PlainState) → state.volume.snapshots.number < 2 ^ 64 → AreOwnFree state
    → AreOwnFree (taken state (sys_name state.volume.snapshots.number))
own_sys state fits free = own_taken state (sys_name state.volume.snapshots.number)
    (λ number low most e. apart state.volume.snapshots.number number low
    (sys_name_injective number state.volume.snapshots.number most fits e)) free
  where
    apart : (m n : ℕ) → m < n → n ≡ m → ⊥
    apart m n l e = omega (arith, l, e)

-- a call that was done
pub own_called : (state : PlainState) (c : Call) → ((name : List ℕ) → c ≡ call.Command (command.Snapshot name) → begins_sys name ≡ false)
    → AreOwnFree state → AreOwnFree (after_call state c)
own_called state (call.Read offset n) user free = free
own_called state (call.Write offset bytes) user free = free
own_called state call.Ping user free = free
own_called state (call.Other kind) user free = free
own_called state (call.Command (command.Snapshot name)) user free = own_user state name (user name refl) free
own_called state (call.Command (command.Remove name)) user free = free
own_called state (call.Command (command.Revert name)) user free = λ number low most. free number (omega (arith, low)) most
own_called state (call.Command command.Purge) user free = free
own_called state (call.Command command.Status) user free = free
own_called state (call.Command (command.Fail r)) user free = free
own_called state (call.Command (command.Add r)) user free = free
own_called state (call.Command (command.Backup backup snapshot)) user free = free

own_unless : (refused : Bool) (state : PlainState) (c : Call)
    → ((name : List ℕ) → c ≡ call.Command (command.Snapshot name) → begins_sys name ≡ false)
    → AreOwnFree state → AreOwnFree (cond refused state (after_call state c))
own_unless true state c user free = free
own_unless false state c user free = own_called state c user free

-- what counts of an entry
abbrev pub IsOwn : PlainState → Entry → Type 0
IsOwn state (entry.Answer a) = (name : List ℕ) → a.call ≡ call.Command (command.Snapshot name) → begins_sys name ≡ false
IsOwn state (entry.Mark (mark.Purged p)) = Unit {0}
IsOwn state (entry.Mark (mark.Fault stream r count)) = Unit {0}
IsOwn state (entry.Mark (mark.Failed r)) = Unit {0}
IsOwn state (entry.Mark (mark.Added r source name)) = (name ≡ sys_name state.volume.snapshots.number)
    × (state.volume.snapshots.number < 2 ^ 64)
IsOwn state (entry.Mark (mark.Promoted r)) = Unit {0}
IsOwn state (entry.Mark (mark.Aborted r)) = Unit {0}

pub own_entry : (state : PlainState) (e : Entry) → IsOwn state e → AreOwnFree state → AreOwnFree (after_entry state e)
own_entry state (entry.Answer a) is free = own_unless (is_refusal a.reply) state a.call is free
own_entry state (entry.Mark (mark.Purged (part.Fold p c))) is free = free
own_entry state (entry.Mark (mark.Purged (part.Drop p))) is free = free
own_entry state (entry.Mark (mark.Fault stream r count)) is free = free
own_entry state (entry.Mark (mark.Failed r)) is free = free
own_entry state (entry.Mark (mark.Added r source name)) is free =
    subst (λ n. AreOwnFree (taken state n)) (sym is.0) (own_sys state is.1 free)
own_entry state (entry.Mark (mark.Promoted r)) is free = free
own_entry state (entry.Mark (mark.Aborted r)) is free = free

-- ---- the head's number goes up by at most one

unless_raises : (refused : Bool) (state : PlainState) (c : Call)
    → (cond refused state (after_call state c)).volume.snapshots.number ≤ state.volume.snapshots.number + 1
unless_raises true state c = omega arith
unless_raises false state c = call_raises state c

pub entry_raises : (state : PlainState) (e : Entry) → (after_entry state e).volume.snapshots.number ≤ state.volume.snapshots.number + 1
entry_raises state (entry.Answer a) = unless_raises (is_refusal a.reply) state a.call
entry_raises state (entry.Mark (mark.Purged (part.Fold p c))) = omega arith
entry_raises state (entry.Mark (mark.Purged (part.Drop p))) = omega arith
entry_raises state (entry.Mark (mark.Fault stream r count)) = omega arith
entry_raises state (entry.Mark (mark.Failed r)) = omega arith
entry_raises state (entry.Mark (mark.Added r source name)) = omega arith
entry_raises state (entry.Mark (mark.Promoted r)) = omega arith
entry_raises state (entry.Mark (mark.Aborted r)) = omega arith
