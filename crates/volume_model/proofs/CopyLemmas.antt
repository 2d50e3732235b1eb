-- A legal journal keeps the size of the disk, and a copy for each snapshot that can be used.
use Rattle.std.proofs.Common.{◌≡◌, ◌⊎◌, ℕ, ◌+◌, ◌≤◌, inl, inr, Bool, true, false, cond, not, ◌||◌, List, [], ◌∷◌}
use Rattle.std.proofs.Common.{◌++◌, length, refl, sym, ap, subst, ◌∙◌, arith}
use Rattle.std.specs.Prelude.{Option, None, Some, ℤ, pos, negsuc}
use Rattle.std.proofs.lemmas.Bool.Decides.{nat_tests}
use Rattle.std.specs.Str.{bytes_eq}
use Rattle.std.proofs.lemmas.Bool.{cases_Bool, true≢false, cond-false}
use Rattle.std.proofs.lemmas.Slice.Eq.{bytes_eq-Decides}
use Rattle.vol_units.proofs.BytesLemmas.{length-with_bytes_at}
use Rattle.volume_model.specs.declared.command.Command.TheVariants as command
use Rattle.volume_model.specs.declared.call.Call.{Call}
use Rattle.volume_model.specs.declared.call.Call.TheVariants as call
use Rattle.volume_model.specs.declared.call.Refusal.{Refusal}
use Rattle.volume_model.specs.declared.call.Refusal.TheVariants.{OutOfRange, NoSuchSnapshot}
use Rattle.volume_model.specs.declared.entry.Answer.{Answer}
use Rattle.volume_model.specs.declared.entry.Entry.{Entry}
use Rattle.volume_model.specs.declared.entry.Entry.TheVariants as entry
use Rattle.volume_model.specs.declared.mark.FoldOrDrop.{FoldOrDrop}
use Rattle.volume_model.specs.declared.mark.Mark.TheVariants as mark
use Rattle.volume_model.specs.declared.mode.Mode.{Mode}
use Rattle.volume_model.specs.Disk.{is_good, place_of}
use Rattle.volume_model.specs.Snapshots.{is_live}
use Rattle.volume_model.specs.Purge.{CanBeDone}
use Rattle.volume_model.specs.PlainState.{Copy, Volume, PlainState, copy_of, without, written, snapped, reverted, removed, purged}
use Rattle.volume_model.specs.PlainStep.{refusal_of, after_call, step_unless}
use Rattle.volume_model.specs.Replay.{is_refusal, after_entry, replay}
use Rattle.volume_model.specs.Modes.{modes_after}
use Rattle.volume_model.specs.Names.{NamesOnce, AreNamed}
use Rattle.volume_model.specs.Copies.{has_copy, HasCopies}
use Rattle.volume_model.specs.Rebuilds.{added_by}
use Rattle.volume_model.specs.History.{Spot, IsAnswered, IsEnded, MayStand, LegalAfter, IsLegal}
use Rattle.volume_model.proofs.StepLemmas.{done_is_of_volume}
use Rattle.volume_model.proofs.NamesLemmas.{stands, next, named_entry, is_live-marked, is_live-part}

-- ---- what each change leaves

-- a write within the disk
whole_written : (size : ℕ) (volume : Volume) (offset : ℤ) (bytes : List ℕ)
    → place_of offset + length bytes ≤ length volume.disk → HasCopies size volume
    → HasCopies size (written volume offset bytes)
whole_written size volume offset bytes inside whole =
    record { disk = length-with_bytes_at volume.disk (place_of offset) bytes inside ∙ whole.disk; there = whole.there; copy = whole.copy }

-- a snapshot
whole_snapped : (size : ℕ) (volume : Volume) (name : List ℕ) → HasCopies size volume → HasCopies size (snapped volume name)
whole_snapped size volume name whole = record {
  disk = whole.disk;
  there = λ q live. there (bytes_eq q name) q live;
  copy = λ q live. copied (bytes_eq q name) q live;
}
  where
    there : (same : Bool) (q : List ℕ) → cond same (not false) (is_live volume.snapshots.tree q) ≡ true
        → (same || has_copy volume.copies q) ≡ true
    there true q live = refl
    there false q live = whole.there q live

    copied : (same : Bool) (q : List ℕ) → cond same (not false) (is_live volume.snapshots.tree q) ≡ true
        → length (cond same volume.disk (copy_of volume.copies q)) ≡ size
    copied true q live = whole.disk
    copied false q live = whole.copy q live

-- a snapshot is put back that can be used
whole_reverted : (size : ℕ) (volume : Volume) (name : List ℕ) → is_live volume.snapshots.tree name ≡ true
    → HasCopies size volume → HasCopies size (reverted volume name)
whole_reverted size volume name live whole = record { disk = whole.copy name live; there = whole.there; copy = whole.copy }

-- the copies under other names are as they were
has_copy-without : (copies : List Copy) (name q : List ℕ) → bytes_eq q name ≡ false → has_copy (without copies name) q ≡ has_copy copies q
has_copy-without [] name q apart = refl
has_copy-without (c ∷ cs) name q apart = one (bytes_eq name c.name) refl (has_copy-without cs name q apart)
  where
    one : (same : Bool) → bytes_eq name c.name ≡ same → has_copy (without cs name) q ≡ has_copy cs q
        → has_copy (cond same (without cs name) (c ∷ without cs name)) q ≡ (bytes_eq q c.name || has_copy cs q)
    one true is more = more ∙ sym (ap (λ b. b || has_copy cs q) (ap (bytes_eq q) (sym ((bytes_eq-Decides name c.name).0 is)) ∙ apart))
    one false is more = ap (λ b. bytes_eq q c.name || b) more

pub copy_of-without : (copies : List Copy) (name q : List ℕ) → bytes_eq q name ≡ false → copy_of (without copies name) q ≡ copy_of copies q
copy_of-without [] name q apart = refl
copy_of-without (c ∷ cs) name q apart = one (bytes_eq name c.name) refl (copy_of-without cs name q apart)
  where
    one : (same : Bool) → bytes_eq name c.name ≡ same → copy_of (without cs name) q ≡ copy_of cs q
        → copy_of (cond same (without cs name) (c ∷ without cs name)) q ≡ cond (bytes_eq q c.name) c.disk (copy_of cs q)
    one true is more = more
        ∙ sym (cond-false (bytes_eq q c.name) c.disk (copy_of cs q)
        (ap (bytes_eq q) (sym ((bytes_eq-Decides name c.name).0 is)) ∙ apart))
    one false is more = ap (cond (bytes_eq q c.name) c.disk) more

-- a snapshot is to be removed: its copy goes, and it can be used no longer
whole_removed : (size : ℕ) (volume : Volume) (name : List ℕ) → HasCopies size volume → HasCopies size (removed volume name)
whole_removed size volume name whole = record {
  disk = whole.disk;
  there = λ q live. let x = other q live in has_copy-without volume.copies name q x.0 ∙ whole.there q x.1;
  copy = λ q live. let x = other q live in ap (λ (l : List ℕ). length l) (copy_of-without volume.copies name q x.0) ∙ whole.copy q x.1;
}
  where
    split : (same : Bool) (live : Bool) → cond same false live ≡ true → (same ≡ false) × (live ≡ true)
    split true live is = absurd (true≢false (sym is))
    split false live is = (refl, is)

    other : (q : List ℕ) → is_live (removed volume name).snapshots.tree q ≡ true → (bytes_eq q name ≡ false)
        × (is_live volume.snapshots.tree q ≡ true)
    other q live =
        let parts = split (bytes_eq name q) (is_live volume.snapshots.tree q) (sym (is_live-marked name q volume.snapshots.tree) ∙ live) in
        (apart (cases_Bool (bytes_eq q name)) parts.0, parts.1)
      where
        apart : (bytes_eq q name ≡ true) ⊎ (bytes_eq q name ≡ false) → bytes_eq name q ≡ false → bytes_eq q name ≡ false
        apart (inl same) none = absurd (true≢false (sym ((bytes_eq-Decides name q).1 (sym ((bytes_eq-Decides q name).0 same))) ∙ none))
        apart (inr other) none = other

-- a part of a purge
whole_purged : (size : ℕ) (volume : Volume) (f : FoldOrDrop) → NamesOnce volume.snapshots.tree
    → CanBeDone volume.snapshots.tree volume.snapshots.on f → HasCopies size volume → HasCopies size (purged volume f)
whole_purged size volume f once can whole = record {
  disk = whole.disk;
  there = λ q live. whole.there q (sym (is_live-part volume.snapshots f q once can) ∙ live);
  copy = λ q live. whole.copy q (sym (is_live-part volume.snapshots f q once can) ∙ live);
}

-- ---- an entry of a legal journal

clear_when : (why : Option Refusal) (modes : List Mode) (state : PlainState) (c : Call)
    → is_refusal (step_unless why modes state c).1 ≡ false → why ≡ None
clear_when (Some why) modes state c done = absurd (true≢false done)
clear_when None modes state c done = refl

-- nothing stood against a call that was done, and that rebuilds no replica
clear_of : (before : List Entry) (state : PlainState) (modes : List Mode) (a : Answer) → added_by a.call ≡ None
    → IsEnded (added_by a.call) before state modes a
    → is_refusal a.reply ≡ false → refusal_of modes state a.call ≡ None
clear_of before state modes a none ended done = plainly (subst (λ x. IsEnded x before state modes a) none ended)
  where
    plainly : IsAnswered state modes a → refusal_of modes state a.call ≡ None
    plainly answered = clear_when (refusal_of modes state a.call) modes state a.call
        (sym (ap is_refusal (answered.reply (done_is_of_volume a.reply done))) ∙ done)

good_when : (good : Bool) → cond good None (Some OutOfRange) ≡ None → good ≡ true
good_when true is = refl
good_when false is = absurd cc

-- a good range lies within the disk
good_inside : (size : ℕ) (offset : ℤ) (n : ℕ) → is_good size offset n ≡ true → place_of offset + n ≤ size
good_inside size (pos offset) n good = grind (arith, nat_tests)
good_inside size (negsuc offset) n good = absurd cc

live_when : (live : Bool) → cond live None (Some NoSuchSnapshot) ≡ None → live ≡ true
live_when true is = refl
live_when false is = absurd cc

whole_called : (size : ℕ) (modes : List Mode) (state : PlainState) (c : Call)
    → (added_by c ≡ None → refusal_of modes state c ≡ None) → HasCopies size state.volume
    → HasCopies size (after_call state c).volume
whole_called size modes state (call.Read offset n) clear whole = whole
whole_called size modes state (call.Write offset bytes) clear whole =
    whole_written size state.volume offset bytes
    (good_inside (length state.volume.disk) offset (length bytes)
    (good_when (is_good (length state.volume.disk) offset (length bytes)) (clear refl))) whole
whole_called size modes state call.Ping clear whole = whole
whole_called size modes state (call.Other kind) clear whole = whole
whole_called size modes state (call.Command (command.Snapshot name)) clear whole = whole_snapped size state.volume name whole
whole_called size modes state (call.Command (command.Remove name)) clear whole = whole_removed size state.volume name whole
whole_called size modes state (call.Command (command.Revert name)) clear whole =
    whole_reverted size state.volume name (live_when (is_live state.volume.snapshots.tree name) (clear refl)) whole
whole_called size modes state (call.Command command.Purge) clear whole = whole
whole_called size modes state (call.Command command.Status) clear whole = whole
whole_called size modes state (call.Command (command.Fail r)) clear whole = whole
whole_called size modes state (call.Command (command.Add r)) clear whole = whole
whole_called size modes state (call.Command (command.Backup backup snapshot)) clear whole = whole

whole_unless : (refused : Bool) (size : ℕ) (modes : List Mode) (state : PlainState) (c : Call)
    → (added_by c ≡ None → refused ≡ false → refusal_of modes state c ≡ None)
    → HasCopies size state.volume → HasCopies size (cond refused state (after_call state c)).volume
whole_unless true size modes state c clear whole = whole
whole_unless false size modes state c clear whole = whole_called size modes state c (λ none. clear none refl) whole

-- one entry that may stand behind a journal
whole_entry : (size : ℕ) (opening : Spot) (before : List Entry) (e : Entry) (after : List Entry)
    → MayStand opening before e after → AreNamed (replay opening.state before)
    → HasCopies size (replay opening.state before).volume → HasCopies size (after_entry (replay opening.state before) e).volume
whole_entry size opening before (entry.Answer a) after may named whole =
    whole_unless (is_refusal a.reply) size (modes_after opening.modes before) (replay opening.state before) a.call
    (λ none done. clear_of before (replay opening.state before) (modes_after opening.modes before) a none may done) whole
whole_entry size opening before (entry.Mark (mark.Purged f)) after may named whole =
    whole_purged size (replay opening.state before).volume f named.once may.0 whole
whole_entry size opening before (entry.Mark (mark.Fault stream r count)) after may named whole = whole
whole_entry size opening before (entry.Mark (mark.Failed r)) after may named whole = whole
whole_entry size opening before (entry.Mark (mark.Added r source name)) after may named whole =
    whole_snapped size (replay opening.state before).volume name whole
whole_entry size opening before (entry.Mark (mark.Promoted r)) after may named whole = whole
whole_entry size opening before (entry.Mark (mark.Aborted r)) after may named whole = whole

-- entries behind a journal
whole_behind : (size : ℕ) (opening : Spot) (before : List Entry) (state : PlainState) (journal : List Entry)
    → replay opening.state before ≡ state → LegalAfter opening before journal
    → AreNamed state → HasCopies size state.volume → HasCopies size (replay state journal).volume
whole_behind size opening before state [] at legal named whole = whole
whole_behind size opening before state (e ∷ es) at legal named whole =
    whole_behind size opening (before ++ e ∷ []) (after_entry state e) es (next opening before state e at) legal.1
    (named_entry state e (stands opening before state e es at legal.0) named)
    (subst (λ (s : PlainState). HasCopies size (after_entry s e).volume) at
    (whole_entry size opening before e es legal.0 (subst AreNamed (sym at) named)
    (subst (λ (s : PlainState). HasCopies size s.volume) (sym at) whole)))

-- a journal
pub stay_whole : (opening : Spot) (size : ℕ) (journal : List Entry) → IsLegal opening journal → AreNamed opening.state
    → HasCopies size opening.state.volume
    → HasCopies size (replay opening.state journal).volume
stay_whole opening size journal legal named whole = whole_behind size opening [] opening.state journal refl legal named whole
