-- A snapshot that can be used keeps its copy until it is removed.
use Rattle.std.proofs.Common.{◌≡◌, ◌⊎◌, ℕ, inl, inr, Bool, true, false, cond, not, ◌||◌, List, [], ◌∷◌, ◌++◌, refl, sym, ap, subst, ◌∙◌}
use Rattle.std.specs.Str.{bytes_eq}
use Rattle.std.proofs.lemmas.Bool.{cases_Bool, true≢false, cond-false}
use Rattle.std.proofs.lemmas.Slice.Eq.{bytes_eq-Decides}
use Rattle.volume_model.specs.declared.command.Command.TheVariants as command
use Rattle.volume_model.specs.declared.call.Call.{Call}
use Rattle.volume_model.specs.declared.call.Call.TheVariants as call
use Rattle.volume_model.specs.declared.entry.Entry.{Entry}
use Rattle.volume_model.specs.declared.entry.Entry.TheVariants as entry
use Rattle.volume_model.specs.declared.mark.Mark.TheVariants as mark
use Rattle.volume_model.specs.Copies.{IsCopyOf, RemovesNone}
use Rattle.volume_model.specs.History.{Spot, MayStand, IsLegal, LegalAfter}
use Rattle.volume_model.specs.Names.{has_name, AreNamed}
use Rattle.volume_model.specs.PlainState.{PlainState, Volume, is_used, copy_of, snapped, removed}
use Rattle.volume_model.specs.PlainStep.{after_call}
use Rattle.volume_model.specs.Replay.{is_refusal, after_entry, replay}
use Rattle.volume_model.specs.Snapshots.{Snapshot, is_live}
use Rattle.volume_model.proofs.CopyLemmas.{copy_of-without}
use Rattle.volume_model.proofs.NamesLemmas.{is_live-marked, is_live-part, StandsAt, stands, next, named_entry, stay_named}
use Rattle.volume_model.proofs.StandingLemmas.{StandFrom-behind}
use Rattle.volume_model.proofs.StepLemmas.{replay-append}

-- ---- names

-- a snapshot that can be used is there
live_there : (name : List ℕ) (tree : List Snapshot) → is_live tree name ≡ true → has_name tree name ≡ true
live_there name [] live = live
live_there name (s ∷ ss) live = one (bytes_eq name s.name) live (live_there name ss)
  where
    one : (same : Bool) → cond same (not s.marked) (is_live ss name) ≡ true → (is_live ss name ≡ true → has_name ss name ≡ true)
        → (same || has_name ss name) ≡ true
    one true is more = refl
    one false is more = more is

-- so that a name which was not used is another
other_name : (state : PlainState) (name new : List ℕ) → AreNamed state → is_live state.volume.snapshots.tree name ≡ true
    → is_used state.used new ≡ false → bytes_eq name new ≡ false
other_name state name new named live free = by (cases_Bool (bytes_eq name new))
  where
    by : (bytes_eq name new ≡ true) ⊎ (bytes_eq name new ≡ false) → bytes_eq name new ≡ false
    by (inl same) = absurd (true≢false
        (sym (ap (is_used state.used) (sym ((bytes_eq-Decides name new).0 same))
        ∙ named.taken name (live_there name state.volume.snapshots.tree live)) ∙ free))
    by (inr apart) = apart

-- ---- what keeps a copy

-- a snapshot of another name
snapped_keeps : (volume : Volume) (name new disk : List ℕ) → bytes_eq name new ≡ false → IsCopyOf volume name disk
    → IsCopyOf (snapped volume new) name disk
snapped_keeps volume name new disk apart is = record {
  live = cond-false (bytes_eq name new) (not false) (is_live volume.snapshots.tree name) apart ∙ is.live;
  copy = cond-false (bytes_eq name new) volume.disk (copy_of volume.copies name) apart ∙ is.copy;
}

-- the removal of another name
removed_keeps : (volume : Volume) (name other disk : List ℕ) → (name ≡ other → ⊥) → IsCopyOf volume name disk
    → IsCopyOf (removed volume other) name disk
removed_keeps volume name other disk apart is = record {
  live = is_live-marked other name volume.snapshots.tree
      ∙ cond-false (bytes_eq other name) false (is_live volume.snapshots.tree name) (differ other name (λ e. apart (sym e))) ∙ is.live;
  copy = copy_of-without volume.copies other name (differ name other apart) ∙ is.copy;
}
  where
    differ : (a b : List ℕ) → (a ≡ b → ⊥) → bytes_eq a b ≡ false
    differ a b ne = by (cases_Bool (bytes_eq a b))
      where
        by : (bytes_eq a b ≡ true) ⊎ (bytes_eq a b ≡ false) → bytes_eq a b ≡ false
        by (inl same) = absurd (ne ((bytes_eq-Decides a b).0 same))
        by (inr other) = other

called_keeps : (state : PlainState) (c : Call) (name disk : List ℕ) → AreNamed state
    → ((new : List ℕ) → c ≡ call.Command (command.Snapshot new) → is_used state.used new ≡ false)
    → (c ≡ call.Command (command.Remove name) → ⊥)
    → IsCopyOf state.volume name disk → IsCopyOf (after_call state c).volume name disk
called_keeps state (call.Read offset n) name disk named new stays is = is
called_keeps state (call.Write offset bytes) name disk named new stays is = record { live = is.live; copy = is.copy }
called_keeps state call.Ping name disk named new stays is = is
called_keeps state (call.Other kind) name disk named new stays is = is
called_keeps state (call.Command (command.Snapshot taken)) name disk named new stays is =
    snapped_keeps state.volume name taken disk (other_name state name taken named is.live (new taken refl)) is
called_keeps state (call.Command (command.Remove other)) name disk named new stays is =
    removed_keeps state.volume name other disk (λ e. stays (ap (λ n. call.Command (command.Remove n)) (sym e))) is
called_keeps state (call.Command (command.Revert back)) name disk named new stays is = record { live = is.live; copy = is.copy }
called_keeps state (call.Command command.Purge) name disk named new stays is = is
called_keeps state (call.Command command.Status) name disk named new stays is = is
called_keeps state (call.Command (command.Fail r)) name disk named new stays is = is
called_keeps state (call.Command (command.Add r)) name disk named new stays is = is
called_keeps state (call.Command (command.Backup backup snapshot)) name disk named new stays is = is

-- ---- the entries of a legal journal

unless_keeps : (refused : Bool) (state : PlainState) (c : Call) (name disk : List ℕ) → AreNamed state
    → ((new : List ℕ) → c ≡ call.Command (command.Snapshot new) → refused ≡ false → is_used state.used new ≡ false)
    → (c ≡ call.Command (command.Remove name) → refused ≡ true)
    → IsCopyOf state.volume name disk → IsCopyOf (cond refused state (after_call state c)).volume name disk
unless_keeps true state c name disk named new stays is = is
unless_keeps false state c name disk named new stays is =
    called_keeps state c name disk named (λ n e. new n e refl) (λ e. true≢false (sym (stays e))) is

entry_keeps : (state : PlainState) (e : Entry) (name disk : List ℕ) → StandsAt state e → AreNamed state → RemovesNone name (e ∷ [])
    → IsCopyOf state.volume name disk → IsCopyOf (after_entry state e).volume name disk
entry_keeps state (entry.Answer a) name disk at named none is = unless_keeps (is_refusal a.reply) state a.call name disk named at none.0 is
entry_keeps state (entry.Mark (mark.Purged f)) name disk at named none is = record {
  live = is_live-part state.volume.snapshots f name named.once at ∙ is.live;
  copy = is.copy;
}
entry_keeps state (entry.Mark (mark.Fault stream r count)) name disk at named none is = is
entry_keeps state (entry.Mark (mark.Failed r)) name disk at named none is = is
entry_keeps state (entry.Mark (mark.Added r source taken)) name disk at named none is =
    snapped_keeps state.volume name taken disk (other_name state name taken named is.live at) is
entry_keeps state (entry.Mark (mark.Promoted r)) name disk at named none is = is
entry_keeps state (entry.Mark (mark.Aborted r)) name disk at named none is = is

first_none : (name : List ℕ) (e : Entry) (es : List Entry) → RemovesNone name (e ∷ es) → RemovesNone name (e ∷ []) × RemovesNone name es
first_none name (entry.Answer a) es none = ((none.0, tt), none.1)
first_none name (entry.Mark m) es none = (tt, none)

behind_keeps : (opening : Spot) (before : List Entry) (state : PlainState) (es : List Entry) (name disk : List ℕ)
    → replay opening.state before ≡ state → LegalAfter opening before es → AreNamed state → RemovesNone name es
    → IsCopyOf state.volume name disk → IsCopyOf (replay state es).volume name disk
behind_keeps opening before state [] name disk at legal named none is = is
behind_keeps opening before state (e ∷ es) name disk at legal named none is =
    let here = stands opening before state e es at legal.0 in
    let parts = first_none name e es none in
    behind_keeps opening (before ++ e ∷ []) (after_entry state e) es name disk (next opening before state e at) legal.1
    (named_entry state e here named) parts.1 (entry_keeps state e name disk here named parts.0 is)

-- behind a journal
pub keeps_copy : (opening : Spot) (before es : List Entry) (name disk : List ℕ) → IsLegal opening before
    → IsLegal opening (before ++ es) → AreNamed opening.state → RemovesNone name es
    → IsCopyOf (replay opening.state before).volume name disk → IsCopyOf (replay opening.state (before ++ es)).volume name disk
keeps_copy opening before es name disk first legal named none is =
    subst (λ (s : PlainState). IsCopyOf s.volume name disk) (sym (replay-append opening.state before es))
    (behind_keeps opening before (replay opening.state before) es name disk refl (StandFrom-behind (MayStand opening) [] before es legal)
    (stay_named opening before first named) none is)
