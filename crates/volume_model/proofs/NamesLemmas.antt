-- What a legal journal tells of the snapshots is what its replay has.
use Rattle.std.proofs.Common.{◌≡◌, ℕ, suc, ◌+◌, ◌-◌, ◌⊎◌, inl, inr, Bool, true, false, cond, not, ◌||◌, List, [], ◌∷◌}
use Rattle.std.proofs.Common.{◌++◌, length, map, refl, sym, ap, subst, ◌∙◌, arith}
use Rattle.std.specs.Prelude.{Option, Some, None}
use Rattle.std.specs.Str.{bytes_eq}
use Rattle.std.specs.Option.{option_or}
use Rattle.std.proofs.lemmas.Bool.{true≢false, cases_Bool, or_cases, or_parts, or_from, or_left, or_right, cond-true, cond-false}
use Rattle.std.proofs.lemmas.Slice.Eq.{bytes_eq-Decides}
use Rattle.volume_model.specs.declared.command.Command.TheVariants as command
use Rattle.volume_model.specs.declared.call.Call.{Call}
use Rattle.volume_model.specs.declared.call.Call.TheVariants as call
use Rattle.volume_model.specs.declared.call.Refusal.{Refusal}
use Rattle.volume_model.specs.declared.call.Refusal.TheVariants.{NameUsed}
use Rattle.volume_model.specs.declared.entry.Entry.{Entry}
use Rattle.volume_model.specs.declared.entry.Entry.TheVariants as entry
use Rattle.volume_model.specs.declared.mark.FoldOrDrop.{FoldOrDrop}
use Rattle.volume_model.specs.declared.mark.FoldOrDrop.TheVariants as part
use Rattle.volume_model.specs.declared.mark.Mark.{Mark}
use Rattle.volume_model.specs.declared.mark.Mark.TheVariants as mark
use Rattle.volume_model.specs.Rebuilds.{added_by}
use Rattle.volume_model.specs.declared.entry.Answer.{Answer}
use Rattle.volume_model.specs.declared.mode.Mode.{Mode}
use Rattle.volume_model.specs.declared.names.UsedName.{UsedName}
use Rattle.volume_model.specs.Snapshots.{Snapshot, Snapshots, layer_count, is_live, marked_if}
use Rattle.volume_model.specs.Purge.{IsMarked, CanBeDone, dropped, parent_in, given, with_part}
use Rattle.volume_model.specs.PlainState.{PlainState, is_used, with_used, taken}
use Rattle.volume_model.specs.Marks.{after_mark}
use Rattle.volume_model.specs.PlainStep.{volume_refusal, after_call, step_unless, plain_step}
use Rattle.volume_model.specs.Replay.{is_refusal, after_entry, replay}
use Rattle.volume_model.specs.Modes.{modes_after}
use Rattle.volume_model.specs.History.{Spot, IsAnswered, IsEnded, CouldBe, MayStand, LegalAfter, IsLegal}
use Rattle.volume_model.specs.Names.{is_used_in, is_live_in, with_name, name_marked, names_in, names_after_call}
use Rattle.volume_model.specs.Names.{names_after_entry, names_after, layers_after_call, layers_after_entry}
use Rattle.volume_model.specs.Names.{layers_after, has_name, NamesOnce, TellOf, AreNamed}
use Rattle.volume_model.proofs.StepLemmas.{replay-push, done_is_of_volume}
use Rattle.volume_model.proofs.PurgeLemmas.{any_cases, length-with_part}

-- ---- a snapshot that is to be removed

-- a look-up at one element: a mark of the same name is false there
mark_first : (here same asked marked rest : Bool) → (here ≡ true → same ≡ asked)
    → cond here (cond same false (not marked)) (cond asked false rest) ≡ cond asked false (cond here (not marked) rest)
mark_first true same asked marked rest e = ap (λ b. cond b false (not marked)) (e refl)
mark_first false same asked marked rest e = refl

-- where the asked name is this one, its mark is asked for
same_name : (name q this : List ℕ) → bytes_eq q this ≡ true → bytes_eq name this ≡ bytes_eq name q
same_name name q this e = ap (bytes_eq name) (sym ((bytes_eq-Decides q this).0 e))

never : (b : Bool) → false ≡ cond b false false
never true = refl
never false = refl

-- a name that is marked can be used no longer, and the others as before
is_live_in-marked : (name q : List ℕ) (names : List UsedName)
    → is_live_in (map (name_marked name) names) q ≡ cond (bytes_eq name q) false (is_live_in names q)
is_live_in-marked name q [] = never (bytes_eq name q)
is_live_in-marked name q (n ∷ ns) =
    one (bytes_eq name n.name) n _
    ∙ ap (cond (bytes_eq q n.name) (cond (bytes_eq name n.name) false (not n.marked))) (is_live_in-marked name q ns)
    ∙ mark_first (bytes_eq q n.name) (bytes_eq name n.name) (bytes_eq name q) n.marked (is_live_in ns q) (same_name name q n.name)
  where
    one : (same : Bool) (n : UsedName) (rest : Bool)
        → cond (bytes_eq q (cond same (record n { marked = true }) n).name) (not (cond same (record n { marked = true }) n).marked) rest
        ≡ cond (bytes_eq q n.name) (cond same false (not n.marked)) rest
    one true n rest = refl
    one false n rest = refl

pub is_live-marked : (name q : List ℕ) (tree : List Snapshot)
    → is_live (map (marked_if name) tree) q ≡ cond (bytes_eq name q) false (is_live tree q)
is_live-marked name q [] = never (bytes_eq name q)
is_live-marked name q (s ∷ ss) =
    one (bytes_eq name s.name) s _
    ∙ ap (cond (bytes_eq q s.name) (cond (bytes_eq name s.name) false (not s.marked))) (is_live-marked name q ss)
    ∙ mark_first (bytes_eq q s.name) (bytes_eq name s.name) (bytes_eq name q) s.marked (is_live ss q) (same_name name q s.name)
  where
    one : (same : Bool) (s : Snapshot) (rest : Bool)
        → cond (bytes_eq q (cond same (record s { marked = true }) s).name) (not (cond same (record s { marked = true }) s).marked) rest
        ≡ cond (bytes_eq q s.name) (cond same false (not s.marked)) rest
    one true s rest = refl
    one false s rest = refl

length-marked : (name : List ℕ) (tree : List Snapshot) → length (map (marked_if name) tree) ≡ length tree
length-marked name [] = refl
length-marked name (s ∷ ss) = ap suc (length-marked name ss)

-- a snapshot that is to be removed keeps its name
name-marked : (same : Bool) (s : Snapshot) → (cond same (record s { marked = true }) s).name ≡ s.name
name-marked true s = refl
name-marked false s = refl

-- so the same names are there
has_name-marked : (name q : List ℕ) (tree : List Snapshot) → has_name (map (marked_if name) tree) q ≡ has_name tree q
has_name-marked name q [] = refl
has_name-marked name q (s ∷ ss) =
    ap (λ n. bytes_eq q n || has_name (map (marked_if name) ss) q) (name-marked (bytes_eq name s.name) s)
    ∙ ap (λ b. bytes_eq q s.name || b) (has_name-marked name q ss)

-- and names that come once do so still
once-marked : (name : List ℕ) (tree : List Snapshot) → NamesOnce tree → NamesOnce (map (marked_if name) tree)
once-marked name [] once = tt
once-marked name (s ∷ ss) once = (
  has_name-marked name _ ss ∙ ap (has_name ss) (name-marked (bytes_eq name s.name) s) ∙ once.0,
  once-marked name ss once.1,
)

-- ---- a snapshot that goes

-- the marked one is the first, or among the others
marked_cases : (p : List ℕ) (s : Snapshot) (ss : List Snapshot) → IsMarked (s ∷ ss) p → ((s.name ≡ p) × (s.marked ≡ true)) ⊎ IsMarked ss p
marked_cases p s ss marked = any_cases (λ (t : Snapshot). (t.name ≡ p) × (t.marked ≡ true)) s ss marked

-- it is there
pub marked_has_name : (p : List ℕ) (tree : List Snapshot) → IsMarked tree p → has_name tree p ≡ true
marked_has_name p [] marked = absurd (omega (arith, marked.2))
marked_has_name p (s ∷ ss) marked = elim (marked_cases p s ss marked) [
  | inl here ↦ or_left (bytes_eq p s.name) (has_name ss p) ((bytes_eq-Decides p s.name).1 (sym here.0))
  | inr there ↦ or_right (bytes_eq p s.name) (has_name ss p) (marked_has_name p ss there)
]

-- a name that is not there cannot be used
not_there : (q : List ℕ) (tree : List Snapshot) → has_name tree q ≡ false → is_live tree q ≡ false
not_there q [] none = refl
not_there q (s ∷ ss) none =
    let apart = or_parts (bytes_eq q s.name) (has_name ss q) none in
    cond-false (bytes_eq q s.name) (not s.marked) (is_live ss q) apart.0 ∙ not_there q ss apart.1

-- a name that is not there does not come back
has_name-dropped : (p q : List ℕ) (tree : List Snapshot) → has_name tree q ≡ false → has_name (dropped p tree) q ≡ false
has_name-dropped p q [] none = refl
has_name-dropped p q (s ∷ ss) none =
    let apart = or_parts (bytes_eq q s.name) (has_name ss q) none in
    one (bytes_eq p s.name) apart.0 apart.1 (has_name-dropped p q ss apart.1)
  where
    one : (same : Bool) → bytes_eq q s.name ≡ false → has_name ss q ≡ false → has_name (dropped p ss) q ≡ false
        → has_name (cond same ss (s ∷ dropped p ss)) q ≡ false
    one true apart none more = none
    one false apart none more = or_from (bytes_eq q s.name) (has_name (dropped p ss) q) apart more

-- so names that come once do so still
once-dropped : (p : List ℕ) (tree : List Snapshot) → NamesOnce tree → NamesOnce (dropped p tree)
once-dropped p [] once = tt
once-dropped p (s ∷ ss) once = one (bytes_eq p s.name) (once-dropped p ss once.1)
  where
    one : (same : Bool) → NamesOnce (dropped p ss) → NamesOnce (cond same ss (s ∷ dropped p ss))
    one true more = once.1
    one false more = (has_name-dropped p s.name ss once.0, more)

-- no name can be used or not that could before: the one that goes could not
is_live-dropped : (p q : List ℕ) (tree : List Snapshot) → NamesOnce tree → IsMarked tree p → is_live (dropped p tree) q ≡ is_live tree q
is_live-dropped p q [] once marked = refl
is_live-dropped p q (s ∷ ss) once marked = elim (cases_Bool (bytes_eq p s.name)) [
  | inl same ↦ this same
  | inr other ↦ later other (λ among. is_live-dropped p q ss once.1 among)
]
  where
    -- the first goes, which no other has the name of
    this : bytes_eq p s.name ≡ true → is_live (dropped p (s ∷ ss)) q ≡ is_live (s ∷ ss) q
    this same =
        cut ∙ elim (cases_Bool (bytes_eq q s.name)) [
          | inl asked ↦ not_there q ss (ap (has_name ss) ((bytes_eq-Decides q s.name).0 asked) ∙ once.0)
              ∙ sym (cond-true (bytes_eq q s.name) (not s.marked) (is_live ss q) asked ∙ ap not is_marked)
          | inr apart ↦ sym (cond-false (bytes_eq q s.name) (not s.marked) (is_live ss q) apart)
        ]
      where
        cut : is_live (dropped p (s ∷ ss)) q ≡ is_live ss q
        cut = ap (λ l. is_live l q) (cond-true (bytes_eq p s.name) ss (s ∷ dropped p ss) same)

        is_marked : s.marked ≡ true
        is_marked = elim (marked_cases p s ss marked) [
          | inl here ↦ here.1
          | inr there ↦ absurd (true≢false (sym (marked_has_name p ss there)
              ∙ ap (has_name ss) ((bytes_eq-Decides p s.name).0 same) ∙ once.0))
        ]

    -- the first stays
    later : bytes_eq p s.name ≡ false → (IsMarked ss p → is_live (dropped p ss) q ≡ is_live ss q)
        → is_live (dropped p (s ∷ ss)) q ≡ is_live (s ∷ ss) q
    later other more =
        ap (λ l. is_live l q) (cond-false (bytes_eq p s.name) ss (s ∷ dropped p ss) other)
        ∙ ap (cond (bytes_eq q s.name) (not s.marked)) (more among)
      where
        among : IsMarked ss p
        among = elim (marked_cases p s ss marked) [
          | inl here ↦ absurd (true≢false (sym ((bytes_eq-Decides p s.name).1 (sym here.0)) ∙ other))
          | inr there ↦ there
        ]

-- a snapshot on another parent keeps its name and its mark
name-given : (same : Bool) (s : Snapshot) (parent : Option (List ℕ)) → (cond same (record s { parent = parent }) s).name ≡ s.name
name-given true s parent = refl
name-given false s parent = refl

mark-given : (same : Bool) (s : Snapshot) (parent : Option (List ℕ)) → (cond same (record s { parent = parent }) s).marked ≡ s.marked
mark-given true s parent = refl
mark-given false s parent = refl

-- so the same names are there
has_name-given : (c : List ℕ) (parent : Option (List ℕ)) (q : List ℕ) (tree : List Snapshot)
    → has_name (given c parent tree) q ≡ has_name tree q
has_name-given c parent q [] = refl
has_name-given c parent q (s ∷ ss) =
    ap (λ n. bytes_eq q n || has_name (given c parent ss) q) (name-given (bytes_eq c s.name) s parent)
    ∙ ap (λ b. bytes_eq q s.name || b) (has_name-given c parent q ss)

-- each once still
once-given : (c : List ℕ) (parent : Option (List ℕ)) (tree : List Snapshot) → NamesOnce tree → NamesOnce (given c parent tree)
once-given c parent [] once = tt
once-given c parent (s ∷ ss) once = (
  has_name-given c parent _ ss ∙ ap (has_name ss) (name-given (bytes_eq c s.name) s parent) ∙ once.0,
  once-given c parent ss once.1,
)

-- and the same can be used
is_live-given : (c : List ℕ) (parent : Option (List ℕ)) (q : List ℕ) (tree : List Snapshot)
    → is_live (given c parent tree) q ≡ is_live tree q
is_live-given c parent q [] = refl
is_live-given c parent q (s ∷ ss) =
    ap (λ n. cond (bytes_eq q n) (not (cond (bytes_eq c s.name) (record s { parent = parent }) s).marked)
    (is_live (given c parent ss) q)) (name-given (bytes_eq c s.name) s parent)
    ∙ ap (λ m. cond (bytes_eq q s.name) (not m) (is_live (given c parent ss) q)) (mark-given (bytes_eq c s.name) s parent)
    ∙ ap (cond (bytes_eq q s.name) (not s.marked)) (is_live-given c parent q ss)

-- ---- a part of a purge

-- a name that is not there does not come back
has_name-part : (s : Snapshots) (p : FoldOrDrop) (q : List ℕ) → has_name s.tree q ≡ false → has_name (with_part s p).tree q ≡ false
has_name-part s (part.Fold p c) q none = has_name-given c (parent_in p s.tree) q (dropped p s.tree) ∙ has_name-dropped p q s.tree none
has_name-part s (part.Drop p) q none = has_name-dropped p q s.tree none

-- names that come once do so still
once-part : (s : Snapshots) (p : FoldOrDrop) → NamesOnce s.tree → NamesOnce (with_part s p).tree
once-part s (part.Fold p c) once = once-given c (parent_in p s.tree) (dropped p s.tree) (once-dropped p s.tree once)
once-part s (part.Drop p) once = once-dropped p s.tree once

-- the same names can be used
pub is_live-part : (s : Snapshots) (p : FoldOrDrop) (q : List ℕ) → NamesOnce s.tree → CanBeDone s.tree s.on p
    → is_live (with_part s p).tree q ≡ is_live s.tree q
is_live-part s (part.Fold p c) q once can =
    is_live-given c (parent_in p s.tree) q (dropped p s.tree) ∙ is_live-dropped p q s.tree once can.marked
is_live-part s (part.Drop p) q once can = is_live-dropped p q s.tree once can.marked

-- ---- an entry of a legal journal

-- what counts of a mark: a part of a purge could be done, and a rebuild takes a name that no snapshot had
abbrev pub MarkStands : PlainState → Mark → Type 0
MarkStands state (mark.Purged part) = CanBeDone state.volume.snapshots.tree state.volume.snapshots.on part
MarkStands state (mark.Fault stream r count) = Unit {0}
MarkStands state (mark.Failed r) = Unit {0}
MarkStands state (mark.Added r source name) = is_used state.used name ≡ false
MarkStands state (mark.Promoted r) = Unit {0}
MarkStands state (mark.Aborted r) = Unit {0}

-- and of an answer: a snapshot takes such a name, too
abbrev pub StandsAt : PlainState → Entry → Type 0
StandsAt state (entry.Answer a) = (name : List ℕ) → a.call ≡ call.Command (command.Snapshot name)
    → is_refusal a.reply ≡ false → is_used state.used name ≡ false
StandsAt state (entry.Mark m) = MarkStands state m

pub mark_stands : (before after : List Entry) (state : PlainState) (modes : List Mode) (m : Mark)
    → CouldBe before after state modes m → MarkStands state m
mark_stands before after state modes (mark.Purged part) may = may.0
mark_stands before after state modes (mark.Fault stream r count) may = tt
mark_stands before after state modes (mark.Failed r) may = tt
mark_stands before after state modes (mark.Added r source name) may = may.new
mark_stands before after state modes (mark.Promoted r) may = tt
mark_stands before after state modes (mark.Aborted r) may = tt

-- a name that was taken by a snapshot just now was not used before
taken_is_new : (modes : List Mode) (state : PlainState) (name : List ℕ)
    → is_refusal (plain_step modes state (call.Command (command.Snapshot name))).1 ≡ false → is_used state.used name ≡ false
taken_is_new modes state name done = one (is_used state.used name)
    (volume_refusal modes state.volume (call.Command (command.Snapshot name))) done
  where
    one : (used : Bool) (more : Option Refusal)
        → is_refusal (step_unless (option_or (cond used (Some NameUsed) None) more) modes state
        (call.Command (command.Snapshot name))).1 ≡ false → used ≡ false
    one true more done = done
    one false more done = refl

pub answer_stands : (before : List Entry) (state : PlainState) (modes : List Mode) (a : Answer)
    → IsEnded (added_by a.call) before state modes a → StandsAt state (entry.Answer a)
answer_stands before state modes a ended = λ name is done. plainly name is done
    (subst (λ c. IsEnded (added_by c) before state modes a) is ended)
  where
    plainly : (name : List ℕ) → a.call ≡ call.Command (command.Snapshot name) → is_refusal a.reply ≡ false
        → IsAnswered state modes a → is_used state.used name ≡ false
    plainly name is done answered = taken_is_new modes state name (sym (ap is_refusal
        (answered.reply (done_is_of_volume a.reply done) ∙ ap (λ c. (plain_step modes state c).1) is)) ∙ done)

-- so does each that may stand behind a journal that leaves them
pub stands : (opening : Spot) (before : List Entry) (state : PlainState) (e : Entry) (after : List Entry)
    → replay opening.state before ≡ state → MayStand opening before e after → StandsAt state e
stands opening before state (entry.Answer a) after at may =
    subst (λ s. StandsAt s (entry.Answer a)) at
    (answer_stands before (replay opening.state before) (modes_after opening.modes before) a may)
stands opening before state (entry.Mark m) after at may =
    subst (λ s. MarkStands s m) at
    (mark_stands before after (replay opening.state before) (modes_after opening.modes before) m may)

-- and the state behind it is that of the journal with it
pub next : (opening : Spot) (before : List Entry) (state : PlainState) (e : Entry)
    → replay opening.state before ≡ state → replay opening.state (before ++ e ∷ []) ≡ after_entry state e
next opening before state e at = replay-push opening.state before e ∙ ap (λ s. after_entry s e) at

-- ---- the snapshots have names of their own

-- a name more keeps those that were used, and is one of them
with_used-keeps : (used : List (List ℕ)) (name q : List ℕ) → is_used used q ≡ true → is_used (with_used used name) q ≡ true
with_used-keeps used name q is = one (is_used used name)
  where
    one : (there : Bool) → is_used (cond there used (name ∷ used)) q ≡ true
    one true = is
    one false = or_right (bytes_eq q name) (is_used used q) is

with_used-has : (used : List (List ℕ)) (name q : List ℕ) → is_used used name ≡ false → bytes_eq q name ≡ true
    → is_used (with_used used name) q ≡ true
with_used-has used name q new this = ap (λ l. is_used l q) (cond-false (is_used used name) used (name ∷ used) new)
    ∙ or_left (bytes_eq q name) (is_used used q) this

-- a snapshot of a name that was not used
named_taken : (name : List ℕ) (state : PlainState) → is_used state.used name ≡ false → AreNamed state → AreNamed (taken state name)
named_taken name state new named = record {
  once = (
    elim (cases_Bool (has_name state.volume.snapshots.tree name))
        [ inl there ↦ absurd (true≢false (sym (named.taken name there) ∙ new)) | inr none ↦ none ],
    named.once,
  );
  taken = λ q there. elim (or_cases (bytes_eq q name) (has_name state.volume.snapshots.tree q) there) [
    | inl this ↦ with_used-has state.used name q new this
    | inr old ↦ with_used-keeps state.used name q (named.taken q old)
  ];
}

-- one more that is to be removed
named_marked : (name : List ℕ) (state : PlainState) → AreNamed state → AreNamed (after_call state (call.Command (command.Remove name)))
named_marked name state named = record {
  once = once-marked name state.volume.snapshots.tree named.once;
  taken = λ q there. named.taken q (sym (has_name-marked name q state.volume.snapshots.tree) ∙ there);
}

-- a part of a purge
pub named_part : (state : PlainState) (p : FoldOrDrop) → AreNamed state → AreNamed (after_mark state (mark.Purged p))
named_part state p named = record {
  once = once-part state.volume.snapshots p named.once;
  taken = λ q there. named.taken q (elim (cases_Bool (has_name state.volume.snapshots.tree q)) [
    | inl old ↦ old
    | inr none ↦ absurd (true≢false (sym there ∙ has_name-part state.volume.snapshots p q none))
  ]);
}

-- a call that was done
named_called : (state : PlainState) (c : Call)
    → ((name : List ℕ) → c ≡ call.Command (command.Snapshot name) → is_used state.used name ≡ false)
    → AreNamed state → AreNamed (after_call state c)
named_called state (call.Read offset n) new named = named
named_called state (call.Write offset bytes) new named = record { once = named.once; taken = named.taken }
named_called state call.Ping new named = named
named_called state (call.Other kind) new named = named
named_called state (call.Command (command.Snapshot name)) new named = named_taken name state (new name refl) named
named_called state (call.Command (command.Remove name)) new named = named_marked name state named
named_called state (call.Command (command.Revert name)) new named = record { once = named.once; taken = named.taken }
named_called state (call.Command command.Purge) new named = named
named_called state (call.Command command.Status) new named = named
named_called state (call.Command (command.Fail r)) new named = named
named_called state (call.Command (command.Add r)) new named = named
named_called state (call.Command (command.Backup backup snapshot)) new named = named

-- a call that was answered so
pub named_unless : (refused : Bool) (state : PlainState) (c : Call)
    → ((name : List ℕ) → c ≡ call.Command (command.Snapshot name) → refused ≡ false → is_used state.used name ≡ false)
    → AreNamed state → AreNamed (cond refused state (after_call state c))
named_unless true state c new named = named
named_unless false state c new named = named_called state c (λ name is. new name is refl) named

-- one entry
pub named_entry : (state : PlainState) (e : Entry) → StandsAt state e → AreNamed state → AreNamed (after_entry state e)
named_entry state (entry.Answer a) here named = named_unless (is_refusal a.reply) state a.call here named
named_entry state (entry.Mark (mark.Purged p)) here named = named_part state p named
named_entry state (entry.Mark (mark.Fault stream r count)) here named = named
named_entry state (entry.Mark (mark.Failed r)) here named = named
named_entry state (entry.Mark (mark.Added r source name)) here named = named_taken name state here named
named_entry state (entry.Mark (mark.Promoted r)) here named = named
named_entry state (entry.Mark (mark.Aborted r)) here named = named

-- entries behind a journal
named_behind : (opening : Spot) (before : List Entry) (state : PlainState) (journal : List Entry)
    → replay opening.state before ≡ state → LegalAfter opening before journal → AreNamed state → AreNamed (replay state journal)
named_behind opening before state [] at legal named = named
named_behind opening before state (e ∷ es) at legal named =
    named_behind opening (before ++ e ∷ []) (after_entry state e) es (next opening before state e at) legal.1
    (named_entry state e (stands opening before state e es at legal.0) named)

-- a journal
pub stay_named : (opening : Spot) (journal : List Entry) → IsLegal opening journal → AreNamed opening.state
    → AreNamed (replay opening.state journal)
stay_named opening journal legal named = named_behind opening [] opening.state journal refl legal named

-- ---- the names

-- the names alone, and that one among them
pub is_used-names_in : (names : List UsedName) (q : List ℕ) → is_used_in names q ≡ is_used (names_in names) q
is_used-names_in [] q = refl
is_used-names_in (n ∷ ns) q = ap (λ b. bytes_eq q n.name || b) (is_used-names_in ns q)

-- a mark leaves them
names_in-marked : (name : List ℕ) (names : List UsedName) → names_in (map (name_marked name) names) ≡ names_in names
names_in-marked name [] = refl
names_in-marked name (n ∷ ns) = ap (λ x. x ∷ names_in (map (name_marked name) ns)) (one (bytes_eq name n.name))
    ∙ ap (λ l. n.name ∷ l) (names_in-marked name ns)
  where
    one : (same : Bool) → (cond same (record n { marked = true }) n).name ≡ n.name
    one true = refl
    one false = refl

pub names_in-with_name : (names : List UsedName) (name : List ℕ) → names_in (with_name names name) ≡ with_used (names_in names) name
names_in-with_name names name = one (is_used_in names name) (is_used (names_in names) name) (is_used-names_in names name)
  where
    one : (a b : Bool) → a ≡ b → names_in (cond a names (record { name = name; marked = false } ∷ names)) ≡ cond b
        (names_in names) (name ∷ names_in names)
    one true b e = ap (λ t. cond t (names_in names) (name ∷ names_in names)) e
    one false b e = ap (λ t. cond t (names_in names) (name ∷ names_in names)) e

tell_taken : (name : List ℕ) (names : List UsedName) (state : PlainState) → is_used state.used name ≡ false
    → TellOf names state → TellOf (with_name names name) (taken state name)
tell_taken name names state new tell = record {
  used = names_in-with_name names name ∙ ap (λ l. with_used l name) tell.used;
  live = λ q. ap (λ l. is_live_in l q) (cond-false (is_used_in names name) names (record { name = name; marked = false } ∷ names) fresh)
      ∙ ap (cond (bytes_eq q name) true) (tell.live q);
}
  where
    fresh : is_used_in names name ≡ false
    fresh = is_used-names_in names name ∙ ap (λ l. is_used l name) tell.used ∙ new

tell_marked : (name : List ℕ) (names : List UsedName) (state : PlainState) → TellOf names state
    → TellOf (map (name_marked name) names) (after_call state (call.Command (command.Remove name)))
tell_marked name names state tell = record {
  used = names_in-marked name names ∙ tell.used;
  live = λ q. is_live_in-marked name q names ∙ ap (cond (bytes_eq name q) false) (tell.live q)
      ∙ sym (is_live-marked name q state.volume.snapshots.tree);
}

-- a part of a purge: what goes can be used no longer, and its name stays
tell_part : (names : List UsedName) (state : PlainState) (p : FoldOrDrop)
    → CanBeDone state.volume.snapshots.tree state.volume.snapshots.on p → AreNamed state
    → TellOf names state → TellOf names (after_mark state (mark.Purged p))
tell_part names state p can named tell = record {
  used = tell.used;
  live = λ q. tell.live q ∙ sym (is_live-part state.volume.snapshots p q named.once can);
}

tell_called : (names : List UsedName) (state : PlainState) (c : Call)
    → ((name : List ℕ) → c ≡ call.Command (command.Snapshot name) → is_used state.used name ≡ false)
    → TellOf names state → TellOf (names_after_call names c) (after_call state c)
tell_called names state (call.Read offset n) new tell = tell
tell_called names state (call.Write offset bytes) new tell = record { used = tell.used; live = tell.live }
tell_called names state call.Ping new tell = tell
tell_called names state (call.Other kind) new tell = tell
tell_called names state (call.Command (command.Snapshot name)) new tell = tell_taken name names state (new name refl) tell
tell_called names state (call.Command (command.Remove name)) new tell = tell_marked name names state tell
tell_called names state (call.Command (command.Revert name)) new tell = record { used = tell.used; live = tell.live }
tell_called names state (call.Command command.Purge) new tell = tell
tell_called names state (call.Command command.Status) new tell = tell
tell_called names state (call.Command (command.Fail r)) new tell = tell
tell_called names state (call.Command (command.Add r)) new tell = tell
tell_called names state (call.Command (command.Backup backup snapshot)) new tell = tell

tell_unless : (refused : Bool) (names : List UsedName) (state : PlainState) (c : Call)
    → ((name : List ℕ) → c ≡ call.Command (command.Snapshot name) → refused ≡ false → is_used state.used name ≡ false) → TellOf names state
    → TellOf (cond refused names (names_after_call names c)) (cond refused state (after_call state c))
tell_unless true names state c new tell = tell
tell_unless false names state c new tell = tell_called names state c (λ name is. new name is refl) tell

-- one entry
pub tell_entry : (state : PlainState) (names : List UsedName) (e : Entry) → StandsAt state e → AreNamed state
    → TellOf names state → TellOf (names_after_entry names e) (after_entry state e)
tell_entry state names (entry.Answer a) here named tell = tell_unless (is_refusal a.reply) names state a.call here tell
tell_entry state names (entry.Mark (mark.Purged p)) here named tell = tell_part names state p here named tell
tell_entry state names (entry.Mark (mark.Fault stream r count)) here named tell = tell
tell_entry state names (entry.Mark (mark.Failed r)) here named tell = tell
tell_entry state names (entry.Mark (mark.Added r source name)) here named tell = tell_taken name names state here tell
tell_entry state names (entry.Mark (mark.Promoted r)) here named tell = tell
tell_entry state names (entry.Mark (mark.Aborted r)) here named tell = tell

-- entries behind a journal
tell_behind : (opening : Spot) (before : List Entry) (state : PlainState) (names : List UsedName) (journal : List Entry)
    → replay opening.state before ≡ state → LegalAfter opening before journal → AreNamed state
    → TellOf names state → TellOf (names_after names journal) (replay state journal)
tell_behind opening before state names [] at legal named tell = tell
tell_behind opening before state names (e ∷ es) at legal named tell =
    let here = stands opening before state e es at legal.0 in
    tell_behind opening (before ++ e ∷ []) (after_entry state e) (names_after_entry names e) es (next opening before state e at) legal.1
    (named_entry state e here named) (tell_entry state names e here named tell)

-- a journal
pub names_tell : (opening : Spot) (names : List UsedName) (journal : List Entry) → IsLegal opening journal → AreNamed opening.state
    → TellOf names opening.state → TellOf (names_after names journal) (replay opening.state journal)
names_tell opening names journal legal named tell = tell_behind opening [] opening.state names journal refl legal named tell

-- ---- the layers

-- a part of a purge
layers_part : (s : Snapshots) (p : FoldOrDrop) → CanBeDone s.tree s.on p → layer_count s - 1 ≡ layer_count (with_part s p)
layers_part s p can = omega (arith, length-with_part s p can)

layers_called : (state : PlainState) (c : Call) → layers_after_call (layer_count state.volume.snapshots) c ≡ layer_count
    (after_call state c).volume.snapshots
layers_called state (call.Read offset n) = refl
layers_called state (call.Write offset bytes) = refl
layers_called state call.Ping = refl
layers_called state (call.Other kind) = refl
layers_called state (call.Command (command.Snapshot name)) = omega arith
layers_called state (call.Command (command.Remove name)) = ap (λ n. n + 1) (sym (length-marked name state.volume.snapshots.tree))
layers_called state (call.Command (command.Revert name)) = refl
layers_called state (call.Command command.Purge) = refl
layers_called state (call.Command command.Status) = refl
layers_called state (call.Command (command.Fail r)) = refl
layers_called state (call.Command (command.Add r)) = refl
layers_called state (call.Command (command.Backup backup snapshot)) = refl

layers_unless : (refused : Bool) (state : PlainState) (c : Call)
    → cond refused (layer_count state.volume.snapshots)
    (layers_after_call (layer_count state.volume.snapshots) c) ≡ layer_count
    (cond refused state (after_call state c)).volume.snapshots
layers_unless true state c = refl
layers_unless false state c = layers_called state c

-- one entry
pub layers_entry : (state : PlainState) (e : Entry) → StandsAt state e
    → layers_after_entry (layer_count state.volume.snapshots) e ≡ layer_count (after_entry state e).volume.snapshots
layers_entry state (entry.Answer a) here = layers_unless (is_refusal a.reply) state a.call
layers_entry state (entry.Mark (mark.Purged p)) here = layers_part state.volume.snapshots p here
layers_entry state (entry.Mark (mark.Fault stream r count)) here = refl
layers_entry state (entry.Mark (mark.Failed r)) here = refl
layers_entry state (entry.Mark (mark.Added r source name)) here = omega arith
layers_entry state (entry.Mark (mark.Promoted r)) here = refl
layers_entry state (entry.Mark (mark.Aborted r)) here = refl

-- entries behind a journal
layers_behind : (opening : Spot) (before : List Entry) (state : PlainState) (journal : List Entry)
    → replay opening.state before ≡ state → LegalAfter opening before journal
    → layers_after (layer_count state.volume.snapshots) journal ≡ layer_count (replay state journal).volume.snapshots
layers_behind opening before state [] at legal = refl
layers_behind opening before state (e ∷ es) at legal =
    ap (λ n. layers_after n es) (layers_entry state e (stands opening before state e es at legal.0))
    ∙ layers_behind opening (before ++ e ∷ []) (after_entry state e) es (next opening before state e at) legal.1

-- a journal
pub layers_tell : (opening : Spot) (journal : List Entry) → IsLegal opening journal
    → layers_after (layer_count opening.state.volume.snapshots) journal ≡ layer_count (replay opening.state journal).volume.snapshots
layers_tell opening journal legal = layers_behind opening [] opening.state journal refl legal
