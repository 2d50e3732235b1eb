-- One worker that answers the streams of a load, one after another, makes a run of it.
use Rattle.std.proofs.Common.{◌≡◌, ℕ, suc, ◌≤◌, ◌^◌, List, [], ◌∷◌, All}
use Rattle.std.proofs.Common.{refl, sym, subst, ◌∙◌, arith, ⊎_elim}
use Rattle.std.proofs.lemmas.Bool.{cases_order}
use Rattle.std.proofs.lemmas.List.Elements.{All-nil, All-cons}
use Rattle.volume_model.specs.declared.call.Call.{Call}
use Rattle.volume_model.specs.declared.call.Call.TheVariants as call
use Rattle.volume_model.specs.declared.entry.Entry.{Entry}
use Rattle.volume_model.specs.declared.entry.Entry.TheVariants as entry
use Rattle.volume_model.specs.declared.mark.Mark.{Mark}
use Rattle.volume_model.specs.declared.mark.Mark.TheVariants as mark
use Rattle.volume_model.specs.Faults.{NamesLine, fault_counts}
use Rattle.volume_model.specs.OneWorker.{Store, AllProper, AreProper, IsProper, call_count, served, stream_of}
use Rattle.volume_model.proofs.OneWorkerLemmas.{served_is_history}
use Rattle.load_laws.specs.Load.{blank_disk, fresh, IsFrameIn, control_calls, IsLoad, IsRunOfLoad}
use Rattle.load_laws.proofs.NoFaults.{none_rises, none_later, fault_counted}

-- ---- the calls are as a script may have them

-- a frame is
frame_is_proper : (slice : ℕ) (c : Call) → IsFrameIn slice c → IsProper 2 c
frame_is_proper slice (call.Read offset count) frame = tt
frame_is_proper slice (call.Write offset bytes) frame = tt
frame_is_proper slice call.Ping frame = absurd frame
frame_is_proper slice (call.Other kind) frame = absurd frame
frame_is_proper slice (call.Command c) frame = absurd frame

-- all frames of a stream are
frames_are_proper : (slice : ℕ) (cs : List Call) → All (IsFrameIn slice) cs → AreProper 2 cs
frames_are_proper slice [] all = tt
frames_are_proper slice (c ∷ cs) all = (
  frame_is_proper slice c (all 0 c (omega arith)),
  frames_are_proper slice cs (λ k d low. all (suc k) d (omega (arith, low))),
)

-- those of the control stream are
controls_are_proper : AreProper 2 control_calls
controls_are_proper = (refl, (tt, (omega arith, (tt, (tt, tt)))))

-- so are those of each stream
stream_is_proper : (slices : ℕ) (calls : ℕ → List Call) (s : ℕ) → IsLoad slices calls → AreProper 2 (calls s)
stream_is_proper slices calls s load = ⊎_elim
    (λ is. subst (λ n. AreProper 2 (calls n)) (sym is) (subst (AreProper 2) (sym load.control) controls_are_proper))
    (λ other. ⊎_elim
    (λ low. frames_are_proper s (calls s) (load.frames s low))
    (λ high. subst (AreProper 2) (sym (load.others s high)) tt)
    other)
    (cases_order s slices)

-- and of all streams
each_is_proper : (streams : List (List Call)) → ((s : ℕ) → AreProper 2 (stream_of streams s)) → AllProper 2 streams
each_is_proper [] each = tt
each_is_proper (calls ∷ more) each = (each 0, each_is_proper more (λ s. each (suc s)))

-- ---- no fault is shown

not_nil : (n : ℕ) (ns : List ℕ) → n ∷ ns ≡ [] → ⊥
not_nil n ns e = cc

-- where no line's count is shown a mark is no fault
named_mark : (streams replicas : ℕ) (m : Mark) (es : List Entry) → ((s r : ℕ) → fault_counts s r (entry.Mark m ∷ es) ≡ [])
    → NamesLine streams replicas (entry.Mark m)
named_mark streams replicas (mark.Purged part) es none = tt
named_mark streams replicas (mark.Fault s r n) es none =
    absurd (not_nil n (fault_counts s r es) (sym (fault_counted s r n (fault_counts s r es)) ∙ none s r))
named_mark streams replicas (mark.Failed r) es none = tt
named_mark streams replicas (mark.Added r source name) es none = tt
named_mark streams replicas (mark.Promoted r) es none = tt
named_mark streams replicas (mark.Aborted r) es none = tt

-- nor is any
all_named : (streams replicas : ℕ) (es : List Entry) → ((s r : ℕ) → fault_counts s r es ≡ []) → All (NamesLine streams replicas) es
all_named streams replicas [] none = All-nil (NamesLine streams replicas)
all_named streams replicas (entry.Answer a ∷ es) none =
    All-cons (NamesLine streams replicas) (entry.Answer a) es tt (all_named streams replicas es none)
all_named streams replicas (entry.Mark m ∷ es) none =
    All-cons (NamesLine streams replicas) (entry.Mark m) es (named_mark streams replicas m es none)
    (all_named streams replicas es (λ s r. none_later s r m (fault_counts s r es) (none s r)))

-- ---- the run

-- the store of backups is never asked
pub served_is_run : (store : Store) (slices : ℕ) (streams : List (List Call)) → IsLoad slices (stream_of streams)
    → call_count streams ≤ 2 ^ 64
    → IsRunOfLoad slices (λ stream replica. 0) (stream_of streams) (served store (fresh (blank_disk slices)) streams)
served_is_run store slices streams load most =
    let history = served_is_history store (fresh (blank_disk slices)) (λ stream replica. 0) streams
    (each_is_proper streams (λ s. stream_is_proper slices (stream_of streams) s load)) (λ number from to. refl)
    (omega (arith, most)) in
    record {
      load = load;
      history = history;
      lines = all_named (suc slices) 2 (served store (fresh (blank_disk slices)) streams)
          (λ s r. none_rises (fault_counts s r (served store (fresh (blank_disk slices)) streams)) (history.faults s r));
      none = λ stream replica low low_too. refl;
    }
