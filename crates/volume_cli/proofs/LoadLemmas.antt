-- What a load that generates itself says at the top.
use Rattle.std.proofs.Common.{◌≡◌, ℕ, ◌+◌, ◌-◌, ◌<◌, ◌^◌, Bool, String, List, length, map, take, Option, Some, Result, Ok, Err, OnOk}
use Rattle.std.proofs.Common.{arith, refl, ap, subst, ◌∙◌, inl, inr}
use Rattle.std.proofs.lemmas.List.{length-map}
use Rattle.std.specs.Io.KnownBytes.{Appends}
use Rattle.outer_traits.specs.Causes.{HasOuterCause}
use Rattle.outer_traits.specs.Lines.{Asked}
use Rattle.outer_traits.specs.Passing.{WritesPrefix}
use Rattle.outer_traits.specs.declared.error.OuterError.{OuterError}
use Rattle.outer_traits.specs.declared.error.OuterError.TheVariants as outer_error
use Rattle.shelf_traits.specs.Files.{Files}
use Rattle.target_traits.specs.Objects.{Objects}
use Rattle.program_words.specs.declared.words.Words.TheVariants.{Generate}
use Rattle.program_words.specs.Asked.{asked_by}
use Rattle.program_words.proofs.LimitLemmas.{asked_keeps}
use Rattle.replica_node.specs.Node.{blank}
use Rattle.replica_node.specs.Volume.{volume_of_node}
use Rattle.report_writer.specs.Written.{written_summary}
use Rattle.report_writer.proofs.SameVolume.{written_is_summary}
use Rattle.run_report.specs.Summary.{summary_in}
use Rattle.script_text.specs.Generated.{CanGenerate, generated}
use Rattle.script_text.specs.declared.script.Script.{Script}
use Rattle.script_text.proofs.GeneratedGood.{length-streams_from}
use Rattle.stream_turns.specs.declared.serving.ServedStreams.{ServedStreams}
use Rattle.stream_turns.specs.Run.{HaveNotFailed, IsRun}
use Rattle.stream_turns.specs.Serving.{IsServed}
use Rattle.stream_turns.specs.Volume.{blank_spot, heads_in, heads_of}
use Rattle.summary_laws.specs.LoadText.{load_text}
use Rattle.summary_laws.proofs.TextLemmas.{has_load_text}
use Rattle.volume_model.specs.declared.entry.Entry.{Entry}
use Rattle.volume_cli.specs.declared.status.Status.{Status}
use Rattle.volume_cli.specs.declared.status.Status.TheVariants as status
use Rattle.volume_cli.specs.Begun.{blank_begin}
use Rattle.volume_cli.specs.Ends.{Counts, Leaves}
use Rattle.volume_cli.specs.Headline.{IsStatus, RefusedOnly}
use Rattle.volume_cli.specs.Left.{IsRunOf, RunFact, StoreFact, frame_heads, load_purpose}
use Rattle.volume_cli.specs.Loads.{IsLoadRun, LeavesLoad, load_status, load_summary, served_summary}
use Rattle.volume_cli.proofs.Finishing.{both_same, rose_exactly}
use Rattle.volume_cli.proofs.Statuses.{rose_not_same}

-- a load's run is one that the words ask for: it opens nothing, saves nothing and backs nothing up
pub load_runs : (number streams calls : ℕ) (before now : Option (List Asked)) (counted : ℕ → ℕ → ℕ)
    (told : ℕ → ℕ → Option (List (List ℕ))) (held : Option Files) (well : Type 0) (Stores : StoreFact) (spared : Type 0) → spared
    → (st : Status) (journal : List Entry) → IsLoadRun before now counted told Stores (generated number streams calls) journal
    → IsRunOf (Some (Generate number streams calls)) before now counted told held held well Stores spared st
    (generated number streams calls) (blank_begin (generated number streams calls)) journal
load_runs number streams calls before now counted told held well Stores spared same st journal l = record {
  begun = record { opened = λ opens. absurd cc; blank = λ none. refl };
  run = l.run;
  fits = l.fits;
  lines = l.lines;
  turns = λ one. absurd cc;
  saved = λ saves. absurd cc;
  kept = λ none. refl;
  only = both_same held 2;
  store = l.store;
  unasked = λ none. same;
}

-- what it leaves
pub load_leaves : (number streams calls : ℕ) (Runs : RunFact) (Loads : List Entry → Type 0) (same untouched still spared fell : Type 0)
    (old new : Option (List ℕ)) → still
    → ((st : Status) (journal : List Entry) → Loads journal → Runs st (generated number streams calls)
    (blank_begin (generated number streams calls)) journal)
    → (r : Result (Unit {0}) OuterError) → LeavesLoad Loads (generated number streams calls) same old new r
    → Leaves (load_purpose number streams calls) Runs same untouched still spared fell old new (load_status r)
load_leaves number streams calls Runs Loads same untouched still spared fell old new stays runs (Ok done) (journal, is, whole) = record {
  script = generated number streams calls;
  begin = blank_begin (generated number streams calls);
  journal = journal;
  had = refl;
  runs = runs status.Done journal is;
  whole = whole;
}
load_leaves number streams calls Runs Loads same untouched still spared fell old new stays runs (Err outer_error.Failed)
    (journal, is, prefix) = record {
      script = generated number streams calls;
      begin = blank_begin (generated number streams calls);
      journal = journal;
      had = refl;
      runs = runs status.WriteFault journal is;
      prefix = prefix;
    }
load_leaves number streams calls Runs Loads same untouched still spared fell old new stays runs (Err outer_error.NoMemory)
    (inl kept) = inl (kept, stays)
load_leaves number streams calls Runs Loads same untouched still spared fell old new stays runs (Err outer_error.NoMemory)
    (inr (journal, is, prefix)) = inr (record {
      script = generated number streams calls;
      begin = blank_begin (generated number streams calls);
      journal = journal;
      had = refl;
      runs = runs status.NoMemory journal is;
      prefix = prefix;
    })

-- what the counts say of it: the sink alone may fail
pub load_counts : (r : Result (Unit {0}) OuterError) (s k l h m n : ℕ) → HasOuterCause k l r → n ≡ m
    → Counts (load_status r) s s k l h h m n
load_counts (Ok done) s k l h m n c same = (refl, c.cause, refl, same)
load_counts (Err outer_error.Failed) s k l h m n c same = (refl, rose_exactly k l c.cause, inr refl, same)
load_counts (Err outer_error.NoMemory) s k l h m n c same = (refl, inr c.cause, refl, inr same)

-- it is done where the sink did not fail
pub load_done : (r : Result (Unit {0}) OuterError) (k l : ℕ) → k < 2 ^ 64 - 1 → HasOuterCause k l r → l ≡ k
    → IsStatus (load_status r) status.Done
load_done (Ok done) k l low c dry = inl refl
load_done (Err outer_error.Failed) k l low c dry = absurd (rose_not_same k l low (rose_exactly k l c.cause) dry)
load_done (Err outer_error.NoMemory) k l low c dry = inr refl

-- and it is no usage error, and no refusal
pub load_no_usage : (r : Result (Unit {0}) OuterError) → load_status r ≡ status.Usage → ⊥
load_no_usage (Ok done) is = cc
load_no_usage (Err outer_error.Failed) is = cc
load_no_usage (Err outer_error.NoMemory) is = cc

pub load_refused_only : {A : Type 0} (words : List (String A)) (left : Option (List ℕ)) (held : Option Files) (tells : Bool)
    (objects : Objects) (r : Result (Unit {0}) OuterError) → RefusedOnly words left held tells objects (load_status r)
load_refused_only words left held tells objects (Ok done) = tt
load_refused_only words left held tells objects (Err outer_error.Failed) = tt
load_refused_only words left held tells objects (Err outer_error.NoMemory) = tt

-- ---- what is summed up

-- the headers of all streams but the last
frames_are : (number streams calls : ℕ) → frame_heads (generated number streams calls)
    ≡ take streams (heads_in (generated number streams calls))
frames_are number streams calls =
    let count = length-streams_from number calls 0 streams in
    let less : length (generated number streams calls).streams - 1 ≡ streams = omega (arith, count) in
    ap (λ n. take n (heads_in (generated number streams calls))) less

-- the summary of a run in which no line has failed
summary_is : (number streams calls : ℕ) (counted : ℕ → ℕ → ℕ) (told : ℕ → ℕ → Option (List (List ℕ))) (journal : List Entry)
    → IsRun counted told (generated number streams calls) (blank_spot (generated number streams calls)) journal
    → HaveNotFailed counted (generated number streams calls)
    → load_summary (generated number streams calls) journal ≡ load_text number streams calls
summary_is number streams calls counted told journal run well =
    let script = generated number streams calls in
    ap (λ heads. summary_in heads (blank_spot script) journal) (frames_are number streams calls)
    ∙ has_load_text number streams calls script counted told journal refl run well

-- what is written of a load that was served
pub written_load : (script : Script) (counted : ℕ → ℕ → ℕ) (told : ℕ → ℕ → Option (List (List ℕ))) (s : ServedStreams)
    → IsServed script (blank_spot script) counted told s → served_summary s ≡ load_summary script s.world.journal.entries
written_load script counted told s served =
    let same : length (heads_in script) ≡ length script.streams = length-map script.streams heads_of in
    let frames : take (length s.heads.items - 1) s.heads.items ≡ frame_heads script =
    ap (λ hs. take (length hs - 1) hs) served.heads ∙ ap (λ n. take (n - 1) (heads_in script)) same in
    ap (λ hs. written_summary hs s.world.journal (map volume_of_node s.world.nodes.items)) frames
    ∙ written_is_summary (frame_heads script) s.world.journal (blank_spot script) s.world.nodes.items (blank 0) served.opening
    served.many served.replicas

-- so many streams were served: those of frames, and the control stream
pub served_many : (number streams calls : ℕ) (counted : ℕ → ℕ → ℕ) (told : ℕ → ℕ → Option (List (List ℕ))) (script : Script)
    (s : ServedStreams) → script ≡ generated number streams calls → IsServed script (blank_spot script) counted told s
    → length s.heads.items ≡ streams + 1
served_many number streams calls counted told script s is served =
    ap length served.heads ∙ length-map script.streams heads_of ∙ ap (λ x. length x.streams) is ∙ length-streams_from number calls 0 streams

-- what is left of a load that was served, of which so much was written
pub load_left : (before now : Option (List Asked)) (counted : ℕ → ℕ → ℕ) (told : ℕ → ℕ → Option (List (List ℕ))) (Stores : StoreFact)
    (same : Type 0) (old new : Option (List ℕ)) (script : Script) (s : ServedStreams) → IsServed script (blank_spot script) counted told s
    → IsLoadRun before now counted told Stores script s.world.journal.entries
    → (r : Result (Unit {0}) OuterError) → OnOk r (Appends old new (served_summary s)) → WritesPrefix old new (served_summary s)
    → LeavesLoad (IsLoadRun before now counted told Stores script) script same old new r
load_left before now counted told Stores same old new script s served run (Ok done) whole prefix =
    (s.world.journal.entries, run, subst (Appends old new) (written_load script counted told s served) whole)
load_left before now counted told Stores same old new script s served run (Err outer_error.Failed) whole prefix =
    (s.world.journal.entries, run, subst (WritesPrefix old new) (written_load script counted told s served) prefix)
load_left before now counted told Stores same old new script s served run (Err outer_error.NoMemory) whole prefix =
    inr (s.world.journal.entries, run, subst (WritesPrefix old new) (written_load script counted told s served) prefix)

-- where no line has failed, its summary is a function of its numbers
pub load_summed : (number streams calls : ℕ) (before now : Option (List Asked)) (counted : ℕ → ℕ → ℕ)
    (told : ℕ → ℕ → Option (List (List ℕ))) (Stores : StoreFact) (same : Type 0) (old new : Option (List ℕ))
    → (r : Result (Unit {0}) OuterError)
    → LeavesLoad (IsLoadRun before now counted told Stores (generated number streams calls)) (generated number streams calls) same old new r
    → load_status r ≡ status.Done → HaveNotFailed counted (generated number streams calls)
    → Appends old new (load_text number streams calls)
load_summed number streams calls before now counted told Stores same old new (Ok done) (journal, l, whole) is well =
    subst (Appends old new) (summary_is number streams calls counted told journal l.run well) whole
load_summed number streams calls before now counted told Stores same old new (Err outer_error.Failed) left is well = absurd cc
load_summed number streams calls before now counted told Stores same old new (Err outer_error.NoMemory) left is well = absurd cc

-- ---- the words

-- what the words ask for can be generated
pub can_generate : (words : List (List ℕ)) (number streams calls : ℕ) → asked_by words ≡ Some (Generate number streams calls)
    → CanGenerate streams calls
can_generate words number streams calls asks =
    let keeps = asked_keeps words (Generate number streams calls) asks in record {
      some_streams = keeps.some_streams;
      few_streams = keeps.few_streams;
      some_calls = keeps.some_calls;
      few_calls = keeps.few_calls;
    }

-- the same of the numbers that the words have, whichever they are
pub summed_as : (n s k number streams calls : ℕ) (before now : Option (List Asked)) (counted : ℕ → ℕ → ℕ)
    (told : ℕ → ℕ → Option (List (List ℕ))) (Stores : StoreFact) (same : Type 0) (old new : Option (List ℕ))
    → (r : Result (Unit {0}) OuterError)
    → LeavesLoad (IsLoadRun before now counted told Stores (generated n s k)) (generated n s k) same old new r
    → load_status r ≡ status.Done → Some (Generate n s k) ≡ Some (Generate number streams calls)
    → HaveNotFailed counted (generated number streams calls) → Appends old new (load_text number streams calls)
summed_as n s k number streams calls before now counted told Stores same old new r left is asked =
    let So : ℕ → ℕ → ℕ → Type 0 = λ a b c. HaveNotFailed counted (generated a b c) → Appends old new (load_text a b c) in
    let one : n ≡ number = cc in
    let two : s ≡ streams = cc in
    let three : k ≡ calls = cc in
    subst (λ a. So a streams calls) one (subst (λ b. So n b calls) two (subst (λ c. So n s c) three
    (load_summed n s k before now counted told Stores same old new r left is)))
