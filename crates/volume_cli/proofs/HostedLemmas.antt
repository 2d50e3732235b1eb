-- What sessions that came through doors say at the top.
use Rattle.std.proofs.Common.{◌≡◌, ◌↔◌, ℕ, ◌<◌, ◌≤◌, ◌-◌, ◌^◌, Bool, true, false, List, [], ◌++◌, length, map, All}
use Rattle.std.proofs.Common.{String, Option, Some, Result, Ok, Err, IfOk, IsErrAnd, refl, sym, ap, subst, ◌∙◌, inl, inr, arith}
use Rattle.std.proofs.lemmas.List.{append-nil, length-map}
use Rattle.std.proofs.lemmas.List.Elements.{All-map}
use Rattle.std.specs.Io.KnownBytes.{Appends}
use Rattle.std.specs.declared.alloc.AllocError.{AllocError}
use Rattle.outer_traits.specs.Passing.{WritesPrefix}
use Rattle.door_traits.specs.Sessions.{AreUnfailed, Come, GoBack, Told, told_all, untouched}
use Rattle.door_traits.specs.declared.client.Client.{Client}
use Rattle.shelf_traits.specs.Files.{Files}
use Rattle.target_traits.specs.Objects.{Objects}
use Rattle.program_words.specs.Asked.{asked_by}
use Rattle.program_words.specs.Numbers.{AreServeNumbers}
use Rattle.program_words.specs.declared.words.Words.TheVariants.{Serve}
use Rattle.program_words.proofs.LimitLemmas.{asked_keeps}
use Rattle.replica_node.specs.Node.{blank}
use Rattle.replica_node.specs.Volume.{volume_of_node}
use Rattle.journal_book.specs.Book.{modes_of}
use Rattle.report_laws.specs.Fits.{AllFit}
use Rattle.report_writer.proofs.SameVolume.{each_volume, same_end}
use Rattle.run_report.specs.Report.{end_lines, journal_lines}
use Rattle.run_report.specs.Sessions.{session_lines}
use Rattle.session_workers.specs.Served.{AreSessionsServed}
use Rattle.session_workers.specs.declared.serving.ServedSessions.{ServedSessions}
use Rattle.stream_turns.specs.Volume.{spot_of_zeros}
use Rattle.volume_model.specs.Modes.{modes_after}
use Rattle.volume_model.specs.Replay.{replay}
use Rattle.volume_cli.specs.declared.serve.HostError.{HostError}
use Rattle.volume_cli.specs.declared.serve.HostError.TheVariants as host_error
use Rattle.volume_cli.specs.declared.status.Status.TheVariants as status
use Rattle.volume_cli.specs.Ends.{Counts}
use Rattle.volume_cli.specs.Headline.{AskServe, IsStatus, RefusedOnly}
use Rattle.volume_cli.specs.Hosted.{AreHosted, GoBackCutShort, HasNotFailed, HavePassed, HostCounts, Hosts, LeavesHosted, PassFact}
use Rattle.volume_cli.specs.Hosted.{host_status, hosted_text, served_text}
use Rattle.volume_cli.proofs.Statuses.{rose_more, rose_not_same, same_not_more}

-- ---- what is written

-- what is written of sessions that were served is their report
pub written_hosted : (size replicas : ℕ) (before now : List Told) (s : ServedSessions) → AreSessionsServed size replicas before now s
    → served_text s ≡ hosted_text size replicas s
written_hosted size replicas before now s served =
    let book = s.world.journal in
    let nodes = s.world.nodes.items in
    let v = (replay (spot_of_zeros size replicas).state book.entries).volume in
    ap (λ l. journal_lines 0 book.entries ++ session_lines 0 s.ended.items ++ l)
    (same_end (modes_of book) (map volume_of_node nodes) v (length-map nodes volume_of_node ∙ served.many)
    (each_volume (modes_of book) nodes (blank 0) v served.many served.volumes))
    ∙ ap (λ ms. journal_lines 0 book.entries ++ session_lines 0 s.ended.items ++ end_lines (modes_after ms book.entries) v)
    served.opening

-- ---- the doors

-- those that came, and went back untouched
pub gone_untouched : (tells : Bool) (count sessions : ℕ) (coming rest : List (List ℕ)) (back all : List Told) → count ≡ sessions
    → (tells ≡ true → GoBack count coming rest back all)
    → (those : List Told) × (length those ≤ sessions) × (tells ≡ true → HavePassed coming rest back all those those)
gone_untouched true count sessions coming rest back all same gone =
    let (inputs, few, came, went) = gone refl in
    (map untouched inputs, omega (arith, few, same, length-map inputs untouched), λ _. ((inputs, came, refl), went))
gone_untouched false count sessions coming rest back all same gone = ([], omega arith, λ is. absurd cc)

-- as many tell something as there are
pub told_many : {I O : Type 0} (left : I → Option (List ℕ)) (read : I → ℕ) (holds : O → Option (List ℕ)) (write : O → ℕ)
    (clients : List (Client I O)) → length (told_all left read holds write clients) ≡ length clients
told_many left read holds write clients = length-map clients _

-- what each tells of whose ends none has failed
pub told_unfailed : {I O : Type 0} (left : I → Option (List ℕ)) (read : I → ℕ) (holds : O → Option (List ℕ)) (write : O → ℕ)
    (clients : List (Client I O)) → AreUnfailed read write clients → All HasNotFailed (told_all left read holds write clients)
told_unfailed left read holds write clients well =
    All-map HasNotFailed (λ c. record {
      left = left c.source;
      read_faults = read c.source;
      holds = holds c.sink;
      write_faults = write c.sink;
    }) clients well

-- they came, and stayed until they went, and so they passed
pub have_passed : (tells : Bool) (coming between rest : List (List ℕ)) (back same all : List Told) (before now : List Told)
    → (tells ≡ true → Come coming between before) → same ≡ back → rest ≡ between → (tells ≡ true → all ≡ same ++ now)
    → tells ≡ true → HavePassed coming rest back all before now
have_passed tells coming between rest back same all before now come kept stays gone is =
    (subst (λ r. Come coming r before) (sym stays) (come is), gone is ∙ ap (λ b. b ++ now) kept)

-- nobody passed
pub nobody_passed : (coming : List (List ℕ)) (back : List Told) → HavePassed coming coming back back [] []
nobody_passed coming back = (([], refl, refl), sym (append-nil back))

-- ---- what is left

-- these clients came, were served so, and went back
pub clients_hosted : {I O : Type 0} (left : I → Option (List ℕ)) (read : I → ℕ) (holds : O → Option (List ℕ)) (write : O → ℕ)
    (came went : List (Client I O)) (size replicas sessions : ℕ) (Pass : PassFact) (served : Result ServedSessions AllocError)
    (s : ServedSessions) → length came ≡ sessions → length went ≡ length came → AreUnfailed read write came → served ≡ Ok s
    → IfOk served (AreSessionsServed size replicas (told_all left read holds write came) (told_all left read holds write went))
    → AllFit s.world.journal.entries → Pass (told_all left read holds write came) (told_all left read holds write went)
    → AreHosted size replicas sessions Pass s
clients_hosted left read holds write came went size replicas sessions Pass served s many same well is fact fits passed = record {
  before = told_all left read holds write came;
  now = told_all left read holds write went;
  passed = passed;
  came = told_many left read holds write came ∙ many;
  went = told_many left read holds write went ∙ same ∙ many;
  unfailed = told_unfailed left read holds write came well;
  served = subst (λ r. IfOk r (AreSessionsServed size replicas (told_all left read holds write came) (told_all left read holds write went)))
      is fact;
  fits = fits;
}

-- where memory ran out in a session
pub stopped_left : (size replicas sessions : ℕ) (Pass : PassFact) (same : Type 0) (old new : Option (List ℕ))
    (r : Result (Unit {0}) HostError) → IsErrAnd r (λ e. e ≡ host_error.NoMemory) → same
    → GoBackCutShort size replicas sessions Pass same old new → LeavesHosted size replicas sessions Pass same old new r
stopped_left size replicas sessions Pass same old new (Ok done) is kept gone = absurd is
stopped_left size replicas sessions Pass same old new (Err e) is kept gone =
    subst (λ x. LeavesHosted size replicas sessions Pass same old new (Err x)) (sym is) (inl (kept, inr gone))

-- of sessions that were served, of which so much was written
module _ (size replicas sessions : ℕ) (Pass : PassFact) (old new : Option (List ℕ)) (s : ServedSessions)
    (hosted : AreHosted size replicas sessions Pass s) where
  is_report : served_text s ≡ hosted_text size replicas s
  is_report = written_hosted size replicas hosted.before hosted.now s hosted.served

  pub hosted_whole : Appends old new (served_text s)
      → (t : ServedSessions) × AreHosted size replicas sessions Pass t × Appends old new (hosted_text size replicas t)
  hosted_whole whole = (s, hosted, subst (Appends old new) is_report whole)

  pub hosted_some : WritesPrefix old new (served_text s)
      → (t : ServedSessions) × AreHosted size replicas sessions Pass t × WritesPrefix old new (hosted_text size replicas t)
  hosted_some prefix = (s, hosted, subst (WritesPrefix old new) is_report prefix)

-- ---- what the status tells

-- what the counts say of it at the top: of source, sink, shelves and target the sink alone may fail
pub host_counts : (r : Result (Unit {0}) HostError) (s k l h m d e : ℕ) → HostCounts r k l d e → Counts (host_status r) s s k l h h m m
host_counts (Ok done) s k l h m d e c = (refl, c.0, refl, refl)
host_counts (Err host_error.DoorFault) s k l h m d e c = (refl, c.0, refl, refl)
host_counts (Err host_error.WriteFault) s k l h m d e c = (refl, c.0, inr refl, refl)
host_counts (Err host_error.NoMemory) s k l h m d e c = (refl, inr c.0, refl, inr refl)

-- a fault of the doors is told just where their count rose
pub host_door_fault : (r : Result (Unit {0}) HostError) (k l d e : ℕ) → d < 2 ^ 64 - 1 → HostCounts r k l d e
    → host_status r ≡ status.DoorFault ↔ d < e
host_door_fault (Ok done) k l d e low c = (λ is. absurd cc, λ more. absurd (same_not_more d e c.1 more))
host_door_fault (Err host_error.DoorFault) k l d e low c = (λ is. rose_more d e low c.1, λ more. refl)
host_door_fault (Err host_error.WriteFault) k l d e low c = (λ is. absurd cc, λ more. absurd (same_not_more d e c.1 more))
host_door_fault (Err host_error.NoMemory) k l d e low c = (λ is. absurd cc, λ more. absurd (same_not_more d e c.1 more))

-- it is done where neither failed
pub host_done : (r : Result (Unit {0}) HostError) (k l d e : ℕ) → k < 2 ^ 64 - 1 → d < 2 ^ 64 - 1 → HostCounts r k l d e → e ≡ d → l ≡ k
    → IsStatus (host_status r) status.Done
host_done (Ok done) k l d e low_k low_d c well dry = inl refl
host_done (Err host_error.DoorFault) k l d e low_k low_d c well dry = absurd (rose_not_same d e low_d c.1 well)
host_done (Err host_error.WriteFault) k l d e low_k low_d c well dry = absurd (rose_not_same k l low_k c.0 dry)
host_done (Err host_error.NoMemory) k l d e low_k low_d c well dry = inr refl

-- and then neither did
pub host_done_counts : (r : Result (Unit {0}) HostError) (k l d e : ℕ) → HostCounts r k l d e → host_status r ≡ status.Done
    → (l ≡ k) × (e ≡ d)
host_done_counts (Ok done) k l d e c is = c
host_done_counts (Err host_error.DoorFault) k l d e c is = absurd cc
host_done_counts (Err host_error.WriteFault) k l d e c is = absurd cc
host_done_counts (Err host_error.NoMemory) k l d e c is = absurd cc

-- it is no usage error
pub host_no_usage : (r : Result (Unit {0}) HostError) → host_status r ≡ status.Usage → ⊥
host_no_usage (Ok done) is = cc
host_no_usage (Err host_error.DoorFault) is = cc
host_no_usage (Err host_error.WriteFault) is = cc
host_no_usage (Err host_error.NoMemory) is = cc

-- and a refusal only of the doors
pub host_refused_only : {A : Type 0} (words : List (String A)) (left : Option (List ℕ)) (held : Option Files) (tells : Bool)
    (objects : Objects) (r : Result (Unit {0}) HostError) → AskServe words
    → RefusedOnly words left held tells objects (host_status r)
host_refused_only words left held tells objects (Ok done) asks = tt
host_refused_only words left held tells objects (Err host_error.DoorFault) asks = asks
host_refused_only words left held tells objects (Err host_error.WriteFault) asks = tt
host_refused_only words left held tells objects (Err host_error.NoMemory) asks = tt

-- ---- the words

-- what the words ask for is within its limits
pub can_host : (words : List (List ℕ)) (address : List ℕ) (size replicas sessions : ℕ)
    → asked_by words ≡ Some (Serve address size replicas sessions) → AreServeNumbers size replicas sessions
can_host words address size replicas sessions asks = asked_keeps words (Serve address size replicas sessions) asks

-- where nobody came, since memory ran out before
pub hosts_nobody : (size replicas sessions : ℕ) (tells : Bool) (coming : List (List ℕ)) (back : List Told) (same : Type 0)
    (old : Option (List ℕ)) → same
    → Hosts size replicas sessions (λ before now. tells ≡ true → HavePassed coming coming back back before now) same old old
    status.NoMemory
hosts_nobody size replicas sessions tells coming back same old is =
    (Err host_error.NoMemory, refl, inl (is, inl ([], omega arith, λ _. nobody_passed coming back)))

-- the same of the numbers that the words have, whichever they are
pub hosts_as : (a : List ℕ) (b c d : ℕ) (address : List ℕ) (size replicas sessions : ℕ) (Pass : PassFact) (same : Type 0)
    (old new : Option (List ℕ)) (r : Result (Unit {0}) HostError) → LeavesHosted b c d Pass same old new r
    → Some (Serve a b c d) ≡ Some (Serve address size replicas sessions)
    → Hosts size replicas sessions Pass same old new (host_status r)
hosts_as a b c d address size replicas sessions Pass same old new r left asked =
    let So : ℕ → ℕ → ℕ → Type 0 = λ x y z. LeavesHosted x y z Pass same old new r in
    let one : b ≡ size = cc in
    let two : c ≡ replicas = cc in
    let three : d ≡ sessions = cc in
    (r, refl, subst (λ x. So x replicas sessions) one (subst (λ y. So b y sessions) two (subst (λ z. So b c z) three left)))
