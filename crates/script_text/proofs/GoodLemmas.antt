-- What is good in each script.
use Rattle.std.proofs.Common.{◌≡◌, ◌∙◌, ℕ, suc, ◌+◌, ◌≤◌, ◌==◌, ◌&&◌, Bool, true, false, cond, List, [], ◌∷◌, length, All}
use Rattle.std.proofs.Common.{Option, Some, None, refl, ap, ap₂, subst, sym, arith}
use Rattle.std.specs.Prelude.{count_by}
use Rattle.std.proofs.lemmas.List.Sums.{sum_by-cons}
use Rattle.std.proofs.lemmas.List.Elements.{All-nil, All-cons, All-head, All-tail}
use Rattle.volume_model.specs.declared.command.Command.{Command}
use Rattle.serde_json.specs.Data.{Data, Items, no_items, item}
use Rattle.script_head.specs.Limits.{largest_carry}
use Rattle.script_head.specs.LinePlans.{NoPairTwice, planned}
use Rattle.script_head.specs.Members.{IsCommandItem, IsStreamItem, IsCarryItem, IsLinePlan, ArePlans, has_backup, backs_up as head_backs_up}
use Rattle.script_head.specs.Values.{AreItems}
use Rattle.script_head.specs.declared.head.StreamHead.{StreamHead}
use Rattle.script_head.specs.declared.head.StreamHead.TheVariants as head
use Rattle.script_head.specs.declared.line_plan.LinePlan.{LinePlan}
use Rattle.script_text.specs.declared.script.Script.{Script}
use Rattle.script_text.specs.declared.script.Stream.{Stream}
use Rattle.script_text.specs.declared.script.Stream.TheVariants as stream
use Rattle.script_text.specs.Good.{backs_up, IsGoodCommand, IsGoodStream, AreCarries, IsGoodPlan, IsGood}
use Rattle.script_text.specs.Script.{IsScript}
use Rattle.script_text.specs.Streams.{AreStreams, IsStreamOf}

-- each of the items is an item, and so each of the list is good
all_good : {A : Type 0} (IsItem : Data → A → Type 0) (IsGood : A → Type 0) → ((d : Data) (a : A) → IsItem d a → IsGood a)
    → (ds : Items) (xs : List A) → AreItems IsItem ds xs → All IsGood xs
all_good IsItem IsGood good no_items [] are = All-nil IsGood
all_good IsItem IsGood good no_items (x ∷ xs) are = absurd are
all_good IsItem IsGood good (item d ds) [] are = absurd are
all_good IsItem IsGood good (item d ds) (x ∷ xs) (is, more) = All-cons IsGood x xs (good d x is) (all_good IsItem IsGood good ds xs more)

-- ---- replicas and streams

pub few_replicas : (input : List ℕ) (script : Script) → IsScript input script → (1 ≤ script.replicas) × (script.replicas ≤ 8)
few_replicas input script is =
    let r = is.headed.says.2.replicas in
    (subst (λ n. 1 ≤ n) (sym is.replicas) r.1, subst (λ n. n ≤ 8) (sym is.replicas) r.2)

-- there are as many streams as the first line says
as_many : (heads : List StreamHead) (bytes : List ℕ) (streams : List Stream) → AreStreams heads bytes streams
    → length streams ≡ length heads
as_many [] bytes [] are = refl
as_many [] bytes (s ∷ ss) are = absurd are
as_many (h ∷ hs) bytes [] are = absurd are
as_many (h ∷ hs) bytes (s ∷ ss) are = ap (λ n. suc n) (as_many hs _ ss are.1)

pub few_streams : (input : List ℕ) (script : Script) → IsScript input script → (1 ≤ length script.streams) × (length script.streams ≤ 16)
few_streams input script is =
    let same = as_many _ _ script.streams is.streams in
    let some = is.headed.says.2.streams in
    (subst (λ n. 1 ≤ n) (sym same) some.1, subst (λ n. n ≤ 16) (sym same) some.2)

-- ---- streams

good_command : (replicas : ℕ) (d : Data) (c : Command) → IsCommandItem replicas d c → IsGoodCommand replicas c
good_command replicas d c (text, there, is, names) = record { named = is.named; there = names }

good_stream : (replicas : ℕ) (d : Data) (h : StreamHead) (bytes : List ℕ) (s : Stream) → IsStreamItem replicas d h
    → IsStreamOf h bytes s → IsGoodStream replicas s
good_stream replicas d (head.Frames count) bytes (stream.Frames frames) says is = is.1.calls
good_stream replicas d (head.Frames count) bytes (stream.Control commands) says is = absurd is
good_stream replicas d (head.Control commands) bytes (stream.Frames frames) says is = absurd is
good_stream replicas d (head.Control commands) bytes (stream.Control others) says is =
    subst (All (IsGoodCommand replicas)) (sym is)
    (all_good (IsCommandItem replicas) (IsGoodCommand replicas) (good_command replicas) says.0.0 commands says.0.2)

good_streams_of : (replicas : ℕ) (items : Items) (heads : List StreamHead) (bytes : List ℕ) (streams : List Stream)
    → AreItems (IsStreamItem replicas) items heads → AreStreams heads bytes streams → All (IsGoodStream replicas) streams
good_streams_of replicas no_items [] bytes [] say are = All-nil (IsGoodStream replicas)
good_streams_of replicas no_items [] bytes (s ∷ ss) say are = absurd are
good_streams_of replicas no_items (h ∷ hs) bytes ss say are = absurd say
good_streams_of replicas (item d ds) [] bytes ss say are = absurd say
good_streams_of replicas (item d ds) (h ∷ hs) bytes [] say are = absurd are
good_streams_of replicas (item d ds) (h ∷ hs) bytes (s ∷ ss) say are =
    All-cons (IsGoodStream replicas) s ss (good_stream replicas d h _ s say.0 are.0) (good_streams_of replicas ds hs _ ss say.1 are.1)

pub good_streams : (input : List ℕ) (script : Script) → IsScript input script → All (IsGoodStream script.replicas) script.streams
good_streams input script is =
    let streams = is.headed.says.2.streams.0 in
    subst (λ n. All (IsGoodStream n) script.streams) (sym is.replicas)
    (good_streams_of is.head.replicas streams.0 is.head.streams is.body script.streams streams.2 is.streams)

-- a stream has backups where its head has
same_backs : (h : StreamHead) (bytes : List ℕ) (s : Stream) → IsStreamOf h bytes s → backs_up s ≡ head_backs_up h
same_backs (head.Frames count) bytes (stream.Frames frames) is = refl
same_backs (head.Frames count) bytes (stream.Control commands) is = absurd is
same_backs (head.Control commands) bytes (stream.Frames frames) is = absurd is
same_backs (head.Control commands) bytes (stream.Control others) is = ap has_backup is

same_count : (heads : List StreamHead) (bytes : List ℕ) (streams : List Stream) → AreStreams heads bytes streams
    → count_by backs_up streams ≡ count_by head_backs_up heads
same_count [] bytes [] are = refl
same_count [] bytes (s ∷ ss) are = absurd are
same_count (h ∷ hs) bytes [] are = absurd are
same_count (h ∷ hs) bytes (s ∷ ss) are =
    sum_by-cons (λ x. cond (backs_up x) 1 0) s ss
    ∙ ap₂ (λ (b : Bool) (n : ℕ). cond b 1 0 + n) (same_backs h _ s are.0) (same_count hs _ ss are.1)
    ∙ sym (sum_by-cons (λ x. cond (head_backs_up x) 1 0) h hs)

-- one stream at most has backups
pub one_backs_up : (input : List ℕ) (script : Script) → IsScript input script → count_by backs_up script.streams ≤ 1
one_backs_up input script is =
    subst (λ n. n ≤ 1) (sym (same_count is.head.streams is.body script.streams is.streams)) is.headed.says.2.streams.3

-- ---- plans of lines

small_carry : (d : Data) (n : ℕ) → IsCarryItem d n → n ≤ largest_carry
small_carry d n is = is.1

good_plan : (streams replicas : ℕ) (d : Data) (plan : LinePlan) → IsLinePlan streams replicas d plan → IsGoodPlan streams replicas plan
good_plan streams replicas d plan is = record {
  worker = is.worker.1;
  replica = is.replica.1;
  carries = record {
    few = is.fail.1;
    rising = is.fail.2;
    small = all_good IsCarryItem (λ n. n ≤ largest_carry) small_carry is.fail.0.0 plan.fail is.fail.0.2;
  };
}

plans_of : (streams replicas : ℕ) (value : Option Data) (plans : List LinePlan) → ArePlans streams replicas value plans
    → All (IsGoodPlan streams replicas) plans × NoPairTwice plans
plans_of streams replicas None plans are =
    subst (λ ps. All (IsGoodPlan streams replicas) ps × NoPairTwice ps) (sym are) (All-nil (IsGoodPlan streams replicas), tt)
plans_of streams replicas (Some d) plans are =
    (all_good (IsLinePlan streams replicas) (IsGoodPlan streams replicas) (good_plan streams replicas) are.0.0 plans are.0.2, are.1)

pub good_plans : (input : List ℕ) (script : Script) → IsScript input script
    → All (IsGoodPlan (length script.streams) script.replicas) script.lines × NoPairTwice script.lines
good_plans input script is =
    let count = as_many _ _ script.streams is.streams in
    let plans = plans_of (length is.head.streams) is.head.replicas _ is.head.lines is.headed.says.2.lines in
    subst (λ ps. All (IsGoodPlan (length script.streams) script.replicas) ps × NoPairTwice ps) (sym is.lines) (
      subst (λ n. All (IsGoodPlan n script.replicas) is.head.lines) (sym count)
          (subst (λ n. All (IsGoodPlan (length is.head.streams) n) is.head.lines) (sym is.replicas) plans.0),
      plans.1,
    )

no_carries : AreCarries []
no_carries = record { few = omega arith; rising = tt; small = All-nil (λ n. n ≤ largest_carry) }

one_of : (b : Bool) (these those : List ℕ) → AreCarries these → AreCarries those → AreCarries (cond b these those)
one_of true these those good fine = good
one_of false these those good fine = fine

planned_of : (streams replicas : ℕ) (plans : List LinePlan) (worker replica : ℕ) → All (IsGoodPlan streams replicas) plans
    → AreCarries (planned plans worker replica)
planned_of streams replicas [] worker replica good = no_carries
planned_of streams replicas (p ∷ ps) worker replica good =
    one_of (p.worker == worker && p.replica == replica) p.fail (planned ps worker replica)
    (All-head (IsGoodPlan streams replicas) p ps good).carries
    (planned_of streams replicas ps worker replica (All-tail (IsGoodPlan streams replicas) p ps good))

pub rising_carries : (input : List ℕ) (script : Script) (worker replica : ℕ) → IsScript input script
    → AreCarries (planned script.lines worker replica)
rising_carries input script worker replica is =
    planned_of (length script.streams) script.replicas script.lines worker replica (good_plans input script is).0

-- ---- all of it

pub good_script : (input : List ℕ) (script : Script) → IsScript input script → IsGood script
good_script input script is =
    let replicas = few_replicas input script is in
    let streams = few_streams input script is in
    let plans = good_plans input script is in
    record {
      some_replicas = replicas.0;
      few_replicas = replicas.1;
      some_streams = streams.0;
      few_streams = streams.1;
      streams = good_streams input script is;
      calls = is.calls;
      backups = one_backs_up input script is;
      plans = plans.0;
      once = plans.1;
    }
