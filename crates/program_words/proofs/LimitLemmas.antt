-- What is asked for keeps to its limits.
use Rattle.std.proofs.Common.{◌≡◌, ◌^◌, ◌<◌, ◌≤◌, ℕ, Bool, true, false, cond, List, Option, Some, None, refl, subst, rules, codes}
use Rattle.std.specs.Prelude.{⊤, IfSome, option_map, option_and_then}
use Rattle.std.specs.Str.{bytes_eq}
use Rattle.vol_units.specs.Name.{IsPlainName}
use Rattle.vol_units.specs.Size.{IsVolumeSize}
use Rattle.clap.specs.Words.{Row, Text, first_of, subcommand_of, takes}
use Rattle.program_words.specs.Asked.{KeepsLimits, asked_at, asked_by, asked_named, backups_of, generate_of, is_plain_name, load_of}
use Rattle.program_words.specs.Asked.{name_at, number_at, plain_name, replica_of, replicas_at, restore_of, run_of, serve_at, serve_of}
use Rattle.program_words.specs.Asked.{sessions_at, workers_of}
use Rattle.program_words.specs.Numbers.{calls_of, number_of, replicas_of, sessions_of, size_of, streams_of}
use Rattle.program_words.specs.Program.{program}
use Rattle.program_words.specs.declared.words.Words.{Words}
use Rattle.program_words.specs.declared.words.Words.TheVariants.{Run, Restore, Backups, Replica, Generate, Serve}
use Rattle.program_words.proofs.NumberLemmas.{decimal-number_of, is_of_size, is_within, kept_where}

-- what each value that is there keeps to
abbrev Keeps : Option Words → Type 0
Keeps o = IfSome o KeepsLimits

-- one of two is chosen
chosen : (b : Bool) (x y : Option Words) → Keeps x → Keeps y → Keeps (cond b x y)
chosen true x y one other = one
chosen false x y one other = other

-- what is made of a value that keeps to a fact
mapped : {A : Type 0} (P : A → Type 0) (f : A → Words) (o : Option A) → ((a : A) → o ≡ Some a → P a) → ((a : A) → P a → KeepsLimits (f a))
    → Keeps (option_map f o)
mapped P f None is keeps = tt
mapped P f (Some a) is keeps = keeps a (is a refl)

-- the same, where there may be nothing to make of it
chained : {A : Type 0} (P : A → Type 0) (f : A → Option Words) (o : Option A) → ((a : A) → o ≡ Some a → P a) → ((a : A) → P a → Keeps (f a))
    → Keeps (option_and_then f o)
chained P f None is keeps = tt
chained P f (Some a) is keeps = keeps a (is a refl)

-- what comes of two steps has the last step's fact
of_last : {A B : Type 0} (P : B → Type 0) (f : A → Option B) (o : Option A) → ((a : A) (b : B) → f a ≡ Some b → P b)
    → (b : B) → option_and_then f o ≡ Some b → P b
of_last P f None fact b is = cc
of_last P f (Some a) fact b is = fact a b is

-- the number of an argument
number_is_small : (id : Text) (rows : List Row) (n : ℕ) → number_at id rows ≡ Some n → n < 2 ^ 64
number_is_small id rows = of_last (λ n. n < 2 ^ 64) number_of (first_of id rows) (λ text n is. (decimal-number_of text n is).0)

-- the test for a name tells that it is one
name_by_test : (text : List ℕ) → is_plain_name text ≡ true → IsPlainName text
name_by_test text is = search rules

-- the name of an argument
name_is_plain : (id : Text) (rows : List Row) (name : List ℕ) → name_at id rows ≡ Some name → IsPlainName name
name_is_plain id rows = of_last IsPlainName plain_name (first_of id rows)
    (λ text name is. let kept = kept_where (is_plain_name text) text name is in subst IsPlainName kept.1 (name_by_test text kept.0))

-- each word that the program has, first `run`
run_keeps : (rows : List Row) → Keeps (run_of rows)
run_keeps rows = mapped (λ _. ⊤) Run (workers_of (first_of (codes "workers") rows)) (λ _ _. tt) (λ _ _. tt)

-- `restore`
restore_keeps : (rows : List Row) → Keeps (restore_of rows)
restore_keeps rows = chained IsPlainName (λ backup. option_map (Restore backup) (name_at (codes "volume") rows))
    (name_at (codes "backup") rows) (name_is_plain (codes "backup") rows)
    (λ backup good. mapped IsPlainName (Restore backup) (name_at (codes "volume") rows) (name_is_plain (codes "volume") rows)
    (λ volume fine. (good, fine)))

-- `backups`
backups_keeps : (rows : List Row) → Keeps (backups_of rows)
backups_keeps rows = mapped IsPlainName Backups (name_at (codes "volume") rows) (name_is_plain (codes "volume") rows) (λ volume good. good)

-- `replica`
replica_keeps : (rows : List Row) → Keeps (replica_of rows)
replica_keeps rows = mapped IsVolumeSize Replica (option_and_then size_of (number_at (codes "size") rows))
    (of_last IsVolumeSize size_of (number_at (codes "size") rows) is_of_size) (λ size good. good)

-- `gen`, from its number and its count of streams on
load_keeps : (number streams : ℕ) (rows : List Row) → number < 2 ^ 64 → (1 ≤ streams) × (streams ≤ 15) → Keeps (load_of number streams rows)
load_keeps number streams rows small few = mapped (λ n. (1 ≤ n) × (n ≤ 4096)) (Generate number streams)
    (option_and_then calls_of (number_at (codes "calls") rows))
    (of_last (λ n. (1 ≤ n) × (n ≤ 4096)) calls_of (number_at (codes "calls") rows) (is_within 1 4096))
    (λ calls fine. record { small_number = small; some_streams = few.0; few_streams = few.1; some_calls = fine.0; few_calls = fine.1 })

-- `gen`
generate_keeps : (rows : List Row) → Keeps (generate_of rows)
generate_keeps rows =
    let given : Option ℕ = option_and_then streams_of (number_at (codes "streams") rows) in
    chained (λ n. n < 2 ^ 64) (λ number. option_and_then (λ streams. load_of number streams rows) given) (number_at (codes "number") rows)
    (number_is_small (codes "number") rows)
    (λ number small. chained (λ n. (1 ≤ n) × (n ≤ 15)) (λ streams. load_of number streams rows) given
    (of_last (λ n. (1 ≤ n) × (n ≤ 15)) streams_of (number_at (codes "streams") rows) (is_within 1 15))
    (λ streams few. load_keeps number streams rows small few))

-- `serve`, from its count of replicas on
sessions_keep : (address : List ℕ) (size replicas : ℕ) (rows : List Row) → IsVolumeSize size → (1 ≤ replicas) × (replicas ≤ 8)
    → Keeps (sessions_at address size replicas rows)
sessions_keep address size replicas rows good few = mapped (λ n. (1 ≤ n) × (n ≤ 16)) (Serve address size replicas)
    (option_and_then sessions_of (number_at (codes "sessions") rows))
    (of_last (λ n. (1 ≤ n) × (n ≤ 16)) sessions_of (number_at (codes "sessions") rows) (is_within 1 16))
    (λ sessions fine. record {
      good_size = good;
      some_replicas = few.0;
      few_replicas = few.1;
      some_sessions = fine.0;
      few_sessions = fine.1;
    })

-- from its size on
replicas_keep : (address : List ℕ) (size : ℕ) (rows : List Row) → IsVolumeSize size → Keeps (replicas_at address size rows)
replicas_keep address size rows good = chained (λ n. (1 ≤ n) × (n ≤ 8)) (λ replicas. sessions_at address size replicas rows)
    (option_and_then replicas_of (number_at (codes "replicas") rows))
    (of_last (λ n. (1 ≤ n) × (n ≤ 8)) replicas_of (number_at (codes "replicas") rows) (is_within 1 8))
    (λ replicas few. sessions_keep address size replicas rows good few)

-- from its address on
serve_at_keeps : (address : List ℕ) (rows : List Row) → Keeps (serve_at address rows)
serve_at_keeps address rows = chained IsVolumeSize (λ size. replicas_at address size rows)
    (option_and_then size_of (number_at (codes "size") rows))
    (of_last IsVolumeSize size_of (number_at (codes "size") rows) is_of_size) (λ size good. replicas_keep address size rows good)

-- `serve`
serve_keeps : (rows : List Row) → Keeps (serve_of rows)
serve_keeps rows = chained (λ _. ⊤) (λ address. serve_at address rows) (first_of (codes "address") rows) (λ _ _. tt)
    (λ address _. serve_at_keeps address rows)

-- whichever word is named
at_keeps : (name : Text) (rows : List Row) → Keeps (asked_at name rows)
at_keeps name rows = chosen (bytes_eq name (codes "run")) _ _ (run_keeps rows)
    (chosen (bytes_eq name (codes "restore")) _ _ (restore_keeps rows)
    (chosen (bytes_eq name (codes "backups")) _ _ (backups_keeps rows)
    (chosen (bytes_eq name (codes "replica")) _ _ (replica_keeps rows)
    (chosen (bytes_eq name (codes "gen")) _ _ (generate_keeps rows)
    (chosen (bytes_eq name (codes "serve")) _ _ (serve_keeps rows) tt)))))

-- and where none may be named
named_keeps : (named : Option (Text × List Row)) → Keeps (asked_named named)
named_keeps None = tt
named_keeps (Some (name, rows)) = at_keeps name rows

-- What words ask for keeps to its limits.
pub asked_keeps : (words : List Text) (asked : Words) → asked_by words ≡ Some asked → KeepsLimits asked
asked_keeps words asked is =
    subst Keeps is (chosen (takes program words) _ _ (named_keeps (subcommand_of program words)) tt)
