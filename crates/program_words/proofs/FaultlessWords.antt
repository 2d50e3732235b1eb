-- Where `clap` finds no fault in words, it takes them.
use Rattle.std.proofs.Common.{◌≡◌, ◌&&◌, ◌||◌, Bool, true, false, not, cond, List, [], ◌∷◌, Option, Some, None}
use Rattle.std.proofs.Common.{is_some, refl, arith, true≢false}
use Rattle.std.specs.Prelude.{find}
use Rattle.std.specs.List.{list_all, list_any}
use Rattle.std.specs.Option.{option_map_or}
use Rattle.clap.specs.Facts.{explicit_source}
use Rattle.clap.specs.Faults.{check_fault, defaults_fault, entered_fault, fault_of, has_free_rules, level_fault, settle_fault, walk_fault}
use Rattle.clap.specs.Kinds.{Kinds, check_kinds, or_else}
use Rattle.clap.specs.Simple.{App, Shape, argument_words, built, entered, is_simple, label_of, names_of}
use Rattle.clap.specs.Takes.{default_passes, entered_passes, is_given, is_valid, level_passes, takes}
use Rattle.clap.specs.Walk.{Held, Names, Row, Rule, Text, answers_to, finished, nothing_held, settled, walk, walk_from}
use Rattle.clap.proofs.WalkLemmas.{both}
use Rattle.program_words.specs.Program.{program}
use Rattle.program_words.proofs.FaultlessUses.{neither, and_true, faultless_settle_passes}
use Rattle.program_words.proofs.FaultlessWalk.{faultless_walk_passes}

-- one argument, and those behind it, are given where they are required
one_given : (required given some_missing rest_given : Bool) → (some_missing ≡ false → rest_given ≡ true)
    → ((required && not given) || some_missing) ≡ false → ((not required || given) && rest_given) ≡ true
one_given true true x y later e = later e
one_given true false x y later e = absurd (true≢false e)
one_given false g x y later e = later e

-- none is missing, so each is given
all_given : (rows : List Row) (rules : List Rule) → list_any (λ a. a.required && not (is_given a.id rows)) rules ≡ false
    → list_all (λ a. not a.required || is_given a.id rows) rules ≡ true
all_given rows [] e = refl
all_given rows (a ∷ rest) e = one_given a.required (is_given a.id rows) _ _ (all_given rows rest) e

-- three tests, of which the first that fails is the fault
none_fails : (a b c : Bool) → check_kinds a b c ≡ [] → (a ≡ false) × (b ≡ false) × (c ≡ false)
none_fails true b c e = cc
none_fails false true c e = cc
none_fails false false true e = cc
none_fails false false false e = (refl, refl, refl)

-- what is required is there
faultless_is_valid : (s : Shape) (rows : List Row) (has : Bool) → has_free_rules s ≡ true → check_fault s rows has ≡ []
    → is_valid s rows has ≡ true
faultless_is_valid s rows has free none =
    let parts = none_fails _ _ _ none in
    and_true _ _ (help s.arg_required_else_help (list_any (λ r. explicit_source r.source) rows) has parts.0)
    (and_true _ _ (wanted s.subcommand_required has parts.1) (and_true _ _ free (required (s.subcommand_negates_reqs && has) parts.2)))
  where
    help : (h x has : Bool) → (not has && (h && not x)) ≡ false → (not h || (has || x)) ≡ true
    help h x has e = grind arith

    wanted : (w has : Bool) → (not has && w) ≡ false → (not w || has) ≡ true
    wanted w has e = grind arith

    required : (n : Bool) → (not n && list_any (λ a. a.required && not (is_given a.id rows)) s.rules) ≡ false
        → (n || list_all (λ a. not a.required || is_given a.id rows) s.rules) ≡ true
    required true e = refl
    required false e = all_given rows s.rules e

-- the defaults pass, and no argument has a rule on another
abbrev pub is_settled : Shape → Bool
is_settled s = list_all default_passes s.rules && has_free_rules s

-- the words of a command or of a subcommand, and the fault of what is below it
faultless_level_passes : (s : Shape) (names : Names) (h : Held) (words : List Text) (has : Bool) (below : Kinds) → is_settled s ≡ true
    → level_fault s names h words has below ≡ [] → (level_passes s names h words has ≡ true) × (below ≡ [])
faultless_level_passes s names h words has below known none =
    let end = (walk s.rules names h words).held in
    let defaults = defaults_fault (settled s.rules end).rows s.rules in
    let check = check_fault s (finished s.rules end) has in
    let settle = settle_fault s.rules s.args_override_self end in
    let first = neither (walk_fault s names (walk_from h) words) (or_else below (or_else settle (or_else defaults check))) none in
    let second = neither below (or_else settle (or_else defaults check)) first.1 in
    let third = neither settle (or_else defaults check) second.1 in
    let fourth = neither defaults check third.1 in
    let is = both (list_all default_passes s.rules) (has_free_rules s) known in (
      and_true _ _ (faultless_walk_passes s names (walk_from h) words first.0)
          (and_true _ _ (faultless_settle_passes s.rules s.args_override_self end third.0)
          (and_true _ _ is.0 (faultless_is_valid s (finished s.rules end) has is.1 fourth.1))),
      second.0,
    )

-- what holds of each, and of none, holds of the one that is found
found_or_none : (p q : Shape → Bool) (xs : List Shape) (P : Option Shape → Type 0) → list_all q xs ≡ true → P None
    → ((s : Shape) → q s ≡ true → P (Some s)) → P (find p xs)
found_or_none p q [] P known none some = none
found_or_none p q (s ∷ rest) P known none some =
    let is = both (q s) (list_all q rest) known in at (p s) (some s is.0) (found_or_none p q rest P is.1 none some)
  where
    at : (b : Bool) → P (Some s) → P (find p rest) → P (cond b (Some s) (find p rest))
    at true one more = one
    at false one more = more

-- the words of the subcommand that is named
faultless_entered_passes : (a : App) (stop : Option (Text × List Text)) → list_all is_settled a.subs ≡ true → entered_fault a stop ≡ []
    → entered_passes a stop ≡ true
faultless_entered_passes a None known none = refl
faultless_entered_passes a (Some p) known none =
    found_or_none (λ s. answers_to p.0 (label_of s)) is_settled a.subs
    (λ o. option_map_or (λ s. level_fault s [] nothing_held p.1 false []) o [] ≡ []
    → option_map_or (λ s. level_passes s [] nothing_held p.1 false) o true ≡ true)
    known (λ _. refl) (λ s one e. (faultless_level_passes s [] nothing_held p.1 false [] one e).0) none

-- A simple command whose defaults pass, and of which no argument has a rule on another, takes words without a fault.
pub faultless_are_taken : (a : App) (words : List Text) → is_simple a ≡ true → is_settled (built a).top ≡ true
    → list_all is_settled (built a).subs ≡ true
    → fault_of a words ≡ [] → takes a words ≡ true
faultless_are_taken a words simple top subs none =
    let stop = (walk (built a).top.rules (names_of (built a)) nothing_held (argument_words a words)).stopped in
    let level = faultless_level_passes (built a).top (names_of (built a)) nothing_held (argument_words a words)
    (is_some (entered (built a) stop)) (entered_fault (built a) stop) top none in
    and_true _ _ simple (and_true _ _ (faultless_entered_passes (built a) stop subs level.1) level.0)

-- the program is such a command
pub program_takes_faultless : (words : List Text) → fault_of program words ≡ [] → takes program words ≡ true
program_takes_faultless words none = faultless_are_taken program words refl refl refl none
