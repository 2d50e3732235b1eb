-- Where `clap` finds no fault in the words from the first to the last, each passes.
use Rattle.std.proofs.Common.{◌≡◌, ◌&&◌, ◌||◌, ℕ, Bool, codes, zero, suc, true, false, not, cond, List, [], ◌∷◌}
use Rattle.std.proofs.Common.{length, drop, Option, Some, None, is_some, refl}
use Rattle.std.specs.Prelude.{encode_utf8, slice_get}
use Rattle.std.specs.Option.{option_map_or}
use Rattle.std.specs.Str.{bytes_eq, chars}
use Rattle.clap.specs.Faults.{bundle_fault, bundle_step_fault, flag_word_fault, flags_fault, long_fault, option_fault}
use Rattle.clap.specs.Faults.{other_fault, positional_fault, react_fault, settle_fault, short_fault, step_fault}
use Rattle.clap.specs.Faults.{stray_fault, turn_fault, walk_fault, word_fault}
use Rattle.clap.specs.Kinds.{Kinds, or_else}
use Rattle.clap.specs.Lexer.{long_of, short_of}
use Rattle.clap.specs.Simple.{Shape}
use Rattle.clap.specs.Takes.{bundle_passes, bundle_step_passes, flag_word_passes, flags_pass, long_passes}
use Rattle.clap.specs.Takes.{option_passes, other_passes, positional_passes, react_passes, settle_passes}
use Rattle.clap.specs.Takes.{short_passes, step_passes, turn_passes, walk_passes, word_passes}
use Rattle.clap.specs.Walk.{Held, Names, Rule, Step, Text, Waiting, Walk, arg_by_index, arg_by_long, arg_by_short}
use Rattle.clap.specs.Walk.{attached_value, is_pending, next, reacted, subcommand, subcommand_met, takes_several}
use Rattle.clap.specs.Walk.{takes_values, trailing, value, walked, word_met}
use Rattle.clap.specs.declared.error.ErrorKind.TheVariants as kind
use Rattle.program_words.proofs.FaultlessUses.{neither, and_true, faultless_settle_passes, faultless_react_passes, faultless_option_passes}

-- a word like `--name` or `--name=value`
faultless_long_passes : (c : List Rule) (again : Bool) (found : Option Rule) (v : Option Text) (h : Held)
    → long_fault c again found v h ≡ []
    → long_passes c again found v h ≡ true
faultless_long_passes c again None v h none = cc
faultless_long_passes c again (Some a) v h none = go (takes_values a) v none
  where
    go : (b : Bool) (v : Option Text) → cond b (option_fault c again a v h)
        (cond (is_some v) (kind.TooManyValues ∷ []) (react_fault c again a [] h)) ≡ []
        → cond b (option_passes c again a v h) (not (is_some v) && react_passes c again a [] h) ≡ true
    go true v e = faultless_option_passes c again a v h e
    go false (Some v) e = cc
    go false None e = faultless_react_passes c again a [] h e

-- a letter of a word like `-n`, if the letters behind it pass too
faultless_short_passes : (c : List Rule) (again : Bool) (found : Option Rule) (rest : Text) (h : Held) (f : Held → Kinds) (p : Held → Bool)
    → ((g : Held) → f g ≡ [] → p g ≡ true) → short_fault c again found rest h f ≡ [] → short_passes c again found rest h p ≡ true
faultless_short_passes c again None rest h f p later none = cc
faultless_short_passes c again (Some a) rest h f p later none = go (takes_values a) none
  where
    go : (b : Bool) → cond b (option_fault c again a (attached_value rest) h)
        (or_else (react_fault c again a [] h) (f (reacted c a [] h))) ≡ []
        → cond b (option_passes c again a (attached_value rest) h) (react_passes c again a [] h && p (reacted c a [] h)) ≡ true
    go true e = faultless_option_passes c again a (attached_value rest) h e
    go false e =
        let parts = neither (react_fault c again a [] h) (f (reacted c a [] h)) e in
        and_true _ _ (faultless_react_passes c again a [] h parts.0) (later (reacted c a [] h) parts.1)

-- the same, where some letters were read before
faultless_letter_passes : (c : List Rule) (again : Bool) (o : Option ℕ) (flags : Text) (skip : ℕ) (h : Held)
    (f : Text → ℕ → Held → Kinds) (p : Text → ℕ → Held → Bool) → ((t : Text) (k : ℕ) (g : Held) → f t k g ≡ [] → p t k g ≡ true)
    → bundle_step_fault c again o flags skip h f ≡ [] → bundle_step_passes c again o flags skip h p ≡ true
faultless_letter_passes c again None flags skip h f p later none = refl
faultless_letter_passes c again (Some x) flags zero h f p later none =
    let rest = drop (length (encode_utf8 x)) flags in
    faultless_short_passes c again (arg_by_short c x) rest h (f rest 0) (p rest 0) (later rest 0) none
faultless_letter_passes c again (Some x) flags (suc skip) h f p later none = later (drop (length (encode_utf8 x)) flags) skip h none

-- the letters of a word
faultless_letters_pass : (c : List Rule) (again : Bool) (k : ℕ) (flags : Text) (skip : ℕ) (h : Held)
    → flags_fault c again k flags skip h ≡ []
    → flags_pass c again k flags skip h ≡ true
unfolding flags_fault flags_pass
faultless_letters_pass c again zero flags skip h none = refl
faultless_letters_pass c again (suc k) flags skip h none =
    faultless_letter_passes c again (slice_get (chars flags) 0) flags skip h (flags_fault c again k) (flags_pass c again k)
    (faultless_letters_pass c again k) none

-- a word that begins with a dash
faultless_flag_passes : (c : List Rule) (again : Bool) (o : Option (Text × Option Text)) (word : Text) (h : Held)
    → flag_word_fault c again o word h ≡ []
    → flag_word_passes c again o word h ≡ true
faultless_flag_passes c again (Some p) word h none = faultless_long_passes c again (arg_by_long c p.0) p.1 h none
faultless_flag_passes c again None word h none = go (short_of word) none
  where
    go : (o : Option Text) → option_map_or (λ flags. bundle_fault c again flags h) o [] ≡ []
        → option_map_or (λ flags. bundle_passes c again flags h) o true ≡ true
    go None e = refl
    go (Some flags) e = faultless_letters_pass c again (length flags) flags h.skip (record h { skip = 0 }) e

-- a word before `--`: it is not the command `help`
faultless_other_passes : (s : Shape) (o : Option Text) (word : Text) (h : Held) → other_fault s o word h ≡ []
    → other_passes s o word h ≡ true
faultless_other_passes s (Some name) word h none = go (bytes_eq name (codes "help")) s.disable_help_subcommand none
  where
    go : (b off : Bool) → cond (b && not off) (kind.DisplayHelp ∷ kind.InvalidSubcommand ∷ []) [] ≡ [] → (not b || off) ≡ true
    go true true e = refl
    go true false e = cc
    go false off e = refl
faultless_other_passes s None word h none = go (bytes_eq word (45 ∷ 45 ∷ [])) none
  where
    go : (b : Bool) → cond b [] (flag_word_fault s.rules s.args_override_self (long_of word) word h) ≡ []
        → (b || flag_word_passes s.rules s.args_override_self (long_of word) word h) ≡ true
    go true e = refl
    go false e = faultless_flag_passes s.rules s.args_override_self (long_of word) word h e

-- any word, before `--` or behind it
faultless_word_passes : (s : Shape) (names : Names) (b : Bool) (waiting : Waiting) (word : Text) (h : Held)
    → word_fault s names b waiting word h ≡ []
    → word_passes s names b waiting word h ≡ true
faultless_word_passes s names true waiting word h none = refl
faultless_word_passes s names false waiting word h none = faultless_other_passes s (subcommand_met names waiting word) word h none

-- a word for a place in the order of arguments
faultless_positional_passes : (c : List Rule) (again : Bool) (a : Rule) (h : Held) → positional_fault c again a h ≡ []
    → positional_passes c again a h ≡ true
faultless_positional_passes c again a h none = go (is_pending a h.pending && takes_several a) none
  where
    go : (b : Bool) → cond b [] (settle_fault c again h) ≡ [] → (b || settle_passes c again h) ≡ true
    go true e = refl
    go false e = faultless_settle_passes c again h e

-- what a word leads to: a value has an argument that takes it
faultless_step_passes : (s : Shape) (position : ℕ) (h : Held) (x : Step) → step_fault s position h x ≡ []
    → step_passes s position h x ≡ true
faultless_step_passes s position h (next w) none = refl
faultless_step_passes s position h (trailing p) none = refl
faultless_step_passes s position h (subcommand name) none = refl
faultless_step_passes s position h value none = go (arg_by_index s.rules position) none
  where
    stray : (b : Bool) → cond b (kind.UnknownArgument ∷ []) (kind.UnknownArgument ∷ kind.InvalidSubcommand ∷ []) ≡ [] → ⊥
    stray true e = cc
    stray false e = cc

    go : (o : Option Rule) → option_map_or (λ a. positional_fault s.rules s.args_override_self a h) o (stray_fault s) ≡ []
        → option_map_or (λ a. positional_passes s.rules s.args_override_self a h) o false ≡ true
    go None e = absurd (stray s.is_leaf e)
    go (Some a) e = faultless_positional_passes s.rules s.args_override_self a h e

-- one word, and what it leads to
faultless_turn_passes : (s : Shape) (names : Names) (w : Walk) (word : Text) → turn_fault s names w word ≡ []
    → turn_passes s names w word ≡ true
faultless_turn_passes s names w word none =
    let met = word_met s.rules names w.is_trailing w.waiting w.position word w.held in
    go met.0 met.1 (is_some w.stopped) none
  where
    go : (h : Held) (x : Step) (b : Bool)
        → cond b [] (or_else (word_fault s names w.is_trailing w.waiting word w.held) (step_fault s w.position h x)) ≡ []
        → (b || (word_passes s names w.is_trailing w.waiting word w.held && step_passes s w.position h x)) ≡ true
    go h x true e = refl
    go h x false e =
        let parts = neither (word_fault s names w.is_trailing w.waiting word w.held) (step_fault s w.position h x) e in
        and_true _ _ (faultless_word_passes s names w.is_trailing w.waiting word w.held parts.0)
        (faultless_step_passes s w.position h x parts.1)

-- all words
pub faultless_walk_passes : (s : Shape) (names : Names) (w : Walk) (words : List Text) → walk_fault s names w words ≡ []
    → walk_passes s names w words ≡ true
unfolding walk_fault walk_passes
faultless_walk_passes s names w [] none = refl
faultless_walk_passes s names w (word ∷ rest) none =
    let parts = neither (turn_fault s names w word) (walk_fault s names (walked s.rules names w word) rest) none in
    and_true _ _ (faultless_turn_passes s names w word parts.0) (faultless_walk_passes s names (walked s.rules names w word) rest parts.1)
