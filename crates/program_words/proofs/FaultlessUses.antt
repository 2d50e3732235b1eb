-- Where `clap` finds no fault in one use of an argument, the use passes.
use Rattle.std.proofs.Common.{◌≡◌, ◌&&◌, ◌||◌, ◌+◌, ℕ, Bool, true, false, not, cond, List, [], ◌∷◌, length, min}
use Rattle.std.proofs.Common.{nat_le, Option, Some, None, refl, arith}
use Rattle.std.specs.Option.{option_map_or}
use Rattle.clap.specs.Facts.{parser_of_value, unwrap_or_range}
use Rattle.clap.specs.Faults.{action_fault, count_fault, option_fault, react_fault, repeat_fault, set_fault}
use Rattle.clap.specs.Faults.{settle_fault, use_fault, values_fault}
use Rattle.clap.specs.Kinds.{Kinds, or_else, range_kinds, value_kinds}
use Rattle.clap.specs.Matches.{count_text}
use Rattle.clap.specs.Takes.{action_passes, count_passes, option_passes, react_passes, set_passes, settle_passes}
use Rattle.clap.specs.Takes.{use_passes, value_passes, values_pass}
use Rattle.clap.specs.ValueTests.{accepts}
use Rattle.clap.specs.Values.{refused_kind}
use Rattle.clap.specs.Walk.{Held, Row, Rule, Text, action_of, arg_by_id, count_of, has_row, most_values, settled, values_or_missing}
use Rattle.clap.specs.declared.builder.ArgAction.{ArgAction}
use Rattle.clap.specs.declared.builder.ArgAction.TheVariants as action
use Rattle.clap.specs.declared.error.ErrorKind.TheVariants as kind

-- neither of two has a fault where the first fault of both is none
pub neither : (a b : Kinds) → or_else a b ≡ [] → (a ≡ []) × (b ≡ [])
neither [] b e = (refl, e)
neither (k ∷ ks) b e = cc

-- both are true where each is
pub and_true : (a b : Bool) → a ≡ true → b ≡ true → (a && b) ≡ true
and_true a b x y = cc

-- a value that the argument's parser takes
faultless_value_passes : (a : Rule) (v : Text) → value_kinds a.ignore_case (parser_of_value a.parser) v ≡ [] → value_passes a v ≡ true
faultless_value_passes a v none = go (accepts a.ignore_case (parser_of_value a.parser) v) none
  where
    go : (b : Bool) → cond b [] (refused_kind (parser_of_value a.parser) ∷ []) ≡ [] → b ≡ true
    go true e = refl
    go false e = cc

-- the same of several values
faultless_values_pass : (a : Rule) (vs : List Text) → values_fault a vs ≡ [] → values_pass a vs ≡ true
faultless_values_pass a [] none = refl
faultless_values_pass a (v ∷ vs) none =
    let parts = neither (value_kinds a.ignore_case (parser_of_value a.parser) v) (values_fault a vs) none in
    and_true _ _ (faultless_value_passes a v parts.0) (faultless_values_pass a vs parts.1)

-- as many values as the argument has
within_range : (least most n : ℕ) → range_kinds least most n ≡ [] → (nat_le least n ≡ true) × (nat_le n most ≡ true)
within_range least most n none = grind arith

-- an argument that is used once, or may be used again
used_once : (again : Bool) (id : Text) (rows : List Row) → repeat_fault again id rows ≡ [] → (not (has_row id rows) || again) ≡ true
used_once again id rows none = go (has_row id rows) again none
  where
    go : (b again : Bool) → cond (b && not again) (kind.ArgumentConflict ∷ []) [] ≡ [] → (not b || again) ≡ true
    go true true e = refl
    go true false e = cc
    go false again e = refl

-- values that are set
faultless_set_passes : (again : Bool) (a : Rule) (vs : List Text) (rows : List Row) → set_fault again a vs rows ≡ []
    → set_passes again a vs rows ≡ true
faultless_set_passes again a vs rows none =
    let parts = neither (repeat_fault again a.id rows) (values_fault a vs) none in
    and_true _ _ (used_once again a.id rows parts.0) (faultless_values_pass a vs parts.1)

-- uses that are counted
faultless_count_passes : (a : Rule) (vs : List Text) (rows : List Row) → count_fault a vs rows ≡ [] → count_passes a vs rows ≡ true
faultless_count_passes a [] rows none = faultless_value_passes a (count_text (min (count_of a.id rows + 1) 255)) none
faultless_count_passes a (v ∷ vs) rows none = faultless_values_pass a (v ∷ vs) none

-- what the argument does with its values: to ask for help or a version is a fault
faultless_action_passes : (x : ArgAction) (again : Bool) (a : Rule) (vs : List Text) (rows : List Row) → action_fault x again a vs rows ≡ []
    → action_passes x again a vs rows ≡ true
faultless_action_passes action.Set again a vs rows none = faultless_set_passes again a vs rows none
faultless_action_passes action.SetTrue again a vs rows none = faultless_set_passes again a vs rows none
faultless_action_passes action.SetFalse again a vs rows none = faultless_set_passes again a vs rows none
faultless_action_passes action.Append again a vs rows none = faultless_values_pass a vs none
faultless_action_passes action.Count again a vs rows none = faultless_count_passes a vs rows none
faultless_action_passes action.Help again a vs rows none = cc
faultless_action_passes action.HelpShort again a vs rows none = cc
faultless_action_passes action.HelpLong again a vs rows none = cc
faultless_action_passes action.Version again a vs rows none = cc

-- one use of an argument
faultless_use_passes : (again : Bool) (a : Rule) (vs : List Text) (rows : List Row) → use_fault again a vs rows ≡ []
    → use_passes again a vs rows ≡ true
faultless_use_passes again a vs rows none =
    let least = (unwrap_or_range a.range).start_inclusive in
    let values = values_or_missing a vs in
    let parts = neither (range_kinds least (most_values a) (length vs)) (action_fault (action_of a) again a values rows) none in
    let range = within_range least (most_values a) (length vs) parts.0 in
    and_true _ _ range.0 (and_true _ _ range.1 (faultless_action_passes (action_of a) again a values rows parts.1))

-- the argument that still gathers values, if there is one
pub faultless_settle_passes : (c : List Rule) (again : Bool) (h : Held) → settle_fault c again h ≡ [] → settle_passes c again h ≡ true
faultless_settle_passes c again h none = go h.pending none
  where
    by_rule : (vs : List Text) (o : Option Rule) → option_map_or (λ a. use_fault again a vs h.rows) o [] ≡ []
        → option_map_or (λ a. use_passes again a vs h.rows) o true ≡ true
    by_rule vs None e = refl
    by_rule vs (Some a) e = faultless_use_passes again a vs h.rows e

    go : (o : Option (Text × List Text))
        → option_map_or (λ p. option_map_or (λ a. use_fault again a p.1 h.rows) (arg_by_id c p.0) []) o [] ≡ []
        → option_map_or (λ p. option_map_or (λ a. use_passes again a p.1 h.rows) (arg_by_id c p.0) true) o true ≡ true
    go None e = refl
    go (Some p) e = by_rule p.1 (arg_by_id c p.0) e

-- the argument before, and then this one
pub faultless_react_passes : (c : List Rule) (again : Bool) (a : Rule) (vs : List Text) (h : Held) → react_fault c again a vs h ≡ []
    → react_passes c again a vs h ≡ true
faultless_react_passes c again a vs h none =
    let parts = neither (settle_fault c again h) (use_fault again a vs (settled c h).rows) none in
    and_true _ _ (faultless_settle_passes c again h parts.0) (faultless_use_passes again a vs (settled c h).rows parts.1)

-- an option, with a value attached or still to come
pub faultless_option_passes : (c : List Rule) (again : Bool) (a : Rule) (v : Option Text) (h : Held) → option_fault c again a v h ≡ []
    → option_passes c again a v h ≡ true
faultless_option_passes c again a (Some v) h none = faultless_react_passes c again a (v ∷ []) h none
faultless_option_passes c again a None h none = faultless_settle_passes c again h none
