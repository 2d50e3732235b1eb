-- Which calls of an object in memory fail.
use Rattle.std.specs.Prelude.{◌≡◌, ◌↔◌, ℕ, ◌+◌, ◌-◌, ◌^◌, min, List, Contains}

-- the numbers of the calls that fail, counted from 1, and how many calls there were
pub record Plan : Type 0 where
  pub fails : List ℕ
  pub calls : ℕ

-- the number of the next call: the count of calls stands still at its type's end
abbrev pub next_call : Plan → ℕ
next_call plan = min (plan.calls + 1) (2 ^ 64 - 1)

-- a call that fails exactly where its number is among those that fail, and is counted
pub record FollowsPlan (old new : Plan) (Fails : Type 0) : Type 0 where
  pub fails : Fails ↔ Contains old.fails (next_call old)
  pub counted : new ≡ record old { calls = next_call old }
