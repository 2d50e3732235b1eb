use Rattle.std.proofs.Common.{◌≡◌, ◌≢◌, ℕ, ◌<◌, Option, None, Some, IfSome, MatchOption, List, length, refl, rules, tests, arith}
use Rattle.std.proofs.Common.{⊎_elim}
use Rattle.std.specs.List.{AllWithin, HoldsAt, range_with_len}
use Rattle.std.proofs.lemmas.Bool.{cases_lt}
use Rattle.std.proofs.lemmas.Iterator.{first_from_find, YieldsList-from_range}
use Rattle.std.proofs.lemmas.List.{get_or_past}
use Rattle.std.proofs.lemmas.List.FromFn.{get_or-range_with_len, length-range_with_len}
use Rattle.volume_model.specs.declared.mode.Mode.{Mode}
use Rattle.volume_model.specs.declared.mode.Mode.TheVariants.{Err}
use Rattle.volume_model.specs.Modes.{mode_of}
use Rattle.volume_core.specs.State.{modes_in, state_of}
use Rattle.stream_steps.specs.Seen.{IsNextUp}
use Rattle.world_steps.proofs.in_turn.next_up.Goals as goal

module _ (modes : List Mode) (r : ℕ) where
  -- the replica stands behind r and has not failed, and that it does not
  abbrev Up : ℕ → Type 0
  Up k = (r < k) × (mode_of modes k ≢ Err)

  abbrev Down : ℕ → Type 0
  Down k = r < k → mode_of modes k ≡ Err

  -- what was found among the numbers of the replicas, or that nothing was
  found_among : (n : ℕ) (found : Option ℕ) → n ≡ length modes
      → MatchOption found
      (AllWithin Down (range_with_len 0 n) 0 (length (range_with_len 0 n)))
      (λ s. Up s × (i : ℕ) × (i < length (range_with_len 0 n)) × HoldsAt (λ k. k ≡ s) (range_with_len 0 n) i
      × AllWithin Down (range_with_len 0 n) 0 i)
      → IsNextUp modes r found × IfSome found (λ k. k < length modes)
  found_among n None all none = (
    λ k behind. ⊎_elim
        (λ within. grind (arith, get_or-range_with_len 0 n k 0, length-range_with_len 0 n, none k 0))
        (λ past. get_or_past modes k Err past)
        (cases_lt k (length modes)),
    tt,
  )
  found_among n (Some s) all (up, i, within, here, none) = (
    (
      up.0,
      up.1,
      λ k behind below.
          grind (arith, get_or-range_with_len 0 n k 0, get_or-range_with_len 0 n i 0, length-range_with_len 0 n, here 0, none k 0),
    ),
    grind (arith, get_or-range_with_len 0 n i 0, length-range_with_len 0 n, here 0),
  )

pub returns : goal.returns
returns c =
    let modes : List Mode = modes_in (state_of c.args.world.now) in
    let told = found_among modes c.args.replica c.replica_count.result c.find.result c.replica_count.ensures.value
    (first_from_find _ _ c.find.result (Up modes c.args.replica) (Down modes c.args.replica)
    c.find.ensures.ran (YieldsList-from_range 0 c.replica_count.result c.replica_count.result refl (omega arith))
    (λ x q k. search (rules, tests)) (λ x q k. search (rules, tests))) in
    record { next = told.0; inside = told.1 }
