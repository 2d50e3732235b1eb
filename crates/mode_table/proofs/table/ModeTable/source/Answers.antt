use Rattle.std.proofs.Common.{◌≡◌, ◌≢◌, ℕ, ◌<◌, Option, None, Some, MatchOption, List, length, refl, rules, tests, arith}
use Rattle.std.specs.List.{AllWithin, HoldsAt, range_with_len}
use Rattle.std.proofs.lemmas.Grind.{elements}
use Rattle.std.proofs.lemmas.Iterator.{first_from_find, YieldsList-from_range}
use Rattle.std.proofs.lemmas.List.FromFn.{get_or-range_with_len, length-range_with_len}
use Rattle.volume_model.specs.declared.mode.Mode.{Mode}
use Rattle.volume_model.specs.declared.mode.Mode.TheVariants.{Rw}
use Rattle.volume_model.specs.Modes.{mode_of, IsSource, HasNoSource}
use Rattle.mode_table.proofs.SourceLemmas.{within_from_read, within_where_found, source_of-found}
use Rattle.mode_table.proofs.table.ModeTable.source.Goals as goal

-- what was found among the numbers of the replicas, or that nothing was
found_among : (modes : List Mode) (n : ℕ) (found : Option ℕ) → n ≡ length modes
    → MatchOption found
    (AllWithin (λ r. mode_of modes r ≢ Rw) (range_with_len 0 n) 0 (length (range_with_len 0 n)))
    (λ s. (mode_of modes s ≡ Rw) × (i : ℕ) × (i < length (range_with_len 0 n)) × HoldsAt (λ r. r ≡ s) (range_with_len 0 n) i
    × AllWithin (λ r. mode_of modes r ≢ Rw) (range_with_len 0 n) 0 i)
    → MatchOption found (HasNoSource modes) (IsSource modes)
found_among modes n None all none = λ q read.
    let within = within_from_read modes q read in
    grind (arith, get_or-range_with_len 0 n q 0, length-range_with_len 0 n, none q 0)
found_among modes n (Some s) all (read, i, within, here, none) = record {
  read = read;
  first = λ q below.
      grind (arith, get_or-range_with_len 0 n q 0, get_or-range_with_len 0 n i 0, length-range_with_len 0 n, here 0, none q 0);
}

pub returns : goal.returns
returns c =
    let modes : List Mode = c.args.self.now in
    let count = c.self.inside.count in
    let all : count ≡ length modes = grind (arith, elements) in
    let tells = found_among modes count c.find.result all
    (first_from_find _ _ c.find.result (λ (r : ℕ). mode_of modes r ≡ Rw) (λ (r : ℕ). mode_of modes r ≢ Rw)
    c.find.ensures.ran (YieldsList-from_range 0 count count refl (omega arith))
    (λ x q k. search (rules, tests)) (λ x q k. search (rules, tests))) in
    record { value = source_of-found modes c.find.result tells; found = tells; within = within_where_found modes c.find.result tells }
