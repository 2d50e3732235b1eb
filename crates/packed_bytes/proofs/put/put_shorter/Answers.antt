use Rattle.std.proofs.Common.{◌≡◌, ℕ, ◌-◌, ◌++◌, ap, ◌∙◌, sym, length, arith, length-append}
use Rattle.image_runs.specs.Runs.{runs}
use Rattle.packed_bytes.specs.declared.list.Place.{Place}
use Rattle.packed_bytes.specs.Packed.{packed, run_codes}
use Rattle.packed_bytes.proofs.RunLemmas.{packed_runs, length-codes}
use Rattle.packed_bytes.proofs.put.put_shorter.Goals as goal

pub place_between-requires-clause-within : goal.place_between-requires-clause-within
place_between-requires-clause-within c =
    let list = c.args.list.now in
    let p = packed_runs list (sym c.is_shorter.ensures ∙ c.if-is_shorter.true) in
    let put = ap length c.put_runs.ensures.items ∙ length-append c.args.store.now.items (run_codes (runs list)) in
    omega (arith, p.1, put, length-codes (runs list))

pub returns-then-is_shorter : goal.returns-then-is_shorter
returns-then-is_shorter c =
    let store = c.args.store.now.items in
    let list = c.args.list.now in
    let shorter = sym c.is_shorter.ensures ∙ c.if-is_shorter.true in
    let p = packed_runs list shorter in
    let same = ap length p.0 in
    let put = ap length c.put_runs.ensures.items ∙ length-append store (run_codes (runs list)) in
    let taken : c.len.result - c.len-at.result ≡ length (packed list) = omega (arith, put, same) in
    let place : ℕ → ℕ → Place = λ at n. record { at = at; taken = n; count = length list } in
    record {
      shorter = shorter;
      put = record {
        items = c.put_runs.ensures.items ∙ ap (λ l. store ++ l) (sym p.0);
        place =
            c.place_between.ensures ∙ ap (λ n. place c.len-at.result n) taken
            ∙ ap (λ at. place at (length (packed list))) c.len-at.ensures.value;
        room = omega (arith, c.put_runs.ensures.room, same, length-codes (runs list));
      };
    }
