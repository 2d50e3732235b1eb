use Rattle.std.proofs.Common.{◌++◌, drop, get_or, ap, ◌∙◌, sym, refl, arith, append_assoc, length, length-take}
use Rattle.image_runs.specs.Runs.{runs, run_of}
use Rattle.packed_bytes.specs.Packed.{run_code, run_codes}
use Rattle.packed_bytes.proofs.RunLemmas.{first_run}
use Rattle.packed_bytes.proofs.LoneLemmas.{lone_count, lone_put}
use Rattle.packed_bytes.proofs.put.put_some.Goals as goal

pub put_lone-requires-clause-room : goal.put_lone-requires-clause-room
put_lone-requires-clause-room c =
    let bytes = c.args.bytes.now in
    let alone = c.lone_bytes-alone in
    omega (arith, lone_count alone.result bytes alone.ensures.within alone.ensures.differ, length-take alone.result bytes)

pub returns-then-alone-gt0-clause-items : goal.returns-then-alone-gt0-clause-items
returns-then-alone-gt0-clause-items c =
    let bytes = c.args.bytes.now in
    let store = c.args.store.now.items in
    let alone = c.lone_bytes-alone in
    ap (λ l. l ++ run_codes (runs (drop alone.result bytes))) c.put_lone.ensures.items
    ∙ append_assoc store _ _
    ∙ ap (λ l. store ++ l) (lone_put alone.result bytes alone.ensures.within alone.ensures.differ)

pub returns-then-alone-gt0-clause-room : goal.returns-then-alone-gt0-clause-room
returns-then-alone-gt0-clause-room c =
    let bytes = c.args.bytes.now in
    let alone = c.lone_bytes-alone in
    let count = lone_count alone.result bytes alone.ensures.within alone.ensures.differ in
    omega (arith, count, c.put_lone.ensures.room, length-take alone.result bytes, alone.ensures.within)

pub returns-clause-items : goal.returns-clause-items
returns-clause-items c =
    let bytes = c.args.bytes.now in
    let store = c.args.store.now.items in
    let n = c.run_length-count.result in
    let first = first_run bytes _ n c.requires.some refl c.run_length-count.ensures.value in
    ap (λ l. l ++ run_codes (runs (drop n bytes))) c.put_run.ensures.items
    ∙ append_assoc store (run_code (run_of (get_or bytes 0 0) n)) _
    ∙ ap (λ l. store ++ run_codes l) (sym first.1)

pub returns-clause-room : goal.returns-clause-room
returns-clause-room c =
    let first = first_run c.args.bytes.now _ c.run_length-count.result c.requires.some refl c.run_length-count.ensures.value in
    omega (arith, ap length first.1, c.put_run.ensures.room)
