use Rattle.std.proofs.Common.{rules, ◌≡◌, ◌∷◌, ◌++◌, ap, ◌∙◌, arith, sym, le_refl, length-append}
use Rattle.image_runs.specs.Runs.{run_of, run_bytes}
use Rattle.image_runs.proofs.LongestRuns.{run_bytes-runs}
use Rattle.session_serve.proofs.Copies.{run_fits}
use Rattle.session_serve.proofs.copy.copy_runs.Goals as goal

pub loop-byte-init : goal.loop-byte-init
loop-byte-init c = record {
  bytes = ap (λ l. c.args.into.now.items ++ l) (ap run_bytes c.runs-left.ensures ∙ run_bytes-runs c.args.list.now);
  room = le_refl _;
}

pub copy_run-requires : goal.copy_run-requires
copy_run-requires c =
    let cut : c.loop-byte.left ≡ run_of c.in-Some.byte c.in-Some.count ∷ c.next.new.self = search rules in
    run_fits c.loop-byte.into.items (c.args.into.now.items ++ c.args.list.now) c.next.new.self c.in-Some.byte c.in-Some.count _
    (ap (λ rs. c.loop-byte.into.items ++ run_bytes rs) (sym cut) ∙ c.loop-byte.invariant.bytes)
    (omega (arith, c.requires, c.loop-byte.invariant.room, length-append c.args.into.now.items c.args.list.now))
