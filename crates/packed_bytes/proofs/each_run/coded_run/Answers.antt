use Rattle.std.proofs.Common.{◌+◌, ◌≤◌, ◌∷◌, ◌++◌, length, refl, sym, ap, ◌∙◌, arith}
use Rattle.packed_bytes.specs.Packed.{coded_runs, part}
use Rattle.packed_bytes.proofs.PartLemmas.{part_first, code_of_piece}
use Rattle.packed_bytes.proofs.each_run.coded_run.Goals as goal

pub returns-in-Some : goal.returns-in-Some
returns-in-Some c until five inside =
    let s = c.args.store.now.items in
    let at = c.args.at in
    let piece = c.piece.result.now in
    let long : 5 ≤ length piece = omega (arith, c.in-Some.ensures.variant.0 refl) in
    let rest = part s (at + 5) until in
    ap coded_runs (code_of_piece s piece at until c.piece.ensures long five inside
    ∙ ap (λ l. l ++ rest) (sym c.in-Some.ensures.cases.same)) ∙ c.code_run.ensures rest

pub returns : goal.returns
returns c until five inside =
    let s = c.args.store.now.items in
    let at = c.args.at in
    let a = part_first s at (at + 1) until _ c.get.ensures (omega arith) inside (omega arith) in
    let b = part_first s (at + 1) (at + 2) until _ c.get-2.ensures (omega arith) inside (omega arith) in
    let d = part_first s (at + 2) (at + 3) until _ c.get-3.ensures (omega arith) inside (omega arith) in
    let e = part_first s (at + 3) (at + 4) until _ c.get-4.ensures (omega arith) inside (omega arith) in
    let f = part_first s (at + 4) (at + 5) until _ c.get-5.ensures (omega arith) inside (omega arith) in
    let count =
    b ∙ ap (λ l. c.get-2.result.now ∷ l) (d ∙ ap (λ l. c.get-3.result.now ∷ l) (e ∙ ap (λ l. c.get-4.result.now ∷ l) f)) in
    ap coded_runs (a ∙ ap (λ l. c.get.result.now ∷ l) count) ∙ c.code_run-2.ensures (part s (at + 5) until)
