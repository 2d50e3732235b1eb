use Rattle.std.proofs.Common.{◌++◌, ◌∷◌, [], get_or, drop, suc, subst, arith}
use Rattle.std.proofs.lemmas.Result.{err_from_is_err_and}
use Rattle.image_maps.specs.Standing.{text_read, RefusesFrom}
use Rattle.image_maps.proofs.StandingLemmas.{refuses_longer, cut_behind}
use Rattle.image_maps.proofs.standing.read_bytes.Goals as goal

pub returns-in_err-read_byte-clause-refused : goal.returns-in_err-read_byte-clause-refused
returns-in_err-read_byte-clause-refused c =
    let error = err_from_is_err_and c.from_residual.result c.from_residual.ensures.1 in
    let bytes = c.args.bytes.now in
    let i = c.loop-byte.byte-index in
    let now = text_read c.loop-byte.spans.items c.loop-byte.at in
    let old = text_read c.args.spans.now.items c.args.at.now in
    let cut = cut_behind old bytes now i (omega arith) c.loop-byte.invariant.read in
    rw (error.1, error.2)
    (subst (λ text. RefusesFrom text c.args.block_count c.in_err-read_byte.field-0.0) cut
    (refuses_longer (now ++ get_or bytes i 0 ∷ []) (drop (suc i) bytes) c.args.block_count c.in_err-read_byte.field-0.0
    c.in_err-read_byte.ensures.refused))
