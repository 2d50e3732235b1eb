use Rattle.std.proofs.Common.{◌+◌, ◌<◌, List, ℕ, subst, sym, arith}
use Rattle.std.specs.List.{All}
use Rattle.packed_bytes.specs.Packed.{part}
use Rattle.packed_bytes.proofs.ByteLemmas.{more_bytes, fewer_bytes}
use Rattle.packed_bytes.proofs.list.know_part.Goals as goal

pub loop-next-preserved : goal.loop-next-preserved
loop-next-preserved c =
    let here = c.loop-next.invariant in
    let piece : List ℕ = c.piece.result.now in
    let more = more_bytes c.args.store.now.items piece c.args.at c.loop-next.next here.begun c.piece.ensures
    c.count_of-next.ensures.bytes here.bytes in
    record {
      begun = omega (arith, here.begun);
      within = omega (arith, c.piece.ensures.within, c.count_of-next.ensures.value);
      bytes = subst (λ n. All (λ b. b < 256) (part c.args.store.now.items c.args.at (c.loop-next.next + n)))
          (sym c.count_of-next.ensures.value) more;
    }

pub returns : goal.returns
returns c =
    fewer_bytes c.args.store.now.items c.args.at c.args.until c.loop-next.next c.requires.order (omega arith) c.loop-next.invariant.bytes
