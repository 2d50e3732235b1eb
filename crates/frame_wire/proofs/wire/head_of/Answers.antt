use Rattle.std.proofs.Common.{rules, ◌≡◌, ap, ◌∙◌}
use Rattle.std.specs.Int.{w64, to_le_bytes, cast_signed, cast_unsigned}
use Rattle.frame_wire.proofs.Fields.{begins}
use Rattle.frame_wire.proofs.wire.head_of.Goals as goal

pub returns-clause-some : goal.returns-clause-some
returns-clause-some c =
    let same : cast_signed w64 (cast_unsigned w64 c.i64_of.result) ≡ c.i64_of.result = search rules in
    let front = c.in_ok-b.ensures.cases in
    begins c.args.bytes.now _ _ c.requires front.enough front.same (search rules) (record {
      seq = c.u32_of.ensures;
      kind = c.u32_of-2.ensures;
      offset = ap (λ z. to_le_bytes w64 (cast_unsigned w64 z)) same ∙ c.i64_of.ensures;
      size = c.u32_of-3.ensures;
      len = c.u32_of-4.ensures;
    })
