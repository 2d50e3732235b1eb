use Rattle.std.proofs.Common.{◌≡◌, ℕ, ◌+◌, ◌++◌, vec_len, length, refl, arith, ap, sym, subst, ◌∙◌, length-append}
use Rattle.std.proofs.lemmas.List.{length-take}
use Rattle.std.specs.Io.KnownBytes.{Consumes}
use Rattle.std.proofs.KnownBytes.{Consumes-nil, Consumes-trans}
use Rattle.outer_traits.proofs.input.gather.Goals as goal

pub loop-piece-init : goal.loop-piece-init
loop-piece-init g c = record {
  room = omega (arith, c.in_ok-piece.ensures.len);
  most = omega (arith, c.new-input.ensures.len);
  bytes = rw c.new-input.ensures.items (Consumes-nil _);
  faults = refl;
}

pub loop-piece-preserved : goal.loop-piece-preserved
loop-piece-preserved g c =
    let i = c.loop-piece.invariant in
    let m = c.in_ok-read_more.ensures.bytes in
    let len : vec_len c.read_more.new.input ≡ vec_len c.loop-piece.input + c.in_ok-read_more.field-0 =
    omega (arith, ap length m.bytes.2, length-append {A = ℕ}, m.bytes.3, c.read_more.new.input.ok.0, c.loop-piece.input.ok.0) in
    record {
      room = i.room;
      most = omega (arith, len, m.within, length-take {A = ℕ});
      bytes = subst (Consumes (g.S.Source.left c.args.source.now) (g.S.Source.left c.read_more.new.source)) (sym m.bytes.2)
          (Consumes-trans _ _ _ c.loop-piece.input.items m.bytes.0 i.bytes m.bytes.1);
      faults = c.in_ok-read_more.ensures.cause.cause ∙ i.faults;
    }

pub returns-in_err-read_more-clause-most : goal.returns-in_err-read_more-clause-most
returns-in_err-read_more-clause-most g c =
    let i = c.loop-piece.invariant in
    let m = c.read_more.ensures.most in (
      c.loop-piece.input.items ++ m.0,
      Consumes-trans _ _ _ c.loop-piece.input.items m.0 i.bytes m.1,
      omega (arith, m.2, length-append c.loop-piece.input.items m.0, length-take {A = ℕ}, c.loop-piece.input.ok.0),
    )
