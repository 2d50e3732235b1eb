use Rattle.std.proofs.Common.{ap, sym, ◌∙◌, ◌+◌, ◌%◌, ◌^◌}
use Rattle.std.specs.Prelude.{if◌then◌else◌}
use Rattle.rebuild_worker.proofs.frames.number_of.Goals as goal

pub returns-then-is_reply : goal.returns-then-is_reply
returns-then-is_reply c = λ h body fits is.
    let reply = sym (c.is_reply.ensures h body fits is) ∙ c.if-is_reply.true in
    sym (ap (λ b. if b then c.args.last else (c.args.last + 1) % 2 ^ 32) reply)

pub returns : goal.returns
returns c = λ h body fits is.
    let request = sym (c.is_reply.ensures h body fits is) ∙ c.if-is_reply.false in
    sym (ap (λ b. if b then c.args.last else (c.args.last + 1) % 2 ^ 32) request)
