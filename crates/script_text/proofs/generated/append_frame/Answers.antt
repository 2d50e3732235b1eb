use Rattle.std.proofs.Common.{◌++◌, ◌∙◌, ap, replicate}
use Rattle.frame_wire.specs.Spelling.{header}
use Rattle.script_text.proofs.GeneratedLemmas.{headed}
use Rattle.script_text.proofs.generated.append_frame.Goals as goal

pub returns : goal.returns
returns c =
    let old = c.args.bytes.now.items in
    headed c.append_same.result old c.extend_from_slice.new.self.items c.append_same.new.bytes.items (header c.args.head.now)
    (replicate c.args.head.now.len c.args.byte)
    (c.in_ok-extend_from_slice.ensures.items ∙ ap (λ l. old ++ l) c.encode_header.ensures) c.append_same.ensures
