use Rattle.std.proofs.Common.{◌∙◌, ◌++◌, ap}
use Rattle.frame_stream.specs.Replies.{head_bytes}
use Rattle.client_input.proofs.replies.append_header.Goals as goal

pub returns : goal.returns
unfolding head_bytes
returns c = c.in_ok-extend_from_slice.ensures.items ∙ ap (λ l. c.args.into.now.items ++ l) c.encode_header-bytes.ensures
