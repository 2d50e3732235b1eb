use Rattle.std.proofs.Common.{sym, arith}
use Rattle.std.proofs.lemmas.List.{drop_all}
use Rattle.control_worker.proofs.frames.page_in.Goals as goal

pub returns-then-reply-lt-HEADER_LENGTH : goal.returns-then-reply-lt-HEADER_LENGTH
returns-then-reply-lt-HEADER_LENGTH c = sym (drop_all 26 c.args.reply.now (omega arith))
