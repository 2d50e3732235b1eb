use Rattle.packed_bytes.proofs.RunLemmas.{code_read}
use Rattle.packed_bytes.proofs.each_run.code_run.Goals as goal

pub returns : goal.returns
returns c rest = code_read c.args.code.now rest c.from_le_bytes.result c.told-code c.from_le_bytes.ensures
