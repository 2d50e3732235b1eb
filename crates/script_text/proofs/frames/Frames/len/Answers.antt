use Rattle.std.proofs.Common.{length, ap, arith}
use Rattle.script_text.proofs.KeptLemmas.{length-first_frames}
use Rattle.script_text.proofs.frames.Frames.len.Goals as goal

pub returns : goal.returns
returns c =
    omega (arith, length-first_frames c.self.inside.count c.self.inside.bytes, ap length c.self.view_is)
