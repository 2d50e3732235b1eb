use Rattle.std.proofs.Common.{◌+◌, ◌-◌}
use Rattle.script_text.specs.Generated.{frames_behind, frames_of}
use Rattle.script_text.proofs.GeneratedLemmas.{AreMade}
use Rattle.script_text.proofs.generated.make_frames.Given as goal

-- the frames so far, and those that are left
abbrev pub invariant-loop-index : goal.invariant-loop-index
invariant-loop-index l =
    AreMade l.bytes.items (frames_behind l.page (l.index + 1) l.generator.state (l.calls - l.index)) (frames_of l.number l.calls l.page)
