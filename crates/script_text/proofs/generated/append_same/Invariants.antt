use Rattle.std.proofs.Common.{◌≡◌, ◌*◌, ◌++◌, replicate}
use Rattle.script_text.proofs.generated.append_same.Given as goal

-- so many pieces are appended
abbrev pub invariant-loop-i : goal.invariant-loop-i
invariant-loop-i l = l.bytes.items ≡ l.initial.bytes.items ++ replicate (l._i * 256) l.byte
