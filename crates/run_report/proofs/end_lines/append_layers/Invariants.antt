use Rattle.std.proofs.Common.{◌≡◌, ◌++◌, take, flat_map}
use Rattle.run_report.specs.Lines.{layer_word}
use Rattle.run_report.proofs.end_lines.append_layers.Given as goal

abbrev pub invariant-loop-name : goal.invariant-loop-name
invariant-loop-name l = l.into.items ≡ l.fn.into.items ++ flat_map layer_word (take l.name-index l.names)
