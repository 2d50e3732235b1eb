use Rattle.std.proofs.Common.{◌≡◌, ◌∷◌, ◌++◌, take, flat_map}
use Rattle.run_report.specs.Lines.{mode_text}
use Rattle.run_report.proofs.words.append_more_modes.Given as goal

abbrev pub invariant-loop-mode : goal.invariant-loop-mode
invariant-loop-mode l = l.into.items ≡ l.fn.into.items ++ flat_map (λ m. 44 ∷ mode_text m) (take l.mode-index l.modes)
