use Rattle.std.proofs.Common.{take}
use Rattle.report_laws.specs.Fits.{AllFit}
use Rattle.report_laws.proofs.known.know_journal.Given as goal

abbrev pub invariant-loop-place : goal.invariant-loop-place
invariant-loop-place l = AllFit (take l.place l.journal.entries)
