-- The report of a run: a line for each replica that was opened, one for each entry of the journal, one for each reply, by
-- streams, and then what the run leaves.
use Rattle.std.specs.Prelude.{ℕ, suc, List, [], ◌∷◌, ◌++◌, Option, Some}
use Rattle.std.specs.List.{flat_map, zip}
use Rattle.frame_wire.specs.declared.head.Head.{Head}
use Rattle.volume_model.specs.declared.entry.Answer.{Answer}
use Rattle.volume_model.specs.declared.entry.Entry.{Entry}
use Rattle.volume_model.specs.declared.mode.Mode.{Mode}
use Rattle.volume_model.specs.declared.mode.Mode.TheVariants as mode
use Rattle.volume_model.specs.PlainState.{Volume}
use Rattle.volume_model.specs.Snapshots.{chain_of}
use Rattle.volume_model.specs.Replay.{replay}
use Rattle.volume_model.specs.Modes.{modes_after}
use Rattle.volume_model.specs.History.{Spot, answers_of}
use Rattle.digest.specs.Digest.{digest_text}
use Rattle.run_report.specs.Lines.{opening_line, entry_line, reply_line, mode_line, chain_line, head_line}

-- how the replicas were opened, each with the text of the reason where it is not read; the first of them is r
abbrev pub opening_lines : ℕ → List (Option (List ℕ)) → List ℕ
opening_lines r [] = []
opening_lines r (why ∷ more) = opening_line r why ++ opening_lines (suc r) more

-- the lines of these entries, the first of which stands at `place`
abbrev pub journal_lines : ℕ → List Entry → List ℕ
journal_lines place [] = []
journal_lines place (e ∷ es) = entry_line place e ++ journal_lines (suc place) es

-- the replies to frames with these headers, each with its answer
abbrev pub reply_lines : List Head → List (ℕ × Answer) → List ℕ
reply_lines heads answers = flat_map (λ p. reply_line p.0 p.1.1) (zip heads answers)

-- the replies to the frames of each stream, from this stream on
abbrev pub replies_from : ℕ → List (List Head) → List Entry → List ℕ
replies_from stream [] journal = []
replies_from stream (hs ∷ rest) journal = reply_lines hs (answers_of stream journal) ++ replies_from (suc stream) rest journal

-- what is printed of the calls, for streams whose frames have these headers
abbrev pub call_lines : List (List Head) → List Entry → List ℕ
call_lines streams journal = journal_lines 0 journal ++ replies_from 0 streams journal

-- the modes of the replicas, the first of which is r
abbrev pub mode_lines : ℕ → List Mode → List ℕ
mode_lines r [] = []
mode_lines r (m ∷ ms) = mode_line r m ++ mode_lines (suc r) ms

-- a line for each of the replicas that is read and written, the first replica being r
abbrev pub source_lines : (ℕ → List ℕ) → ℕ → List Mode → List ℕ
source_lines line r [] = []
source_lines line r (mode.Rw ∷ ms) = line r ++ source_lines line (suc r) ms
source_lines line r (m ∷ ms) = source_lines line (suc r) ms

-- what a run leaves: modes, chains, and the digests of the heads
abbrev pub end_lines : List Mode → Volume → List ℕ
end_lines modes volume = mode_lines 0 modes ++ source_lines (λ r. chain_line (Some r) (chain_of volume.snapshots)) 0 modes
    ++ source_lines (λ r. head_line r (digest_text volume.disk)) 0 modes

-- the whole report of a journal, for replicas that were opened with these reasons, none where no folder was opened, and
-- for streams whose frames have these headers
abbrev pub report_of : List (Option (List ℕ)) → List (List Head) → Spot → List Entry → List ℕ
report_of reasons streams opening journal = opening_lines 0 reasons ++ call_lines streams journal
    ++ end_lines (modes_after opening.modes journal) (replay opening.state journal).volume
