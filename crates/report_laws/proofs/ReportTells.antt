-- A report tells its openings and its journal: what stands behind the lines of the entries begins with no entry, and what
-- stands behind those of the openings with no opening.
use Rattle.std.proofs.Common.{◌≡◌, ◌≢◌, ℕ, suc, ◌≤◌, List, [], ◌∷◌, ◌++◌, Option, Some}
use Rattle.std.proofs.Common.{append_assoc, append-nil, sym, ap, ◌∙◌, arith}
use Rattle.std.proofs.lemmas.List.{append_cancel_left}
use Rattle.frame_wire.specs.declared.head.Head.{Head}
use Rattle.volume_model.specs.declared.entry.Answer.{Answer}
use Rattle.volume_model.specs.declared.entry.Entry.{Entry}
use Rattle.volume_model.specs.declared.mode.Mode.{Mode}
use Rattle.volume_model.specs.declared.mode.Mode.TheVariants.{Rw, Wo, Err}
use Rattle.volume_model.specs.History.{Spot, answers_of}
use Rattle.volume_model.specs.Modes.{modes_after}
use Rattle.volume_model.specs.PlainState.{Volume}
use Rattle.volume_model.specs.Replay.{replay}
use Rattle.volume_model.specs.Snapshots.{chain_of}
use Rattle.digest.specs.Digest.{digest_text}
use Rattle.run_report.specs.Lines.{chain_line, head_line}
use Rattle.run_report.specs.Report.{opening_lines, journal_lines, reply_lines, replies_from, mode_lines, source_lines, end_lines, report_of}
use Rattle.report_laws.specs.Fits.{AllFit}
use Rattle.report_laws.specs.Reasons.{TellOneLine}
use Rattle.report_laws.proofs.Begins.{Begins, Begins-append, BeginsLater, BeginsUnopened}
use Rattle.report_laws.proofs.Fields.{AreOne}
use Rattle.report_laws.proofs.JournalTells.{same_journal, unopened-journal}
use Rattle.report_laws.proofs.OpeningTells.{same_openings}

-- Replies begin with an r, and the lines of what is left with m, c and h.
module _ (Is : ℕ → Type 0) (is_r : Is 114) (is_m : Is 109) (is_c : Is 99) (is_h : Is 104) where
  replies_of-begin : (heads : List Head) (answers : List (ℕ × Answer)) → Begins Is (reply_lines heads answers)
  replies_of-begin [] answers = tt
  replies_of-begin (h ∷ hs) [] = tt
  replies_of-begin (h ∷ hs) (a ∷ more) = is_r

  replies-begin : (stream : ℕ) (heads : List (List Head)) (journal : List Entry) → Begins Is (replies_from stream heads journal)
  replies-begin stream [] journal = tt
  replies-begin stream (hs ∷ rest) journal =
      Begins-append Is (reply_lines hs (answers_of stream journal)) _ (replies_of-begin hs _) (replies-begin (suc stream) rest journal)

  modes-begin : (r : ℕ) (modes : List Mode) → Begins Is (mode_lines r modes)
  modes-begin r [] = tt
  modes-begin r (m ∷ ms) = is_m

  sources-begin : (line : ℕ → List ℕ) (lines : (r : ℕ) → Begins Is (line r)) (r : ℕ) (modes : List Mode)
      → Begins Is (source_lines line r modes)
  sources-begin line lines r [] = tt
  sources-begin line lines r (Rw ∷ ms) = Begins-append Is (line r) _ (lines r) (sources-begin line lines (suc r) ms)
  sources-begin line lines r (Wo ∷ ms) = sources-begin line lines (suc r) ms
  sources-begin line lines r (Err ∷ ms) = sources-begin line lines (suc r) ms

  pub end-begins : (modes : List Mode) (volume : Volume) → Begins Is (end_lines modes volume)
  end-begins modes volume =
      let chain : ℕ → List ℕ = λ r. chain_line (Some r) (chain_of volume.snapshots) in
      let head : ℕ → List ℕ = λ r. head_line r (digest_text volume.disk) in
      let chains = sources-begin chain (λ r. is_c) 0 modes in
      let heads = sources-begin head (λ r. is_h) 0 modes in
      Begins-append Is (mode_lines 0 modes ++ source_lines chain 0 modes) (source_lines head 0 modes)
      (Begins-append Is (mode_lines 0 modes) (source_lines chain 0 modes) (modes-begin 0 modes) chains) heads

  pub behind-begins : (heads : List (List Head)) (modes : List Mode) (volume : Volume) (journal : List Entry)
      → Begins Is (replies_from 0 heads journal ++ end_lines modes volume)
  behind-begins heads modes volume journal =
      Begins-append Is (replies_from 0 heads journal) _ (replies-begin 0 heads journal) (end-begins modes volume)

pub same_lines : (journal other : List Entry) → AllFit journal → AllFit other
    → journal_lines 0 journal ≡ journal_lines 0 other → journal ≡ other
same_lines journal other p q same =
    same_journal 0 journal other [] [] p q tt tt
    (append-nil (journal_lines 0 journal) ∙ same ∙ sym (append-nil (journal_lines 0 other)))

-- what stands in a report behind the lines of the entries
behind_entries : List (List Head) → Spot → List Entry → List ℕ
behind_entries heads opening journal =
    replies_from 0 heads journal ++ end_lines (modes_after opening.modes journal) (replay opening.state journal).volume

later-behind : (heads : List (List Head)) (opening : Spot) (journal : List Entry) → BeginsLater (behind_entries heads opening journal)
unfolding behind_entries
later-behind heads opening journal =
    behind-begins (λ b. 97 ≤ b) (omega arith) (omega arith) (omega arith) (omega arith) heads _
    (replay opening.state journal).volume journal

unopened-behind : (heads : List (List Head)) (opening : Spot) (journal : List Entry)
    → BeginsUnopened (behind_entries heads opening journal)
unfolding behind_entries
unopened-behind heads opening journal =
    behind-begins (λ b. b ≢ 111) (λ e. omega arith) (λ e. omega arith) (λ e. omega arith) (λ e. omega arith) heads _
    (replay opening.state journal).volume journal

-- what stands in a report behind the lines of the openings
behind_openings : List (List Head) → Spot → List Entry → List ℕ
behind_openings heads opening journal = journal_lines 0 journal ++ behind_entries heads opening journal

report_parts : (reasons : List (Option (List ℕ))) (heads : List (List Head)) (opening : Spot) (journal : List Entry)
    → report_of reasons heads opening journal ≡ opening_lines 0 reasons ++ behind_openings heads opening journal
unfolding behind_entries behind_openings
report_parts reasons heads opening journal =
    append_assoc (opening_lines 0 reasons) (journal_lines 0 journal ++ replies_from 0 heads journal) _
    ∙ ap (λ l. opening_lines 0 reasons ++ l) (append_assoc (journal_lines 0 journal) (replies_from 0 heads journal) _)

same_behind : (heads heads_too : List (List Head)) (opening opening_too : Spot) (journal other : List Entry)
    → AllFit journal → AllFit other
    → behind_openings heads opening journal ≡ behind_openings heads_too opening_too other → journal ≡ other
unfolding behind_openings
same_behind heads heads_too opening opening_too journal other p q same =
    same_journal 0 journal other (behind_entries heads opening journal) (behind_entries heads_too opening_too other) p q
    (later-behind heads opening journal) (later-behind heads_too opening_too other) same

pub same_report : (reasons : List (Option (List ℕ))) (heads heads_too : List (List Head)) (opening opening_too : Spot)
    (journal other : List Entry) → AllFit journal → AllFit other
    → report_of reasons heads opening journal ≡ report_of reasons heads_too opening_too other → journal ≡ other
same_report reasons heads heads_too opening opening_too journal other p q same =
    same_behind heads heads_too opening opening_too journal other p q (append_cancel_left (opening_lines 0 reasons) _ _
    (sym (report_parts reasons heads opening journal) ∙ same ∙ report_parts reasons heads_too opening_too other))

same_parts : (reasons reasons_too : List (Option (List ℕ))) (heads heads_too : List (List Head)) (opening opening_too : Spot)
    (journal other : List Entry) → TellOneLine reasons → TellOneLine reasons_too
    → report_of reasons heads opening journal ≡ report_of reasons_too heads_too opening_too other
    → AreOne reasons reasons_too (behind_openings heads opening journal) (behind_openings heads_too opening_too other)
unfolding behind_openings
same_parts reasons reasons_too heads heads_too opening opening_too journal other p q same =
    same_openings 0 reasons reasons_too _ _ p q
    (unopened-journal 0 journal (behind_entries heads opening journal) (unopened-behind heads opening journal))
    (unopened-journal 0 other (behind_entries heads_too opening_too other) (unopened-behind heads_too opening_too other))
    (sym (report_parts reasons heads opening journal) ∙ same ∙ report_parts reasons_too heads_too opening_too other)

pub same_opening : (reasons reasons_too : List (Option (List ℕ))) (heads heads_too : List (List Head)) (opening opening_too : Spot)
    (journal other : List Entry) → TellOneLine reasons → TellOneLine reasons_too
    → report_of reasons heads opening journal ≡ report_of reasons_too heads_too opening_too other → reasons ≡ reasons_too
same_opening reasons reasons_too heads heads_too opening opening_too journal other p q same =
    (same_parts reasons reasons_too heads heads_too opening opening_too journal other p q same).same

pub same_report_anyhow : (reasons reasons_too : List (Option (List ℕ))) (heads heads_too : List (List Head)) (opening opening_too : Spot)
    (journal other : List Entry) → TellOneLine reasons → TellOneLine reasons_too → AllFit journal → AllFit other
    → report_of reasons heads opening journal ≡ report_of reasons_too heads_too opening_too other → journal ≡ other
same_report_anyhow reasons reasons_too heads heads_too opening opening_too journal other p q fits fits_too same =
    same_behind heads heads_too opening opening_too journal other fits fits_too
    (same_parts reasons reasons_too heads heads_too opening opening_too journal other p q same).rest
