-- A report of sessions tells its journal and its sessions: what stands behind the lines of the entries begins with no entry,
-- and what stands behind those of the sessions with no session.
use Rattle.std.proofs.Common.{◌≡◌, ◌≢◌, ℕ, suc, ◌≤◌, List, [], ◌∷◌, ◌++◌, drop, codes, refl, sym, ap, ◌∙◌, append_assoc, arith}
use Rattle.std.specs.Fmt.{decimal}
use Rattle.std.proofs.lemmas.List.{append_cancel_left}
use Rattle.std.proofs.lemmas.List.Elements.{All-head, All-tail}
use Rattle.volume_model.specs.declared.entry.Entry.{Entry}
use Rattle.volume_model.specs.History.{Spot}
use Rattle.volume_model.specs.Modes.{modes_after}
use Rattle.volume_model.specs.Replay.{replay}
use Rattle.run_report.specs.Lines.{word}
use Rattle.run_report.specs.Report.{journal_lines, end_lines}
use Rattle.run_report.specs.Sessions.{session_end_text, session_line, session_lines, sessions_report}
use Rattle.run_report.specs.declared.session_line.EndedSession.{EndedSession}
use Rattle.run_report.specs.declared.session_line.SessionEnd.{SessionEnd}
use Rattle.run_report.specs.declared.session_line.SessionEnd.TheVariants.{Closed, Ended, Frame, Full, ReadFault, WriteFault}
use Rattle.report_laws.specs.Fits.{AllFit, EndFits, SessionFits, SessionsFit}
use Rattle.report_laws.proofs.Begins.{Begins, Begins-append, BeginsLater, BeginsUnserved}
use Rattle.report_laws.proofs.Fields.{AreOne, one_by}
use Rattle.report_laws.proofs.Fields as field
use Rattle.report_laws.proofs.JournalTells.{same_journal}
use Rattle.report_laws.proofs.ReportTells.{end-begins}
use Rattle.report_laws.proofs.Words.{space, line_end, three}

-- how a session ended, with a space behind it
same_way : (a b : SessionEnd) (xs ys : List ℕ) → EndFits a → EndFits b
    → session_end_text a ++ 32 ∷ xs ≡ session_end_text b ++ 32 ∷ ys → AreOne a b xs ys
same_way Closed Closed xs ys p q e = record { same = refl; rest = ap (drop 7) e }
same_way Ended Ended xs ys p q e = record { same = refl; rest = ap (drop 6) e }
same_way (Frame m) (Frame n) xs ys p q e = one_by Frame (field.number 32 space xs ys m n p q (ap (drop 6) e))
same_way Full Full xs ys p q e = record { same = refl; rest = ap (drop 5) e }
same_way ReadFault ReadFault xs ys p q e = record { same = refl; rest = ap (drop 11) e }
same_way WriteFault WriteFault xs ys p q e = record { same = refl; rest = ap (drop 12) e }
same_way a b xs ys p q e = absurd (omega (arith, ap three e))

-- what stands before the end in the line of a session
line_front : ℕ → List ℕ
line_front k = codes "session " ++ word (decimal k)

-- and what stands from there on
line_back : EndedSession → List ℕ → List ℕ
line_back s xs = session_end_text s.end ++ 32 ∷ (decimal s.calls ++ 32 ∷ (decimal s.seen ++ 10 ∷ xs))

line_words : (k : ℕ) (s : EndedSession) (xs : List ℕ) → session_line k s ++ xs ≡ line_front k ++ line_back s xs
unfolding line_front line_back
line_words k s xs = simp append_assoc

same_back : (s t : EndedSession) (xs ys : List ℕ) → SessionFits s → SessionFits t → line_back s xs ≡ line_back t ys
    → AreOne s t xs ys
unfolding line_back
same_back s t xs ys p q e =
    let way = same_way s.end t.end _ _ p.place q.place e in
    let calls = field.number 32 space _ _ s.calls t.calls p.calls q.calls way.rest in
    let seen = field.number 10 line_end xs ys s.seen t.seen p.seen q.seen calls.rest in
    record { same = same_parts way.same calls.same seen.same; rest = seen.rest }
  where
    session_of : SessionEnd → ℕ → ℕ → EndedSession
    session_of end calls seen = record { end = end; calls = calls; seen = seen }

    same_parts : {a b : SessionEnd} {i j k l : ℕ} → a ≡ b → i ≡ j → k ≡ l → session_of a i k ≡ session_of b j l
    same_parts a i k = cc

same_session : (k : ℕ) (s t : EndedSession) (xs ys : List ℕ) → SessionFits s → SessionFits t
    → session_line k s ++ xs ≡ session_line k t ++ ys → AreOne s t xs ys
same_session k s t xs ys p q e =
    same_back s t xs ys p q (append_cancel_left (line_front k) _ _ (sym (line_words k s xs) ∙ e ∙ line_words k t ys))

no_session : (k : ℕ) (s : EndedSession) (xs rest : List ℕ) → BeginsUnserved rest → session_line k s ++ xs ≡ rest → ⊥
no_session k s xs [] begins e = cc
no_session k s xs (b ∷ bs) begins e = let same : b ≡ 115 = cc in begins same

same_lines : (k : ℕ) (ss ts : List EndedSession) (xs ys : List ℕ) → SessionsFit ss → SessionsFit ts
    → BeginsUnserved xs → BeginsUnserved ys → session_lines k ss ++ xs ≡ session_lines k ts ++ ys → ss ≡ ts
same_lines k [] [] xs ys p q x y e = refl
same_lines k [] (t ∷ ts) xs ys p q x y e =
    absurd (no_session k t _ xs x (sym (append_assoc (session_line k t) _ ys) ∙ sym e))
same_lines k (s ∷ ss) [] xs ys p q x y e =
    absurd (no_session k s _ ys y (sym (append_assoc (session_line k s) _ xs) ∙ e))
same_lines k (s ∷ ss) (t ∷ ts) xs ys p q x y e =
    let text = sym (append_assoc (session_line k s) _ xs) ∙ e ∙ append_assoc (session_line k t) _ ys in
    let first = same_session k s t _ _ (All-head SessionFits s ss p) (All-head SessionFits t ts q) text in
    let back = same_lines (suc k) ss ts xs ys (All-tail SessionFits s ss p) (All-tail SessionFits t ts q) x y first.rest in
    let front : s ≡ t = first.same in
    cc

-- sessions begin with an s
sessions-begin : (Is : ℕ → Type 0) → Is 115 → (k : ℕ) (ss : List EndedSession) → Begins Is (session_lines k ss)
sessions-begin Is is_s k [] = tt
sessions-begin Is is_s k (s ∷ ss) = is_s

-- what a run leaves that began there
left : Spot → List Entry → List ℕ
left opening journal = end_lines (modes_after opening.modes journal) (replay opening.state journal).volume

later-behind : (ss : List EndedSession) (opening : Spot) (journal : List Entry) → BeginsLater (session_lines 0 ss ++ left opening journal)
unfolding left
later-behind ss opening journal =
    Begins-append (λ b. 97 ≤ b) (session_lines 0 ss) _ (sessions-begin (λ b. 97 ≤ b) (omega arith) 0 ss)
    (end-begins (λ b. 97 ≤ b) (omega arith) (omega arith) (omega arith) (omega arith) _ (replay opening.state journal).volume)

unserved-left : (opening : Spot) (journal : List Entry) → BeginsUnserved (left opening journal)
unfolding left
unserved-left opening journal =
    end-begins (λ b. b ≢ 115) (λ e. omega arith) (λ e. omega arith) (λ e. omega arith) (λ e. omega arith) _
    (replay opening.state journal).volume

report_parts : (ss : List EndedSession) (opening : Spot) (journal : List Entry)
    → sessions_report ss opening journal ≡ journal_lines 0 journal ++ (session_lines 0 ss ++ left opening journal)
unfolding left
report_parts ss opening journal = append_assoc (journal_lines 0 journal) (session_lines 0 ss) _

pub same_report : (ss ts : List EndedSession) (opening opening_too : Spot) (journal other : List Entry) → AllFit journal → AllFit other
    → sessions_report ss opening journal ≡ sessions_report ts opening_too other → journal ≡ other
same_report ss ts opening opening_too journal other p q same =
    same_journal 0 journal other (session_lines 0 ss ++ left opening journal) (session_lines 0 ts ++ left opening_too other) p q
    (later-behind ss opening journal) (later-behind ts opening_too other)
    (sym (report_parts ss opening journal) ∙ same ∙ report_parts ts opening_too other)

pub same_sessions : (ss ts : List EndedSession) (opening opening_too : Spot) (journal other : List Entry) → AllFit journal → AllFit other
    → SessionsFit ss → SessionsFit ts → sessions_report ss opening journal ≡ sessions_report ts opening_too other → ss ≡ ts
same_sessions ss ts opening opening_too journal other p q fit fit_too same =
    let one = same_report ss ts opening opening_too journal other p q same in
    let behind = session_lines 0 ss ++ left opening journal in
    same_lines 0 ss ts (left opening journal) (left opening_too other) fit fit_too (unserved-left opening journal)
    (unserved-left opening_too other) (append_cancel_left (journal_lines 0 other) behind _
    (ap (λ es. journal_lines 0 es ++ behind) (sym one) ∙ sym (report_parts ss opening journal) ∙ same ∙ report_parts ts opening_too other))
