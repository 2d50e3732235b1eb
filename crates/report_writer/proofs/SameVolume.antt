-- Where each replica that is read and written is one volume, what is written of them is the end of its report, or of its
-- summary.
use Rattle.std.proofs.Common.{◌≡◌, ℕ, zero, suc, ◌<◌, List, [], ◌∷◌, ◌++◌, length, map, get_or, Option, None, Some}
use Rattle.std.proofs.Common.{refl, sym, ap, subst, ◌∙◌, arith}
use Rattle.std.specs.Prelude.{option_and_then, option_map, slice_get}
use Rattle.std.proofs.lemmas.List.{length-map}
use Rattle.std.proofs.lemmas.Option.{slice_get-get_or}
use Rattle.mode_table.proofs.SourceLemmas.{within_from_read}
use Rattle.frame_wire.specs.declared.head.Head.{Head}
use Rattle.journal_book.specs.Book.{Book, modes_of}
use Rattle.volume_model.specs.declared.mode.Mode.{Mode}
use Rattle.volume_model.specs.declared.mode.Mode.TheVariants.{Rw, Wo, Err}
use Rattle.volume_model.specs.Modes.{mode_of, modes_after, source_of}
use Rattle.volume_model.proofs.SpotLemmas.{source_is}
use Rattle.volume_model.specs.History.{Spot}
use Rattle.volume_model.specs.PlainState.{Volume}
use Rattle.volume_model.specs.Replay.{replay}
use Rattle.replica_node.specs.Node.{Node}
use Rattle.replica_node.specs.Volume.{volume_of_node}
use Rattle.load_laws.specs.Result.{replies_of}
use Rattle.run_report.specs.Report.{opening_lines, journal_lines, call_lines, mode_lines, source_lines, end_lines, report_of}
use Rattle.run_report.specs.Sessions.{session_lines, sessions_report}
use Rattle.run_report.specs.declared.session_line.EndedSession.{EndedSession}
use Rattle.run_report.specs.Summary.{frames_from, summary_of, volume_if_read, summary_in}
use Rattle.report_writer.specs.Written.{replica_line, replica_lines, end_text, written_text, sessions_text, source_volume}
use Rattle.report_writer.specs.Written.{written_summary}
use Rattle.report_writer.specs.declared.end.EndLine.{EndLine}
use Rattle.report_writer.specs.declared.end.EndLine.TheVariants.{Chain, Digest}

-- each replica that is read and written is this volume
abbrev pub EachIs : List Mode → List Volume → Volume → Type 0
EachIs modes volumes v = (r : ℕ) → mode_of modes r ≡ Rw → get_or volumes r v ≡ v

-- each replica that is read and written is this volume; any other stands for one that is not there
abbrev pub EachNodeIs : List Mode → List Node → Node → Volume → Type 0
EachNodeIs modes nodes other v = (r : ℕ) → mode_of modes r ≡ Rw → volume_of_node (get_or nodes r other) ≡ v

-- what is so of the replicas is so of their volumes
pub each_volume : (ms : List Mode) (nodes : List Node) (other : Node) (v : Volume) → length nodes ≡ length ms → EachNodeIs ms nodes other v
    → EachIs ms (map volume_of_node nodes) v
each_volume [] nodes other v many each r is = cc
each_volume (m ∷ ms) [] other v many each r is = absurd (omega arith)
each_volume (m ∷ ms) (n ∷ ns) other v many each zero is = each 0 is
each_volume (m ∷ ms) (n ∷ ns) other v many each (suc r) is = each_volume ms ns other v (omega arith) (λ s rw. each (suc s) rw) r is

-- of one kind of line
same_lines : (kind : EndLine) (r : ℕ) (ms : List Mode) (vs : List Volume) (v : Volume) → length vs ≡ length ms → EachIs ms vs v
    → replica_lines kind r ms vs ≡ source_lines (λ s. replica_line kind s v) r ms
same_lines kind r [] vs v many each = refl
same_lines kind r (m ∷ ms) [] v many each = absurd (omega arith)
same_lines kind r (Rw ∷ ms) (w ∷ ws) v many each =
    ap (λ x. replica_line kind r x ++ replica_lines kind (suc r) ms ws) (each 0 refl)
    ∙ ap (λ l. replica_line kind r v ++ l) (same_lines kind (suc r) ms ws v (omega arith) (λ s is. each (suc s) is))
same_lines kind r (Wo ∷ ms) (w ∷ ws) v many each = same_lines kind (suc r) ms ws v (omega arith) (λ s is. each (suc s) is)
same_lines kind r (Err ∷ ms) (w ∷ ws) v many each = same_lines kind (suc r) ms ws v (omega arith) (λ s is. each (suc s) is)

pub same_end : (ms : List Mode) (vs : List Volume) (v : Volume) → length vs ≡ length ms → EachIs ms vs v → end_text ms vs ≡ end_lines ms v
same_end ms vs v many each =
    ap (λ l. mode_lines 0 ms ++ l ++ replica_lines Digest 0 ms vs) (same_lines Chain 0 ms vs v many each)
    ∙ ap (λ l. mode_lines 0 ms ++ source_lines (λ r. replica_line Chain r v) 0 ms ++ l) (same_lines Digest 0 ms vs v many each)

-- Where each replica that is read and written is the volume that the journal tells of, what is written behind the lines of
-- an opening is the report.
pub written_is_report : (reasons : List (Option (List ℕ))) (opened : List ℕ) (heads : List (List Head)) (book : Book) (opening : Spot)
    (nodes : List Node) (other : Node) → opened ≡ opening_lines 0 reasons → book.opening.modes ≡ opening.modes
    → length nodes ≡ length (modes_of book) → EachNodeIs (modes_of book) nodes other (replay opening.state book.entries).volume
    → written_text opened heads book (map volume_of_node nodes) ≡ report_of reasons heads opening book.entries
written_is_report reasons opened heads book opening nodes other lines began many each =
    let v = (replay opening.state book.entries).volume in
    ap (λ l. opened ++ call_lines heads book.entries ++ l)
    (same_end (modes_of book) (map volume_of_node nodes) v (length-map nodes volume_of_node ∙ many)
    (each_volume (modes_of book) nodes other v many each))
    ∙ ap (λ l. l ++ call_lines heads book.entries ++ end_lines (modes_of book) v) lines
    ∙ ap (λ ms. opening_lines 0 reasons ++ call_lines heads book.entries ++ end_lines (modes_after ms book.entries) v) began

-- The same of what is written of sessions.
pub sessions_are_report : (sessions : List EndedSession) (book : Book) (opening : Spot) (nodes : List Node) (other : Node)
    → book.opening.modes ≡ opening.modes → length nodes ≡ length (modes_of book)
    → EachNodeIs (modes_of book) nodes other (replay opening.state book.entries).volume
    → sessions_text sessions book (map volume_of_node nodes) ≡ sessions_report sessions opening book.entries
sessions_are_report sessions book opening nodes other began many each =
    let v = (replay opening.state book.entries).volume in
    let before : List ℕ = journal_lines 0 book.entries ++ session_lines 0 sessions in
    ap (λ l. before ++ l)
    (same_end (modes_of book) (map volume_of_node nodes) v (length-map nodes volume_of_node ∙ many)
    (each_volume (modes_of book) nodes other v many each))
    ∙ ap (λ ms. before ++ end_lines (modes_after ms book.entries) v) began

-- The lowest of them is this volume too, if there is one.
same_source : (ms : List Mode) (vs : List Volume) (v : Volume) → length vs ≡ length ms → EachIs ms vs v
    → source_volume ms vs ≡ volume_if_read ms v
same_source ms vs v many each = found (source_of ms) refl
  where
    found : (s : Option ℕ) → source_of ms ≡ s → option_and_then (slice_get vs) s ≡ option_map (λ r. v) s
    found None is = refl
    found (Some s) is =
        let read = (source_is ms s is).read in
        slice_get-get_or vs s v (subst (λ n. s < n) (sym many) (within_from_read ms s read)) ∙ ap (λ w. Some w) (each s read)

-- Where each replica that is read and written is the volume that the journal tells of, the summary that is written is the
-- journal's.
pub written_is_summary : (heads : List (List Head)) (book : Book) (opening : Spot) (nodes : List Node) (other : Node)
    → book.opening.modes ≡ opening.modes → length nodes ≡ length (modes_of book)
    → EachNodeIs (modes_of book) nodes other (replay opening.state book.entries).volume
    → written_summary heads book (map volume_of_node nodes) ≡ summary_in heads opening book.entries
written_is_summary heads book opening nodes other began many each =
    let v = (replay opening.state book.entries).volume in
    let summary : List Mode → Option Volume → List ℕ =
    λ ms volume. summary_of (frames_from 0 heads book.entries) (replies_of (length heads) book.entries) ms volume in
    ap (summary (modes_of book))
    (same_source (modes_of book) (map volume_of_node nodes) v (length-map nodes volume_of_node ∙ many)
    (each_volume (modes_of book) nodes other v many each))
    ∙ ap (λ ms. summary (modes_after ms book.entries) (volume_if_read (modes_after ms book.entries) v)) began
