-- The folders that a run leaves, and the text that it prints.
use Rattle.std.proofs.Common.{◌≡◌, ◌≢◌, ℕ, ◌<◌, ◌≤◌, true, false, List, length, Option, Some, None, IfSome, IfNone}
use Rattle.std.proofs.Common.{sym, ap, subst, ◌∙◌}
use Rattle.frame_wire.specs.declared.head.Head.{Head}
use Rattle.outer_traits.specs.Causes.{Rose}
use Rattle.shelf_traits.specs.Files.{Files, Both}
use Rattle.chain_meta.specs.Kinds.{largest_head}
use Rattle.folder_checks.specs.Told.{Told}
use Rattle.mode_table.proofs.SourceLemmas.{within_from_read}
use Rattle.journal_book.specs.Book.{modes_of}
use Rattle.volume_model.specs.declared.mode.Mode.{Mode}
use Rattle.volume_model.specs.declared.mode.Mode.TheVariants.{Rw, Err}
use Rattle.volume_model.specs.Modes.{mode_of, modes_after}
use Rattle.volume_model.specs.PlainState.{Volume}
use Rattle.volume_model.proofs.OneWorkerLemmas.{length-modes_after}
use Rattle.replica_node.specs.Node.{Node, blank}
use Rattle.replica_node.specs.Volume.{volume_of_node}
use Rattle.open_calls.specs.Calls.{node_at}
use Rattle.report_writer.proofs.SameVolume.{written_is_report}
use Rattle.run_report.specs.Report.{report_of, opening_lines}
use Rattle.script_text.specs.declared.script.Script.{Script}
use Rattle.stream_turns.specs.Serving.{IsServed}
use Rattle.volume_folders.specs.Heads.{head_at, stamps_for}
use Rattle.volume_folders.specs.Saved.{is_failed, IsSavedAs, IsVolumeFolder, IsFailedFolder, OnlyFoldersChange}
use Rattle.volume_folders.proofs.SavedLemmas.{volume_folder, failed_of}
use Rattle.volume_cli.specs.declared.finish.ServedRun.{ServedRun}
use Rattle.volume_cli.specs.declared.status.Status.{Status}
use Rattle.volume_cli.specs.declared.status.Status.TheVariants.{NoMemory}
use Rattle.volume_cli.specs.Begun.{Begin}
use Rattle.volume_cli.specs.Left.{AreFoldersOf, volume_after, modes_left, opening_texts, report_text}
use Rattle.volume_cli.specs.Steps.{text_of, AreSavedOf, HasMany}

-- what is told of what shelves hold, and what follows from it
told_more : (held : Option Files) (P Q : Files → Type 0) → ((files : Files) → P files → Q files) → Told held P → Told held Q
told_more None P Q f told = tt
told_more (Some files) P Q f told = f files told

-- of a run that began so, and was served so
module _ (script : Script) (begin : Begin) (counted : ℕ → ℕ → ℕ) (carried : ℕ → ℕ → Option (List (List ℕ))) (run : ServedRun)
    (sized : HasMany script begin) (served : IsServed script begin.spot counted carried run.served) where
  abbrev modes_now : List Mode
  modes_now = modes_of run.served.world.journal

  abbrev node_now : ℕ → Node
  node_now r = node_at run.served.world.nodes.items r

  same_modes : modes_now ≡ modes_left begin run.served.world.journal.entries
  same_modes = ap (λ (ms : List Mode). modes_after ms run.served.world.journal.entries) served.opening

  -- there is a mode for each replica
  pub all_modes : length modes_now ≡ script.replicas
  all_modes =
      length-modes_after run.served.world.journal.opening.modes run.served.world.journal.entries
      ∙ ap (λ (ms : List Mode). length ms) served.opening ∙ sized.modes

  pub all_nodes : length run.served.world.nodes.items ≡ script.replicas
  all_nodes = served.many ∙ all_modes

  read_now : (r : ℕ) → mode_of (modes_left begin run.served.world.journal.entries) r ≡ Rw → mode_of modes_now r ≡ Rw
  read_now r is = ap (λ ms. mode_of ms r) same_modes ∙ is

  -- the folder of one that is read and written
  read_folder : (files : Files) (time : List ℕ) (r : ℕ) → AreSavedOf files time run → mode_of modes_now r ≡ Rw
      → (volume_after begin run.served.world.journal.entries).snapshots.number ≤ largest_head
      → IsVolumeFolder (files r) (stamps_for time (head_at run.heads.items r)
      (volume_after begin run.served.world.journal.entries).snapshots.number)
      (volume_after begin run.served.world.journal.entries)
  read_folder files time r saved is low =
      let same : volume_of_node (node_now r) ≡ volume_after begin run.served.world.journal.entries = served.replicas r is in
      let number : (node_now r).number ≡ (volume_after begin run.served.world.journal.entries).snapshots.number =
      ap (λ (v : Volume). v.snapshots.number) same in
      let there : r < length run.served.world.nodes.items = rw served.many (within_from_read modes_now r is) in
      let at = subst (λ mode. IsSavedAs (files r) (stamps_for time (head_at run.heads.items r) (node_now r).number) mode (node_now r))
      is (saved r there) in
      let low_here : (node_now r).number ≤ largest_head = rw number low in
      subst (λ v. IsVolumeFolder (files r) (stamps_for time (head_at run.heads.items r) v.snapshots.number) v) same
      (volume_folder (files r) (stamps_for time (head_at run.heads.items r) (node_now r).number) (node_now r) at low_here)

  -- and of one in ERR
  failed_folder : (files : Files) (time : List ℕ) (r : ℕ) → AreSavedOf files time run → r < length modes_now
      → mode_of modes_now r ≡ Err → IsFailedFolder (files r) script.size
  failed_folder files time r saved there is =
      let in_nodes : r < length run.served.world.nodes.items = rw served.many there in
      failed_of (files r) (stamps_for time (head_at run.heads.items r) (node_now r).number) (mode_of modes_now r) (node_now r) script.size
      (saved r in_nodes) (ap is_failed is)

  pub folders_of : (files : Files) (time : List ℕ) → run.heads.items ≡ begin.heads → AreSavedOf files time run
      → AreFoldersOf files script.size time begin run.served.world.journal.entries
  folders_of files time heads saved = record {
    read = λ r is low. subst (λ hs. IsVolumeFolder (files r) (stamps_for time (head_at hs r)
        (volume_after begin run.served.world.journal.entries).snapshots.number)
        (volume_after begin run.served.world.journal.entries)) heads
        (read_folder files time r saved (read_now r is) low);
    failed = λ r there is. failed_folder files time r saved
        (subst (λ ms. r < length ms) (sym same_modes) there) (ap (λ ms. mode_of ms r) same_modes ∙ is);
  }

  -- the text that is written is the report of the run
  pub written_is : run.reasons.items ≡ begin.reasons → text_of run ≡ report_text script begin run.served.world.journal.entries
  written_is reasons =
      written_is_report (opening_texts begin.reasons) (opening_lines 0 (opening_texts run.reasons.items)) run.served.heads.items
      run.served.world.journal begin.spot run.served.world.nodes.items (blank 0)
      (ap (λ rs. opening_lines 0 (opening_texts rs)) reasons) served.opening served.many served.replicas
      ∙ ap (λ (hs : List (List Head)). report_of (opening_texts begin.reasons) hs begin.spot run.served.world.journal.entries)
      served.heads

  -- what is saved is what the script asks for
  pub saved_of : (new : Option Files) (h i : ℕ) (st : Status) → run.heads.items ≡ begin.heads
      → IfSome run.saving (λ time. (Rose h i → ⊥) → st ≢ NoMemory → Told new (λ files. AreSavedOf files time run))
      → (script.saves ≡ true → run.saving ≡ Some script.now) → script.saves ≡ true → (Rose h i → ⊥) → st ≢ NoMemory
      → Told new (λ files. AreFoldersOf files script.size script.now begin run.served.world.journal.entries)
  saved_of new h i st heads saved saves is well not =
      told_more new (λ files. AreSavedOf files script.now run)
      (λ files. AreFoldersOf files script.size script.now begin run.served.world.journal.entries)
      (λ files. folders_of files script.now heads)
      (subst (λ o. IfSome o (λ time. (Rose h i → ⊥) → st ≢ NoMemory → Told new (λ files. AreSavedOf files time run))) (saves is)
      saved well not)

  -- and where it asks for nothing, all stays
  pub kept_of : (old mid new : Option Files) → IfNone run.saving (new ≡ mid) → (script.saves ≡ false → run.saving ≡ None) → mid ≡ old
      → script.saves ≡ false → new ≡ old
  kept_of old mid new kept none still is = subst (λ o. IfNone o (new ≡ mid)) (none is) kept ∙ still

  pub only_of : (old mid new : Option Files) → Both mid new (OnlyFoldersChange (length run.served.world.nodes.items)) → mid ≡ old
      → Both old new (OnlyFoldersChange script.replicas)
  only_of old mid new only still =
      subst (λ o. Both o new (OnlyFoldersChange script.replicas)) still
      (subst (λ n. Both mid new (OnlyFoldersChange n)) all_nodes only)
