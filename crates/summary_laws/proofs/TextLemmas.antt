-- A run of a load prints what its numbers make.
use Rattle.std.proofs.Common.{◌≡◌, ℕ, zero, suc, ◌+◌, ◌<◌, ◌≤◌, Bool, false, List, [], ◌∷◌, ◌++◌, length, map, take, None, Option}
use Rattle.std.proofs.Common.{refl, sym, ap, ap₂, subst, ◌∙◌, arith, add-one}
use Rattle.std.proofs.lemmas.List.{length-take-le, length-map}
use Rattle.vol_units.specs.Name.{sys_name}
use Rattle.volume_model.specs.declared.call.Call.{Call}
use Rattle.volume_model.specs.declared.call.Reply.{Reply}
use Rattle.volume_model.specs.declared.entry.Answer.{Answer}
use Rattle.volume_model.specs.declared.entry.Entry.{Entry}
use Rattle.volume_model.specs.declared.mode.Mode.{Mode}
use Rattle.volume_model.specs.declared.mode.Mode.TheVariants.{Rw}
use Rattle.volume_model.specs.PlainState.{Volume}
use Rattle.volume_model.specs.Snapshots.{chain_of}
use Rattle.volume_model.specs.History.{answers_of, calls_of}
use Rattle.digest.specs.Digest.{digest_text}
use Rattle.frame_stream.specs.declared.frame.Frame.{Frame}
use Rattle.frame_stream.specs.Asked.{call_of}
use Rattle.frame_stream.specs.Replies.{reply_frame}
use Rattle.frame_wire.specs.declared.head.Head.{Head}
use Rattle.load_laws.specs.Load.{blank_disk, fresh, IsRunOfLoad}
use Rattle.load_laws.specs.Result.{reply_on, disk_after, replies_on, disk_left, slice_of, slices_left, replies_of, left_by, modes_by}
use Rattle.load_laws.proofs.Outcome.{has_result}
use Rattle.script_text.specs.declared.script.Script.{Script}
use Rattle.script_text.specs.Generated.{frames_of, streams_from, generated}
use Rattle.script_text.proofs.GeneratedGood.{length-streams_from}
use Rattle.run_report.specs.Lines.{chain_line}
use Rattle.run_report.specs.Summary.{stream_lines, control_line, modes_line, disk_line, summary_of}
use Rattle.run_report.specs.Summary.{replying_frames, frames_from, volume_if_read, summary_in}
use Rattle.stream_turns.specs.Run.{IsRun, HaveNotFailed}
use Rattle.stream_turns.specs.Volume.{blank_spot, heads_of, heads_in}
use Rattle.summary_laws.specs.LoadText.{replies_to, load_replies, control_replies, load_calls, load_disk, load_text}
use Rattle.summary_laws.proofs.LoadLemmas.{generated_calls, stream_called, blank_is_fresh, is_run_of_load}

-- ---- the frames that reply

-- answers of these frames, as that disk gives them, are the frames that reply to them
frames_told : (disk : List ℕ) (frames : List Frame) (answers : List (ℕ × Answer)) → map (λ p. p.1.call) answers ≡ map call_of frames
    → map (λ p. p.1.reply) answers ≡ replies_on disk (map call_of frames)
    → replying_frames (map (λ f. f.head) frames) answers ≡ replies_to disk frames
frames_told disk [] answers asked told = refl
frames_told disk (f ∷ fs) [] asked told = absurd cc
frames_told disk (f ∷ fs) (p ∷ ps) asked told =
    let call : p.1.call ≡ call_of f = cc in
    let reply : p.1.reply ≡ reply_on disk (call_of f) = cc in
    let calls : map (λ q. q.1.call) ps ≡ map call_of fs = cc in
    let replies : map (λ q. q.1.reply) ps ≡ replies_on (disk_after disk (call_of f)) (map call_of fs) = cc in
    ap₂ (λ (l m : List ℕ). l ++ m) (ap₂ (reply_frame f.head) call reply)
    (frames_told (disk_after disk (call_of f)) fs ps calls replies)

-- the streams of a load, from one of them on
streams_told : (disk : List ℕ) (number calls page more : ℕ) (journal : List Entry)
    → ((s : ℕ) → page ≤ s → s < page + more → calls_of s journal ≡ load_calls number calls s)
    → ((s : ℕ) → page ≤ s → s < page + more → replies_of s journal ≡ replies_on disk (load_calls number calls s))
    → frames_from page (take more (map heads_of (streams_from number calls page more))) journal ≡ load_replies disk number calls page more
streams_told disk number calls page zero journal asked told = refl
streams_told disk number calls page (suc more) journal asked told =
    ap₂ (λ (l : List ℕ) (ls : List (List ℕ)). l ∷ ls)
    (frames_told disk (frames_of number calls page) (answers_of page journal) (asked page (omega arith) (omega arith))
    (told page (omega arith) (omega arith)))
    (ap (λ n. frames_from n rest journal) (sym (add-one page))
    ∙ streams_told disk number calls (page + 1) more journal (λ s from low. asked s (omega arith) (omega arith))
    (λ s from low. told s (omega arith) (omega arith)))
  where
    rest : List (List Head)
    rest = take more (map heads_of (streams_from number calls (page + 1) more))

-- ---- the summary

-- the headers of the streams of frames of a generated script
abbrev pub generated_heads : ℕ → ℕ → ℕ → List (List Head)
generated_heads number streams calls = take streams (heads_in (generated number streams calls))

-- they are so many
length-heads : (number streams calls : ℕ) → length (generated_heads number streams calls) ≡ streams
length-heads number streams calls = length-take-le streams (heads_in (generated number streams calls)) (omega (arith, many))
  where
    many : length (heads_in (generated number streams calls)) ≡ streams + 1
    many = length-map (streams_from number calls 0 streams) heads_of ∙ length-streams_from number calls 0 streams

-- of two replicas that are read and written, with this chain and this disk
summary_is : (told replies : List (List ℕ)) (answered commands : List Reply) (modes : List Mode) (volume : Volume)
    (chain : List (List ℕ × Bool)) (disk : List ℕ) → told ≡ replies → answered ≡ commands → modes ≡ Rw ∷ Rw ∷ []
    → chain_of volume.snapshots ≡ chain → volume.disk ≡ disk
    → summary_of told answered modes (volume_if_read modes volume)
    ≡ stream_lines 0 replies ++ control_line commands ++ modes_line (Rw ∷ Rw ∷ [])
    ++ (chain_line None chain ++ disk_line (digest_text disk))
summary_is told replies answered commands modes volume chain disk same done read chained left =
    ap₂ (λ (rs : List (List ℕ)) (cs : List Reply). summary_of rs cs modes (volume_if_read modes volume)) same done
    ∙ ap (λ (ms : List Mode). summary_of replies commands ms (volume_if_read ms volume)) read
    ∙ ap₂ (λ (c : List (List ℕ × Bool)) (d : List ℕ). stream_lines 0 replies ++ control_line commands ++ modes_line (Rw ∷ Rw ∷ [])
    ++ (chain_line None c ++ disk_line (digest_text d))) chained left

-- the same calls in each slice leave the same slices
same_slices : (disk : List ℕ) (calls others : ℕ → List Call) (slices : ℕ) → ((s : ℕ) → s < slices → calls s ≡ others s)
    → slices_left disk calls slices ≡ slices_left disk others slices
same_slices disk calls others zero same = refl
same_slices disk calls others (suc slice) same =
    ap₂ (λ (l m : List ℕ). l ++ m) (same_slices disk calls others slice (λ s low. same s (omega arith)))
    (ap (λ cs. slice_of (disk_left disk cs) slice) (same slice (omega arith)))

-- the slices as the streams' calls leave them
disk_is : (number streams calls : ℕ) → slices_left (blank_disk streams) (generated_calls number streams calls) streams
    ≡ load_disk number streams calls
disk_is number streams calls = same_slices (blank_disk streams) (generated_calls number streams calls) (load_calls number calls)
    streams (λ slice low. stream_called number streams calls slice low)

-- what the frame streams of a run are answered
replies_are : (number streams calls : ℕ) (counted : ℕ → ℕ → ℕ) (journal : List Entry)
    → IsRunOfLoad streams counted (generated_calls number streams calls) journal
    → frames_from 0 (generated_heads number streams calls) journal ≡ load_replies (blank_disk streams) number calls 0 streams
replies_are number streams calls counted journal run =
    let disk = blank_disk streams in
    let result = has_result streams counted (generated_calls number streams calls) journal run in
    let called : (s : ℕ) → s < 0 + streams → generated_calls number streams calls s ≡ load_calls number calls s =
    λ s low. stream_called number streams calls s (omega arith) in
    streams_told disk number calls 0 streams journal (λ s from low. run.history.each_once s ∙ called s low)
    (λ s from low. result.frames s (omega arith) ∙ ap (replies_on disk) (called s low))

-- the summary of a run of a load
load_told : (number streams calls : ℕ) (counted : ℕ → ℕ → ℕ) (journal : List Entry)
    → IsRunOfLoad streams counted (generated_calls number streams calls) journal
    → summary_in (generated_heads number streams calls) (fresh (blank_disk streams)) journal ≡ load_text number streams calls
load_told number streams calls counted journal run =
    let heads = generated_heads number streams calls in
    let result = has_result streams counted (generated_calls number streams calls) journal run in
    summary_is (frames_from 0 heads journal) (load_replies (blank_disk streams) number calls 0 streams)
    (replies_of (length heads) journal) control_replies (modes_by streams journal) (left_by streams journal).volume
    ((sys_name 1, false) ∷ []) (load_disk number streams calls) (replies_are number streams calls counted journal run)
    (ap (λ n. replies_of n journal) (length-heads number streams calls) ∙ result.control)
    result.modes result.chain (result.disk ∙ disk_is number streams calls)

-- so it is of each run of the script whose lines have not failed
pub has_load_text : (number streams calls : ℕ) (script : Script) (counted : ℕ → ℕ → ℕ) (told : ℕ → ℕ → Option (List (List ℕ)))
    (journal : List Entry) → script ≡ generated number streams calls → IsRun counted told script (blank_spot script) journal
    → HaveNotFailed counted script
    → summary_in (take streams (heads_in script)) (blank_spot script) journal ≡ load_text number streams calls
has_load_text number streams calls script counted told journal is run none =
    subst (λ (s : Script). IsRun counted told s (blank_spot s) journal → HaveNotFailed counted s
    → summary_in (take streams (heads_in s)) (blank_spot s) journal ≡ load_text number streams calls) (sym is)
    (λ own failed. ap (λ spot. summary_in (generated_heads number streams calls) spot journal) (blank_is_fresh number streams calls)
    ∙ load_told number streams calls counted journal (is_run_of_load number streams calls counted told journal own failed))
    run none
