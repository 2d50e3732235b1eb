-- A run of a generated script is a run of a load.
use Rattle.std.proofs.Common.{◌≡◌, ℕ, zero, suc, ◌+◌, ◌*◌, ◌<◌, List, [], length, map, pos, negsuc, get_or, Option}
use Rattle.std.proofs.Common.{refl, sym, ap, subst, ◌∙◌, arith}
use Rattle.std.specs.List.{All}
use Rattle.std.proofs.lemmas.List.Elements.{All-map, All-weaker}
use Rattle.volume_model.specs.declared.call.Call.{Call}
use Rattle.volume_model.specs.declared.call.Call.TheVariants as call
use Rattle.volume_model.specs.declared.entry.Entry.{Entry}
use Rattle.volume_model.specs.Faults.{NamesLine}
use Rattle.volume_model.specs.History.{Spot, IsHistory}
use Rattle.volume_model.specs.OneWorker.{stream_of}
use Rattle.frame_stream.specs.declared.frame.Frame.{Frame}
use Rattle.frame_stream.specs.Asked.{call_of}
use Rattle.script_text.specs.Generated.{page_bytes, frames_of, streams_from, generated, LieInPage, KeepsToPage}
use Rattle.script_text.proofs.GeneratedGood.{keep_to_page, length-streams_from}
use Rattle.load_laws.specs.Load.{slice_size, slice_at, blank_disk, fresh, LieIn, IsFrameIn, control_calls, IsLoad, IsRunOfLoad}
use Rattle.stream_turns.specs.Run.{IsRun, HaveNotFailed}
use Rattle.stream_turns.specs.Volume.{blank_spot, stream_calls, calls_in}
use Rattle.summary_laws.specs.LoadText.{load_calls}

-- ---- where a page lies

-- a slice begins where the page of its number does
slice_is_page : (slice : ℕ) → slice_at slice ≡ slice * page_bytes
unfolding slice_size
slice_is_page slice = refl

-- what lies within a page lies within its slice
lies_in_slice : (page place n : ℕ) → LieInPage page (pos place) n → LieIn page place n
lies_in_slice page place n lies =
    let here : place ≡ lies.place = cc in
    record {
      from = omega (arith, slice_is_page page);
      to = omega (arith, slice_is_page (suc page));
    }

-- what keeps to a page is a frame in its slice
frame_in_slice : (page : ℕ) (c : Call) → KeepsToPage page c → IsFrameIn page c
frame_in_slice page (call.Read (pos place) n) keeps = (lies_in_slice page place n keeps, keeps.most)
frame_in_slice page (call.Read (negsuc place) n) keeps = let is = keeps.is in absurd cc
frame_in_slice page (call.Write (pos place) bytes) keeps = lies_in_slice page place (length bytes) keeps
frame_in_slice page (call.Write (negsuc place) bytes) keeps = let is = keeps.is in absurd cc
frame_in_slice page call.Ping keeps = absurd keeps
frame_in_slice page (call.Other kind) keeps = absurd keeps
frame_in_slice page (call.Command c) keeps = absurd keeps

-- so are the calls of the stream that has the page
frames_in_slice : (number calls page : ℕ) → All (IsFrameIn page) (load_calls number calls page)
frames_in_slice number calls page = All-map (IsFrameIn page) call_of (frames_of number calls page)
    (All-weaker (λ (f : Frame). KeepsToPage page (call_of f)) (λ (f : Frame). IsFrameIn page (call_of f))
    (λ f keeps. frame_in_slice page (call_of f) keeps) (frames_of number calls page) (keep_to_page number calls page))

-- ---- what its streams call

-- a stream of frames
frames_called : (number calls page more k : ℕ) → k < more
    → get_or (map stream_calls (streams_from number calls page more)) k [] ≡ load_calls number calls (page + k)
frames_called number calls page zero k low = absurd (omega arith)
frames_called number calls page (suc more) zero low = ap (load_calls number calls) here
  where
    here : page ≡ page + zero
    here = omega arith
frames_called number calls page (suc more) (suc k) low =
    frames_called number calls (page + 1) more k (omega arith) ∙ ap (load_calls number calls) there
  where
    there : page + 1 + k ≡ page + suc k
    there = omega arith

-- the control stream
control_called : (number calls page more : ℕ) → get_or (map stream_calls (streams_from number calls page more)) more [] ≡ control_calls
control_called number calls page zero = refl
control_called number calls page (suc more) = control_called number calls (page + 1) more

-- and there is no other
none_called : (number calls page more k : ℕ) → more < k → get_or (map stream_calls (streams_from number calls page more)) k [] ≡ []
none_called number calls page zero zero high = absurd (omega arith)
none_called number calls page zero (suc k) high = refl
none_called number calls page (suc more) zero high = absurd (omega arith)
none_called number calls page (suc more) (suc k) high = none_called number calls (page + 1) more k (omega arith)

-- what the streams of a generated script call
abbrev pub generated_calls : ℕ → ℕ → ℕ → ℕ → List Call
generated_calls number streams calls = stream_of (calls_in (generated number streams calls))

-- each stream of frames calls what its frames ask
pub stream_called : (number streams calls stream : ℕ) → stream < streams
    → generated_calls number streams calls stream ≡ load_calls number calls stream
stream_called number streams calls stream low =
    frames_called number calls 0 streams stream low ∙ ap (load_calls number calls) here
  where
    here : 0 + stream ≡ stream
    here = omega arith

-- they are a load
is_load : (number streams calls : ℕ) → IsLoad streams (generated_calls number streams calls)
is_load number streams calls = record {
  frames = λ stream low. subst (All (IsFrameIn stream)) (sym (stream_called number streams calls stream low))
      (frames_in_slice number calls stream);
  control = control_called number calls 0 streams;
  others = λ stream high. none_called number calls 0 streams stream high;
}

-- ---- the run

-- it begins as that of a load does
pub blank_is_fresh : (number streams calls : ℕ) → blank_spot (generated number streams calls) ≡ fresh (blank_disk streams)
unfolding slice_size
blank_is_fresh number streams calls = refl

-- so it is a run of one
pub is_run_of_load : (number streams calls : ℕ) (counted : ℕ → ℕ → ℕ) (told : ℕ → ℕ → Option (List (List ℕ))) (journal : List Entry)
    → IsRun counted told (generated number streams calls) (blank_spot (generated number streams calls)) journal
    → HaveNotFailed counted (generated number streams calls)
    → IsRunOfLoad streams counted (generated_calls number streams calls) journal
is_run_of_load number streams calls counted told journal run none = record {
  load = is_load number streams calls;
  history = subst (λ (spot : Spot). IsHistory spot counted (generated_calls number streams calls) journal)
      (blank_is_fresh number streams calls) run.history;
  lines = subst (λ (n : ℕ). All (NamesLine n 2) journal) many run.faults;
  none = λ stream replica low few. none stream replica (omega (arith, many)) few;
}
  where
    many : length (streams_from number calls 0 streams) ≡ suc streams
    many = omega (arith, length-streams_from number calls 0 streams)
