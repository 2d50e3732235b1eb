-- What is good in each generated script.
use Rattle.std.proofs.Common.{◌≡◌, ◌∙◌, ℕ, zero, suc, ◌+◌, ◌*◌, ◌<◌, ◌≤◌, ◌==◌, ◌^◌, ◌%◌, Bool, true, false, cond, [], ◌∷◌, length}
use Rattle.std.proofs.Common.{All, pos, codes, Some, zero-add, refl, sym, ap, subst, inl, arith, sum_by}
use Rattle.std.specs.Prelude.{count_by, slice_get}
use Rattle.std.proofs.lemmas.List.{length-replicate}
use Rattle.std.proofs.lemmas.List.Elements.{All-nil, All-cons}
use Rattle.std.proofs.lemmas.List.Sums.{sum_by-cons}
use Rattle.std.proofs.lemmas.Nat.{mul-le}
use borrow.Author.Rules.{sfits_of}
use Rattle.volume_model.specs.declared.command.Command.TheVariants as command
use Rattle.vol_units.specs.Name.{IsSnapName}
use Rattle.frame_stream.specs.Asked.{call_of}
use Rattle.frame_stream.specs.declared.frame.Frame.{Frame}
use Rattle.script_text.specs.declared.generated.Drawn.{Drawn}
use Rattle.script_text.specs.declared.script.Stream.TheVariants as stream
use Rattle.frame_stream.specs.Frames.{IsCall}
use Rattle.script_text.specs.Generated.{CanGenerate, drawn_behind, state_behind, page_bytes, read_frame, write_frame, frame_in}
use Rattle.script_text.specs.Generated.{frames_behind, frames_of, control_commands, streams_from, generated, LieInPage, KeepsToPage}
use Rattle.script_text.specs.Good.{backs_up, IsGoodCommand, IsGoodStream, IsGoodPlan, IsGood}
use Rattle.script_text.specs.Streams.{stream_length}

-- ---- one frame

-- such numbers as are drawn
record AreDrawn (d : Drawn) : Type 0 where
  offset : d.offset < 2093056
  some : 1 ≤ d.size
  size : d.size ≤ 4096

are_drawn : (x : ℕ) → AreDrawn (drawn_behind x)
are_drawn x = record { offset = omega arith; some = omega arith; size = omega arith }

read_is_call : (seq place size : ℕ) → seq < 2 ^ 32 → place < 2 ^ 32 → size ≤ 4096 → IsCall (read_frame seq place size)
read_is_call seq place size a b c = (
  record {
    head = record { seq = a; kind = omega arith; offset = sfits_of (omega arith); size = omega arith; len = omega arith };
    body = refl;
    most = omega arith;
  },
  λ closes. absurd (omega (arith, closes)),
)

write_is_call : (seq place size byte : ℕ) → seq < 2 ^ 32 → place < 2 ^ 32 → size ≤ 4096 → IsCall (write_frame seq place size byte)
write_is_call seq place size byte a b c = (
  record {
    head = record { seq = a; kind = omega arith; offset = sfits_of (omega arith); size = omega arith; len = omega arith };
    body = length-replicate size byte;
    most = omega arith;
  },
  λ closes. absurd (omega (arith, closes)),
)

-- what holds of the read and of the write holds of the frame
by_choice : (P : Frame → Type 0) (page seq : ℕ) (d : Drawn) → P (read_frame seq (page * page_bytes + d.offset) d.size)
    → P (write_frame seq (page * page_bytes + d.offset) d.size d.byte) → P (frame_in page seq d)
by_choice P page seq d reads writes = either (d.choice == 0)
  where
    place : ℕ
    place = page * page_bytes + d.offset

    either : (b : Bool) → P (cond b (read_frame seq place d.size) (write_frame seq place d.size d.byte))
    either true = reads
    either false = writes

frame_is_call : (page seq : ℕ) (d : Drawn) → page < 15 → seq < 2 ^ 32 → AreDrawn d → IsCall (frame_in page seq d)
frame_is_call page seq d low short drawn =
    let place : page * page_bytes + d.offset < 2 ^ 32 = omega arith in
    by_choice IsCall page seq d (read_is_call seq _ d.size short place drawn.size)
    (write_is_call seq _ d.size d.byte short place drawn.size)

frame_keeps_to_page : (page seq : ℕ) (d : Drawn) → AreDrawn d → KeepsToPage page (call_of (frame_in page seq d))
frame_keeps_to_page page seq d drawn =
    let place = page * page_bytes + d.offset in
    let lies : LieInPage page (pos place) d.size =
    record { place = place; is = refl; from = omega arith; to = omega arith; most = omega arith } in
    by_choice (λ f. KeepsToPage page (call_of f)) page seq d lies
    (subst (LieInPage page (pos place)) (sym (length-replicate d.size d.byte)) lies)

-- ---- the frames of a stream

calls_behind : (page seq x more : ℕ) → page < 15 → seq + more < 2 ^ 32 → All IsCall (frames_behind page seq x more)
calls_behind page seq x zero low short = All-nil IsCall
calls_behind page seq x (suc more) low short =
    All-cons IsCall (frame_in page seq (drawn_behind x)) (frames_behind page (seq + 1) (state_behind x) more)
    (frame_is_call page seq (drawn_behind x) low (omega arith) (are_drawn x))
    (calls_behind page (seq + 1) (state_behind x) more low (omega arith))

pub calls_of_page : (number calls page : ℕ) → page < 15 → calls ≤ 4096 → All IsCall (frames_of number calls page)
calls_of_page number calls page low few = calls_behind page 1 ((number + page) % 2 ^ 64) calls low (omega arith)

keep_behind : (page seq x more : ℕ) → All (λ f. KeepsToPage page (call_of f)) (frames_behind page seq x more)
keep_behind page seq x zero = All-nil (λ f. KeepsToPage page (call_of f))
keep_behind page seq x (suc more) =
    All-cons (λ f. KeepsToPage page (call_of f)) (frame_in page seq (drawn_behind x))
    (frames_behind page (seq + 1) (state_behind x) more) (frame_keeps_to_page page seq (drawn_behind x) (are_drawn x))
    (keep_behind page (seq + 1) (state_behind x) more)

length-frames_behind : (page seq x more : ℕ) → length (frames_behind page seq x more) ≡ more
length-frames_behind page seq x zero = refl
length-frames_behind page seq x (suc more) = ap suc (length-frames_behind page (seq + 1) (state_behind x) more)

pub length-frames_of : (number calls page : ℕ) → length (frames_of number calls page) ≡ calls
length-frames_of number calls page = length-frames_behind page 1 ((number + page) % 2 ^ 64) calls

pub keep_to_page : (number calls page : ℕ) → All (λ f. KeepsToPage page (call_of f)) (frames_of number calls page)
keep_to_page number calls page = keep_behind page 1 ((number + page) % 2 ^ 64) calls

-- ---- the streams

pub length-streams_from : (number calls page more : ℕ) → length (streams_from number calls page more) ≡ more + 1
length-streams_from number calls page zero = refl
length-streams_from number calls page (suc more) = omega (arith, length-streams_from number calls (page + 1) more)

-- the stream at a place
frames_at : (number calls page more k : ℕ) → k < more
    → slice_get (streams_from number calls page more) k ≡ Some (stream.Frames (frames_of number calls (page + k)))
frames_at number calls page zero k less = absurd (omega arith)
frames_at number calls page (suc more) zero less = ap (λ n. Some (stream.Frames (frames_of number calls n))) here
  where
    here : page ≡ page + zero
    here = omega arith
frames_at number calls page (suc more) (suc k) less =
    frames_at number calls (page + 1) more k (omega arith) ∙ ap (λ n. Some (stream.Frames (frames_of number calls n))) there
  where
    there : page + 1 + k ≡ page + suc k
    there = omega arith

pub stream_at : (number streams calls page : ℕ) → page < streams
    → slice_get (generated number streams calls).streams page ≡ Some (stream.Frames (frames_of number calls page))
stream_at number streams calls page less =
    frames_at number calls 0 streams page less ∙ ap (λ n. Some (stream.Frames (frames_of number calls n))) (zero-add page)

-- the last of them is the control stream
pub control_at : (number calls page more : ℕ)
    → slice_get (streams_from number calls page more) more ≡ Some (stream.Control control_commands)
control_at number calls page zero = refl
control_at number calls page (suc more) = control_at number calls (page + 1) more

snap_name : IsSnapName (codes "g")
snap_name = record { spelled = record { some = omega arith; most = omega arith; bytes = refl }; user = refl }

good_commands : All (IsGoodCommand 2) control_commands
good_commands =
    let good = All-cons (IsGoodCommand 2) in
    let purge = command.Purge ∷ [] in
    let remove = command.Remove (codes "g") ∷ purge in
    let add = command.Add 1 ∷ remove in
    good (command.Snapshot (codes "g")) (command.Fail 1 ∷ add) (record { named = snap_name; there = tt })
    (good (command.Fail 1) add (record { named = omega arith; there = omega arith })
    (good (command.Add 1) remove (record { named = omega arith; there = omega arith })
    (good (command.Remove (codes "g")) purge (record { named = inl snap_name; there = tt })
    (good command.Purge [] (record { named = tt; there = tt }) (All-nil (IsGoodCommand 2))))))

good_from : (number calls page more : ℕ) → calls ≤ 4096 → page + more ≤ 15 → All (IsGoodStream 2) (streams_from number calls page more)
good_from number calls page zero few low =
    All-cons (IsGoodStream 2) (stream.Control control_commands) [] good_commands (All-nil (IsGoodStream 2))
good_from number calls page (suc more) few low =
    All-cons (IsGoodStream 2) (stream.Frames (frames_of number calls page)) (streams_from number calls (page + 1) more)
    (calls_of_page number calls page (omega arith) few) (good_from number calls (page + 1) more few (omega arith))

none_backs_up : (number calls page more : ℕ) → All (λ s. backs_up s ≡ false) (streams_from number calls page more)
none_backs_up number calls page zero =
    All-cons (λ s. backs_up s ≡ false) (stream.Control control_commands) [] refl (All-nil (λ s. backs_up s ≡ false))
none_backs_up number calls page (suc more) =
    All-cons (λ s. backs_up s ≡ false) (stream.Frames (frames_of number calls page)) (streams_from number calls (page + 1) more) refl
    (none_backs_up number calls (page + 1) more)

pub no_backups : (number streams calls : ℕ) → All (λ s. backs_up s ≡ false) (generated number streams calls).streams
no_backups number streams calls = none_backs_up number calls 0 streams

no_backup_from : (number calls page more : ℕ) → count_by backs_up (streams_from number calls page more) ≡ 0
no_backup_from number calls page zero = refl
no_backup_from number calls page (suc more) =
    omega (
      arith,
      no_backup_from number calls (page + 1) more,
      sum_by-cons (λ s. cond (backs_up s) 1 0) (stream.Frames (frames_of number calls page)) (streams_from number calls (page + 1) more),
    )

calls_from : (number calls page more : ℕ) → sum_by stream_length (streams_from number calls page more) ≡ more * calls + 5
calls_from number calls page zero = omega arith
calls_from number calls page (suc more) =
    omega (
      arith,
      calls_from number calls (page + 1) more,
      length-frames_of number calls page,
      sum_by-cons stream_length (stream.Frames (frames_of number calls page)) (streams_from number calls (page + 1) more),
    )

pub generated_is_good : (number streams calls : ℕ) → CanGenerate streams calls → IsGood (generated number streams calls)
generated_is_good number streams calls can = record {
  some_replicas = omega arith;
  few_replicas = omega arith;
  some_streams = omega (arith, many);
  few_streams = omega (arith, many);
  streams = good_from number calls 0 streams can.few_calls (omega arith);
  calls = omega (arith, calls_from number calls 0 streams, mul-le streams calls 15 4096 can.few_streams can.few_calls);
  backups = omega (arith, no_backup_from number calls 0 streams);
  plans = All-nil (IsGoodPlan (length (streams_from number calls 0 streams)) 2);
  once = tt;
}
  where
    many : length (streams_from number calls 0 streams) ≡ streams + 1
    many = length-streams_from number calls 0 streams
