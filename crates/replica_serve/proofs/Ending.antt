-- How the serving of an input ends.
use Rattle.std.proofs.Common.{◌≡◌, ◌≢◌, ◌∙◌, ℕ, List, [], ◌++◌, Option, IfSome}
use Rattle.std.proofs.Common.{Result, Ok, Err, IsErrAnd, refl, sym, ap, subst, append_assoc, append-nil}
use Rattle.std.proofs.KnownBytes.{Appends-nil, Appends-trans}
use Rattle.std.proofs.lemmas.Grind.{flat_map-append}
use Rattle.std.proofs.lemmas.List.Elements.{All-append}
use Rattle.std.specs.Io.KnownBytes.{Appends, IsAtEnd}
use Rattle.outer_traits.proofs.Passing.{WritesPrefix-after}
use Rattle.outer_traits.specs.Passing.{WritesPrefix}
use Rattle.frame_stream.specs.Frames.{spelled, spellings, IsCall, IsClose}
use Rattle.frame_stream.specs.Reading.{Fed, GivesNext}
use Rattle.frame_stream.specs.declared.frame.Frame.{Frame}
use Rattle.frame_stream.specs.declared.reader.Next.TheVariants as next
use Rattle.volume_model.specs.PlainStep.{longest_call}
use Rattle.client_input.specs.Feeding.{FeedsMore}
use Rattle.client_input.specs.declared.feeding.Input.{Input}
use Rattle.client_input.proofs.GivenCalls.{fed_on, more_given, nothing_given}
use Rattle.client_input.proofs.InputEnds.{HadInput, behind, begins, ends_bad, ends_closed, ends_short, ends_whole, input_of}
use Rattle.replica_serve.specs.declared.error.ServeError.{ServeError}
use Rattle.replica_serve.specs.declared.error.ServeError.TheVariants as error
use Rattle.replica_serve.specs.Answers.{disk_behind, replies_to}
use Rattle.replica_serve.specs.Ends.{HasServed, HasSomeReplies, ServeCounts}
use Rattle.replica_serve.specs.declared.serve.Served.{Served}
use Rattle.replica_serve.specs.Turns.{AnswersCalls, HasAnswered, ServesAll, ServesSome, StopsSo, WriteCounts, ReadCounts}
use Rattle.replica_serve.proofs.Serving.{disk_behind-append, replies_to-append, written_out, some_written}

-- ---- the input

-- the sink has got a prefix of the replies to calls that the input begins with, which the source had
abbrev pub EndsWithSome : List ℕ → (left old new : Option (List ℕ)) → Type 0
EndsWithSome disk left old new = (input : List ℕ) × IfSome left (λ told. told ≡ input) × HasSomeReplies disk input old new

-- ---- on and on

-- no call is answered yet
pub none_answered : (disk : List ℕ) (left s : Option (List ℕ)) (fed : Fed) → fed ≡ record { left = []; place = 0; most = longest_call }
    → HasAnswered disk disk left left s s fed []
none_answered disk left s fed new = record {
  came = nothing_given left fed new;
  leaves = refl;
  replies = Appends-nil s;
}

module _ (disk now later : List ℕ) (left came s t u : Option (List ℕ)) (fed at : Fed) (fs gs : List Frame) where
  -- more calls are answered
  pub answered_more : HasAnswered disk now left came s t fed fs → AnswersCalls fed at now later [] [] t u gs
      → HasAnswered disk later left came s u at (fs ++ gs)
  answered_more a more =
      let whole : more.replies.0 ≡ replies_to now gs = sym (append-nil more.replies.0) ∙ sym more.replies.1 in
      record {
        came = more_given left came fed at fs gs a.came more.gives;
        leaves = more.leaves ∙ ap (λ d. disk_behind d gs) a.leaves ∙ sym (disk_behind-append disk fs gs);
        replies = subst (Appends s u)
            (ap (λ l. replies_to disk fs ++ l) (whole ∙ ap (λ d. replies_to d gs) a.leaves) ∙ sym (replies_to-append disk fs gs))
            (Appends-trans s t u (replies_to disk fs) more.replies.0 a.replies more.replies.2);
      }

-- more is fed, or nothing more comes
pub answered_on : (disk now : List ℕ) (left came last s t : Option (List ℕ)) (fed new : Fed) (fs : List Frame) (i : Input)
    → HasAnswered disk now left came s t fed fs → FeedsMore came last fed new i → HasAnswered disk now left last s t new fs
answered_on disk now left came last s t fed new fs i a feeds =
    record { came = fed_on left came last fed new fs i a.came feeds; leaves = a.leaves; replies = a.replies }

-- ---- the ends

module _ (disk now : List ℕ) (left came s t : Option (List ℕ)) (fed : Fed) (fs : List Frame)
    (a : HasAnswered disk now left came s t fed fs) where
  -- the input
  abbrev had : HadInput left came (spellings fs ++ fed.left)
  had = input_of left came fed fs a.came

  -- all of it is served
  pub served_all : fed.left ≡ [] → IsAtEnd came → HasServed disk left s t (Ok tt)
  served_all none over = (had.input, had.had, (fs, ends_whole left came fed fs a.came none over, a.replies))

  -- a Close stands first of what is left
  pub served_closed : (new : Fed) (f : Frame) → GivesNext fed new (next.Frame f) → IsClose f → HasServed disk left s t (Ok tt)
  served_closed new f given close = (had.input, had.had, (fs, ends_closed left came fed fs a.came new f given close, a.replies))

  -- what is left is bad
  pub cut_bad : (new : Fed) (place : ℕ) → GivesNext fed new (next.Bad place) → HasServed disk left s t (Err (error.Frame place))
  cut_bad new place bad = (had.input, had.had, (fs, ends_bad left came fed fs a.came new place bad, a.replies))

  -- the input ends within a frame
  pub cut_short : (new : Fed) (place : ℕ) → place ≡ fed.place → GivesNext fed new next.Short → fed.left ≢ [] → IsAtEnd came
      → HasServed disk left s t (Err (error.Frame place))
  cut_short new place is short some over =
      (had.input, had.had, (fs, ends_short left came fed fs a.came new place is short some over, a.replies))

  -- a prefix of the replies is written where more calls were served in part
  pub some_more : (u : Option (List ℕ)) → ServesSome fed now [] t u → EndsWithSome disk left s u
  some_more u more =
      let gs = more.0 in
      let text : had.input ≡ spellings (fs ++ gs) ++ (more.1 ++ had.rest) =
      had.is ∙ ap (λ l. (spellings fs ++ l) ++ had.rest) more.3
      ∙ regroup (spellings fs) (spellings gs) more.1 had.rest
      ∙ ap (λ l. l ++ (more.1 ++ had.rest)) (sym (flat_map-append spelled fs gs)) in
      let all : WritesPrefix s u (replies_to disk fs ++ replies_to now gs) =
      WritesPrefix-after s t u [] [] (replies_to disk fs) (replies_to now gs)
      (replies_to disk fs, sym (append-nil (replies_to disk fs)), a.replies) more.4 in
      let replies = ap (λ d. replies_to disk fs ++ replies_to d gs) a.leaves ∙ sym (replies_to-append disk fs gs) in (
        had.input,
        had.had,
        (
          fs ++ gs,
          more.1 ++ had.rest,
          record { calls = All-append IsCall fs gs a.came.calls more.2; text = text },
          subst (WritesPrefix s u) replies all,
        ),
      )
    where
      regroup : (a b c d : List ℕ) → (a ++ (b ++ c)) ++ d ≡ (a ++ b) ++ (c ++ d)
      regroup a b c d = simp append_assoc

  -- and where none were
  pub some_so_far : EndsWithSome disk left s t
  some_so_far = (
    had.input,
    had.had,
    (
      fs,
      behind left came fed fs a.came,
      begins left came fed fs a.came,
      (replies_to disk fs, [], sym (append-nil (replies_to disk fs)), a.replies),
    ),
  )

-- ---- all that is there

module _ (disk now later : List ℕ) (left came s t u v : Option (List ℕ)) (fed new : Fed) (fs : List Frame) (had has : List ℕ)
    (served : Served) (a : HasAnswered disk now left came s t fed fs) (none : had ≡ [])
    (more : ServesAll fed new now later had has t u served) where
  -- it is answered, and all replies are written
  pub all_written : Appends u v has
      → (frames : List Frame) × (at : Fed) × HasAnswered disk later left came s v at frames × StopsSo at new served
  all_written all =
      let (gs, at, calls, stops) = more in
      let written = written_out fed at now later had has t u v gs calls all in (
        fs ++ gs,
        at,
        answered_more disk now later left came s t v fed at fs gs a (subst (λ h. AnswersCalls fed at now later h [] t v gs) none written),
        stops,
      )

  -- or some are
  pub some_out : WritesPrefix u v has → EndsWithSome disk left s v
  some_out part =
      let (gs, at, calls, stops) = more in
      some_more disk now left came s t fed fs a v
      (subst (λ h. ServesSome fed now h t v) none (some_written fed at now later had has t u v gs calls part))

-- ---- errors

module _ (disk : List ℕ) (left s t : Option (List ℕ)) (some : EndsWithSome disk left s t) where
  -- replies could not be written
  pub ended_write : (T : Type 0) (e : ServeError) (k l : ℕ) → WriteCounts {T = T} (Err e) k l → HasServed disk left s t (Err e)
  ended_write T error.ReadFault k l counts = some
  ended_write T error.WriteFault k l counts = some
  ended_write T (error.Frame place) k l counts = absurd counts
  ended_write T error.NoMemory k l counts = some

  -- or the input not be read
  pub ended_read : (T : Type 0) (e : ServeError) (k l : ℕ) → ReadCounts {T = T} (Err e) k l → HasServed disk left s t (Err e)
  ended_read T error.ReadFault k l counts = some
  ended_read T error.WriteFault k l counts = some
  ended_read T (error.Frame place) k l counts = absurd counts
  ended_read T error.NoMemory k l counts = some

-- the counts that go with them
pub counts_write : (T : Type 0) (e : ServeError) (i j k l : ℕ) → j ≡ i → WriteCounts {T = T} (Err e) k l → ServeCounts (Err e) i j k l
counts_write T error.ReadFault i j k l same counts = absurd counts
counts_write T error.WriteFault i j k l same counts = (same, counts)
counts_write T (error.Frame place) i j k l same counts = absurd counts
counts_write T error.NoMemory i j k l same counts = (same, counts)

pub counts_read : (T : Type 0) (e : ServeError) (i j k l : ℕ) → ReadCounts {T = T} (Err e) i j → l ≡ k → ServeCounts (Err e) i j k l
counts_read T error.ReadFault i j k l counts same = (counts, same)
counts_read T error.WriteFault i j k l counts same = absurd counts
counts_read T (error.Frame place) i j k l counts same = absurd counts
counts_read T error.NoMemory i j k l counts same = (counts, same)

-- an error that was handed on
pub err_is : {T E : Type 0} (r : Result T E) (e : E) → IsErrAnd r (λ x. x ≡ e) → r ≡ Err e
err_is (Ok x) e is = absurd is
err_is (Err x) e is = ap Err is
