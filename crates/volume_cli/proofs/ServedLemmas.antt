-- What a replica that was served says at the top.
use Rattle.std.proofs.Common.{◌≡◌, ℕ, ◌<◌, ◌-◌, ◌^◌, List, String, Bool, Option, Some, None, IfSome}
use Rattle.std.proofs.Common.{[], Result, Ok, Err, IsErrAnd, refl, sym, ap, subst, inl, inr}
use Rattle.std.proofs.KnownBytes.{Appends-nil}
use Rattle.std.proofs.lemmas.List.Elements.{All-nil}
use Rattle.frame_stream.specs.Frames.{IsCall}
use Rattle.frame_stream.specs.declared.frame.Frame.{Frame}
use Rattle.program_words.specs.declared.words.Words.TheVariants.{Replica}
use Rattle.shelf_traits.specs.Files.{Files}
use Rattle.target_traits.specs.Objects.{Objects}
use Rattle.replica_serve.specs.declared.error.ServeError.{ServeError}
use Rattle.replica_serve.specs.declared.error.ServeError.TheVariants as serve_error
use Rattle.replica_serve.specs.Ends.{HasServed, HasSomeReplies, ServeCounts}
use Rattle.client_input.specs.Inputs.{IsCalls, IsCutOff}
use Rattle.client_input.proofs.OneWay.{one_cut, calls_or_cut}
use Rattle.volume_cli.specs.declared.status.Status.TheVariants as status
use Rattle.volume_cli.specs.Ends.{Counts}
use Rattle.volume_cli.specs.Headline.{AskReplica, IsStatus, RefusedOnly}
use Rattle.volume_cli.specs.Served.{EndsAsInput, Serves, WasCutOff, serve_status}
use Rattle.volume_cli.proofs.Statuses.{rose_not_same}

-- the counts of the source and of the sink
pub serve_counts : (r : Result (Unit {0}) ServeError) (s t k l h m : ℕ) → ServeCounts r s t k l
    → Counts (serve_status r) s t k l h h m m
serve_counts (Ok done) s t k l h m c = (c.0, c.1, refl, refl)
serve_counts (Err serve_error.ReadFault) s t k l h m c = (c.0, c.1, refl, refl)
serve_counts (Err serve_error.WriteFault) s t k l h m c = (c.0, c.1, inr refl, refl)
serve_counts (Err (serve_error.Frame place)) s t k l h m c = (c.0, c.1, refl, refl)
serve_counts (Err serve_error.NoMemory) s t k l h m c = (c.0, inr c.1, refl, inr refl)

-- no reply to no call is a prefix of all
none_replied : (disk input : List ℕ) (sink : Option (List ℕ)) → HasSomeReplies disk input sink sink
none_replied disk input sink = ([], input, record { calls = All-nil IsCall; text = refl }, ([], [], refl, Appends-nil sink))

-- where memory ran out before anything was read
served_nothing : (disk : List ℕ) (left sink : Option (List ℕ)) → HasServed disk left sink sink (Err serve_error.NoMemory)
served_nothing disk None sink = ([], tt, none_replied disk [] sink)
served_nothing disk (Some told) sink = (told, refl, none_replied disk told sink)

pub served_none : (disk : List ℕ) (left sink : Option (List ℕ)) (r : Result (Unit {0}) ServeError)
    → IsErrAnd r (λ e. e ≡ serve_error.NoMemory) → HasServed disk left sink sink r
served_none disk left sink (Ok done) is = absurd is
served_none disk left sink (Err e) is = subst (λ x. HasServed disk left sink sink (Err x)) (sym is) (served_nothing disk left sink)

pub serves_nothing : (disk : List ℕ) (left sink : Option (List ℕ)) → Serves disk left sink sink status.NoMemory
serves_nothing disk left sink = (Err serve_error.NoMemory, refl, served_nothing disk left sink)

-- it is no usage error
pub serve_no_usage : (r : Result (Unit {0}) ServeError) → serve_status r ≡ status.Usage → ⊥
serve_no_usage (Ok done) is = cc
serve_no_usage (Err serve_error.ReadFault) is = cc
serve_no_usage (Err serve_error.WriteFault) is = cc
serve_no_usage (Err (serve_error.Frame place)) is = cc
serve_no_usage (Err serve_error.NoMemory) is = cc

-- which size a replica has
pub same_size : (a b : ℕ) → Some (Replica a) ≡ Some (Replica b) → a ≡ b
same_size a b is = cc

-- where it was cut off, what the source had was cut off there
cut_there : (left : Option (List ℕ)) (input : List ℕ) (frames : List Frame) (place : ℕ) → IfSome left (λ told. told ≡ input)
    → IsCutOff input frames place → WasCutOff left place
cut_there None input frames place told cut = tt
cut_there (Some had) input frames place told cut = (frames, subst (λ i. IsCutOff i frames place) (sym told) cut)

-- a refusal is told only of what it is a refusal of
pub serve_refused_only : {A : Type 0} (words : List (String A)) (disk : List ℕ) (left old new : Option (List ℕ)) (held : Option Files)
    (tells : Bool) (objects : Objects) (r : Result (Unit {0}) ServeError) → AskReplica words → HasServed disk left old new r
    → RefusedOnly words left held tells objects (serve_status r)
serve_refused_only words disk left old new held tells objects (Ok done) asks s = tt
serve_refused_only words disk left old new held tells objects (Err serve_error.ReadFault) asks s = tt
serve_refused_only words disk left old new held tells objects (Err serve_error.WriteFault) asks s = tt
serve_refused_only words disk left old new held tells objects (Err (serve_error.Frame place)) asks (input, told, (frames, cut, has)) =
    (asks, cut_there left input frames place told cut)
serve_refused_only words disk left old new held tells objects (Err serve_error.NoMemory) asks s = tt

-- of an input that the source had, where neither failed
module _ (disk : List ℕ) (told : List ℕ) (old new : Option (List ℕ)) (s t k l : ℕ) (low_s : s < 2 ^ 64 - 1)
    (low_k : k < 2 ^ 64 - 1) (read : t ≡ s) (dry : l ≡ k) where
  of_calls : (r : Result (Unit {0}) ServeError) → HasServed disk (Some told) old new r → ServeCounts r s t k l
      → (frames : List Frame) → IsCalls told frames → IsStatus (serve_status r) status.Done
  of_calls (Ok done) h c frames calls = inl refl
  of_calls (Err serve_error.ReadFault) h c frames calls = absurd (rose_not_same s t low_s c.0 read)
  of_calls (Err serve_error.WriteFault) h c frames calls = absurd (rose_not_same k l low_k c.1 dry)
  of_calls (Err (serve_error.Frame place)) (input, is, (also, cut, has)) c frames calls =
      absurd (calls_or_cut told frames also place calls (subst (λ i. IsCutOff i also place) (sym is) cut))
  of_calls (Err serve_error.NoMemory) h c frames calls = inr refl

  of_cut : (r : Result (Unit {0}) ServeError) → HasServed disk (Some told) old new r → ServeCounts r s t k l
      → (frames : List Frame) (place : ℕ) → IsCutOff told frames place → IsStatus (serve_status r) (status.Frame place)
  of_cut (Ok done) (input, is, (also, calls, has)) c frames place cut =
      absurd (calls_or_cut told also frames place (subst (λ i. IsCalls i also) (sym is) calls) cut)
  of_cut (Err serve_error.ReadFault) h c frames place cut = absurd (rose_not_same s t low_s c.0 read)
  of_cut (Err serve_error.WriteFault) h c frames place cut = absurd (rose_not_same k l low_k c.1 dry)
  of_cut (Err (serve_error.Frame other)) (input, is, (also, there, has)) c frames place cut =
      inl (ap status.Frame (one_cut told also frames other place (subst (λ i. IsCutOff i also other) (sym is) there) cut).1)
  of_cut (Err serve_error.NoMemory) h c frames place cut = inr refl

-- it ends as its input does
pub ends_as_input : (disk : List ℕ) (left old new : Option (List ℕ)) (s t k l : ℕ) → s < 2 ^ 64 - 1 → k < 2 ^ 64 - 1 → t ≡ s → l ≡ k
    → (r : Result (Unit {0}) ServeError) → HasServed disk left old new r → ServeCounts r s t k l
    → IfSome left (EndsAsInput (IsStatus (serve_status r)))
ends_as_input disk None old new s t k l low_s low_k read dry r h c = tt
ends_as_input disk (Some told) old new s t k l low_s low_k read dry r h c = record {
  whole = of_calls disk told old new s t k l low_s low_k read dry r h c;
  cut = of_cut disk told old new s t k l low_s low_k read dry r h c;
}
