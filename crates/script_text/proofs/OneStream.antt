-- Bytes are one list of streams at most, or are none for one reason, and never both.
use Rattle.std.proofs.Common.{◌≡◌, ◌∙◌, ℕ, ◌+◌, ◌-◌, ◌≤◌, List, [], ◌∷◌, length, take, drop, sum_by, refl, sym, ap, subst, inl, inr, arith}
use Rattle.std.proofs.lemmas.List.Sums.{sum_by-cons}
use Rattle.script_head.specs.declared.head.StreamHead.{StreamHead}
use Rattle.script_head.specs.declared.head.StreamHead.TheVariants as head
use Rattle.script_head.specs.Head.{byte_count}
use Rattle.frame_stream.specs.declared.frame.Frame.{Frame}
use Rattle.script_text.specs.declared.script.Stream.{Stream}
use Rattle.script_text.specs.declared.script.Stream.TheVariants as stream
use Rattle.script_text.specs.declared.what.What.{What}
use Rattle.script_text.specs.declared.what.What.TheVariants as what
use Rattle.frame_stream.specs.Frames.{spelled, spellings}
use Rattle.script_text.specs.Streams.{IsEnd, IsStream, IsBadAt, IsNoStream, frame_count, IsStreamOf, IsNoStreamOf, AreStreams, AreNoStreams}
use Rattle.script_text.proofs.FramesLemmas.{no_frame_in_none, one_front, no_close_and_call, AreAll, one_run}

-- ---- what stands behind the calls

end_is_all : (room : ℕ) (frames : List Frame) (rest : List ℕ) → IsEnd rest → AreAll room frames rest
end_is_all room frames rest (inl none) = λ f more front calls. absurd (no_frame_in_none rest f more none front)
end_is_all room frames rest (inr (g, close, closes)) =
    λ f more front calls. absurd (no_close_and_call rest [] more g f close closes front calls)

bad_is_all : (room place : ℕ) (frames : List Frame) (rest : List ℕ) (bad : ℕ) (why : What) → length frames ≤ room
    → IsBadAt (room - length frames) place rest bad why → AreAll room frames rest
bad_is_all room place frames rest bad what.Frame few (inl (some, none, at)) = λ f more front calls. absurd (none f more front)
bad_is_all room place frames rest bad what.Frame few (inr (at, (g, after, close, closes, some, is), to)) =
    λ f more front calls. absurd (no_close_and_call rest after more g f close closes front calls)
bad_is_all room place frames rest bad what.Calls few (full, call, at) = λ f more front calls. omega (arith, full, few)
bad_is_all room place frames rest bad why few stands = absurd stands

end_or_bad : (left place : ℕ) (rest : List ℕ) (bad : ℕ) (why : What) → IsEnd rest → IsBadAt left place rest bad why → ⊥
end_or_bad left place rest bad what.Frame (inl nothing) (inl (some, none, at)) = some nothing
end_or_bad left place rest bad what.Frame (inr (g, close, closes)) (inl (some, none, at)) = none g [] close
end_or_bad left place rest bad what.Frame (inl nothing) (inr (at, (f, more, front, ends, some, is), to)) =
    no_frame_in_none rest f more nothing front
end_or_bad left place rest bad what.Frame (inr (g, close, closes)) (inr (at, (f, more, front, ends, some, is), to)) =
    some (sym (one_front rest [] more g f close front).1)
end_or_bad left place rest bad what.Calls (inl nothing) (full, (f, more, front, calls), at) = no_frame_in_none rest f more nothing front
end_or_bad left place rest bad what.Calls (inr (g, close, closes)) (full, (f, more, front, calls), at) =
    no_close_and_call rest [] more g f close closes front calls
end_or_bad left place rest bad why end stands = absurd stands

same_place : (place a b p q : ℕ) (f g : Frame) → f ≡ g → a ≡ length (spelled f) → b ≡ length (spelled g) → p ≡ place + a
    → q ≡ place + b → p ≡ q
same_place place a b p q f g same x y is too = is ∙ ap (λ n. place + n) (x ∙ ap (λ h. length (spelled h)) same ∙ sym y) ∙ sym too

one_bad : (left place : ℕ) (rest : List ℕ) (p q : ℕ) (v w : What) → IsBadAt left place rest p v
    → IsBadAt left place rest q w → (p ≡ q) × (v ≡ w)
one_bad left place rest p q what.Frame what.Frame (inl (some, none, at)) (inl (other, nothing, to)) = (at ∙ sym to, refl)
one_bad left place rest p q what.Frame what.Frame (inl (some, none, at)) (inr (n, (f, more, front, ends, other, is), to)) =
    absurd (none f more front)
one_bad left place rest p q what.Frame what.Frame (inr (n, (f, more, front, ends, other, is), to)) (inl (some, none, at)) =
    absurd (none f more front)
one_bad left place rest p q what.Frame what.Frame (inr (m, (f, more, front, ends, some, is), at))
    (inr (n, (g, after, begin, closes, other, same), to)) =
    (same_place place m n p q f g (one_front rest more after f g front begin).0 is same at to, refl)
one_bad left place rest p q what.Frame what.Calls (inl (some, none, at)) (full, (f, more, front, calls), to) = absurd (none f more front)
one_bad left place rest p q what.Frame what.Calls (inr (n, (g, after, close, closes, some, is), at)) (full, (f, more, front, calls), to) =
    absurd (no_close_and_call rest after more g f close closes front calls)
one_bad left place rest p q what.Calls what.Frame (full, (f, more, front, calls), to) (inl (some, none, at)) = absurd (none f more front)
one_bad left place rest p q what.Calls what.Frame (full, (f, more, front, calls), to) (inr (n, (g, after, close, closes, some, is), at)) =
    absurd (no_close_and_call rest after more g f close closes front calls)
one_bad left place rest p q what.Calls what.Calls (full, call, at) (also, other, to) = (at ∙ sym to, refl)
one_bad left place rest p q what.Frame w stands other = absurd other
one_bad left place rest p q what.Calls w stands other = absurd other
one_bad left place rest p q v w stands other = absurd stands

-- ---- one stream

one_stream : (bytes : List ℕ) (fs gs : List Frame) → IsStream bytes fs → IsStream bytes gs → fs ≡ gs
one_stream bytes fs gs (r, p, x) (s, q, y) =
    let room = length fs + length gs in
    (one_run room bytes fs gs r s p (omega arith) (end_is_all room fs r x) q (omega arith) (end_is_all room gs s y)).0

stream_or_none : (room place : ℕ) (bytes : List ℕ) (frames : List Frame) (bad : ℕ) (why : What) → IsStream bytes frames
    → length frames ≤ room → IsNoStream room place bytes bad why → ⊥
stream_or_none room place bytes frames bad why (r, p, end) few (gs, s, q, m, stands) =
    let same = one_run room bytes frames gs r s p few (end_is_all room frames r end) q m (bad_is_all room _ gs s bad why m stands) in
    end_or_bad _ _ s bad why (subst IsEnd same.1 end) stands

one_reason : (room place : ℕ) (bytes : List ℕ) (p q : ℕ) (v w : What) → IsNoStream room place bytes p v
    → IsNoStream room place bytes q w → (p ≡ q) × (v ≡ w)
one_reason room place bytes p q v w (fs, r, x, few, stands) (gs, s, y, m, other) =
    let same = one_run room bytes fs gs r s x few (bad_is_all room _ fs r p v few stands) y m (bad_is_all room _ gs s q w m other) in
    let along = subst (λ l. IsBadAt (room - length fs) (place + length (spellings fs)) l p v) same.1 stands in
    one_bad _ _ s p q v w (subst (λ l. IsBadAt (room - length l) (place + length (spellings l)) s p v) same.0 along) other

one_stream_of : (h : StreamHead) (bytes : List ℕ) (s t : Stream) → IsStreamOf h bytes s → IsStreamOf h bytes t → s ≡ t
one_stream_of (head.Frames count) bytes (stream.Frames fs) (stream.Frames gs) x y = ap stream.Frames (one_stream bytes fs gs x y)
one_stream_of (head.Frames count) bytes (stream.Frames fs) (stream.Control ds) x y = absurd y
one_stream_of (head.Frames count) bytes (stream.Control cs) t x y = absurd x
one_stream_of (head.Control commands) bytes (stream.Control cs) (stream.Control ds) x y = ap stream.Control (x ∙ sym y)
one_stream_of (head.Control commands) bytes (stream.Control cs) (stream.Frames gs) x y = absurd y
one_stream_of (head.Control commands) bytes (stream.Frames fs) t x y = absurd x

stream_of_or_none : (h : StreamHead) (room place : ℕ) (bytes : List ℕ) (s : Stream) (bad : ℕ) (why : What)
    → IsStreamOf h bytes s → frame_count s ≤ room → IsNoStreamOf h room place bytes bad why → ⊥
stream_of_or_none (head.Frames count) room place bytes (stream.Frames frames) bad why is few none =
    stream_or_none room place bytes frames bad why is few none
stream_of_or_none (head.Frames count) room place bytes (stream.Control commands) bad why is few none = is
stream_of_or_none (head.Control commands) room place bytes s bad why is few none = none

one_reason_of : (h : StreamHead) (room place : ℕ) (bytes : List ℕ) (p q : ℕ) (v w : What)
    → IsNoStreamOf h room place bytes p v → IsNoStreamOf h room place bytes q w → (p ≡ q) × (v ≡ w)
one_reason_of (head.Frames count) room place bytes p q v w x y = one_reason room place bytes p q v w x y
one_reason_of (head.Control commands) room place bytes p q v w x y = absurd x

-- ---- all streams

pub one_list : (heads : List StreamHead) (bytes : List ℕ) (ss ts : List Stream) → AreStreams heads bytes ss
    → AreStreams heads bytes ts → ss ≡ ts
one_list [] bytes [] [] x y = refl
one_list [] bytes [] (t ∷ ts) x y = absurd y
one_list [] bytes (s ∷ ss) ts x y = absurd x
one_list (h ∷ hs) bytes [] ts x y = absurd x
one_list (h ∷ hs) bytes (s ∷ ss) [] x y = absurd y
one_list (h ∷ hs) bytes (s ∷ ss) (t ∷ ts) (is, are) (too, also) =
    both (one_stream_of h (take (byte_count h) bytes) s t is too) (one_list hs (drop (byte_count h) bytes) ss ts are also)
  where
    both : s ≡ t → ss ≡ ts → s ∷ ss ≡ t ∷ ts
    both p q = cc

pub list_or_none : (heads : List StreamHead) (room place : ℕ) (bytes : List ℕ) (ss : List Stream) (bad : ℕ) (why : What)
    → AreStreams heads bytes ss → sum_by frame_count ss ≤ room
    → AreNoStreams room place heads bytes bad why → ⊥
list_or_none [] room place bytes ss bad why are few none = none
list_or_none (h ∷ hs) room place bytes [] bad why are few none = are
list_or_none (h ∷ hs) room place bytes (s ∷ ss) bad why (is, are) few (inl none) =
    stream_of_or_none h room place (take (byte_count h) bytes) s bad why is (omega (arith, sum_by-cons frame_count s ss)) none
list_or_none (h ∷ hs) room place bytes (s ∷ ss) bad why (is, are) few (inr (t, too, m, none)) =
    let same = ap frame_count (one_stream_of h (take (byte_count h) bytes) s t is too) in
    list_or_none hs (room - frame_count t) (place + byte_count h) (drop (byte_count h) bytes) ss bad why are
    (omega (arith, same, sum_by-cons frame_count s ss)) none

pub one_reason_of_all : (heads : List StreamHead) (room place : ℕ) (bytes : List ℕ) (p q : ℕ) (v w : What)
    → AreNoStreams room place heads bytes p v → AreNoStreams room place heads bytes q w
    → (p ≡ q) × (v ≡ w)
one_reason_of_all [] room place bytes p q v w x y = absurd x
one_reason_of_all (h ∷ hs) room place bytes p q v w (inl x) (inl y) = one_reason_of h room place (take (byte_count h) bytes) p q v w x y
one_reason_of_all (h ∷ hs) room place bytes p q v w (inl x) (inr (t, is, few, y)) =
    absurd (stream_of_or_none h room place (take (byte_count h) bytes) t p v is few x)
one_reason_of_all (h ∷ hs) room place bytes p q v w (inr (s, is, few, x)) (inl y) =
    absurd (stream_of_or_none h room place (take (byte_count h) bytes) s q w is few y)
one_reason_of_all (h ∷ hs) room place bytes p q v w (inr (s, is, few, x)) (inr (t, too, m, y)) =
    let same = ap frame_count (one_stream_of h (take (byte_count h) bytes) s t is too) in
    let along = subst (λ n. AreNoStreams (room - n) (place + byte_count h) hs (drop (byte_count h) bytes) p v) same x in
    one_reason_of_all hs (room - frame_count t) (place + byte_count h) (drop (byte_count h) bytes) p q v w along y
