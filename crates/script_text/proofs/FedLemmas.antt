-- Lemmas on specs/Fed.antt.
use Rattle.std.proofs.Common.{◌≡◌, ◌≢◌, ◌⊎◌, ◌∙◌, ℕ, ◌+◌, ◌-◌, ◌<◌, ◌≤◌, ◌%◌, ◌^◌, List, ◌++◌, length, take, drop}
use Rattle.std.proofs.Common.{refl, sym, ap, subst, inl, inr, arith, append_assoc, length-append, length-drop}
use Rattle.std.proofs.lemmas.List.{take-append-drop, take-take, length-take-le, take_at, drop_at, drop-drop}
use Rattle.std.proofs.Math.Seq.{take-length}
use Rattle.std.proofs.Math.Nat.{mod-eq_of_lt}
use Rattle.frame_wire.specs.Spelling.{header_length}
use Rattle.frame_wire.specs.declared.decoded.Decoded.{Decoded}
use Rattle.frame_wire.specs.declared.decoded.Decoded.TheVariants.{BadMagic, TooLong, Frame as Held}
use Rattle.frame_wire.specs.declared.head.Head.{Head}
use Rattle.volume_model.specs.PlainStep.{longest_call}
use Rattle.frame_stream.specs.declared.frame.Frame.{Frame}
use Rattle.frame_stream.specs.declared.reader.Next.{Next}
use Rattle.frame_stream.specs.declared.reader.Next.TheVariants as next
use Rattle.frame_stream.specs.Frames.{spelled, frame_under, BeginsWithFrame, HasNoFrame}
use Rattle.frame_stream.specs.Reading.{Fed, fed_more, next_by, GivesNext, TakesNext, StandsFirst}
use Rattle.frame_stream.proofs.FramesLemmas.{length_spelled}
use Rattle.frame_stream.proofs.ReadingLaws.{one_next, next_on, short_stays, bad_stays, given_stands, standing_given, short_of_frame}
use Rattle.script_text.specs.Fed.{HasFirst, IsFed, BeginsWithHead}

-- the bytes begin with a frame, which is so long, and the reader has the first of those behind it
pub record IsGiven (old new : Fed) (count : ℕ) (bytes : List ℕ) (f : Frame) : Type 0 where
  pub within : header_length + length f.body ≤ count
  pub place : new.place ≡ (old.place + (header_length + length f.body)) % 2 ^ 64
  pub fed : HasFirst new (count - (header_length + length f.body)) (drop (header_length + length f.body) bytes)
  pub front : BeginsWithFrame bytes f (drop (header_length + length f.body) bytes)

-- a frame that the reader gives
pub given : (fed new : Fed) (count : ℕ) (bytes : List ℕ) (f : Frame) → HasFirst fed count bytes → GivesNext fed new (next.Frame f)
    → IsGiven fed new count bytes f
given fed new count bytes f is gives =
    let stands = given_stands fed new f gives in
    let used = header_length + length f.body in
    let behind = new.left ++ drop count bytes in
    let long : length (spelled f) ≡ used = length_spelled f stands.body ∙ ap (λ n. header_length + n) (sym stands.body) in
    let text : bytes ≡ spelled f ++ behind =
    sym (take-append-drop count bytes) ∙ ap (λ l. l ++ drop count bytes) (sym is.left ∙ stands.bytes)
    ∙ append_assoc (spelled f) new.left (drop count bytes) in
    let rest : drop used bytes ≡ behind = ap (drop used) text ∙ drop_at (spelled f) behind used long in
    let all : count ≡ used + length new.left =
    sym (length-take-le count bytes is.within) ∙ ap length (sym is.left ∙ stands.bytes) ∙ length-append (spelled f) new.left
    ∙ ap (λ n. n + length new.left) long in
    record {
      within = omega (arith, all);
      place = stands.place ∙ ap (λ n. (fed.place + n) % 2 ^ 64) long;
      fed = record {
        left = sym (ap (take (count - used)) rest ∙ take_at new.left (drop count bytes) (count - used) (omega (arith, all)));
        within = omega (arith, all, ap length rest, length-append new.left (drop count bytes));
        most = stands.most ∙ is.most;
      };
      front = record {
        whole = record { head = stands.head; body = stands.body; most = omega (arith, stands.fits, is.most) };
        text = text ∙ ap (λ l. spelled f ++ l) (sym rest);
      };
    }

-- a reader that has all of the bytes and gives no frame: they begin with none
no_frame : (fed new : Fed) (given : Next) (bytes : List ℕ) → fed.left ≡ bytes → fed.most ≡ longest_call → GivesNext fed new given
    → ((f : Frame) → given ≢ next.Frame f) → HasNoFrame bytes
no_frame fed new given bytes is most gives none = λ f rest front.
    let other : Fed = record { left = rest; place = (fed.place + length (spelled f)) % 2 ^ 64; most = fed.most } in
    let stands : StandsFirst fed other f = record {
      head = front.whole.head;
      body = front.whole.body;
      fits = omega (arith, front.whole.most, most);
      bytes = is ∙ front.text;
      place = refl;
      most = refl;
    } in
    none f (one_next fed new other given (next.Frame f) gives (standing_given fed other f stands)).0

-- a reader that is short has all of the bytes,
pub none_short : (fed new : Fed) (count : ℕ) (bytes : List ℕ) → HasFirst fed count bytes → count ≡ length bytes
    → GivesNext fed new next.Short → HasNoFrame bytes
none_short fed new count bytes is all gives =
    no_frame fed new next.Short bytes (is.left ∙ ap (λ n. take n bytes) all ∙ take-length bytes) is.most gives (λ f e. absurd cc)

-- or finds a frame that is bad
pub none_bad : (fed new : Fed) (count place : ℕ) (bytes : List ℕ) → HasFirst fed count bytes
    → GivesNext fed new (next.Bad place) → HasNoFrame bytes
none_bad fed new count place bytes is gives =
    let more = drop count bytes in
    no_frame (fed_more fed more) (fed_more new more) (next.Bad place) bytes
    (ap (λ l. l ++ more) is.left ∙ take-append-drop count bytes) is.most
    (next_on fed new (next.Bad place) more (λ e. absurd cc) gives) (λ f e. absurd cc)

-- where it is short it has less than the longest frame
pub few_short : (fed new : Fed) (count : ℕ) (bytes : List ℕ) → HasFirst fed count bytes → GivesNext fed new next.Short
    → count < header_length + longest_call
few_short fed new count bytes is gives =
    omega (arith, short_of_frame fed new gives, is.most, ap length is.left, length-take-le count bytes is.within)

-- ---- more is fed

-- a longer front of the bytes begins with what the reader has,
pub longer_front : (fed : Fed) (count more : ℕ) (bytes : List ℕ) → HasFirst fed count bytes → count ≤ more
    → fed.left ≡ take (length fed.left) (take more bytes)
longer_front fed count more bytes is less =
    is.left ∙ sym (ap (λ n. take n (take more bytes)) (ap length is.left ∙ length-take-le count bytes is.within)
    ∙ take-take count more bytes less)

-- and is then what it has
pub fed_front : (fed new : Fed) (count more : ℕ) (bytes : List ℕ) → HasFirst fed count bytes → count ≤ more → more ≤ length bytes
    → new ≡ fed_more fed (drop (length fed.left) (take more bytes)) → HasFirst new more bytes
fed_front fed new count more bytes is less within fills = record {
  left =
      ap (λ (r : Fed). r.left) fills
      ∙ ap (λ l. l ++ drop (length fed.left) (take more bytes)) (longer_front fed count more bytes is less)
      ∙ take-append-drop (length fed.left) (take more bytes);
  within = within;
  most = ap (λ (r : Fed). r.most) fills ∙ is.most;
}

-- ---- the bytes from the reader's place on

-- a frame that the reader gives stands there first, and its place is then behind it
pub record IsPassed (old new : Fed) (end : ℕ) (bytes : List ℕ) (f : Frame) : Type 0 where
  pub fed : IsFed new end bytes
  pub front : BeginsWithFrame (drop old.place bytes) f (drop new.place bytes)

pub passed : (fed new : Fed) (end : ℕ) (bytes : List ℕ) (f : Frame) → IsFed fed end bytes → GivesNext fed new (next.Frame f)
    → IsPassed fed new end bytes f
passed fed new end bytes f is gives =
    let left = drop fed.place bytes in
    let used = header_length + length f.body in
    let first = given fed new (end - fed.place) left f is.has gives in
    let place : new.place ≡ fed.place + used =
    first.place ∙ mod-eq_of_lt (omega (arith, first.within, is.order, is.within, is.few)) in
    let rest : drop used left ≡ drop new.place bytes = drop-drop used fed.place bytes ∙ ap (λ n. drop n bytes) (sym place) in
    let count : end - fed.place - used ≡ end - new.place = omega (arith, place) in
    record {
      fed = record {
        order = omega (arith, place, first.within, is.order);
        within = is.within;
        few = is.few;
        has = subst (λ n. HasFirst new n (drop new.place bytes)) count (subst (HasFirst new (end - fed.place - used)) rest first.fed);
      };
      front = subst (BeginsWithFrame left f) rest first.front;
    }

-- a reader that gives no frame has what it had
pub still_short : (fed new : Fed) (end : ℕ) (bytes : List ℕ) → IsFed fed end bytes → GivesNext fed new next.Short
    → IsFed new end bytes × (new.place ≡ fed.place)
still_short fed new end bytes is gives =
    let same = short_stays fed new gives in
    (subst (λ (r : Fed). IsFed r end bytes) (sym same) is, ap (λ (r : Fed). r.place) same)

pub still_bad : (fed new : Fed) (end place : ℕ) (bytes : List ℕ) → IsFed fed end bytes → GivesNext fed new (next.Bad place)
    → IsFed new end bytes
still_bad fed new end place bytes is gives =
    subst (λ (r : Fed). IsFed r end bytes) (sym (bad_stays fed new place gives).0) is

-- where it was fed all of the bytes, none stands there
pub none_left : (fed new : Fed) (end : ℕ) (bytes : List ℕ) → IsFed fed end bytes → end ≡ length bytes
    → GivesNext fed new next.Short → HasNoFrame (drop fed.place bytes)
none_left fed new end bytes is all gives =
    none_short fed new (end - fed.place) (drop fed.place bytes) is.has (omega (arith, all, length-drop fed.place bytes)) gives

-- it is fed the bytes behind, up to another end
pub fed_on : (fed new : Fed) (end more : ℕ) (bytes : List ℕ) → IsFed fed end bytes → end ≤ more → more ≤ length bytes
    → new ≡ fed_more fed (drop (length fed.left) (take (more - fed.place) (drop fed.place bytes))) → IsFed new more bytes
fed_on fed new end more bytes is less within fills =
    let place : new.place ≡ fed.place = ap (λ (r : Fed). r.place) fills in
    let less_left : end - fed.place ≤ more - fed.place = omega (arith, less) in
    let within_left : more - fed.place ≤ length (drop fed.place bytes) = omega (arith, within, length-drop fed.place bytes) in
    let has = fed_front fed new (end - fed.place) (more - fed.place) (drop fed.place bytes) is.has less_left within_left fills in
    record {
      order = omega (arith, place, is.order, less);
      within = within;
      few = is.few;
      has = subst (λ p. HasFirst new (more - p) (drop p bytes)) (sym place) has;
    }

-- ---- a header alone

-- what is taken is what is given
pub taken_given : (fed new : Fed) (found : Decoded) → TakesNext fed new found → GivesNext fed new (next_by fed found)
taken_given fed new found takes = record { found = found; decodes = takes.decodes; gives = refl; leaves = takes.leaves }

-- a header that is taken is that of the frame which stands first
pub head_passed : (fed new : Fed) (end : ℕ) (bytes : List ℕ) (h : Head) (used : ℕ) → IsFed fed end bytes
    → TakesNext fed new (Held h used) → IsFed new end bytes × BeginsWithHead (drop fed.place bytes) h (drop new.place bytes)
head_passed fed new end bytes h used is takes =
    let f = frame_under h fed.left in
    let first = passed fed new end bytes f is (taken_given fed new (Held h used) takes) in
    (first.fed, (f, refl, first.front))

-- where bytes that are no frame's are found, none stands there
pub none_taken : (fed new : Fed) (end : ℕ) (bytes : List ℕ) (found : Decoded) → IsFed fed end bytes → TakesNext fed new found
    → ((n : ℕ) × (found ≡ BadMagic n)) ⊎ ((n : ℕ) × (found ≡ TooLong n)) → HasNoFrame (drop fed.place bytes)
none_taken fed new end bytes found is takes bad =
    none_bad fed new (end - fed.place) fed.place (drop fed.place bytes) is.has
    (subst (GivesNext fed new) (bad_by bad) (taken_given fed new found takes))
  where
    bad_by : ((n : ℕ) × (found ≡ BadMagic n)) ⊎ ((n : ℕ) × (found ≡ TooLong n)) → next_by fed found ≡ next.Bad fed.place
    bad_by (inl e) = ap (next_by fed) e.1
    bad_by (inr e) = ap (next_by fed) e.1
