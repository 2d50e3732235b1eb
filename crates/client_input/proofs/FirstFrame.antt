-- What a reader gives, and what an input begins with.
use Rattle.std.proofs.Common.{◌≡◌, ◌≢◌, ◌∙◌, ℕ, ◌≤◌, ◌+◌, ◌%◌, ◌^◌, List, [], ◌∷◌, ◌++◌, length, refl, sym, ap, subst, arith, inl}
use Rattle.std.proofs.Common.{append_assoc}
use Rattle.frame_wire.specs.declared.decoded.Decoded.TheVariants.{Short}
use Rattle.frame_stream.proofs.ReadingLaws.{one_next, next_on, given_stands, standing_given}
use Rattle.frame_stream.specs.Frames.{spelled, IsCall, IsClose, IsWholeFrame, BeginsWithFrame, HasNoFrame}
use Rattle.frame_stream.specs.Reading.{Fed, fed_more, GivesNext, StandsFirst}
use Rattle.frame_stream.specs.declared.frame.Frame.{Frame}
use Rattle.frame_stream.specs.declared.reader.Next.TheVariants as next
use Rattle.volume_model.specs.PlainStep.{longest_call}
use Rattle.client_input.specs.Inputs.{HasClose}

-- ---- a whole frame that stands first

-- what is left behind it
abbrev pub past : Fed → Frame → List ℕ → Fed
past fed f rest = record { left = rest; place = (fed.place + length (spelled f)) % 2 ^ 64; most = fed.most }

-- it is given,
pub whole_given : (fed : Fed) (f : Frame) (rest : List ℕ) → fed.most ≡ longest_call → BeginsWithFrame fed.left f rest
    → GivesNext fed (past fed f rest) (next.Frame f)
whole_given fed f rest most begins = standing_given fed (past fed f rest) f (record {
  head = begins.whole.head;
  body = begins.whole.body;
  fits = subst (λ n. f.head.len ≤ n) (sym most) begins.whole.most;
  bytes = begins.text;
  place = refl;
  most = refl;
})

-- and it is the only one
pub one_first : (bytes : List ℕ) (f g : Frame) (rest more : List ℕ) → BeginsWithFrame bytes f rest → BeginsWithFrame bytes g more
    → (f ≡ g) × (rest ≡ more)
one_first bytes f g rest more p q =
    let fed : Fed = record { left = bytes; place = 0; most = longest_call } in
    let same = one_next fed (past fed f rest) (past fed g more) (next.Frame f) (next.Frame g)
    (whole_given fed f rest refl p) (whole_given fed g more refl q) in
    (cc same.0, ap (λ (n : Fed). n.left) same.1)

-- ---- a frame that is given

stands_whole : (fed new : Fed) (f : Frame) → fed.most ≡ longest_call → StandsFirst fed new f → IsWholeFrame f
stands_whole fed new f most stands =
    record { head = stands.head; body = stands.body; most = subst (λ n. f.head.len ≤ n) most stands.fits }

-- it stands first, whatever comes behind,
pub given_begins : (fed new : Fed) (f : Frame) (more : List ℕ) → fed.most ≡ longest_call → GivesNext fed new (next.Frame f)
    → BeginsWithFrame (fed.left ++ more) f (new.left ++ more)
given_begins fed new f more most given =
    let stands = given_stands fed new f given in record {
      whole = stands_whole fed new f most stands;
      text = ap (λ l. l ++ more) stands.bytes ∙ append_assoc (spelled f) new.left more;
    }

-- is a call where it is no Close,
pub given_call : (fed new : Fed) (f : Frame) → fed.most ≡ longest_call → GivesNext fed new (next.Frame f) → (IsClose f → ⊥) → IsCall f
given_call fed new f most given no_close = (stands_whole fed new f most (given_stands fed new f given), no_close)

-- or is the Close that the input then has,
pub given_close : (fed new : Fed) (f : Frame) (more : List ℕ) → fed.most ≡ longest_call → GivesNext fed new (next.Frame f)
    → IsClose f → HasClose (fed.left ++ more)
given_close fed new f more most given close = (f, new.left ++ more, given_begins fed new f more most given, close)

-- ---- where no whole frame stands

-- what is bad is no frame, whatever follows
pub bad_no_frame : (fed new : Fed) (place : ℕ) (more : List ℕ) → fed.most ≡ longest_call → GivesNext fed new (next.Bad place)
    → HasNoFrame (fed.left ++ more)
bad_no_frame fed new place more most bad = λ f rest begins.
    let given = whole_given (fed_more fed more) f rest most begins in
    let same = one_next (fed_more fed more) (past (fed_more fed more) f rest) (fed_more new more) (next.Frame f) (next.Bad place) given
    (next_on fed new (next.Bad place) more (λ e. cc e) bad) in
    cc same.0

-- nor is what is short
pub short_no_frame : (fed new : Fed) → fed.most ≡ longest_call → GivesNext fed new next.Short → HasNoFrame fed.left
short_no_frame fed new most short = λ f rest begins.
    let given = whole_given fed f rest most begins in
    let same = one_next fed (past fed f rest) new (next.Frame f) next.Short given short in
    cc same.0

-- what is bad is some bytes
bad_is_some : (fed new : Fed) (place : ℕ) → GivesNext fed new (next.Bad place) → fed.left ≢ []
bad_is_some fed new place bad none =
    let short : GivesNext fed fed next.Short = record {
      found = Short;
      decodes = inl (record { less = omega (arith, ap length none); known = λ two. absurd (omega (arith, ap length none)) });
      gives = refl;
      leaves = refl;
    } in
    let same = one_next fed new fed (next.Bad place) next.Short bad short in
    cc same.0

no_front : (xs ys : List ℕ) → xs ++ ys ≡ [] → xs ≡ []
no_front [] ys e = refl
no_front (x ∷ xs) ys e = cc

-- whatever follows
pub bad_goes_on : (fed new : Fed) (place : ℕ) (more : List ℕ) → GivesNext fed new (next.Bad place) → fed.left ++ more ≢ []
bad_goes_on fed new place more bad none = bad_is_some fed new place bad (no_front fed.left more none)
