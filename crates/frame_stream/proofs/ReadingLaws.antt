-- What follows from specs/Reading.antt.
use Rattle.std.proofs.Common.{◌≡◌, ◌≢◌, ◌∙◌, ℕ, ◌+◌, ◌%◌, ◌^◌, ◌<◌, List, ◌++◌, length, take, drop, refl, sym, ap, subst, inl, inr, arith}
use Rattle.std.proofs.Common.{append_assoc, length-append, length-drop}
use Rattle.std.proofs.Math.Seq.{take-append_seam, drop-append_seam}
use Rattle.std.proofs.lemmas.List.{take-append-le, drop-append-le}
use Rattle.frame_wire.specs.declared.head.Head.{Head}
use Rattle.frame_wire.specs.declared.decoded.Decoded.{Decoded}
use Rattle.frame_wire.specs.declared.decoded.Decoded.TheVariants.{Short, BadMagic, TooLong, Frame}
use Rattle.frame_wire.specs.Spelling.{header_length, header}
use Rattle.frame_wire.specs.Decoding.{BeginsWith, Decodes}
use Rattle.frame_wire.proofs.OneAnswer.{length_of, one_answer}
use Rattle.frame_stream.specs.declared.frame.Frame.{Frame as Item}
use Rattle.frame_stream.specs.declared.reader.Next.{Next}
use Rattle.frame_stream.specs.declared.reader.Next.TheVariants as next
use Rattle.frame_stream.specs.Frames.{spelled, span, frame_under}
use Rattle.frame_stream.specs.Reading.{Fed, fed_more, next_by, fed_after, GivesNext, StandsFirst}
use Rattle.frame_stream.proofs.FramesLemmas.{behind_header, behind_data, length_spelled, data_of_frame, frame_and_rest}
use Rattle.frame_stream.proofs.ReadingLemmas.{decodes_on}

-- ---- one answer

-- what is given is settled by what was fed
pub one_next : (fed new other : Fed) (given also : Next) → GivesNext fed new given → GivesNext fed other also
    → (given ≡ also) × (new ≡ other)
one_next fed new other given also p q =
    let same : p.found ≡ q.found = one_answer fed.left fed.most p.found q.found p.decodes q.decodes in
    (p.gives ∙ ap (next_by fed) same ∙ sym q.gives, p.leaves ∙ ap (fed_after fed) same ∙ sym q.leaves)

-- ---- more is fed

abbrev frame_of : Head → List ℕ → Item
frame_of h body = record { head = h; body = body }

-- a frame that bytes decode to is the same with more behind them, and so is what is left
same_on : (fed : Fed) (more : List ℕ) (found : Decoded) → Decodes fed.left fed.most found → found ≢ Short
    → (next_by (fed_more fed more) found ≡ next_by fed found) × (fed_after (fed_more fed more) found ≡ fed_more (fed_after fed found) more)
same_on fed more Short p some = absurd (some refl)
same_on fed more (BadMagic n) p some = (refl, refl)
same_on fed more (TooLong n) p some = (refl, refl)
same_on fed more (Frame h used) p some =
    let long = length_of fed.left p.0.0 h p.0.1 in
    let behind : drop 26 (fed.left ++ more) ≡ drop 26 fed.left ++ more = drop-append-le 26 fed.left more (omega (arith, long)) in
    let body : take h.len (drop 26 (fed.left ++ more)) ≡ take h.len (drop 26 fed.left) =
    ap (take h.len) behind ∙ take-append-le h.len (drop 26 fed.left) more (omega (arith, long, p.0.2, length-drop 26 fed.left)) in
    let rest : drop used (fed.left ++ more) ≡ drop used fed.left ++ more =
    drop-append-le used fed.left more (omega (arith, long, p.0.2, p.1)) in (
      ap (λ (l : List ℕ). next.Frame (frame_of h l)) body,
      ap (λ (l : List ℕ). record fed { left = l; place = (fed.place + used) % 2 ^ 64 }) rest,
    )

-- so all but that more is needed is settled, whatever follows
pub next_on : (fed new : Fed) (given : Next) (more : List ℕ) → given ≢ next.Short → GivesNext fed new given
    → GivesNext (fed_more fed more) (fed_more new more) given
next_on fed new given more some p =
    let long : p.found ≢ Short = λ e. some (p.gives ∙ ap (next_by fed) e) in
    let same = same_on fed more p.found p.decodes long in
    record {
      found = p.found;
      decodes = decodes_on fed.left more fed.most p.found (λ e. absurd (long e)) p.decodes;
      gives = p.gives ∙ sym same.0;
      leaves = ap (λ (f : Fed). fed_more f more) p.leaves ∙ sym same.1;
    }

-- ---- nothing but a frame is taken

kept_short : (fed : Fed) (found : Decoded) → next.Short ≡ next_by fed found → fed_after fed found ≡ fed
kept_short fed Short e = refl
kept_short fed (BadMagic n) e = refl
kept_short fed (TooLong n) e = refl
kept_short fed (Frame h used) e = cc

kept_bad : (fed : Fed) (place : ℕ) (found : Decoded) → next.Bad place ≡ next_by fed found
    → (fed_after fed found ≡ fed) × (place ≡ fed.place)
kept_bad fed place Short e = absurd cc
kept_bad fed place (BadMagic n) e = (refl, cc)
kept_bad fed place (TooLong n) e = (refl, cc)
kept_bad fed place (Frame h used) e = absurd cc

pub short_stays : (fed new : Fed) → GivesNext fed new next.Short → new ≡ fed
short_stays fed new p = p.leaves ∙ kept_short fed p.found p.gives

pub bad_stays : (fed new : Fed) (place : ℕ) → GivesNext fed new (next.Bad place) → (new ≡ fed) × (place ≡ fed.place)
bad_stays fed new place p = let kept = kept_bad fed place p.found p.gives in (p.leaves ∙ kept.0, kept.1)

-- ---- how long what is short may be

short_by : (fed : Fed) (found : Decoded) → Decodes fed.left fed.most found → next.Short ≡ next_by fed found
    → length fed.left < header_length + fed.most
short_by fed Short (inl p) e = omega (arith, p.less)
short_by fed Short (inr p) e = omega (arith, p.3, p.4, length_of fed.left p.1 p.0 p.2)
short_by fed (BadMagic n) p e = absurd cc
short_by fed (TooLong n) p e = absurd cc
short_by fed (Frame h used) p e = absurd cc

pub short_of_frame : (fed new : Fed) → GivesNext fed new next.Short → length fed.left < header_length + fed.most
short_of_frame fed new p = short_by fed p.found p.decodes p.gives

-- ---- a frame and what is left

stands : (fed : Fed) (found : Decoded) (f : Item) → Decodes fed.left fed.most found → next.Frame f ≡ next_by fed found
    → StandsFirst fed (fed_after fed found) f
stands fed Short f p e = absurd cc
stands fed (BadMagic n) f p e = absurd cc
stands fed (TooLong n) f p e = absurd cc
stands fed (Frame h used) f p e =
    let same : frame_under h fed.left ≡ f = cc in
    let body = data_of_frame fed.left fed.most h p.0 in
    subst (StandsFirst fed (fed_after fed (Frame h used))) same (record {
      head = p.0.1.head;
      body = body;
      fits = p.0.3;
      bytes = frame_and_rest fed.left fed.most h p.0 ∙ ap (λ n. spelled (frame_under h fed.left) ++ drop n fed.left) (sym p.1);
      place = ap (λ n. (fed.place + n) % 2 ^ 64) (p.1 ∙ sym (length_spelled (frame_under h fed.left) body));
      most = refl;
    })

-- a frame that is given stands first,
pub given_stands : (fed new : Fed) (f : Item) → GivesNext fed new (next.Frame f) → StandsFirst fed new f
given_stands fed new f p = subst (λ (n : Fed). StandsFirst fed n f) (sym p.leaves) (stands fed p.found f p.decodes p.gives)

abbrev fed_of : List ℕ → ℕ → ℕ → Fed
fed_of left place most = record { left = left; place = place; most = most }

same_fed : {l k : List ℕ} {p q m n : ℕ} → l ≡ k → p ≡ q → m ≡ n → fed_of l p m ≡ fed_of k q n
same_fed a b c = cc

-- and one that stands first is given
pub standing_given : (fed new : Fed) (f : Item) → StandsFirst fed new f → GivesNext fed new (next.Frame f)
standing_given fed new f s =
    let rest = f.body ++ new.left in
    let front : BeginsWith fed.left f.head rest =
    record { head = s.head; whole = s.bytes ∙ append_assoc (header f.head) f.body new.left } in
    let body : take f.head.len (drop header_length fed.left) ≡ f.body =
    ap (take f.head.len) (behind_header fed.left rest f.head front) ∙ ap (λ n. take n rest) (sym s.body)
    ∙ take-append_seam f.body new.left in
    let left : drop (span f.head) fed.left ≡ new.left =
    behind_data fed.left rest f.head front ∙ ap (λ n. drop n rest) (sym s.body) ∙ drop-append_seam f.body new.left in
    record {
      found = Frame f.head (span f.head);
      decodes = ((rest, front, omega (arith, s.body, length-append f.body new.left), s.fits), refl);
      gives = ap (λ l. next.Frame (frame_of f.head l)) (sym body);
      leaves =
          same_fed (sym left) (s.place ∙ ap (λ n. (fed.place + n) % 2 ^ 64) (length_spelled f s.body)) s.most;
    }
