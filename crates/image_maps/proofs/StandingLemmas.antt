-- Where a reader of a map stands.
use Rattle.std.proofs.Common.{◌≡◌, ◌≢◌, ℕ, suc, ◌+◌, ◌*◌, ◌^◌, ◌<◌, ◌≤◌, List, [], ◌∷◌, ◌++◌, length, get_or, take, drop, decimal}
use Rattle.std.proofs.Common.{Option, Some, None, Ok, Err}
use Rattle.std.proofs.Common.{refl, sym, ap, subst, ◌∙◌, arith, append_assoc, append-nil, length-append}
use Rattle.std.proofs.lemmas.Fmt.{decimal_nonempty, length-decimal-le}
use Rattle.std.proofs.Math.Seq.{drop-cons}
use Rattle.std.proofs.lemmas.List.{take-append-drop}
use Rattle.std.proofs.lemmas.List.Elements.{All-append, All-nil, All-push}
use Rattle.image_maps.specs.Begun.{begun_text, IsBegun, Steps}
use Rattle.image_maps.specs.Maps.{line, map_text, Fits, behind, AreSpans, end_of, BeginsWithLine, IsBadAt, RefusesMap}
use Rattle.image_maps.specs.Reading.{Reading, Fed, Begins, fed_of, BeginsMap, IsBadFrom, Feeds, EndsMap}
use Rattle.image_maps.specs.Standing.{text_read, IsStanding, RefusesFrom}
use Rattle.image_maps.specs.declared.error.MapError.{MapError}
use Rattle.image_maps.specs.declared.error.MapError.TheVariants.{BadLine, NoMemory}
use Rattle.image_maps.specs.declared.line.BegunLine.{BegunLine}
use Rattle.image_maps.specs.declared.line.BegunLine.TheVariants.{Empty, First, Blank, Count}
use Rattle.image_maps.specs.declared.line.Step.TheVariants.{Ends, Bad}
use Rattle.image_maps.specs.declared.span.BlockSpan.{BlockSpan}
use Rattle.image_maps.specs.declared.standing.Standing.{Standing}
use Rattle.image_maps.proofs.BegunLemmas.{line_cut}
use Rattle.image_maps.proofs.Cuts.{Lacks, has_byte}
use Rattle.image_maps.proofs.DigitLemmas.{decimal_lacks}
use Rattle.image_maps.proofs.MapLemmas.{text_append, spans_append, end_push}

-- a line has at most 22 bytes
line_length : (s : BlockSpan) → s.first < 2 ^ 32 → s.count < 2 ^ 32 → length (line s) ≤ 22
line_length s first count =
    omega (
      arith,
      length-append (decimal s.first) (32 ∷ (decimal s.count ++ 10 ∷ [])),
      length-append (decimal s.count) (10 ∷ []),
      length-decimal-le 10 s.first (omega arith) (omega arith) (omega arith),
      length-decimal-le 10 s.count (omega arith) (omega arith) (omega arith),
    )

-- and begins two blocks behind the one before it, or later
text_length : (least blocks : ℕ) (ss : List BlockSpan) → blocks < 2 ^ 32 → AreSpans least blocks ss
    → length (map_text ss) + 22 * least ≤ 22 * end_of least ss
text_length least blocks [] small fit = omega arith
text_length least blocks (s ∷ ss) small fit =
    omega (
      arith,
      length-append (line s) (map_text ss),
      text_length (behind s) blocks ss small fit.1,
      fit.0.least_ok,
      fit.0.some,
      fit.0.most,
      line_length s (omega (arith, fit.0.most)) (omega (arith, fit.0.most)),
    )

end_bound : (least blocks : ℕ) (ss : List BlockSpan) → least ≤ blocks + 1 → AreSpans least blocks ss
    → end_of least ss ≤ blocks + 1
end_bound least blocks [] low fit = low
end_bound least blocks (s ∷ ss) low fit = end_bound (behind s) blocks ss (omega (arith, fit.0.most)) fit.1

begun_length : (least blocks : ℕ) (l : BegunLine) → blocks < 2 ^ 32 → IsBegun least blocks l
    → length (begun_text l) ≤ 21
begun_length least blocks Empty small begun = omega arith
begun_length least blocks (First n) small begun =
    omega (arith, length-decimal-le 10 n (omega arith) (omega (arith, begun.0)) (omega (arith, begun.0)))
begun_length least blocks (Blank first) small begun =
    omega (
      arith,
      length-append (decimal first) (32 ∷ []),
      length-decimal-le 10 first (omega arith) (omega (arith, begun.1)) (omega (arith, begun.1)),
    )
begun_length least blocks (Count first count) small begun =
    omega (
      arith,
      length-append (decimal first) (32 ∷ decimal count),
      length-decimal-le 10 first (omega arith) (omega (arith, begun.2)) (omega (arith, begun.2)),
      length-decimal-le 10 count (omega arith) (omega (arith, begun.2)) (omega (arith, begun.2)),
    )

-- so many bytes are read in all
pub few_bytes : (blocks : ℕ) (spans : List BlockSpan) (at : Standing) → IsStanding blocks spans at → at.read < 2 ^ 40
few_bytes blocks spans at standing =
    let small = standing.small in
    omega (
      arith,
      standing.read,
      length-append (map_text spans) (begun_text at.line),
      text_length 0 blocks spans small standing.fit,
      end_bound 0 blocks spans (omega arith) standing.fit,
      begun_length at.least blocks at.line small standing.begun,
    )

-- what is read once a line ends
pub text_ends : (blocks : ℕ) (spans : List BlockSpan) (at : Standing) (byte : ℕ) (s : BlockSpan)
    → Steps at.least blocks at.line byte (Ends s) → map_text (spans ++ s ∷ []) ≡ text_read spans at ++ byte ∷ []
text_ends blocks spans at byte s (spelled, fits) =
    text_append spans (s ∷ []) ∙ ap (λ text. map_text spans ++ text) (append-nil (line s) ∙ spelled)
    ∙ sym (append_assoc (map_text spans) (begun_text at.line) (byte ∷ []))

-- and where the reader stands then
pub line_ends : (blocks : ℕ) (spans items : List BlockSpan) (at : Standing) (byte : ℕ) (s : BlockSpan) (least : ℕ)
    → IsStanding blocks spans at → Steps at.least blocks at.line byte (Ends s) → least ≡ behind s
    → items ≡ spans ++ s ∷ []
    → IsStanding blocks items (record { least = least; start = at.read + 1; read = at.read + 1; line = Empty })
line_ends blocks spans items at byte s least standing steps next is =
    subst (λ ss. IsStanding blocks ss (record { least = least; start = at.read + 1; read = at.read + 1; line = Empty }))
    (sym is) ended
  where
    longer : at.read + 1 ≡ length (map_text (spans ++ s ∷ []))
    longer =
        omega (
          arith,
          standing.read,
          ap length (text_ends blocks spans at byte s steps),
          length-append (text_read spans at) (byte ∷ []),
        )

    ended : IsStanding blocks (spans ++ s ∷ [])
        (record { least = least; start = at.read + 1; read = at.read + 1; line = Empty })
    ended = record {
      small = standing.small;
      fit = spans_append 0 blocks spans (s ∷ []) standing.fit (subst (λ k. Fits k blocks s) standing.least steps.1, tt);
      begun = tt;
      least = next ∙ sym (end_push 0 spans s);
      start = longer;
      read = longer ∙ ap length (sym (append-nil (map_text (spans ++ s ∷ []))));
    }

-- a byte that no line has there
pub is_bad : (blocks : ℕ) (spans : List BlockSpan) (at : Standing) (byte : ℕ) → IsStanding blocks spans at
    → Steps at.least blocks at.line byte Bad → IsBadFrom (text_read spans at ++ byte ∷ []) blocks at.start
is_bad blocks spans at byte standing bad more = record {
  spans = spans;
  fit = standing.fit;
  rest = begun_text at.line ++ byte ∷ more;
  cut = append_assoc (text_read spans at) (byte ∷ []) more ∙ append_assoc (map_text spans) (begun_text at.line) (byte ∷ more);
  place_is = standing.start;
  some = λ none. nothing (begun_text at.line) none;
  bad = subst (λ k. BeginsWithLine (begun_text at.line ++ byte ∷ more) k blocks → ⊥) standing.least (bad more);
}
  where
    nothing : (front : List ℕ) → front ++ byte ∷ more ≡ [] → ⊥
    nothing [] none = cc
    nothing (c ∷ front) none = cc

-- what follows does not mend it
pub bad_longer : (text rest : List ℕ) (blocks place : ℕ) → IsBadFrom text blocks place
    → IsBadFrom (text ++ rest) blocks place
bad_longer text rest blocks place bad more =
    subst (λ whole. IsBadAt whole blocks place) (sym (append_assoc text rest more)) (bad (rest ++ more))

pub bad_now : (text : List ℕ) (blocks place : ℕ) → IsBadFrom text blocks place → IsBadAt text blocks place
bad_now text blocks place bad = subst (λ whole. IsBadAt whole blocks place) (append-nil text) (bad [])

-- a line that has begun and not ended
begun_lacks : (least blocks : ℕ) (l : BegunLine) → blocks < 2 ^ 32 → IsBegun least blocks l → Lacks 10 (begun_text l)
begun_lacks least blocks Empty small begun = All-nil (λ c. c ≢ 10)
begun_lacks least blocks (First n) small begun = decimal_lacks 10 n (omega arith) (omega (arith, begun.0))
begun_lacks least blocks (Blank first) small begun =
    let lacks = decimal_lacks 10 first (omega arith) (omega (arith, begun.1)) in
    All-push (λ c. c ≢ 10) (decimal first) 32 lacks (λ is. omega arith)
begun_lacks least blocks (Count first count) small begun =
    let blank : Lacks 10 (32 ∷ []) = All-push (λ c. c ≢ 10) [] 32 (All-nil (λ c. c ≢ 10)) (λ is. omega arith) in
    All-append (λ c. c ≢ 10) (decimal first) (32 ∷ decimal count)
    (decimal_lacks 10 first (omega arith) (omega (arith, begun.2)))
    (All-append (λ c. c ≢ 10) (32 ∷ []) (decimal count) blank
    (decimal_lacks 10 count (omega arith) (omega (arith, begun.2))))

pub not_ended : (blocks : ℕ) (spans : List BlockSpan) (at : Standing) → IsStanding blocks spans at
    → at.line ≢ Empty → IsBadAt (text_read spans at) blocks at.start
not_ended blocks spans at standing some = record {
  spans = spans;
  fit = standing.fit;
  rest = begun_text at.line;
  cut = refl;
  place_is = standing.start;
  some = filled at.line some standing.begun;
  bad = no_line at.line (begun_lacks at.least blocks at.line standing.small standing.begun);
}
  where
    filled : (l : BegunLine) → l ≢ Empty → IsBegun at.least blocks l → begun_text l ≢ []
    filled Empty some begun none = some refl
    filled (First n) some begun none = omega (arith, decimal_nonempty n (omega (arith, begun.0)), ap length none)
    filled (Blank first) some begun none =
        omega (
          arith,
          decimal_nonempty first (omega (arith, begun.1)),
          length-append (decimal first) (32 ∷ []),
          ap length none,
        )
    filled (Count first count) some begun none =
        omega (
          arith,
          decimal_nonempty first (omega (arith, begun.2)),
          length-append (decimal first) (32 ∷ decimal count),
          ap length none,
        )

    no_line : (l : BegunLine) → Lacks 10 (begun_text l) → BeginsWithLine (begun_text l) (end_of 0 spans) blocks → ⊥
    no_line l lacks (s, fits, (more, is)) =
        let cut = is ∙ line_cut s more ∙ sym (append_assoc (decimal s.first) (32 ∷ decimal s.count) (10 ∷ more)) in
        has_byte 10 (decimal s.first ++ 32 ∷ decimal s.count) more (subst (Lacks 10) cut lacks)

-- a line that has begun can be ended
record Completes (least blocks : ℕ) (l : BegunLine) : Type 0 where
  spans : List BlockSpan
  fit : AreSpans least blocks spans
  more : List ℕ
  is : begun_text l ++ more ≡ map_text spans

by_one : (least blocks : ℕ) (l : BegunLine) (s : BlockSpan) (more : List ℕ) → Fits least blocks s
    → begun_text l ++ more ≡ line s → Completes least blocks l
by_one least blocks l s more fits is = record {
  spans = s ∷ [];
  fit = (fits, tt);
  more = more;
  is = is ∙ sym (append-nil (line s));
}

completes : (least blocks : ℕ) (l : BegunLine) → IsBegun least blocks l → Completes least blocks l
completes least blocks Empty begun = record { spans = []; fit = tt; more = []; is = refl }
completes least blocks (First n) (low, (m, from, below, (back, is))) =
    let s : BlockSpan = record { first = m; count = 1 } in
    let rest = 32 ∷ (decimal 1 ++ 10 ∷ []) in
    by_one least blocks (First n) s (back ++ rest) (record { least_ok = from; some = omega arith; most = omega arith })
    (sym (append_assoc (decimal n) back rest) ∙ ap (λ ds. ds ++ rest) (sym is))
completes least blocks (Blank first) (from, below) =
    let s : BlockSpan = record { first = first; count = 1 } in
    by_one least blocks (Blank first) s (decimal 1 ++ 10 ∷ [])
    (record { least_ok = from; some = omega arith; most = omega arith })
    (append_assoc (decimal first) (32 ∷ []) (decimal 1 ++ 10 ∷ []))
completes least blocks (Count first count) (from, some, most) =
    let s : BlockSpan = record { first = first; count = count } in
    by_one least blocks (Count first count) s (10 ∷ []) (record { least_ok = from; some = some; most = most })
    (append_assoc (decimal first) (32 ∷ decimal count) (10 ∷ []))

pub begins_map : (blocks : ℕ) (spans : List BlockSpan) (at : Standing) → IsStanding blocks spans at
    → BeginsMap (text_read spans at) blocks
begins_map blocks spans at standing =
    let rest = completes at.least blocks at.line standing.begun in (
      rest.more,
      (
        spans ++ rest.spans,
        record {
          lines = append_assoc (map_text spans) (begun_text at.line) rest.more
              ∙ ap (λ text. map_text spans ++ text) rest.is ∙ sym (text_append spans rest.spans);
          fit = spans_append 0 blocks spans rest.spans standing.fit
              (subst (λ k. AreSpans k blocks rest.spans) standing.least rest.fit);
        },
      ),
    )

-- a refusal stands, whatever was to be read behind it
pub refuses_longer : (text rest : List ℕ) (blocks : ℕ) (error : MapError) → RefusesFrom text blocks error
    → RefusesFrom (text ++ rest) blocks error
refuses_longer text rest blocks (BadLine place) bad = bad_longer text rest blocks place bad
refuses_longer text rest blocks NoMemory bad = tt

-- bytes behind a text, cut behind one of them
pub cut_behind : (text bytes now : List ℕ) (i : ℕ) → i < length bytes → now ≡ text ++ take i bytes
    → (now ++ get_or bytes i 0 ∷ []) ++ drop (suc i) bytes ≡ text ++ bytes
cut_behind text bytes now i less is =
    append_assoc now (get_or bytes i 0 ∷ []) (drop (suc i) bytes)
    ∙ ap (λ front. front ++ (get_or bytes i 0 ∷ drop (suc i) bytes)) is
    ∙ append_assoc text (take i bytes) (get_or bytes i 0 ∷ drop (suc i) bytes)
    ∙ ap (λ rest. text ++ (take i bytes ++ rest)) (sym (drop-cons bytes i 0 less))
    ∙ ap (λ rest. text ++ rest) (take-append-drop i bytes)

-- ---- what the reader answers

-- all of a piece was read
pub feeds_all : (blocks : ℕ) (spans more : List BlockSpan) (at next : Standing) (bad : Option ℕ) (r : Reading)
    (piece : List ℕ) → (record { blocks = blocks; fed = fed_of bad (text_read spans at) }) ≡ r → bad ≡ None
    → IsStanding blocks more next → text_read more next ≡ text_read spans at ++ piece
    → Feeds r.blocks r.fed piece (Ok tt) (fed_of bad (text_read more next))
feeds_all blocks spans more at next None r piece view good standing read =
    subst (λ (x : Reading). Feeds x.blocks x.fed piece (Ok tt) (Begins (text_read more next))) view
    (ap Begins read, subst (λ text. BeginsMap text blocks) read (begins_map blocks more next standing))
feeds_all blocks spans more at next (Some place) r piece view good standing read = absurd (no_place good)
  where
    no_place : Some place ≡ None → ⊥
    no_place same = cc

-- the text ends within a line
pub ends_in_line : (blocks : ℕ) (spans : List BlockSpan) (at : Standing) (bad : Option ℕ) (r : Reading)
    → (record { blocks = blocks; fed = fed_of bad (text_read spans at) }) ≡ r → bad ≡ None → IsStanding blocks spans at
    → at.line ≢ Empty → EndsMap r.blocks r.fed (Err (BadLine at.start))
ends_in_line blocks spans at None r view good standing some =
    subst (λ (x : Reading). EndsMap x.blocks x.fed (Err (BadLine at.start))) view
    (not_ended blocks spans at standing some)
ends_in_line blocks spans at (Some place) r view good standing some = absurd (no_place good)
  where
    no_place : Some place ≡ None → ⊥
    no_place same = cc

-- a text that was refused is no map
pub refused_map : (blocks : ℕ) (text : List ℕ) (r : Reading) (error : MapError) (new : Fed)
    → r ≡ (record { blocks = blocks; fed = Begins [] }) → Feeds r.blocks r.fed text (Err error) new
    → RefusesMap text blocks error
refused_map blocks text r error new view fed =
    by_error error (subst (λ (x : Reading). Feeds x.blocks x.fed text (Err error) new) view fed)
  where
    by_error : (error : MapError) → Feeds blocks (Begins []) text (Err error) new → RefusesMap text blocks error
    by_error (BadLine place) (is, bad) = bad_now text blocks place bad
    by_error NoMemory is = tt
