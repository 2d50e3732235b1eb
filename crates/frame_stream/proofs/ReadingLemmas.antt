-- Lemmas on specs/Reading.antt.
use Rattle.std.proofs.Common.{◌≡◌, ◌∙◌, ℕ, ◌≤◌, List, [], ◌∷◌, ◌++◌, length, take, drop, slice_range, refl, sym, ap, subst, arith}
use Rattle.std.proofs.Common.{append_assoc, append-nil, length-append}
use Rattle.std.specs.Int.{w16, from_le_bytes}
use Rattle.std.proofs.lemmas.List.{take-append-le}
use Rattle.std.proofs.lemmas.Slice.{between_is}
use Rattle.frame_wire.specs.declared.head.Head.{Head}
use Rattle.frame_wire.specs.declared.decoded.Decoded.{Decoded}
use Rattle.frame_wire.specs.declared.decoded.Decoded.TheVariants.{Short, BadMagic, TooLong, Frame}
use Rattle.frame_wire.specs.Spelling.{header}
use Rattle.frame_wire.specs.Decoding.{BeginsWith, Decodes}
use Rattle.frame_wire.proofs.OneAnswer.{length_of}
use Rattle.frame_stream.specs.Reading.{front_of, IsWithin}

-- ---- what bytes decode to, once more come behind them

begins_on : (bytes rest more : List ℕ) (h : Head) → BeginsWith bytes h rest → BeginsWith (bytes ++ more) h (rest ++ more)
begins_on bytes rest more h front = record {
  head = front.head;
  whole = ap (λ l. l ++ more) front.whole ∙ append_assoc (header h) rest more;
}

-- bytes that are not short decode the same whatever comes behind them
pub decodes_on : (bytes more : List ℕ) (most : ℕ) (found : Decoded) → (found ≡ Short → more ≡ []) → Decodes bytes most found
    → Decodes (bytes ++ more) most found
decodes_on bytes more most Short none p =
    subst (λ l. Decodes l most Short) (sym (ap (λ l. bytes ++ l) (none refl) ∙ append-nil bytes)) p
decodes_on bytes more most (BadMagic n) none p =
    let same : take 2 (bytes ++ more) ≡ take 2 bytes = take-append-le 2 bytes more p.0 in
    (omega (arith, p.0, length-append bytes more), p.1 ∙ ap (from_le_bytes w16) (sym same), λ e. p.2 (sym same ∙ e))
decodes_on bytes more most (TooLong n) none p = (p.0, p.1 ++ more, begins_on bytes p.1 more p.0 p.2, p.3, p.4)
decodes_on bytes more most (Frame h used) none p =
    ((p.0.0 ++ more, begins_on bytes p.0.0 more h p.0.1, omega (arith, p.0.2, length-append p.0.0 more), p.0.3), p.1)

-- ---- a frame within bytes

pub is_within : (bytes : List ℕ) (most : ℕ) (found : Decoded) → Decodes bytes most found → IsWithin bytes found
is_within bytes most Short p = tt
is_within bytes most (BadMagic n) p = tt
is_within bytes most (TooLong n) p = tt
is_within bytes most (Frame h used) p = (omega (arith, p.1), omega (arith, p.1, p.0.2, length_of bytes p.0.0 h p.0.1))

-- with nothing held it is looked for in the piece
pub in_piece : (held piece : List ℕ) (most : ℕ) (found : Decoded) → length held ≡ 0 → Decodes piece most found
    → Decodes (held ++ piece) most found × IsWithin (front_of held piece) found
in_piece [] piece most found none p = (p, is_within piece most found p)
in_piece (b ∷ bs) piece most found none p = absurd (omega arith)

-- what is found in the bytes held is no piece's
pub in_held : (held piece : List ℕ) (most : ℕ) (found : Decoded) → Decodes held most found → IsWithin (front_of held piece) found
in_held held piece most Short p = tt
in_held held piece most (BadMagic n) p = tt
in_held held piece most (TooLong n) p = tt
in_held [] piece most (Frame h used) p = let there = is_within [] most (Frame h used) p in absurd (omega (arith, there.0, there.1))
in_held (b ∷ bs) piece most (Frame h used) p = is_within (b ∷ bs) most (Frame h used) p

-- the bytes held alone have the data of a frame that is found in them
pub body_held : (held piece : List ℕ) (used : ℕ) → (length held ≡ 0 → ⊥) → used ≤ length (front_of held piece)
    → drop 26 (take used held) ≡ slice_range (held ++ piece) 26 used
body_held [] piece used some within = absurd (some refl)
body_held (b ∷ bs) piece used some within =
    ap (drop 26) (sym (take-append-le used (b ∷ bs) piece within)) ∙ sym (between_is ((b ∷ bs) ++ piece) 26 used)
