-- What the front of some bytes is has one answer.
use Rattle.std.proofs.Common.{◌≡◌, ℕ, ◌+◌, ◌≤◌, List, ◌++◌, length, take, refl, sym, ap, ◌∙◌, inl, inr, arith, length-append}
use Rattle.frame_wire.specs.declared.head.Head.{Head}
use Rattle.frame_wire.specs.declared.decoded.Decoded.{Decoded}
use Rattle.frame_wire.specs.declared.decoded.Decoded.TheVariants.{Short, BadMagic, TooLong, Frame}
use Rattle.frame_wire.specs.Spelling.{magic, header, frame, IsHead}
use Rattle.frame_wire.specs.Decoding.{IsShortOfHeader, BeginsWith, Decodes}
use Rattle.frame_wire.proofs.OneSpelling.{same_head}

-- What begins with a header is longer by it than the rest,
pub length_of : (bytes rest : List ℕ) (h : Head) → BeginsWith bytes h rest → length bytes ≡ 26 + length rest
length_of bytes rest h front = ap length front.whole ∙ length-append (header h) rest

-- so that it is not short of a header,
not_short : (bytes rest : List ℕ) (h : Head) → IsShortOfHeader bytes → BeginsWith bytes h rest → ⊥
not_short bytes rest h short front = absurd (omega (arith, short.less, length_of bytes rest h front))

-- has the magic in front,
magic_of : (bytes rest : List ℕ) (h : Head) → BeginsWith bytes h rest → take 2 bytes ≡ magic
magic_of bytes rest h front = ap (take 2) front.whole

-- and begins with no other header.
same_begin : (bytes x y : List ℕ) (g h : Head) → BeginsWith bytes g x → BeginsWith bytes h y → (g ≡ h) × (x ≡ y)
same_begin bytes x y g h p q = same_head g h x y p.head q.head (sym p.whole ∙ q.whole)

-- two headers that are one say one length
same_len : (g h : Head) → g ≡ h → g.len ≡ h.len
same_len g h e = ap (λ (k : Head). k.len) e

-- Bytes that are short have no other answer; then the same of the other three answers in turn.
only_short : (bytes : List ℕ) (most : ℕ) (b : Decoded) → Decodes bytes most Short → Decodes bytes most b → Short ≡ b
only_short bytes most Short p q = refl
only_short bytes most (BadMagic m) (inl p) q = absurd (q.2 (p.known q.0))
only_short bytes most (BadMagic m) (inr p) q = absurd (q.2 (magic_of bytes p.1 p.0 p.2))
only_short bytes most (TooLong n) (inl p) q = absurd (not_short bytes q.1 q.0 p q.2)
only_short bytes most (TooLong n) (inr p) q = absurd (omega (arith, same_len _ _ (same_begin bytes p.1 q.1 p.0 q.0 p.2 q.2).0))
only_short bytes most (Frame h u) (inl p) q = absurd (not_short bytes q.0.0 h p q.0.1)
only_short bytes most (Frame h u) (inr p) q =
    let s = same_begin bytes p.1 q.0.0 p.0 h p.2 q.0.1 in absurd (omega (arith, same_len _ _ s.0, ap length s.1))

only_bad : (bytes : List ℕ) (most m : ℕ) (b : Decoded) → Decodes bytes most (BadMagic m) → Decodes bytes most b → BadMagic m ≡ b
only_bad bytes most m Short p q = sym (only_short bytes most (BadMagic m) q p)
only_bad bytes most m (BadMagic n) p q = ap BadMagic (p.1 ∙ sym q.1)
only_bad bytes most m (TooLong n) p q = absurd (p.2 (magic_of bytes q.1 q.0 q.2))
only_bad bytes most m (Frame h u) p q = absurd (p.2 (magic_of bytes q.0.0 h q.0.1))

only_long : (bytes : List ℕ) (most m : ℕ) (b : Decoded) → Decodes bytes most (TooLong m) → Decodes bytes most b → TooLong m ≡ b
only_long bytes most m Short p q = sym (only_short bytes most (TooLong m) q p)
only_long bytes most m (BadMagic n) p q = sym (only_bad bytes most n (TooLong m) q p)
only_long bytes most m (TooLong n) p q = ap TooLong (sym p.3 ∙ same_len _ _ (same_begin bytes p.1 q.1 p.0 q.0 p.2 q.2).0 ∙ q.3)
only_long bytes most m (Frame h u) p q = absurd (omega (arith, same_len _ _ (same_begin bytes p.1 q.0.0 p.0 h p.2 q.0.1).0))

only_frame : (bytes : List ℕ) (most : ℕ) (g : Head) (t : ℕ) (b : Decoded) → Decodes bytes most (Frame g t)
    → Decodes bytes most b → Frame g t ≡ b
only_frame bytes most g t Short p q = sym (only_short bytes most (Frame g t) q p)
only_frame bytes most g t (BadMagic n) p q = sym (only_bad bytes most n (Frame g t) q p)
only_frame bytes most g t (TooLong n) p q = sym (only_long bytes most n (Frame g t) q p)
only_frame bytes most g t (Frame h u) p q =
    let head = (same_begin bytes p.0.0 q.0.0 g h p.0.1 q.0.1).0 in let used : t ≡ u = omega (arith, same_len _ _ head) in cc

-- No two answers hold of the same bytes.
pub one_answer : (bytes : List ℕ) (most : ℕ) (a b : Decoded) → Decodes bytes most a → Decodes bytes most b → a ≡ b
one_answer bytes most Short = only_short bytes most
one_answer bytes most (BadMagic m) = only_bad bytes most m
one_answer bytes most (TooLong m) = only_long bytes most m
one_answer bytes most (Frame g t) = only_frame bytes most g t

-- A frame's spelling decodes as that frame.
pub frame_decodes : (h : Head) (body rest : List ℕ) (most : ℕ) → IsHead h → length body ≡ h.len → h.len ≤ most
    → Decodes (frame h body ++ rest) most (Frame h (26 + h.len))
frame_decodes h body rest most head len fits =
    ((body ++ rest, record { head = head; whole = refl }, omega (arith, length-append body rest), fits), refl)
