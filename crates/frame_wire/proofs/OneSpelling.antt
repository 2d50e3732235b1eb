-- A frame has one spelling, and no spelling is the front of another.
use Rattle.std.proofs.Common.{◌≡◌, ℕ, ℤ, ◌^◌, ◌<◌, List, ◌++◌, length, take, drop, sym, ap, ◌∙◌}
use Rattle.std.specs.Prelude.{FitsSigned}
use Rattle.std.specs.Int.{w32, w64, to_le_bytes, from_le_bytes, cast_unsigned, cast_signed}
use Rattle.std.proofs.lemmas.Nat.{from_le_bytes-to_le_bytes_4, from_le_bytes-to_le_bytes_8}
use Rattle.std.proofs.Math.Facts.{Fits-of_z, Fits-lt-pow, to_z-of_z}
use Rattle.std.proofs.Math.Seq.{take-append_seam}
use Rattle.frame_wire.specs.declared.head.Head.{Head}
use Rattle.frame_wire.specs.Spelling.{header, frame, IsHead}

-- Two numbers with the same bytes are one.
same_32 : (m n : ℕ) → m < 2 ^ 32 → n < 2 ^ 32 → to_le_bytes w32 m ≡ to_le_bytes w32 n → m ≡ n
same_32 m n p q e = sym (from_le_bytes-to_le_bytes_4 m p) ∙ ap (from_le_bytes w32) e ∙ from_le_bytes-to_le_bytes_4 n q

-- the same of signed numbers
same_signed : (y z : ℤ) → FitsSigned w64 y → FitsSigned w64 z
    → to_le_bytes w64 (cast_unsigned w64 y) ≡ to_le_bytes w64 (cast_unsigned w64 z) → y ≡ z
same_signed y z p q e =
    let back : (x : ℤ) → FitsSigned w64 x → cast_signed w64 (from_le_bytes w64 (to_le_bytes w64 (cast_unsigned w64 x))) ≡ x =
    λ x fits. ap (cast_signed w64) (from_le_bytes-to_le_bytes_8 (cast_unsigned w64 x) (Fits-lt-pow (Fits-of_z fits))) ∙ to_z-of_z fits in
    sym (back y p) ∙ ap (λ bytes. cast_signed w64 (from_le_bytes w64 bytes)) e ∙ back z q

-- a header by its fields
abbrev head_of_fields : ℕ → ℕ → ℤ → ℕ → ℕ → Head
head_of_fields s k o z l = record { seq = s; kind = k; offset = o; size = z; len = l }

-- headers with the same fields are one
same_fields : {s t k l z y m n : ℕ} {o p : ℤ} → s ≡ t → k ≡ l → o ≡ p → z ≡ y → m ≡ n → head_of_fields s k o z m ≡ head_of_fields t l p y n
same_fields a b c d e = cc

-- Bytes begin with one header at most.
pub same_head : (g h : Head) (x y : List ℕ) → IsHead g → IsHead h → header g ++ x ≡ header h ++ y → (g ≡ h) × (x ≡ y)
same_head g h x y p q e = (
  same_fields (same_32 g.seq h.seq p.seq q.seq (ap (λ l. take 4 (drop 2 l)) e))
      (same_32 g.kind h.kind p.kind q.kind (ap (λ l. take 4 (drop 6 l)) e))
      (same_signed g.offset h.offset p.offset q.offset (ap (λ l. take 8 (drop 10 l)) e))
      (same_32 g.size h.size p.size q.size (ap (λ l. take 4 (drop 18 l)) e))
      (same_32 g.len h.len p.len q.len (ap (λ l. take 4 (drop 22 l)) e)),
  ap (drop 26) e,
)

-- Two frames at the front of the same bytes are one.
pub one_spelling : (g h : Head) (a b x y : List ℕ) → IsHead g → IsHead h → length a ≡ g.len → length b ≡ h.len
    → frame g a ++ x ≡ frame h b ++ y → (g ≡ h) × (a ≡ b)
one_spelling g h a b x y p q m n e =
    let same = same_head g h (a ++ x) (b ++ y) p q e in
    let len : length a ≡ length b = m ∙ ap (λ (k : Head). k.len) same.0 ∙ sym n in
    (same.0, sym (take-append_seam a x) ∙ ap (take (length a)) same.1 ∙ ap (λ k. take k (b ++ y)) len ∙ take-append_seam b y)
