-- A header's fields and its bytes.
use Rattle.std.proofs.Common.{rules, ◌≡◌, ◌≤◌, ℕ, zero, suc, List, [], ◌∷◌, ◌++◌, length, get_or, take, drop, sym, ap, ◌∙◌, arith}
use Rattle.std.specs.Int.{w32, w64, to_le_bytes, cast_unsigned}
use Rattle.std.proofs.lemmas.List.{length-take-le, take-take, take-append-drop}
use Rattle.std.proofs.lemmas.Slice.Eq.{text_from_reads}
use Rattle.frame_wire.specs.declared.head.Head.{Head}
use Rattle.frame_wire.specs.Spelling.{magic, header, IsHead}
use Rattle.frame_wire.specs.Decoding.{BeginsWith, HasNoOtherMagic}

-- so many bytes from a place on
abbrev pub bytes_from : List ℕ → ℕ → ℕ → List ℕ
bytes_from b i zero = []
bytes_from b i (suc n) = get_or b i 0 ∷ bytes_from b (suc i) n

-- these are the bytes of the header's fields
pub record HasFields (b : List ℕ) (h : Head) : Type 0 where
  pub seq : to_le_bytes w32 h.seq ≡ bytes_from b 2 4
  pub kind : to_le_bytes w32 h.kind ≡ bytes_from b 6 4
  pub offset : to_le_bytes w64 (cast_unsigned w64 h.offset) ≡ bytes_from b 10 8
  pub size : to_le_bytes w32 h.size ≡ bytes_from b 18 4
  pub len : to_le_bytes w32 h.len ≡ bytes_from b 22 4

-- 26 bytes, the magic first, are the header of the fields whose bytes they are.
spelled : (b : List ℕ) (h : Head) → length b ≡ 26 → take 2 b ≡ magic → HasFields b h → b ≡ header h
spelled b h len known fields =
    let all : b ≡ bytes_from b 0 26 = text_from_reads b (bytes_from b 0 26) len (search rules) in
    let front = ap (take 2) all in
    cc

-- Bytes of which the first 26 are a header's begin with it.
pub begins : (bytes b : List ℕ) (h : Head) → HasNoOtherMagic bytes → 26 ≤ length bytes → b ≡ take 26 bytes → IsHead h → HasFields b h
    → BeginsWith bytes h (drop 26 bytes)
begins bytes b h magic_first enough taken fits fields =
    let len : length b ≡ 26 = ap length taken ∙ length-take-le 26 bytes enough in
    let known : take 2 b ≡ magic = ap (take 2) taken ∙ take-take 2 26 bytes (omega arith) ∙ magic_first (omega arith) in
    record {
      head = fits;
      whole = sym (take-append-drop 26 bytes) ∙ ap (λ l. l ++ drop 26 bytes) (sym taken ∙ spelled b h len known fields);
    }
