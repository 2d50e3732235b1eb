-- A frame as bytes: a header of 26 bytes, and then as many bytes as the header says (Longhorn's dataconn messages).
use Rattle.std.specs.Prelude.{◌≡◌, ℕ, ◌^◌, ◌<◌, List, [], ◌∷◌, ◌++◌, length, FitsSigned}
use Rattle.std.specs.Int.{w32, w64, to_le_bytes, cast_unsigned}
use Rattle.frame_wire.specs.declared.head.Head.{Head}

-- the first two bytes of each frame
abbrev pub magic : List ℕ
magic = 0x01 ∷ 0x1b ∷ []

-- the length of a header, in bytes
abbrev pub header_length : ℕ
header_length = 26

-- the magic, and then the header's fields in their order, each with its lowest byte first
abbrev pub header : Head → List ℕ
header h = magic ++ (to_le_bytes w32 h.seq ++ (to_le_bytes w32 h.kind ++ (to_le_bytes w64 (cast_unsigned w64 h.offset)
    ++ (to_le_bytes w32 h.size ++ to_le_bytes w32 h.len))))

-- fields that have a spelling: each fits its type
pub record IsHead (h : Head) : Type 0 where
  pub seq : h.seq < 2 ^ 32
  pub kind : h.kind < 2 ^ 32
  pub offset : FitsSigned w64 h.offset
  pub size : h.size < 2 ^ 32
  pub len : h.len < 2 ^ 32

-- a frame: its header, and its bytes of data
abbrev pub frame : Head → List ℕ → List ℕ
frame h body = header h ++ body

-- the bytes are one whole frame
pub record IsFrame (bytes : List ℕ) : Type 0 where
  pub head : Head
  pub body : List ℕ
  pub fits : IsHead head
  pub long : length body ≡ head.len
  pub spelled : bytes ≡ frame head body
