-- What the front of some bytes is, for a reader that takes no more than `most` bytes of data.
use Rattle.std.specs.Prelude.{◌≡◌, ◌≢◌, ℕ, ◌+◌, ◌<◌, ◌≤◌, ◌⊎◌, List, ◌++◌, length, take}
use Rattle.std.specs.Int.{w16, from_le_bytes}
use Rattle.frame_wire.specs.declared.head.Head.{Head}
use Rattle.frame_wire.specs.declared.decoded.Decoded.{Decoded}
use Rattle.frame_wire.specs.declared.decoded.Decoded.TheVariants.{Short, BadMagic, TooLong, Frame}
use Rattle.frame_wire.specs.Spelling.{magic, header_length, header, IsHead}

-- two bytes are there and are not the magic; this is their number
abbrev pub HasOtherMagic : List ℕ → ℕ → Type 0
HasOtherMagic bytes found = (2 ≤ length bytes) × (found ≡ from_le_bytes w16 (take 2 bytes)) × (take 2 bytes ≢ magic)

-- the first two bytes, where they are there, are the magic
abbrev pub HasNoOtherMagic : List ℕ → Type 0
HasNoOtherMagic bytes = 2 ≤ length bytes → take 2 bytes ≡ magic

-- less than a header, and no other magic
pub record IsShortOfHeader (bytes : List ℕ) : Type 0 where
  pub less : length bytes < header_length
  pub known : HasNoOtherMagic bytes

-- the bytes begin with this header
pub record BeginsWith (bytes : List ℕ) (h : Head) (rest : List ℕ) : Type 0 where
  pub head : IsHead h
  pub whole : bytes ≡ header h ++ rest

-- a header, and less data than it says
abbrev pub IsShortOfData : List ℕ → ℕ → Type 0
IsShortOfData bytes most = (h : Head) × (rest : List ℕ) × BeginsWith bytes h rest × (length rest < h.len) × (h.len ≤ most)

-- a header, and at least the data that it says
abbrev pub HoldsFrame : List ℕ → ℕ → Head → Type 0
HoldsFrame bytes most h = (rest : List ℕ) × BeginsWith bytes h rest × (h.len ≤ length rest) × (h.len ≤ most)

-- one fact for each answer, and no two of them hold of the same bytes
abbrev pub Decodes : List ℕ → ℕ → Decoded → Type 0
Decodes bytes most Short = IsShortOfHeader bytes ⊎ IsShortOfData bytes most
Decodes bytes most (BadMagic found) = HasOtherMagic bytes found
Decodes bytes most (TooLong len) = (h : Head) × (rest : List ℕ) × BeginsWith bytes h rest × (h.len ≡ len) × (most < len)
Decodes bytes most (Frame h used) = HoldsFrame bytes most h × (used ≡ header_length + h.len)
