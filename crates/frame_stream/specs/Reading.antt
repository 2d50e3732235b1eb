-- What was fed to a reader of frames, and what it gives next.
use Rattle.std.specs.Prelude.{◌≡◌, ℕ, ◌+◌, ◌%◌, ◌^◌, ◌≤◌, List, [], ◌∷◌, ◌++◌, length, drop}
use Rattle.frame_wire.specs.declared.decoded.Decoded.{Decoded}
use Rattle.frame_wire.specs.declared.decoded.Decoded.TheVariants.{Short, BadMagic, TooLong, Frame}
use Rattle.frame_wire.specs.Spelling.{header_length, IsHead}
use Rattle.frame_wire.specs.Decoding.{Decodes}
use Rattle.frame_stream.specs.declared.frame.Frame.{Frame as Item}
use Rattle.frame_stream.specs.declared.reader.Next.{Next}
use Rattle.frame_stream.specs.declared.reader.Next.TheVariants as next
use Rattle.frame_stream.specs.Frames.{spelled, frame_under}

-- what was fed and not given yet, the place of its first byte among all bytes that were fed, counted modulo 2^64, and
-- the most data that a frame may have
pub record Fed : Type 0 where
  pub left : List ℕ
  pub place : ℕ
  pub most : ℕ

-- the same, and more was fed
abbrev pub fed_more : Fed → List ℕ → Fed
fed_more fed more = record fed { left = fed.left ++ more }

-- what is given, by what the bytes that are left decode to
abbrev pub next_by : Fed → Decoded → Next
next_by fed Short = next.Short
next_by fed (BadMagic found) = next.Bad fed.place
next_by fed (TooLong len) = next.Bad fed.place
next_by fed (Frame h used) = next.Frame (frame_under h fed.left)

-- what is left then: a frame that is given is gone, and nothing else is
abbrev pub fed_after : Fed → Decoded → Fed
fed_after fed (Frame h used) = record fed { left = drop used fed.left; place = (fed.place + used) % 2 ^ 64 }
fed_after fed _ = fed

-- a reader gives what the bytes that are left decode to
pub record GivesNext (old new : Fed) (given : Next) : Type 0 where
  pub found : Decoded
  pub decodes : Decodes old.left old.most found
  pub gives : given ≡ next_by old found
  pub leaves : new ≡ fed_after old found

-- or that itself, which has the frame's header and how many bytes it takes
pub record TakesNext (old new : Fed) (found : Decoded) : Type 0 where
  pub decodes : Decodes old.left old.most found
  pub leaves : new ≡ fed_after old found

-- a whole frame within the limit stands before what is left then, and the place is counted on by its length
pub record StandsFirst (old new : Fed) (f : Item) : Type 0 where
  pub head : IsHead f.head
  pub body : length f.body ≡ f.head.len
  pub fits : f.head.len ≤ old.most
  pub bytes : old.left ≡ spelled f ++ new.left
  pub place : new.place ≡ (old.place + length (spelled f)) % 2 ^ 64
  pub most : new.most ≡ old.most

-- ---- where it is looked for

-- the bytes in which a frame is looked for: those held, or the piece where none are held
abbrev pub front_of : List ℕ → List ℕ → List ℕ
front_of [] piece = piece
front_of (b ∷ bs) piece = b ∷ bs

-- a frame that was found there is there whole, its header at least
abbrev pub IsWithin : List ℕ → Decoded → Type 0
IsWithin bytes (Frame h used) = (header_length ≤ used) × (used ≤ length bytes)
IsWithin bytes _ = Unit {0}
