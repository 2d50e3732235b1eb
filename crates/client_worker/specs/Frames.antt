-- The frames of a call on a line to a replica: a request, and the replica's reply with the same number.
use Rattle.std.specs.Prelude.{ℕ, ◌*◌, ℤ, pos, List, [], length}
use Rattle.vol_units.specs.declared.size.TheConstants.{BLOCK_BYTES}
use Rattle.frame_stream.specs.Asked.{read_kind, write_kind}
use Rattle.frame_wire.specs.declared.head.Head.{Head}
use Rattle.frame_wire.specs.Spelling.{frame}

-- the type of a frame that replies, as dataconn numbers it
abbrev pub response_kind : ℕ
response_kind = 2

-- asks for so many bytes from the offset on
abbrev pub read_head : ℕ → ℤ → ℕ → Head
read_head seq offset n = record { seq = seq; kind = read_kind; offset = offset; size = n; len = 0 }

-- gives these bytes
abbrev pub read_reply_head : ℕ → ℤ → ℕ → Head
read_reply_head seq offset n = record { seq = seq; kind = response_kind; offset = offset; size = n; len = n }

-- puts so many bytes, whole blocks, from the first block on
abbrev pub write_head : ℕ → ℕ → ℕ → Head
write_head seq first n = record { seq = seq; kind = write_kind; offset = pos (first * BLOCK_BYTES); size = n; len = n }

-- has put them
abbrev pub write_reply_head : ℕ → ℕ → ℕ → Head
write_reply_head seq first n =
    record { seq = seq; kind = response_kind; offset = pos (first * BLOCK_BYTES); size = n; len = 0 }

-- ---- the frames

abbrev pub read_request : ℕ → ℤ → ℕ → List ℕ
read_request seq offset n = frame (read_head seq offset n) []

abbrev pub read_reply : ℕ → ℤ → List ℕ → List ℕ
read_reply seq offset bytes = frame (read_reply_head seq offset (length bytes)) bytes

abbrev pub write_request : ℕ → ℕ → List ℕ → List ℕ
write_request seq first whole = frame (write_head seq first (length whole)) whole

abbrev pub write_reply : ℕ → ℕ → ℕ → List ℕ
write_reply seq first n = frame (write_reply_head seq first n) []
