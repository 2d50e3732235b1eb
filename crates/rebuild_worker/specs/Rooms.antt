-- What pages are carried in.
use Rattle.std.specs.Prelude.{◌+◌, ◌≤◌, ℕ, List, length, drop, vec_capacity}
use Rattle.frame_wire.specs.Spelling.{header_length}
use Rattle.page_text.specs.Text.{longest_text}
use Rattle.rebuild_worker.specs.declared.rooms.Rooms.{Rooms}

-- there is room for the longest frames
pub record HasRoom (rooms : Rooms) : Type 0 where
  pub request : header_length + 64 ≤ vec_capacity rooms.request
  pub text : header_length + longest_text ≤ vec_capacity rooms.text

-- what stands behind the place for a header
abbrev pub text_in : List ℕ → List ℕ
text_in bytes = drop header_length bytes

-- there is a place for a header, and behind it no more than the longest text
pub record HasPlace (bytes : List ℕ) : Type 0 where
  pub header : header_length ≤ length bytes
  pub few : length bytes ≤ header_length + longest_text
