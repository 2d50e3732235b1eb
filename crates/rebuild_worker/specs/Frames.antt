-- The frames by which a page is copied: the source is asked for it by the layer's name and replies with the page's text,
-- and the replica that is rebuilt is sent that text and says that it has it. That they have these forms is this project's
-- own.
use Rattle.std.specs.Prelude.{ℕ, ◌*◌, ℤ, pos, List, [], length}
use Rattle.vol_units.specs.declared.size.TheConstants.{PAGE_BYTES}
use Rattle.frame_stream.specs.Asked.{read_kind, write_kind}
use Rattle.frame_wire.specs.declared.head.Head.{Head}
use Rattle.frame_wire.specs.Spelling.{frame}
use Rattle.vol_units.specs.declared.page_ref.PageRef.{PageRef}

-- the type of a frame that replies, as dataconn numbers it
abbrev pub response_kind : ℕ
response_kind = 2

-- where the page begins
abbrev pub offset_of : PageRef → ℤ
offset_of page = pos (page.page * PAGE_BYTES)

-- ---- headers

-- asks for a page by so many bytes of name
abbrev pub ask_head : ℕ → PageRef → ℕ → Head
ask_head seq page n = record { seq = seq; kind = read_kind; offset = offset_of page; size = PAGE_BYTES; len = n }

-- gives so many bytes of text
abbrev pub give_head : ℕ → PageRef → ℕ → Head
give_head seq page n = record { seq = seq; kind = response_kind; offset = offset_of page; size = n; len = n }

-- sends so many
abbrev pub send_head : ℕ → PageRef → ℕ → Head
send_head seq page n = record { seq = seq; kind = write_kind; offset = offset_of page; size = n; len = n }

-- has so many
abbrev pub done_head : ℕ → PageRef → ℕ → Head
done_head seq page n = record { seq = seq; kind = response_kind; offset = offset_of page; size = n; len = 0 }

-- ---- the frames

unfoldable pub source_request : ℕ → PageRef → List ℕ
source_request seq page = frame (ask_head seq page (length page.layer)) page.layer

unfoldable pub source_reply : ℕ → PageRef → List ℕ → List ℕ
source_reply seq page text = frame (give_head seq page (length text)) text

unfoldable pub target_request : ℕ → PageRef → List ℕ → List ℕ
target_request seq page text = frame (send_head seq page (length text)) text

unfoldable pub target_reply : ℕ → PageRef → List ℕ → List ℕ
target_reply seq page text = frame (done_head seq page (length text)) []
