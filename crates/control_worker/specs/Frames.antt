-- The frames of a command on a line to a replica: a request that tells what to do as a text, and the replica's reply
-- with the same number. The texts are this project's own.
use Rattle.std.specs.Prelude.{◌≡◌, ℕ, ◌+◌, ◌≤◌, ℤ, pos, List, [], ◌++◌, length, drop, codes}
use Rattle.vol_units.specs.declared.size.TheConstants.{PAGE_BYTES}
use Rattle.volume_model.specs.declared.mark.FoldOrDrop.TheVariants as part
use Rattle.step_answers.specs.declared.whole_op.WholeOp.{WholeOp}
use Rattle.step_answers.specs.declared.whole_op.WholeOp.TheVariants as whole
use Rattle.frame_stream.specs.Asked.{ping_kind, read_kind}
use Rattle.frame_wire.specs.declared.head.Head.{Head}
use Rattle.frame_wire.specs.Spelling.{header_length, frame}
use Rattle.client_worker.specs.Frames.{response_kind}
use Rattle.client_worker.specs.Exchanges.{HasExchange}

-- ---- the texts

-- two names, which one space parts
abbrev pub pair_text : List ℕ → List ℕ → List ℕ
pair_text p c = p ++ (codes " " ++ c)

-- what a replica is asked as its part of what is done to the whole volume: of a barrier, but for the snapshot's name
abbrev pub part_text : WholeOp → List ℕ
part_text (whole.Snapshot name) = codes "snapshot " ++ name
part_text (whole.Remove name) = codes "remove " ++ name
part_text (whole.Revert name) = codes "revert " ++ name
part_text (whole.Purge (part.Fold p c)) = codes "replace " ++ pair_text p c
part_text (whole.Purge (part.Drop p)) = codes "delete " ++ p
part_text (whole.Barrier r) = codes "snapshot "

-- it is asked by that text
abbrev pub IsPartText : WholeOp → List ℕ → Type 0
IsPartText (whole.Barrier r) text = (name : List ℕ) × (text ≡ codes "snapshot " ++ name)
IsPartText op text = text ≡ part_text op

-- what it is asked of a page, where the first of two layers takes the blocks of the second
abbrev pub fold_text : List ℕ → List ℕ → List ℕ
fold_text p c = codes "fold " ++ pair_text p c

-- the longest text: its word, two names of 64 bytes, and a space
abbrev pub longest_text : ℕ
longest_text = 8 + 64 + 1 + 64

-- ---- the frames

-- asks with so many bytes of text, at that place of the volume
abbrev pub ask_head : ℕ → ℤ → ℕ → Head
ask_head seq offset n = record { seq = seq; kind = ping_kind; offset = offset; size = 0; len = n }

-- it is done
abbrev pub done_head : ℕ → ℤ → Head
done_head seq offset = record { seq = seq; kind = response_kind; offset = offset; size = 0; len = 0 }

-- asks by that text
abbrev pub ask_request : ℕ → ℤ → List ℕ → List ℕ
ask_request seq offset text = frame (ask_head seq offset (length text)) text

-- tells that it is done
abbrev pub done_reply : ℕ → ℤ → List ℕ
done_reply seq offset = frame (done_head seq offset) []

-- a replica's part of what is done to the whole volume
abbrev pub part_request : ℕ → List ℕ → List ℕ
part_request seq text = ask_request seq (pos 0) text

abbrev pub part_reply : ℕ → List ℕ
part_reply seq = done_reply seq (pos 0)

-- asks for so many bytes of a snapshot's copy, from that place on, by its name
abbrev pub page_head : ℕ → ℤ → ℕ → ℕ → Head
page_head seq offset size n = record { seq = seq; kind = read_kind; offset = offset; size = size; len = n }

abbrev pub page_request : ℕ → ℤ → List ℕ → List ℕ
page_request seq offset name = frame (page_head seq offset PAGE_BYTES (length name)) name

-- the page that a reply gives, behind the header
abbrev pub page_in : List ℕ → List ℕ
page_in reply = drop header_length reply

-- ---- on a line

-- the exchange by that text was carried, at that place of the volume
abbrev pub HasAsked : ℤ → List ℕ → List (List ℕ) → Type 0
HasAsked offset text frames = (seq : ℕ) × HasExchange (ask_request seq offset text) (done_reply seq offset) frames

-- the exchange for a replica's part was carried
abbrev pub HasPartAsked : WholeOp → List (List ℕ) → Type 0
HasPartAsked op frames = (text : List ℕ) × IsPartText op text × HasAsked (pos 0) text frames

-- a place for its header, and a text that is not too long
pub record IsRequest (request : List ℕ) : Type 0 where
  pub header : header_length ≤ length request
  pub few : length request ≤ header_length + longest_text

-- behind the place for its header, a request has that text
pub record AsksBy (text request : List ℕ) : Type 0 where
  pub is : IsRequest request
  pub tells : drop header_length request ≡ text

-- it is a request still, with the same text
pub record KeepsText (request request2 : List ℕ) : Type 0 where
  pub is : IsRequest request2
  pub text : drop header_length request2 ≡ drop header_length request

-- it asks for a replica's part
abbrev pub AsksPart : WholeOp → List ℕ → Type 0
AsksPart op request = (text : List ℕ) × IsPartText op text × AsksBy text request
