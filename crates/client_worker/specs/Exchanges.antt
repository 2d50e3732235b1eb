-- What lines carry of a call, where they tell it: the exchange of a request and its reply.
use Rattle.std.specs.Prelude.{◌≡◌, ℕ, ◌<◌, ℤ, List, [], ◌∷◌, ◌++◌, length, All, Option, None, slice_index_or, IfSome}
use Rattle.vol_units.specs.declared.range.BlockRange.{BlockRange}
use Rattle.frame_wire.specs.Spelling.{IsFrame}
use Rattle.volume_model.specs.declared.call.Call.{Call}
use Rattle.volume_model.specs.declared.call.Call.TheVariants as call
use Rattle.volume_model.specs.declared.call.Reply.{Reply}
use Rattle.volume_model.specs.declared.call.Reply.TheVariants as reply
use Rattle.volume_model.specs.declared.entry.Entry.{Entry}
use Rattle.volume_model.specs.declared.entry.Entry.TheVariants as entry
use Rattle.volume_model.specs.declared.mode.Mode.{Mode}
use Rattle.volume_model.specs.declared.mode.Mode.TheVariants.{Rw}
use Rattle.volume_model.specs.Modes.{mode_of, modes_after_entry}
use Rattle.step_answers.specs.declared.parts.Part.TheVariants.{Acked}
use Rattle.step_answers.specs.Parts.{part_at}
use Rattle.stream_steps.specs.Mine.{OwnCall, Placed}
use Rattle.stream_steps.specs.Steps.{IsRounded}
use Rattle.client_worker.specs.Frames.{read_request, read_reply, write_request, write_reply}

-- what the line to a replica tells that it carried
abbrev pub told_in : List (Option (List (List ℕ))) → ℕ → Option (List (List ℕ))
told_in carried r = slice_index_or carried r None

-- each line that tells has carried nothing but whole frames
abbrev pub CarryFrames : (ℕ → Option (List (List ℕ))) → Type 0
CarryFrames told = (r : ℕ) → IfSome (told r) (All IsFrame)

-- ---- exchanges

-- the request came through, and the reply right behind it
abbrev pub HasExchange : List ℕ → List ℕ → List (List ℕ) → Type 0
HasExchange request reply frames = (front back : List (List ℕ)) × (frames ≡ front ++ request ∷ reply ∷ back)

-- a read from the offset on, with these bytes in the reply
abbrev pub HasRead : ℤ → List ℕ → List (List ℕ) → Type 0
HasRead offset bytes frames =
    (seq : ℕ) × HasExchange (read_request seq offset (length bytes)) (read_reply seq offset bytes) frames

-- a write of whole blocks, from that block on
abbrev pub HasBlocks : ℕ → List ℕ → List (List ℕ) → Type 0
HasBlocks first whole frames =
    (seq : ℕ) × HasExchange (write_request seq first whole) (write_reply seq first (length whole)) frames

-- a write of these bytes, rounded outward to whole blocks
pub record HasWrite (offset : ℤ) (bytes : List ℕ) (frames : List (List ℕ)) : Type 0 where
  pub range : BlockRange
  pub whole : List ℕ
  pub rounded : IsRounded offset bytes range whole
  pub has : HasBlocks range.first whole frames

-- ---- of the open call

-- what the line to a replica carried of it that has acknowledged
abbrev pub HasPart : Call → List ℕ → List (List ℕ) → Type 0
HasPart (call.Read offset n) buffer frames = HasRead offset buffer frames
HasPart (call.Write offset bytes) buffer frames = HasWrite offset bytes frames
HasPart c buffer frames = Unit {0}

-- each replica that has acknowledged had its exchange
abbrev pub AreAcked : (ℕ → Option (List (List ℕ))) → OwnCall → Type 0
AreAcked told o = (r : ℕ) → part_at o.parts r ≡ Acked → IfSome (told r) (HasPart o.call o.buffer)

-- ---- of answered calls

-- A write that was done has its exchange whole on the line to each replica that is read and written there, and a read
-- that gave bytes has it whole on one line, with these bytes.
abbrev pub CarriedOf : ℕ → (ℕ → Option (List (List ℕ))) → List Mode → Call → Reply → Type 0
CarriedOf replicas told modes (call.Read offset n) (reply.Read bytes) =
    (r : ℕ) × (r < replicas) × IfSome (told r) (HasRead offset bytes)
CarriedOf replicas told modes (call.Write offset bytes) reply.Done =
    (r : ℕ) → mode_of modes r ≡ Rw → IfSome (told r) (HasWrite offset bytes)
CarriedOf replicas told modes c r = Unit {0}

-- of an entry of the stream whose lines these are
abbrev pub IsCarried : ℕ → (ℕ → Option (List (List ℕ))) → List Mode → Entry → Type 0
IsCarried replicas told modes (entry.Answer a) = CarriedOf replicas told modes a.call a.reply
IsCarried replicas told modes (entry.Mark m) = Unit {0}

abbrev pub AreCarried : ℕ → (ℕ → Option (List (List ℕ))) → List Placed → Type 0
AreCarried replicas told ps = All (λ (p : Placed). IsCarried replicas told p.spot.modes p.entry) ps

-- ---- of a journal

-- of an entry, where each stream's lines tell that
abbrev pub CarriedHere : ℕ → (ℕ → ℕ → Option (List (List ℕ))) → List Mode → Entry → Type 0
CarriedHere replicas carried modes (entry.Answer a) = CarriedOf replicas (carried a.stream) modes a.call a.reply
CarriedHere replicas carried modes (entry.Mark m) = Unit {0}

-- of each entry of a journal, with replicas of these modes before the first
abbrev pub ExchangesShown : ℕ → (ℕ → ℕ → Option (List (List ℕ))) → List Mode → List Entry → Type 0
ExchangesShown replicas carried modes [] = Unit {0}
ExchangesShown replicas carried modes (e ∷ es) =
    CarriedHere replicas carried modes e × ExchangesShown replicas carried (modes_after_entry modes e) es
