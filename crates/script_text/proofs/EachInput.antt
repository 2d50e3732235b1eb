-- Each input is a script, or is refused for something at a place.
use Rattle.std.proofs.Common.{◌≡◌, ◌≢◌, ◌⊎◌, ℕ, ◌+◌, ◌-◌, ◌<◌, ◌≤◌, ◌==◌, min, List, length, take, drop, sum_by}
use Rattle.std.proofs.Common.{Ok, Err, Option, Some, None, position, inl, inr, refl}
use Rattle.std.proofs.lemmas.Bool.{cases_lt, cases_eq}
use Rattle.script_head.specs.declared.error.HeadError.TheVariants as fault
use Rattle.script_head.specs.declared.head.ScriptHead.{ScriptHead}
use Rattle.script_head.specs.declared.head.StreamHead.{StreamHead}
use Rattle.script_head.specs.Limits.{most_calls, most_input, longest_line}
use Rattle.script_head.specs.Head.{byte_count, command_count, Says}
use Rattle.script_head.proofs.EachLine.{SaysOrIsRefused, says_or_refused}
use Rattle.script_text.specs.declared.error.ScriptError.TheVariants.{Bad}
use Rattle.script_text.specs.declared.script.Script.{Script}
use Rattle.script_text.specs.declared.script.Stream.{Stream}
use Rattle.script_text.specs.declared.what.What.{What}
use Rattle.script_text.specs.declared.what.What.TheVariants as what
use Rattle.script_text.specs.Line.{IsCut}
use Rattle.script_text.specs.Refusals.{AnswersBody}
use Rattle.script_text.specs.Script.{IsScript, IsNoScript}
use Rattle.script_text.proofs.KnownFrames.{AreStreamsOrNone, known_streams}
use Rattle.script_text.proofs.LineLemmas.{HasNoLine-from_position, IsCut-from_position}
use Rattle.script_text.proofs.OneAnswer.{refused_behind}
use Rattle.script_text.proofs.StreamsLemmas.{answers_body}

-- ---- the bytes behind the first line

-- streams that are all of the bytes, or what is wrong with these
abbrev IsBodyOrNone : ℕ → List StreamHead → List ℕ → Type 0
IsBodyOrNone place heads body =
    ((streams : List Stream) × AnswersBody place heads body (Ok streams))
    ⊎ ((bad : ℕ) × (why : What) × AnswersBody place heads body (Err (Bad bad why)))

known_body : (place : ℕ) (heads : List StreamHead) (body : List ℕ) → IsBodyOrNone place heads body
known_body place heads body = of_bytes (cases_eq (sum_by byte_count heads) (length body))
  where
    of_streams : sum_by byte_count heads ≡ length body → sum_by command_count heads ≤ most_calls
        → AreStreamsOrNone (most_calls - sum_by command_count heads) place heads body → IsBodyOrNone place heads body
    of_streams whole few (inl (ss, are, most)) = inl (ss, answers_body place heads body _ (Ok ss) whole few refl (are, most))
    of_streams whole few (inr (bad, why, none)) = inr (bad, why, answers_body place heads body _ (Err (Bad bad why)) whole few refl none)

    of_commands : sum_by byte_count heads ≡ length body
        → (most_calls < sum_by command_count heads) ⊎ (sum_by command_count heads ≤ most_calls) → IsBodyOrNone place heads body
    of_commands whole (inl many) = inr (0, what.Calls, (whole, inl (many, refl, refl)))
    of_commands whole (inr few) = of_streams whole few (known_streams heads _ place body)

    of_bytes : (sum_by byte_count heads ≡ length body) ⊎ (sum_by byte_count heads ≢ length body) → IsBodyOrNone place heads body
    of_bytes (inl whole) = of_commands whole (cases_lt most_calls (sum_by command_count heads))
    of_bytes (inr other) = inr (min (place + length body) (place + sum_by byte_count heads), what.Rest, (other, refl))

-- ---- the whole input

module _ (input : List ℕ) where
  abbrev IsScriptOrNone : Type 0
  IsScriptOrNone = ((script : Script) × IsScript input script) ⊎ ((place : ℕ) × (why : What) × IsNoScript input place why)

  of_body : (line body : List ℕ) (head : ScriptHead) → IsCut input line body → Says line head
      → IsBodyOrNone (length line + 1) head.streams body → IsScriptOrNone
  of_body line body head cut says (inr (bad, why, none)) = inr (bad, why, refused_behind input line body head (Bad bad why) cut says none)
  of_body line body head cut says (inl (streams, (whole, are, few))) =
      inl (
        record {
          streams = streams;
          lines = head.lines;
          now = head.now;
          volume = head.volume;
          size = head.size;
          replicas = head.replicas;
          opens = head.opens;
          saves = head.saves;
        },
        record {
          line = line;
          body = body;
          head = head;
          headed = record { cut = cut; says = says };
          lines = refl;
          now = refl;
          volume = refl;
          size = refl;
          replicas = refl;
          opens = refl;
          saves = refl;
          whole = whole;
          streams = are;
          calls = few;
        },
      )

  of_line : (line body : List ℕ) → IsCut input line body → SaysOrIsRefused line → IsScriptOrNone
  of_line line body cut (inl (head, says)) = of_body line body head cut says (known_body (length line + 1) head.streams body)
  of_line line body cut (inr (fault.Json, told, none)) = inr (0, what.Json, (line, body, cut, none, refl))
  of_line line body cut (inr (fault.BadMember m, told, bad)) = inr (0, what.Member m, (line, body, cut, bad, refl))
  of_line line body cut (inr (fault.NoMemory, told, free)) = absurd (told refl)

  of_feed : length input ≤ most_input → (found : Option ℕ)
      → found ≡ position (λ byte. byte == 10) (take longest_line input) → IsScriptOrNone
  of_feed most None is = inr (0, what.Line, (most, HasNoLine-from_position input None is, refl))
  of_feed most (Some n) is =
      of_line (take n input) (drop (n + 1) input) (IsCut-from_position input (Some n) most is).0 (says_or_refused (take n input))

  of_length : (most_input < length input) ⊎ (length input ≤ most_input) → IsScriptOrNone
  of_length (inl long) = inr (most_input, what.Input, (long, refl))
  of_length (inr most) = of_feed most _ refl

  pub script_or_refused : IsScriptOrNone
  script_or_refused = of_length (cases_lt most_input (length input))
