-- One answer is true of an input, unless memory runs out.
use Rattle.std.proofs.Common.{◌≡◌, ◌≢◌, ◌⊎◌, ◌∙◌, ℕ, Bool, ◌+◌, ◌-◌, ◌<◌, ◌≤◌, min, List, ◌∷◌, length, sum_by, Result, Ok}
use Rattle.std.proofs.Common.{Err, refl, sym, ap, subst, inl, inr, arith, length-append}
use Rattle.script_head.specs.declared.error.HeadError.{HeadError}
use Rattle.script_head.specs.declared.error.HeadError.TheVariants as fault
use Rattle.script_head.specs.declared.head.ScriptHead.{ScriptHead}
use Rattle.script_head.specs.declared.head.StreamHead.{StreamHead}
use Rattle.script_head.specs.declared.line_plan.LinePlan.{LinePlan}
use Rattle.script_head.specs.declared.member.Member.{Member}
use Rattle.script_head.specs.Head.{byte_count, command_count}
use Rattle.script_head.specs.Head as first
use Rattle.script_head.specs.Answers.{IsOnlyAnswer}
use Rattle.script_head.proofs.OneAnswer as first_line
use Rattle.script_text.specs.declared.error.ScriptError.{ScriptError}
use Rattle.script_text.specs.declared.error.ScriptError.TheVariants.{Bad, NoMemory}
use Rattle.script_head.specs.Limits.{most_calls, most_input}
use Rattle.script_text.specs.declared.script.Script.{Script}
use Rattle.script_text.specs.declared.script.Stream.{Stream}
use Rattle.script_text.specs.declared.what.What.{What}
use Rattle.script_text.specs.declared.what.What.TheVariants as what
use Rattle.script_text.specs.Line.{IsCut, HasNoLine}
use Rattle.script_text.specs.Streams.{stream_length, AreStreams, AreNoStreams}
use Rattle.script_text.specs.Refusals.{line_refusal, IsOtherEnd, AreBad, AnswersBody}
use Rattle.script_text.specs.Script.{IsHeaded, IsScript, HasBadStream, IsNoScript, AnswersInput}
use Rattle.script_text.proofs.LineLemmas.{one_cut, no_cut}
use Rattle.script_text.proofs.StreamsLemmas.{calls_of_all, calls_or_frame}
use Rattle.script_text.proofs.OneStream.{one_list, list_or_none, one_reason_of_all}

-- ---- the bytes behind the first line

body_refusal : (place : ℕ) (heads : List StreamHead) (body : List ℕ) (bad : ℕ) (why : What)
    → AnswersBody place heads body (Err (Bad bad why))
    → (IsOtherEnd (sum_by byte_count heads) place (length body) bad × (why ≡ what.Rest))
    ⊎ ((sum_by byte_count heads ≡ length body) × AreBad place heads body bad why)
body_refusal place heads body bad what.Rest other = inl (other, refl)
body_refusal place heads body bad why none = inr none

-- streams are not bad, and not for two reasons
streams_or_bad : (place : ℕ) (heads : List StreamHead) (body : List ℕ) (ss : List Stream) (bad : ℕ) (why : What)
    → AreStreams heads body ss → sum_by stream_length ss ≤ most_calls
    → AreBad place heads body bad why → ⊥
streams_or_bad place heads body ss bad why are few (inl (many, at, is)) = absurd (omega (arith, calls_of_all heads body ss are))
streams_or_bad place heads body ss bad why are few (inr (most, none)) =
    list_or_none heads (most_calls - sum_by command_count heads) place body ss bad why are
    (omega (arith, calls_of_all heads body ss are)) none

one_badness : (place : ℕ) (heads : List StreamHead) (body : List ℕ) (p q : ℕ) (v w : What) → AreBad place heads body p v
    → AreBad place heads body q w → (p ≡ q) × (v ≡ w)
one_badness place heads body p q v w (inl (many, at, is)) (inl (more, to, too)) = (at ∙ sym to, is ∙ sym too)
one_badness place heads body p q v w (inl (many, at, is)) (inr (most, none)) = absurd (omega arith)
one_badness place heads body p q v w (inr (most, none)) (inl (many, at, is)) = absurd (omega arith)
one_badness place heads body p q v w (inr (most, none)) (inr (few, other)) =
    one_reason_of_all heads (most_calls - sum_by command_count heads) place body p q v w none other

same_refusal : (p q : ℕ) (v w : What) → p ≡ q → v ≡ w → Bad p v ≡ Bad q w
same_refusal p q v w x y = cc

one_body : (place : ℕ) (heads : List StreamHead) (body : List ℕ) (r t : Result (List Stream) ScriptError) → r ≢ Err NoMemory
    → t ≢ Err NoMemory
    → AnswersBody place heads body r → AnswersBody place heads body t → r ≡ t
one_body place heads body (Ok ss) (Ok ts) told also (whole, are, few) (same, be, m) = ap Ok (one_list heads body ss ts are be)
one_body place heads body (Ok ss) (Err (Bad q w)) told also (whole, are, few) y = absurd (not_both (body_refusal place heads body q w y))
  where
    not_both : (IsOtherEnd (sum_by byte_count heads) place (length body) q × (w ≡ what.Rest))
        ⊎ ((sum_by byte_count heads ≡ length body) × AreBad place heads body q w) → ⊥
    not_both (inl (other, is)) = other.0 whole
    not_both (inr (same, none)) = streams_or_bad place heads body ss q w are few none
one_body place heads body (Err (Bad p v)) (Ok ts) told also x (whole, are, few) = absurd (not_both (body_refusal place heads body p v x))
  where
    not_both : (IsOtherEnd (sum_by byte_count heads) place (length body) p × (v ≡ what.Rest))
        ⊎ ((sum_by byte_count heads ≡ length body) × AreBad place heads body p v) → ⊥
    not_both (inl (other, is)) = other.0 whole
    not_both (inr (same, none)) = streams_or_bad place heads body ts p v are few none
one_body place heads body (Err (Bad p v)) (Err (Bad q w)) told also x y =
    ap Err (alike (body_refusal place heads body p v x) (body_refusal place heads body q w y))
  where
    alike : (IsOtherEnd (sum_by byte_count heads) place (length body) p × (v ≡ what.Rest))
        ⊎ ((sum_by byte_count heads ≡ length body) × AreBad place heads body p v)
        → (IsOtherEnd (sum_by byte_count heads) place (length body) q × (w ≡ what.Rest))
        ⊎ ((sum_by byte_count heads ≡ length body) × AreBad place heads body q w)
        → Bad p v ≡ Bad q w
    alike (inl (ends, is)) (inl (end, too)) = same_refusal p q v w (ends.1 ∙ sym end.1) (is ∙ sym too)
    alike (inl (ends, is)) (inr (whole, none)) = absurd (ends.0 whole)
    alike (inr (whole, none)) (inl (ends, is)) = absurd (ends.0 whole)
    alike (inr (whole, none)) (inr (same, other)) =
        let t = one_badness place heads body p q v w none other in same_refusal p q v w t.0 t.1
one_body place heads body (Err NoMemory) t told also x y = absurd (told refl)
one_body place heads body r (Err NoMemory) told also x y = absurd (also refl)

-- ---- the whole input

abbrev script_with : List Stream → List LinePlan → List ℕ → List ℕ → ℕ → ℕ → Bool → Bool → Script
script_with streams lines now volume size replicas opens saves =
    record { streams = streams; lines = lines; now = now; volume = volume; size = size; replicas = replicas; opens = opens; saves = saves }

same_parts : {ss : List Stream} {lines ls : List LinePlan} {now n volume v : List ℕ} {size s replicas r : ℕ} {opens o saves t : Bool}
    → lines ≡ ls → now ≡ n → volume ≡ v → size ≡ s → replicas ≡ r → opens ≡ o → saves ≡ t
    → script_with ss lines now volume size replicas opens saves ≡ script_with ss ls n v s r o t
same_parts a b c d e f g = cc

-- the script of a first line and of streams
abbrev script_of : ScriptHead → List Stream → Script
script_of head streams = script_with streams head.lines head.now head.volume head.size head.replicas head.opens head.saves

is_script_of : (input : List ℕ) (script : Script) (is : IsScript input script) → script ≡ script_of is.head script.streams
is_script_of input script is = same_parts is.lines is.now is.volume is.size is.replicas is.opens is.saves

-- the script of a first line and of what its streams are, or their refusal
with_head : ScriptHead → Result (List Stream) ScriptError → Result Script ScriptError
with_head head (Ok streams) = Ok (script_of head streams)
with_head head (Err e) = Err e

-- what the first line is, and then the rest, gives the answer
Follows : List ℕ → List ℕ → Result ScriptHead HeadError → Result Script ScriptError → Type 0
Follows line body (Ok head) a = (r : Result (List Stream) ScriptError) × AnswersBody (length line + 1) head.streams body r
    × (r ≢ Err NoMemory) × (a ≡ with_head head r)
Follows line body (Err e) a = a ≡ Err (line_refusal e)

-- where an answer comes from
data Comes (input : List ℕ) (a : Result Script ScriptError) : Type 0 where
  too_long : most_input < length input → a ≡ Err (Bad most_input what.Input) → Comes input a
  no_line : length input ≤ most_input → HasNoLine input → a ≡ Err (Bad 0 what.Line) → Comes input a
  from_line : (line body : List ℕ) (h : Result ScriptHead HeadError) → IsCut input line body → h ≢ Err fault.NoMemory
      → first.AnswersLine line h → Follows line body h a → Comes input a

length-cut : (input line body : List ℕ) → IsCut input line body → length input ≡ length line + 1 + length body
length-cut input line body cut = omega (arith, ap length cut.whole, length-append line (10 ∷ body))

script_memory : {A : Type 0} {p : ℕ} {v : What} → ◌≡◌ {A = Result A ScriptError} (Err (Bad p v)) (Err NoMemory) → ⊥
script_memory e = cc

ok_memory : {A : Type 0} {x : A} → ◌≡◌ {A = Result A ScriptError} (Ok x) (Err NoMemory) → ⊥
ok_memory e = cc

head_ok : {A : Type 0} {x : A} → ◌≡◌ {A = Result A HeadError} (Ok x) (Err fault.NoMemory) → ⊥
head_ok e = cc

head_json : {A : Type 0} → ◌≡◌ {A = Result A HeadError} (Err fault.Json) (Err fault.NoMemory) → ⊥
head_json e = cc

head_bad : {A : Type 0} {m : Member} → ◌≡◌ {A = Result A HeadError} (Err (fault.BadMember m)) (Err fault.NoMemory) → ⊥
head_bad e = cc

comes : (input : List ℕ) (a : Result Script ScriptError) → a ≢ Err NoMemory → AnswersInput input a → Comes input a
unfolding Follows with_head
comes input (Ok script) told is =
    from_line is.line is.body (Ok is.head) is.headed.cut head_ok is.headed.says
    (Ok script.streams, (is.whole, is.streams, is.calls), ok_memory, ap Ok (is_script_of input script is))
comes input (Err (Bad place what.Input)) told (long, at) = too_long long (ap (λ p. Err (Bad p what.Input)) at)
comes input (Err (Bad place what.Line)) told (most, none, at) = no_line most none (ap (λ p. Err (Bad p what.Line)) at)
comes input (Err (Bad place what.Json)) told (line, body, cut, none, at) =
    from_line line body (Err fault.Json) cut head_json none (ap (λ p. Err (Bad p what.Json)) at)
comes input (Err (Bad place (what.Member m))) told (line, body, cut, bad, at) =
    from_line line body (Err (fault.BadMember m)) cut head_bad bad (ap (λ p. Err (Bad p (what.Member m))) at)
comes input (Err (Bad place what.Rest)) told (line, body, head, headed, other, at) =
    from_line line body (Ok head) headed.cut head_ok headed.says (
      Err (Bad place what.Rest),
      (other, at ∙ ap (λ n. min n (length line + 1 + sum_by byte_count head.streams)) (length-cut input line body headed.cut)),
      script_memory,
      refl,
    )
comes input (Err (Bad place what.Calls)) told (inl ((line, body, head, headed, whole, many), at)) =
    from_line line body (Ok head) headed.cut head_ok headed.says
    (Err (Bad place what.Calls), (whole, inl (many, at, refl)), script_memory, refl)
comes input (Err (Bad place what.Calls)) told (inr (line, body, head, headed, whole, few, none)) =
    from_line line body (Ok head) headed.cut head_ok headed.says (Err (Bad place what.Calls), (whole, inr (few, none)), script_memory, refl)
comes input (Err (Bad place what.Frame)) told (line, body, head, headed, whole, few, none) =
    from_line line body (Ok head) headed.cut head_ok headed.says (Err (Bad place what.Frame), (whole, inr (few, none)), script_memory, refl)
comes input (Err NoMemory) told free = absurd (told refl)

one_follows : (line body : List ℕ) (h : Result ScriptHead HeadError) (a b : Result Script ScriptError)
    → Follows line body h a → Follows line body h b → a ≡ b
unfolding Follows
one_follows line body (Ok head) a b (r, x, told, is) (t, y, also, too) =
    is ∙ ap (with_head head) (one_body (length line + 1) head.streams body r t told also x y) ∙ sym too
one_follows line body (Err e) a b is too = is ∙ sym too

same_head : (line : List ℕ) (h k : Result ScriptHead HeadError) → h ≢ Err fault.NoMemory → k ≢ Err fault.NoMemory
    → first.AnswersLine line h → first.AnswersLine line k → h ≡ k
same_head line h k told also x y = by_cases (first_line.one_answer line h x k also y)
  where
    by_cases : (h ≡ k) ⊎ (h ≡ Err fault.NoMemory) → h ≡ k
    by_cases (inl same) = same
    by_cases (inr memory) = absurd (told memory)

one_source : (input : List ℕ) (a b : Result Script ScriptError) → Comes input a → Comes input b → a ≡ b
one_source input a b (too_long long is) (too_long also too) = is ∙ sym too
one_source input a b (too_long long is) (no_line most none too) = absurd (omega arith)
one_source input a b (too_long long is) (from_line line body h cut told says follows) = absurd (omega (arith, long, cut.most))
one_source input a b (no_line most none is) (too_long also too) = absurd (omega arith)
one_source input a b (no_line most none is) (no_line few nothing too) = is ∙ sym too
one_source input a b (no_line most none is) (from_line line body h cut told says follows) = absurd (no_cut input line body none cut)
one_source input a b (from_line line body h cut told says follows) (too_long also too) = absurd (omega (arith, also, cut.most))
one_source input a b (from_line line body h cut told says follows) (no_line few nothing too) = absurd (no_cut input line body nothing cut)
one_source input a b (from_line line body h cut told says follows) (from_line row rest k other also speaks after) =
    let same = one_cut input line body row rest cut other in
    let heads = same_head row h k told also (subst (λ l. first.AnswersLine l h) same.0 says) speaks in
    let along = subst (λ l. Follows l body h a) same.0 follows in
    let behind = subst (λ l. Follows row l h a) same.1 along in
    one_follows row rest k a b (subst (λ x. Follows row rest x a) heads behind) after

pub one_truth : (input : List ℕ) (a b : Result Script ScriptError) → a ≢ Err NoMemory → b ≢ Err NoMemory
    → AnswersInput input a → AnswersInput input b → a ≡ b
one_truth input a b told also is too = one_source input a b (comes input a told is) (comes input b also too)

pub not_both : (input : List ℕ) (script : Script) (place : ℕ) (why : What) → IsScript input script → IsNoScript input place why → ⊥
not_both input script place why is none = apart (one_truth input (Ok script) (Err (Bad place why)) ok_memory script_memory is none)
  where
    apart : ◌≡◌ {A = Result Script ScriptError} (Ok script) (Err (Bad place why)) → ⊥
    apart e = cc

pub one_script : (input : List ℕ) (a b : Script) → IsScript input a → IsScript input b → a ≡ b
one_script input a b is too = inside (one_truth input (Ok a) (Ok b) ok_memory ok_memory is too)
  where
    inside : ◌≡◌ {A = Result Script ScriptError} (Ok a) (Ok b) → a ≡ b
    inside e = cc

pub one_refusal : (input : List ℕ) (p q : ℕ) (v w : What) → IsNoScript input p v → IsNoScript input q w → (p ≡ q) × (v ≡ w)
one_refusal input p q v w is too = inside (one_truth input (Err (Bad p v)) (Err (Bad q w)) script_memory script_memory is too)
  where
    place : ◌≡◌ {A = Result Script ScriptError} (Err (Bad p v)) (Err (Bad q w)) → p ≡ q
    place e = cc

    reason : ◌≡◌ {A = Result Script ScriptError} (Err (Bad p v)) (Err (Bad q w)) → v ≡ w
    reason e = cc

    inside : ◌≡◌ {A = Result Script ScriptError} (Err (Bad p v)) (Err (Bad q w)) → (p ≡ q) × (v ≡ w)
    inside e = (place e, reason e)

pub one_answer : (input : List ℕ) (a : Result Script ScriptError) → AnswersInput input a → IsOnlyAnswer NoMemory (AnswersInput input) a
one_answer input (Ok script) is = λ b told too. inl (one_truth input _ b ok_memory told is too)
one_answer input (Err (Bad place why)) is = λ b told too. inl (one_truth input _ b script_memory told is too)
one_answer input (Err NoMemory) is = λ b told too. inr refl

-- ---- a refusal of the bytes behind the first line, as one of the input

bad_streams : (input line body : List ℕ) (head : ScriptHead) (place : ℕ) (why : What) → IsHeaded input line body head
    → sum_by byte_count head.streams ≡ length body
    → sum_by command_count head.streams ≤ most_calls
    → AreNoStreams (most_calls - sum_by command_count head.streams) (length line + 1) head.streams body place why
    → (why ≡ what.Calls) ⊎ (why ≡ what.Frame) → IsNoScript input place why
bad_streams input line body head place why headed whole few none (inl calls) =
    subst (IsNoScript input place) (sym calls) (inr (subst (HasBadStream input place) calls (line, body, head, headed, whole, few, none)))
bad_streams input line body head place why headed whole few none (inr frame) =
    subst (IsNoScript input place) (sym frame) (subst (HasBadStream input place) frame (line, body, head, headed, whole, few, none))

bad_body : (input line body : List ℕ) (head : ScriptHead) (place : ℕ) (why : What) → IsHeaded input line body head
    → sum_by byte_count head.streams ≡ length body
    → AreBad (length line + 1) head.streams body place why → IsNoScript input place why
bad_body input line body head place why headed whole (inl (many, at, calls)) =
    subst (IsNoScript input place) (sym calls) (inl ((line, body, head, headed, whole, many), at))
bad_body input line body head place why headed whole (inr (few, none)) =
    bad_streams input line body head place why headed whole few none
    (calls_or_frame head.streams (most_calls - sum_by command_count head.streams) (length line + 1) body place why none)

pub refused_behind : (input line body : List ℕ) (head : ScriptHead) (e : ScriptError) → IsCut input line body → first.Says line head
    → AnswersBody (length line + 1) head.streams body (Err e) → AnswersInput input (Err e)
refused_behind input line body head NoMemory cut says free = free
refused_behind input line body head (Bad place why) cut says no_body =
    by_cases (body_refusal (length line + 1) head.streams body place why no_body)
  where
    headed : IsHeaded input line body head
    headed = record { cut = cut; says = says }

    by_cases : (IsOtherEnd (sum_by byte_count head.streams) (length line + 1) (length body) place × (why ≡ what.Rest))
        ⊎ ((sum_by byte_count head.streams ≡ length body) × AreBad (length line + 1) head.streams body place why)
        → IsNoScript input place why
    by_cases (inl (other, rest)) =
        subst (IsNoScript input place) (sym rest) (
          line,
          body,
          head,
          headed,
          other.0,
          other.1 ∙ ap (λ n. min n (length line + 1 + sum_by byte_count head.streams))
              (sym (length-cut input line body cut)),
        )
    by_cases (inr (whole, none)) = bad_body input line body head place why headed whole none
