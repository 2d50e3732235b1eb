use Rattle.std.proofs.Common.{◌≡◌, ◌≢◌, ◌∙◌, ◌+◌, ◌≤◌, List, ℕ, [], length, refl, sym, ap, subst, inl, inr, arith}
use Rattle.std.specs.Prelude.{IfNone}
use Rattle.std.proofs.Math.Seq.{take-length}
use Rattle.std.proofs.lemmas.List.Elements.{All-nil}
use Rattle.std.proofs.lemmas.Slice.{between_is}
use Rattle.frame_stream.specs.declared.frame.Frame.{Frame}
use Rattle.frame_stream.specs.Frames.{IsCall, BeginWithCalls, BeginsWithFrame, HasNoFrame}
use Rattle.script_text.specs.Streams.{IsEnd}
use Rattle.script_text.proofs.KeptLemmas.{kept_calls}
use Rattle.script_text.proofs.StreamLemmas.{no_bytes, in_front, closes, is_no_close}
use Rattle.script_text.proofs.StreamLemmas.{one_more_read, bad_here, bad_behind_close, call_too_many}
use Rattle.script_text.proofs.stream.read_stream.Goals as goal
use Rattle.script_text.proofs.stream.read_stream.Goals.{else-loop-left-test}
use Rattle.script_text.proofs.stream.read_stream.Goals.{then-loop-left-test+in_ok-head+in-Some+then-head-eq-CLOSE+then-len-eq0}

pub loop-left-init : goal.loop-left-init
loop-left-init c =
    let whole : c.of-left.result ≡ c.args.bytes =
    c.of-left.ensures ∙ c.in_ok-slice.ensures.ok ∙ between_is c.args.bytes 0 (length c.args.bytes) ∙ take-length c.args.bytes in
    record {
      read = ([], record { calls = All-nil IsCall; text = sym whole }, refl, omega arith);
      end = ap (λ n. c.args.place + n) c.len.ensures.value;
    }

pub returns-in-None : goal.returns-in-None
returns-in-None c =
    let read = c.loop-left.invariant.read in
    let rest = c.loop-left.left in
    let none = subst (λ next. IfNone next (HasNoFrame rest)) c.in-None.is c.in_ok-head.ensures.none in
    let some : rest ≢ [] = λ nothing. omega (arith, c.loop-left-test.true, c.len-in-loop-left.ensures, ap length nothing) in
    rw c.len-in-loop-left-2.ensures
    (bad_here c.args.room c.args.place (c.args.place + c.len.result) c.args.bytes read.0 rest read.1 read.3
    c.loop-left.invariant.end some none)

pub returns-then-head-eq-CLOSE : goal.returns-then-head-eq-CLOSE
returns-then-head-eq-CLOSE c =
    let read = c.loop-left.invariant.read in
    let rest = c.loop-left.left in
    let more = c.next_head.new.self in
    let front = in_front rest more c.in_ok-head.field-0 c.in-Some.head c.in-Some.is c.in_ok-head.ensures.some in
    let some : more ≢ [] = λ none. c.if-len-eq0.false (c.len-then-head-eq-CLOSE.ensures ∙ ap length none) in
    rw c.len-then-head-eq-CLOSE-2.ensures
    (bad_behind_close c.args.room c.args.place (c.args.place + c.len.result) c.args.bytes read.0 rest read.1 read.3
    c.loop-left.invariant.end front.0 more front.2 (closes c.in-Some.head front.0 front.1 c.if-head-eq-CLOSE.true) some)

pub returns-then-count-room : goal.returns-then-count-room
returns-then-count-room c =
    let read = c.loop-left.invariant.read in
    let rest = c.loop-left.left in
    let more = c.next_head.new.self in
    let front = in_front rest more c.in_ok-head.field-0 c.in-Some.head c.in-Some.is c.in_ok-head.ensures.some in
    rw c.len-in-loop-left-2.ensures
    (call_too_many c.args.room c.args.place (c.args.place + c.len.result) c.args.bytes read.0 rest read.1 read.3
    c.loop-left.invariant.end front.0 more front.2 (is_no_close c.in-Some.head front.0 front.1 c.if-head-eq-CLOSE.false)
    (omega (arith, c.if-count-room.true, read.2)))

pub loop-left-preserved : goal.loop-left-preserved
loop-left-preserved c =
    let rest = c.loop-left.left in
    let more = c.next_head.new.self in
    let front = in_front rest more c.in_ok-head.field-0 c.in-Some.head c.in-Some.is c.in_ok-head.ensures.some in
    record {
      read = one_more_read c.args.room c.args.bytes c.loop-left.count rest more front.0 c.loop-left.invariant.read front.2
          (is_no_close c.in-Some.head front.0 front.1 c.if-head-eq-CLOSE.false) (omega (arith, c.if-count-room.false));
      end = c.loop-left.invariant.end;
    }

pub of-requires : goal.of-requires
of-requires c =
    let read = c.loop-left.invariant.read in
    (kept_calls c.loop-left.count read.0 c.args.bytes c.loop-left.left read.1 read.2).0

pub returns : goal.returns
returns c =
    let read = c.loop-left.invariant.read in
    let rest = c.loop-left.left in
    let end : IsEnd rest =
    elim c.loop-left-test.branch [
      | else-loop-left-test w ↦
          inl (no_bytes rest (omega (arith, w.loop-left-test.false, c.len-in-loop-left.ensures)))
      | then-loop-left-test+in_ok-head+in-Some+then-head-eq-CLOSE+then-len-eq0 w ↦
          let more = w.next_head.new.self in
          let front = in_front rest more w.in_ok-head.field-0 w.in-Some.head w.in-Some.is w.in_ok-head.ensures.some in
          let none : more ≡ [] = no_bytes more (sym w.len-then-head-eq-CLOSE.ensures ∙ w.if-len-eq0.true) in
          inr (front.0, subst (BeginsWithFrame rest front.0) none front.2, closes w.in-Some.head front.0 front.1 w.if-head-eq-CLOSE.true)
    ] in
    subst (λ (fs : List Frame). ((x : List ℕ) × BeginWithCalls c.args.bytes fs x × IsEnd x) × (length fs ≤ c.args.room))
    (sym (c.of.ensures ∙ (kept_calls c.loop-left.count read.0 c.args.bytes rest read.1 read.2).1)) ((rest, read.1, end), read.3)
