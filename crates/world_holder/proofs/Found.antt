-- What the holder of a stream's seat finds of its own in the World, after others' steps.
use Rattle.std.proofs.Common.{◌≡◌, ◌≢◌, ℕ, zero, suc, ◌<◌, Bool, true, false, cond, eqb, List, [], ◌∷◌, ◌++◌, length}
use Rattle.std.proofs.Common.{map, filter, Option, Some, append-nil, eq-eqb, ne_eqb, sym, refl, ap, ◌∙◌, subst, arith}
use Rattle.std.proofs.lemmas.List.{append_cancel_left}
use Rattle.volume_model.specs.declared.entry.Entry.{Entry}
use Rattle.range_turns.specs.declared.ticket.Ticket.{Ticket}
use Rattle.open_calls.specs.declared.open_call.OpenCall.{OpenCall}
use Rattle.step_answers.specs.declared.parts.Part.{Part}
use Rattle.open_calls.specs.declared.maint.MaintCall.{MaintCall}
use Rattle.open_calls.specs.declared.whole.Whole.{Whole}
use Rattle.open_calls.specs.Maint.{command_at, HasNoCommand}
use Rattle.volume_core.specs.State.{State, gave_up_at}
use Rattle.volume_core.specs.Sound.{IsSound}
use Rattle.volume_core.specs.Streams.{running, turning, commands_in}
use Rattle.desk_lock.specs.Account.{Each, Finds, is_stream}
use Rattle.desk_lock.proofs.Lists.{entries_of-append}
use Rattle.world_holder.specs.declared.kept.WorldOnDesk.{WorldOnDesk}
use Rattle.world_holder.specs.Laid.{Running, GaveUp, Turn, Call, gave_up_of, MayCountOn, stream_of, parts_for, turn_of}
use Rattle.world_holder.specs.Laid.{call_of, running_of, parts_of, laid, world_account, IsLater}
use Rattle.world_holder.specs.Counted.{CountsOn, KeepsCopies}

-- ---- what is open, by its kind

abbrev turns_in : List Running → List (Ticket × MaintCall)
turns_in [] = []
turns_in (GaveUp ∷ rs) = turns_in rs
turns_in (Turn t c ∷ rs) = (t, c) ∷ turns_in rs
turns_in (Call t c ps ∷ rs) = turns_in rs

abbrev calls_of : List Running → List (Ticket × OpenCall)
calls_of [] = []
calls_of (GaveUp ∷ rs) = calls_of rs
calls_of (Turn t c ∷ rs) = calls_of rs
calls_of (Call t c ps ∷ rs) = (t, c) ∷ calls_of rs

abbrev parts_in : List Running → List (List Part)
parts_in [] = []
parts_in (GaveUp ∷ rs) = parts_in rs
parts_in (Turn t c ∷ rs) = parts_in rs
parts_in (Call t c ps ∷ rs) = ps ∷ parts_in rs

abbrev gave_up_in : List Running → Bool
gave_up_in [] = false
gave_up_in (GaveUp ∷ rs) = true
gave_up_in (Turn t c ∷ rs) = gave_up_in rs
gave_up_in (Call t c ps ∷ rs) = gave_up_in rs

module _ (w : Option Whole) where
  turns_in-calls : (cs : List (Ticket × OpenCall)) → turns_in (map (call_of w) cs) ≡ []
  turns_in-calls [] = refl
  turns_in-calls (c ∷ cs) = turns_in-calls cs

  turns_in-both : (ms : List (Ticket × MaintCall)) (cs : List (Ticket × OpenCall)) → turns_in (map turn_of ms ++ map (call_of w) cs) ≡ ms
  turns_in-both [] cs = turns_in-calls cs
  turns_in-both (m ∷ ms) cs = ap (λ l. m ∷ l) (turns_in-both ms cs)

  calls_of-calls : (cs : List (Ticket × OpenCall)) → calls_of (map (call_of w) cs) ≡ cs
  calls_of-calls [] = refl
  calls_of-calls (c ∷ cs) = ap (λ l. c ∷ l) (calls_of-calls cs)

  calls_of-both : (ms : List (Ticket × MaintCall)) (cs : List (Ticket × OpenCall)) → calls_of (map turn_of ms ++ map (call_of w) cs) ≡ cs
  calls_of-both [] cs = calls_of-calls cs
  calls_of-both (m ∷ ms) cs = calls_of-both ms cs

  parts_in-calls : (cs : List (Ticket × OpenCall)) → parts_in (map (call_of w) cs) ≡ map (λ (p : Ticket × OpenCall). parts_for w p.0) cs
  parts_in-calls [] = refl
  parts_in-calls (c ∷ cs) = ap (λ l. parts_for w c.0 ∷ l) (parts_in-calls cs)

  parts_in-both : (ms : List (Ticket × MaintCall)) (cs : List (Ticket × OpenCall))
      → parts_in (map turn_of ms ++ map (call_of w) cs) ≡ map (λ (p : Ticket × OpenCall). parts_for w p.0) cs
  parts_in-both [] cs = parts_in-calls cs
  parts_in-both (m ∷ ms) cs = parts_in-both ms cs

  gave_up_in-calls : (cs : List (Ticket × OpenCall)) → gave_up_in (map (call_of w) cs) ≡ false
  gave_up_in-calls [] = refl
  gave_up_in-calls (c ∷ cs) = gave_up_in-calls cs

  gave_up_in-both : (ms : List (Ticket × MaintCall)) (cs : List (Ticket × OpenCall))
      → gave_up_in (map turn_of ms ++ map (call_of w) cs) ≡ false
  gave_up_in-both [] cs = gave_up_in-calls cs
  gave_up_in-both (m ∷ ms) cs = gave_up_in-both ms cs

  -- and of all
  module _ (ms : List (Ticket × MaintCall)) (cs : List (Ticket × OpenCall)) where
    turns_in-all : (b : Bool) → turns_in (gave_up_of b ++ (map turn_of ms ++ map (call_of w) cs)) ≡ ms
    turns_in-all true = turns_in-both ms cs
    turns_in-all false = turns_in-both ms cs

    calls_of-all : (b : Bool) → calls_of (gave_up_of b ++ (map turn_of ms ++ map (call_of w) cs)) ≡ cs
    calls_of-all true = calls_of-both ms cs
    calls_of-all false = calls_of-both ms cs

    parts_in-all : (b : Bool) → parts_in (gave_up_of b ++ (map turn_of ms ++ map (call_of w) cs)) ≡ map
        (λ (p : Ticket × OpenCall). parts_for w p.0) cs
    parts_in-all true = parts_in-both ms cs
    parts_in-all false = parts_in-both ms cs

    gave_up_in-all : (b : Bool) → gave_up_in (gave_up_of b ++ (map turn_of ms ++ map (call_of w) cs)) ≡ b
    gave_up_in-all true = refl
    gave_up_in-all false = gave_up_in-both ms cs

-- each kind as it stands in all that a stream has open
turns_of : (n : ℕ) (s : State) → turns_in (running_of s n) ≡ turning s n
turns_of n s = turns_in-all s.whole (turning s n) (running s n) (gave_up_at s.gave_up n)

calls_are : (n : ℕ) (s : State) → calls_of (running_of s n) ≡ running s n
calls_are n s = calls_of-all s.whole (turning s n) (running s n) (gave_up_at s.gave_up n)

parts_are : (n : ℕ) (s : State) → parts_in (running_of s n) ≡ parts_of s n
parts_are n s = parts_in-all s.whole (turning s n) (running s n) (gave_up_at s.gave_up n)

gave_up_is : (n : ℕ) (s : State) → gave_up_in (running_of s n) ≡ gave_up_at s.gave_up n
gave_up_is n s = gave_up_in-all s.whole (turning s n) (running s n) (gave_up_at s.gave_up n)

pub same_turns : (n : ℕ) (s t : State) → running_of t n ≡ running_of s n → turning t n ≡ turning s n
same_turns n s t e = sym (turns_of n t) ∙ ap turns_in e ∙ turns_of n s

pub same_calls : (n : ℕ) (s t : State) → running_of t n ≡ running_of s n → running t n ≡ running s n
same_calls n s t e = sym (calls_are n t) ∙ ap calls_of e ∙ calls_are n s

pub same_parts : (n : ℕ) (s t : State) → running_of t n ≡ running_of s n → parts_of t n ≡ parts_of s n
same_parts n s t e = sym (parts_are n t) ∙ ap parts_in e ∙ parts_are n s

pub same_gave_up : (n : ℕ) (s t : State) → running_of t n ≡ running_of s n → gave_up_at t.gave_up n ≡ gave_up_at s.gave_up n
same_gave_up n s t e = sym (gave_up_is n t) ∙ ap gave_up_in e ∙ gave_up_is n s

-- ---- a stream that has nothing open

pub none_turning : (n : ℕ) (s : State) → running_of s n ≡ [] → turning s n ≡ []
none_turning n s e = sym (turns_of n s) ∙ ap turns_in e

pub none_running : (n : ℕ) (s : State) → running_of s n ≡ [] → running s n ≡ []
none_running n s e = sym (calls_are n s) ∙ ap calls_of e

pub gave_none_up : (n : ℕ) (s : State) → running_of s n ≡ [] → gave_up_at s.gave_up n ≡ false
gave_none_up n s e = sym (gave_up_is n s) ∙ ap gave_up_in e

-- ---- what came between

cond_none : (b : Bool) (e : Entry) (es : List Entry) → cond b (e ∷ es) es ≡ [] → b ≡ false
cond_none true e es h = absurd cc
cond_none false e es h = refl

tail_none : (b : Bool) (e : Entry) (es : List Entry) → cond b (e ∷ es) es ≡ [] → es ≡ []
tail_none true e es h = absurd cc
tail_none false e es h = h

pub none_own : (n : ℕ) (es : List Entry) → filter (λ e. is_stream n (stream_of e)) es ≡ []
    → Each (λ e. is_stream n (stream_of e) ≡ false) es
none_own n [] h = tt
none_own n (e ∷ es) h =
    let rest = filter (λ x. is_stream n (stream_of x)) es in
    (cond_none (is_stream n (stream_of e)) e rest h, none_own n es (tail_none (is_stream n (stream_of e)) e rest h))

between_none : (n : ℕ) (all before es : List Entry) → all ≡ before ++ es
    → filter (λ e. is_stream n (stream_of e)) all ≡ filter (λ e. is_stream n (stream_of e)) before
    → filter (λ e. is_stream n (stream_of e)) es ≡ []
between_none n all before es e same =
    let own : List Entry → List Entry = filter (λ x. is_stream n (stream_of x)) in
    append_cancel_left (own before) (own es) [] (sym (ap own e ∙ entries_of-append world_account n before es) ∙ same
    ∙ sym (append-nil (own before)))

-- what commands count on, among all that is open
abbrev TurnCountsOn : State → State → Ticket × MaintCall → Type 0
TurnCountsOn s t p = CountsOn p.0 s t × KeepsCopies p.0 s t

counted_in : (s t : State) (ms : List (Ticket × MaintCall)) (rs : List Running)
    → Each (λ r. MayCountOn r s t) (map turn_of ms ++ rs) → Each (TurnCountsOn s t) ms
counted_in s t [] rs h = tt
counted_in s t (m ∷ ms) rs h = (h.0, counted_in s t ms rs h.1)

firsts : {A : Type 0} (P Q : A → Type 0) (xs : List A) → Each (λ x. P x × Q x) xs → Each P xs
firsts P Q [] h = tt
firsts P Q (x ∷ xs) h = (h.0.0, firsts P Q xs h.1)

seconds : {A : Type 0} (P Q : A → Type 0) (xs : List A) → Each (λ x. P x × Q x) xs → Each Q xs
seconds P Q [] h = tt
seconds P Q (x ∷ xs) h = (h.0.1, seconds P Q xs h.1)

counted_of : (s t : State) (b : Bool) (ms : List (Ticket × MaintCall)) (rs : List Running)
    → Each (λ r. MayCountOn r s t) (gave_up_of b ++ (map turn_of ms ++ rs)) → Each (TurnCountsOn s t) ms
counted_of s t true ms rs h = counted_in s t ms rs h.1
counted_of s t false ms rs h = counted_in s t ms rs h

-- the World that it finds is later than the one it saw
pub found_later : (n : ℕ) (x y : WorldOnDesk) → Finds world_account (Some n) x y → IsLater n (laid y) (laid x)
found_later n x y f = let s = laid y in let t = laid x in
    let all = counted_of s t (gave_up_at s.gave_up n) (turning s n) (map (call_of s.whole) (running s n)) f.counted in record {
      origin = f.same_origin;
      added = (
        f.seen.0,
        f.seen.1,
        none_own n f.seen.0
            (between_none n (laid x).book.entries (laid y).book.entries f.seen.0 f.seen.1 f.mine),
      );
      calls = same_calls n (laid y) (laid x) f.running;
      turns = same_turns n (laid y) (laid x) f.running;
      parts = same_parts n (laid y) (laid x) f.running;
      gave_up = same_gave_up n (laid y) (laid x) f.running;
      counted = firsts (λ (p : Ticket × MaintCall). CountsOn p.0 s t) (λ (p : Ticket × MaintCall). KeepsCopies p.0 s t) (turning s n) all;
      copies = seconds (λ (p : Ticket × MaintCall). CountsOn p.0 s t) (λ (p : Ticket × MaintCall). KeepsCopies p.0 s t) (turning s n) all;
    }

-- ---- a stream without a command of the turn

head_none : (n : ℕ) (b : Bool) (x : Ticket × MaintCall) (xs : List (Ticket × MaintCall)) → cond b (x ∷ xs) xs ≡ [] → (b ≡ false) × (xs ≡ [])
head_none n true x xs h = absurd cc
head_none n false x xs h = (refl, h)

apart_by : (m n : ℕ) → eqb m n ≡ false → m ≢ n
apart_by m n h e = true_false (sym (eq-eqb m n e) ∙ h)
  where
    true_false : true ≡ false → ⊥
    true_false e = cc

pub none_of_turn : (n : ℕ) (ts : List Ticket) (cs : List MaintCall) → length cs ≡ length ts → commands_in n ts cs ≡ [] → HasNoCommand n cs
none_of_turn n [] cs e h = λ k less. absurd (omega (arith, e, less))
none_of_turn n (t ∷ ts) [] e h = λ k less. absurd (omega (arith, less))
none_of_turn n (t ∷ ts) (c ∷ cs) e h =
    let first = head_none n (eqb c.stream n) (t, c) (commands_in n ts cs) h in
    by first.0 (none_of_turn n ts cs (omega (arith, e)) first.1)
  where
    by : eqb c.stream n ≡ false → HasNoCommand n cs → (k : ℕ) → k < length (c ∷ cs) → (command_at (c ∷ cs) k).stream ≢ n
    by first rest zero less = apart_by c.stream n first
    by first rest (suc k) less = rest k (omega (arith, less))

pub turn_of_none : (n : ℕ) (ts : List Ticket) (cs : List MaintCall) → HasNoCommand n cs → commands_in n ts cs ≡ []
turn_of_none n [] cs none = refl
turn_of_none n (t ∷ ts) [] none = refl
turn_of_none n (t ∷ ts) (c ∷ cs) none =
    ap (λ (b : Bool). cond b ((t, c) ∷ commands_in n ts cs) (commands_in n ts cs)) (ne_eqb c.stream n (none 0 (omega arith)))
    ∙ turn_of_none n ts cs (λ k less. none (suc k) (omega (arith, less)))

-- such a stream may be asked anything
pub has_no_command : (n : ℕ) (s : State) → IsSound s → turning s n ≡ [] → HasNoCommand n s.commands
has_no_command n s ok none = none_of_turn n s.maint s.commands ok.maint.queued.paired none

-- and stays such a one where the commands stay
pub still_none : (n : ℕ) (s t : State) → IsSound s → t.commands ≡ s.commands → turning s n ≡ [] → turning t n ≡ []
still_none n s t ok same none = turn_of_none n t.maint t.commands (subst (HasNoCommand n) (sym same) (has_no_command n s ok none))
