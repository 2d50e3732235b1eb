-- What a World's steps for one stream owe to the others gives all that a desk asks of whoever leaves it.
use Rattle.std.proofs.Common.{◌≡◌, ◌≢◌, ℕ, Bool, true, false, List, [], ◌∷◌, ◌++◌, map, Option, Some, append-nil, sym, refl, ap, ◌∙◌}
use Rattle.std.specs.List.{Any}
use Rattle.volume_model.specs.declared.entry.Entry.{Entry}
use Rattle.volume_model.specs.declared.entry.Entry.TheVariants as entry
use Rattle.volume_model.specs.declared.mark.Mark.{Mark}
use Rattle.volume_model.specs.declared.mark.Mark.TheVariants as mark
use Rattle.volume_model.proofs.PurgeLemmas.{any_here, any_later}
use Rattle.range_turns.specs.declared.ticket.Ticket.{Ticket}
use Rattle.open_calls.specs.declared.open_call.OpenCall.{OpenCall}
use Rattle.step_answers.specs.declared.parts.Part.{Part}
use Rattle.open_calls.specs.declared.maint.MaintCall.{MaintCall}
use Rattle.open_calls.specs.declared.whole.Whole.{Whole}
use Rattle.volume_core.specs.State.{State, gave_up_at}
use Rattle.volume_core.specs.Sound.{IsSound}
use Rattle.volume_core.specs.Streams.{running, turning, MayAppend, MayAppendMark, MayGo}
use Rattle.volume_core.proofs.Copies.{keeps_copies}
use Rattle.desk_lock.specs.Account.{MayAdd, Each, MayLeave}
use Rattle.world_holder.specs.declared.kept.WorldOnDesk.{WorldOnDesk}
use Rattle.world_holder.specs.Laid.{Call, gave_up_of, MayCountOn, laid, stream_of, stream_of_mark, parts_for, turn_of}
use Rattle.world_holder.specs.Laid.{call_of, parts_of, world_account}
use Rattle.world_holder.specs.Counted.{CountsOn, AreOthersCounted, AreCopiesKept, KeepsCopies, AreAllCopiesKept}
use Rattle.world_holder.proofs.CountedLemmas.{kept_same, others_kept}

may_add_mark : (n : ℕ) (m : Mark) → MayAppendMark n m → MayAdd (Some n) (stream_of_mark m)
may_add_mark n (mark.Fault s r count) h = ap Some (sym h)
may_add_mark n (mark.Purged part) h = tt
may_add_mark n (mark.Failed q) h = tt
may_add_mark n (mark.Added q source name) h = tt
may_add_mark n (mark.Promoted q) h = tt
may_add_mark n (mark.Aborted q) h = tt

may_add : (n : ℕ) (es : List Entry) → MayAppend n es → Each (λ e. MayAdd (Some n) (stream_of e)) es
may_add n [] h = tt
may_add n (entry.Answer a ∷ es) h = (ap Some (sym h.0), may_add n es h.1)
may_add n (entry.Mark m ∷ es) h = (may_add_mark n m h.0, may_add n es h.1)

abbrev parts : Option Whole → List (Ticket × OpenCall) → List (List Part)
parts w xs = map (λ (p : Ticket × OpenCall). parts_for w p.0) xs

head : (p q : List Part) (ps qs : List (List Part)) → p ∷ ps ≡ q ∷ qs → p ≡ q
head p q ps qs e = cc

tail : (p q : List Part) (ps qs : List (List Part)) → p ∷ ps ≡ q ∷ qs → ps ≡ qs
tail p q ps qs e = cc

-- where calls stand as they were, with how far each replica is with them, so does what is made of both
module _ {B : Type 0} (of : Ticket × OpenCall → List Part → B) where
  abbrev made : Option Whole → List (Ticket × OpenCall) → List B
  made w xs = map (λ (p : Ticket × OpenCall). of p (parts_for w p.0)) xs

  one_by_one : (a b : Option Whole) (xs : List (Ticket × OpenCall)) → parts b xs ≡ parts a xs → made b xs ≡ made a xs
  one_by_one a b [] e = refl
  one_by_one a b (x ∷ xs) e =
      let first = head (parts_for b x.0) (parts_for a x.0) (parts b xs) (parts a xs) e in
      let more = one_by_one a b xs (tail (parts_for b x.0) (parts_for a x.0) (parts b xs) (parts a xs) e) in
      λ i. of x (first i) ∷ more i

  pub made_same : (a b : Option Whole) (xs ys : List (Ticket × OpenCall)) → ys ≡ xs → parts b ys ≡ parts a xs → made b ys ≡ made a xs
  made_same a b xs ys e h = ap (made b) e ∙ one_by_one a b xs (sym (ap (parts b) e) ∙ h)

-- calls count on nothing more than that they stay
calls_counted : (s t : State) (cs : List (Ticket × OpenCall)) → Each (λ r. MayCountOn r s t) (map (call_of s.whole) cs)
calls_counted s t [] = tt
calls_counted s t (c ∷ cs) = (tt, calls_counted s t cs)

-- so all that is open has what its commands count on
turns_counted : (s t : State) (ms : List (Ticket × MaintCall)) (cs : List (Ticket × OpenCall))
    → Each (λ (p : Ticket × MaintCall). CountsOn p.0 s t) ms → Each (λ (p : Ticket × MaintCall). KeepsCopies p.0 s t) ms
    → Each (λ r. MayCountOn r s t) (map turn_of ms ++ map (call_of s.whole) cs)
turns_counted s t [] cs h k = calls_counted s t cs
turns_counted s t (m ∷ ms) cs h k = ((h.0, k.0), turns_counted s t ms cs h.1 k.1)

all_counted : (s t : State) (b : Bool) (ms : List (Ticket × MaintCall)) (cs : List (Ticket × OpenCall))
    → Each (λ (p : Ticket × MaintCall). CountsOn p.0 s t) ms → Each (λ (p : Ticket × MaintCall). KeepsCopies p.0 s t) ms
    → Each (λ r. MayCountOn r s t) (gave_up_of b ++ (map turn_of ms ++ map (call_of s.whole) cs))
all_counted s t true ms cs h k = (tt, turns_counted s t ms cs h k)
all_counted s t false ms cs h k = turns_counted s t ms cs h k

-- copies stay for each command of the others that has the turn
abbrev IsStarted : Ticket × MaintCall → Type 0
IsStarted p = p.0.started ≡ true

each_by : (Q : Type 0) (ms : List (Ticket × MaintCall)) → (Any IsStarted ms → Q) → Each (λ (p : Ticket × MaintCall). IsStarted p → Q) ms
each_by Q [] f = tt
each_by Q (m ∷ ms) f = ((λ here. f (any_here IsStarted m ms here)), each_by Q ms (λ later. f (any_later IsStarted m ms later)))

copies_left : (n m : ℕ) (s t : State) → IsSound s → MayGo n s t → m ≢ n → AreAllCopiesKept m s t
copies_left n m s t ok may apart = each_by (AreCopiesKept s t) (turning s m) (λ turn. keeps_copies s t n m ok may apart turn)

-- The condition of `leave`, for the seat of the stream: what a step may do to others' calls, to how far each replica is
-- with them, and to what others' commands that have the turn count on.
pub may_leave : (n : ℕ) (x y : WorldOnDesk) → IsSound (laid x) → MayGo n (laid x) (laid y)
    → ((m : ℕ) → m ≢ n → parts_of (laid y) m ≡ parts_of (laid x) m) → AreOthersCounted n (laid x) (laid y)
    → MayLeave world_account (Some n) x y
may_leave n x y ok may parts counted = record {
  sound = may.sound;
  same_origin = may.origin;
  added = (may.added.0, may.added.1, may_add n may.added.0 may.added.2);
  others = λ m other.
      let apart : m ≢ n = λ e. other (ap Some (sym e)) in
      let calls = made_same (λ p ps. Call p.0 p.1 ps) (laid x).whole (laid y).whole (running (laid x) m)
      (running (laid y) m) (may.others m apart) (parts m apart) in
      λ i. gave_up_of (may.gave_up m apart i) ++ (map turn_of (may.turns m apart i) ++ calls i);
  counted = λ m other. all_counted (laid x) (laid y) (gave_up_at (laid x).gave_up m) (turning (laid x) m)
      (running (laid x) m) (counted m (λ e. other (ap Some (sym e))))
      (copies_left n m (laid x) (laid y) ok may (λ e. other (ap Some (sym e))));
}

-- where the operation on the whole volume stays as it is
pub parts_stay : (n : ℕ) (s s2 : State) → MayGo n s s2 → s2.whole ≡ s.whole → (m : ℕ) → m ≢ n → parts_of s2 m ≡ parts_of s m
parts_stay n s s2 may e m other = λ i. map (λ (p : Ticket × OpenCall). parts_for (e i) p.0) (may.others m other i)

-- nothing is done, and so others count on the same
pub counted_stay : (n : ℕ) (s : State) → AreOthersCounted n s s
counted_stay n s = others_kept n s s (kept_same s s refl refl refl)

-- nothing is done
pub may_stay : (n : ℕ) (s : State) → IsSound s → MayGo n s s
may_stay n s ok = record {
  sound = ok;
  origin = refl;
  added = ([], sym (append-nil s.book.entries), tt);
  others = λ m h. refl;
  turns = λ m h. refl;
  gave_up = λ m h. refl;
  removes = λ m other turn name. tt;
}
