-- What a worker knows of its stream, step after step.
use Rattle.std.proofs.Common.{◌≡◌, ℕ, zero, suc, inl, inr, arith, List, [], ◌∷◌, ◌++◌, Result, Ok, Err, OnOk, OnErr}
use Rattle.std.proofs.Common.{subst, sym, refl, ap, ◌∙◌}
use Rattle.std.specs.Prelude.{All}
use Rattle.std.proofs.lemmas.List.Elements.{All-append}
use Rattle.volume_model.specs.declared.entry.Entry.{Entry}
use Rattle.volume_model.specs.declared.entry.Entry.TheVariants as entry
use Rattle.volume_model.specs.declared.mark.Mark.TheVariants as mark
use Rattle.stream_steps.specs.Mine.{Mine, OwnCall, with_entries, with_running, fault_placed}
use Rattle.stream_steps.specs.Steps.{AreMarks, AreAborts, FallsTo}
use Rattle.stream_steps.specs.Maint.{HasTurn}
use Rattle.volume_model.specs.declared.command.Command.{Command}
use Rattle.stream_steps.proofs.MineLemmas.{entries_none, entries_twice}
use Rattle.control_worker.specs.Purges.{MayComeBefore, AreFalls}
use Rattle.control_worker.specs.Whole.{Goes, GoesOn}
use Rattle.control_worker.proofs.OwnAnswers.{has_both, has_none}

-- ---- falls

pub are_first : (xs ys : List Entry) → AreMarks (xs ++ ys) → AreMarks xs
are_first [] ys h = tt
are_first (entry.Answer a ∷ xs) ys h = absurd h
are_first (entry.Mark m ∷ xs) ys h = (h.0, are_first xs ys h.1)

pub are_second : (xs ys : List Entry) → AreMarks (xs ++ ys) → AreMarks ys
are_second [] ys h = h
are_second (entry.Answer a ∷ xs) ys h = absurd h
are_second (entry.Mark m ∷ xs) ys h = are_second xs ys h.1

pub comes : (stream : ℕ) (e : Entry) (es : List Entry) → MayComeBefore stream e → All (MayComeBefore stream) es
    → All (MayComeBefore stream) (e ∷ es)
comes stream e es h all zero d l = h
comes stream e es h all (suc k) d l = all k d (omega (arith, l))

pub none_come : (stream : ℕ) → All (MayComeBefore stream) []
none_come stream = λ k d l. absurd (omega (arith, l))

pub falls_none : (stream : ℕ) → AreFalls stream []
falls_none stream = record { come = none_come stream; none = λ are. refl }

pub falls_both : (stream : ℕ) (xs ys : List Entry) → AreFalls stream xs → AreFalls stream ys → AreFalls stream (xs ++ ys)
falls_both stream xs ys f g = record {
  come = All-append (MayComeBefore stream) xs ys f.come g.come;
  none = λ are. (λ i. f.none (are_first xs ys are) i ++ g.none (are_second xs ys are) i);
}

pub aborts_come : (stream : ℕ) (es : List Entry) → AreAborts es → All (MayComeBefore stream) es
aborts_come stream es (inl none) = subst (All (MayComeBefore stream)) (sym none) (none_come stream)
aborts_come stream es (inr one) =
    subst (All (MayComeBefore stream)) (sym one.1) (comes stream (entry.Mark (mark.Aborted one.0)) [] (inr tt) (none_come stream))

one_fall : (stream r count : ℕ) (aborted : List Entry) → AreAborts aborted
    → AreFalls stream (entry.Mark (mark.Fault stream r count) ∷ aborted)
one_fall stream r count aborted are = record {
  come = comes stream (entry.Mark (mark.Fault stream r count)) aborted (inl refl) (aborts_come stream aborted are);
  none = λ no. absurd no.0;
}

-- ---- step after step

pub goes_running : (os : List OwnCall) (a b : Mine) → Goes os a b → b.running ≡ os
goes_running os a b g = ap (λ (m : Mine). m.running) g.is

pub goes_to : (os : List OwnCall) (a b : Mine) → b ≡ with_running a os → Goes os a b
goes_to os a b e = record { own = []; marks = []; falls = falls_none a.stream; same = refl; is = e ∙ sym (entries_none a os) }

pub goes_same : (a b : Mine) → b ≡ a → GoesOn a b
goes_same a b e = goes_to a.running a b e

pub goes_then : (os ps : List OwnCall) (a b c : Mine) → Goes os a b → Goes ps b c → Goes ps a c
goes_then os ps a b c f k = record {
  own = f.own ++ k.own;
  marks = f.marks ++ k.marks;
  falls = falls_both a.stream f.marks k.marks f.falls (subst (λ n. AreFalls n k.marks) (ap (λ (m : Mine). m.stream) f.is) k.falls);
  same = has_both f.own k.own f.marks k.marks f.same k.same;
  is = k.is ∙ ap (λ (m : Mine). with_entries m k.own k.marks ps) f.is ∙ entries_twice a f.own k.own f.marks k.marks os ps;
}

-- while the same calls are open
pub goes_on : (a b c : Mine) → GoesOn a b → GoesOn b c → GoesOn a c
goes_on a b c f k =
    let same : b.running ≡ a.running = goes_running a.running a b f in
    goes_then a.running a.running a b c f (subst (λ os. Goes os b c) same k)

-- where no line failed over both, none failed over the first
pub goes_first : (a b c : Mine) (f : GoesOn a b) (k : GoesOn b c) → AreMarks (goes_on a b c f k).marks → AreMarks f.marks
unfolding goes_on goes_then
goes_first a b c f k are = are_first f.marks _ are

pub goes_fall : (r count : ℕ) (a b : Mine) → FallsTo r count a b → GoesOn a b
goes_fall r count a b f = record {
  own = fault_placed f.spot a.stream r count ∷ [];
  marks = entry.Mark (mark.Fault a.stream r count) ∷ f.aborted;
  falls = one_fall a.stream r count f.aborted f.are;
  same = has_none a.stream f.aborted (aborts_come a.stream f.aborted f.are);
  is = f.is;
}

pub goes_told : {E : Type 0} (res : Result (Unit {0}) E) (r count : ℕ) (a b : Mine) → OnOk res (FallsTo r count a b)
    → OnErr res (b ≡ a) → GoesOn a b
goes_told (Ok u) r count a b ok err = goes_fall r count a b ok
goes_told (Err e) r count a b ok err = goes_same a b err

-- the command has the turn still
pub turn_kept : (t : ℕ) (c : Command) (a b : Mine) → GoesOn a b → ((o : OwnCall) × HasTurn t c o a) → (o : OwnCall) × HasTurn t c o b
turn_kept t c a b g op = (
  op.0,
  record {
    is = goes_running a.running a b g ∙ op.1.is;
    number = op.1.number;
    call = op.1.call;
    wants =
        op.1.wants;
    started = op.1.started;
  },
)
