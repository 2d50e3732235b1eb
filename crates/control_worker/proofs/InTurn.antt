-- A command is answered, and then the next.
use Rattle.std.proofs.Common.{◌≡◌, ℕ, zero, suc, arith, inl, ◌+◌, ◌<◌, List, [], ◌∷◌, ◌++◌, length, take, drop}
use Rattle.std.proofs.Common.{Option, IfSome, Result, Ok, Err, OnOk, OnErr, subst, sym, refl, ap, ◌∙◌, append_assoc, append-nil}
use Rattle.std.specs.Prelude.{All}
use Rattle.std.proofs.lemmas.List.{take_more, take-append-drop}
use Rattle.std.proofs.Math.ListN.{get_or}
use Rattle.volume_model.specs.declared.command.Command.{Command}
use Rattle.volume_model.specs.declared.entry.Entry.{Entry}
use Rattle.volume_model.specs.declared.call.Call.TheVariants as call
use Rattle.stream_steps.specs.Mine.{Mine, OwnCall, Log, with_entries, with_running, longer, log_length}
use Rattle.stream_steps.specs.Steps.{EnrolsAt}
use Rattle.stream_steps.specs.Maint.{IsMaint, AwaitsTurn, HasTurn}
use Rattle.stream_steps.proofs.MineLemmas.{entries_none, entries_twice, longer_none, longer_twice}
use Rattle.control_worker.specs.OwnAnswers.{answers_in}
use Rattle.control_worker.specs.Purges.{MayComeBefore}
use Rattle.control_worker.specs.Serving.{Commands, AreCommanded, GrewByCommand, GaveUp, EndsUndone, LeftUndone}
use Rattle.control_worker.specs.Serving.{IsFirstLeft, Commanded, CommandedSome}
use Rattle.control_worker.specs.Whole.{TurnBegins}
use Rattle.control_worker.proofs.CommandLemmas.{awaits, has_turn, with_turn}
use Rattle.control_worker.proofs.Goes.{none_come}
use Rattle.control_worker.proofs.OwnAnswers.{has_both}

-- ---- the turn

-- the command has the turn, and no other call is open
pub record TakesTurn (t : ℕ) (c : Command) (m m2 : Mine) : Type 0 where
  pub own : OwnCall
  pub is : m2 ≡ with_running m (own ∷ [])
  pub call : own.call ≡ call.Command c
  pub saw : IfSome (log_length m) (λ place. own.saw ≡ place)
  pub has : HasTurn t c own m2

pub takes_turn : (t : ℕ) (c : Command) → IsMaint c → (a b d : Mine) → EnrolsAt t (call.Command c) a b
    → ((c : Command) (o : OwnCall) → AwaitsTurn t c o b → TurnBegins o b d) → TakesTurn t c a d
takes_turn t c wants a b d e begins =
    let w = awaits t c wants a b e in
    let begin = begins c e.own w in
    record {
      own = with_turn e.own;
      is = begin ∙ ap (λ (m : Mine). with_running m (with_turn e.own ∷ [])) e.is;
      call = e.call;
      saw = e.saw;
      has = has_turn t c e.own b d w begin;
    }

-- ---- the answers

-- a command behind others
commanded_push : (stream : ℕ) (log : Option Log) (cs : List Command) (c : Command) (es fs : List Entry)
    → AreCommanded stream log cs es → Commands stream (longer log es) c fs
    → AreCommanded stream log (cs ++ c ∷ []) (es ++ fs)
commanded_push stream log [] c es fs none k = (
  fs,
  [],
  ap (λ xs. xs ++ fs) none ∙ sym (append-nil fs),
  subst (λ l. Commands stream l c fs) (ap (longer log) none ∙ longer_none log) k,
  refl,
)
commanded_push stream log (x ∷ cs) c es fs d k = (
  d.0,
  d.1 ++ fs,
  ap (λ xs. xs ++ fs) d.2 ∙ append_assoc d.0 d.1 fs,
  d.3,
  commanded_push stream (longer log d.0) cs c d.1 fs d.4
      (subst (λ l. Commands stream l c fs) (ap (longer log) d.2 ∙ sym (longer_twice log d.0 d.1)) k),
)

pub commanded_next : (cs : List Command) (c : Command) (a b d : Mine) → Commanded cs a b → GrewByCommand c b d
    → Commanded (cs ++ c ∷ []) a d
commanded_next cs c a b d g s = record {
  own = g.own ++ s.own;
  all = g.all ++ s.all;
  is = s.is ∙ ap (λ (m : Mine). with_entries m s.own s.all []) g.is ∙ entries_twice a g.own s.own g.all s.all [] [];
  same = has_both g.own s.own g.all s.all g.same s.same;
  done = commanded_push a.stream a.log cs c g.all s.all g.done
      (subst (λ l. Commands a.stream l c s.all) (ap (λ (m : Mine). m.log) g.is)
      (subst (λ (n : ℕ). Commands n b.log c s.all) (ap (λ (m : Mine). m.stream) g.is) s.done));
}

-- and so of the first of a list
pub commanded_more : (cs : List Command) (i : ℕ) (c : Command) (a b d : Mine) → i < length cs → Commanded (take i cs) a b
    → GrewByCommand (get_or cs i c) b d
    → Commanded (take (i + 1) cs) a d
commanded_more cs i c a b d h g s = subst (λ xs. Commanded xs a d) (sym (take_more cs i c h))
    (commanded_next (take i cs) (get_or cs i c) a b d g s)

-- ---- as far as memory lasted

pub left_of : (c : Command) (a b : Mine) → GaveUp a b → LeftUndone c a b
left_of c a b g = record {
  own = g.own;
  marks = g.marks;
  last = [];
  is = g.is ∙ ap (λ es. with_entries a g.own es []) (sym (append-nil g.marks));
  same = g.same ∙ ap answers_in (sym (append-nil g.marks));
  are = g.are;
  left = inl refl;
}

pub gave_up : {E : Type 0} (res : Result (Unit {0}) E) (c : Command) (a b : Mine) → OnErr res (GaveUp a b) → OnErr res (LeftUndone c a b)
gave_up (Ok u) c a b h = tt
gave_up (Err e) c a b h = left_of c a b h

none_left : (stream : ℕ) (log : Option Log) (cs : List Command) → IsFirstLeft stream log cs []
none_left stream log [] = refl
none_left stream log (c ∷ cs) = inl refl

-- of a list that has that command at i
first_left : (stream : ℕ) (log : Option Log) (cs : List Command) (i : ℕ) (c : Command) (es : List Entry) → i < length cs
    → EndsUndone stream log (get_or cs i c) es → IsFirstLeft stream log (drop i cs) es
first_left stream log [] i c es h l = absurd (omega (arith, h))
first_left stream log (x ∷ cs) zero c es h l = l
first_left stream log (x ∷ cs) (suc i) c es h l = first_left stream log cs i c es (omega (arith, h)) l

pub commanded_some : (cs : List Command) (i : ℕ) (c : Command) (a b d : Mine) → i < length cs → Commanded (take i cs) a b
    → LeftUndone (get_or cs i c) b d → CommandedSome cs a d
commanded_some cs i c a b d h g s = record {
  some = take i cs;
  left = drop i cs;
  are = take-append-drop i cs;
  own = g.own ++ s.own;
  all = g.all;
  marks = s.marks;
  last = s.last;
  is = s.is ∙ ap (λ (m : Mine). with_entries m s.own (s.marks ++ s.last) []) g.is
      ∙ entries_twice a g.own s.own g.all (s.marks ++ s.last) [] [];
  same = has_both g.own s.own g.all (s.marks ++ s.last) g.same s.same;
  done = g.done;
  more = subst (λ (n : ℕ). All (MayComeBefore n) s.marks) (ap (λ (m : Mine). m.stream) g.is) s.are;
  next = first_left a.stream (longer a.log g.all) cs i c s.last h
      (subst (λ (l : Option Log). EndsUndone a.stream l (get_or cs i c) s.last) (ap (λ (m : Mine). m.log) g.is)
      (subst (λ (n : ℕ). EndsUndone n b.log (get_or cs i c) s.last) (ap (λ (m : Mine). m.stream) g.is) s.left));
}

-- before the first
pub commanded_stopped : (cs : List Command) (m : Mine) → m.running ≡ [] → CommandedSome cs m m
commanded_stopped cs m idle = record {
  some = [];
  left = cs;
  are = refl;
  own = [];
  all = [];
  marks = [];
  last = [];
  is = ap (with_running m) idle ∙ sym (entries_none m []);
  same = refl;
  done = refl;
  more = none_come m.stream;
  next = none_left m.stream (longer m.log []) cs;
}

-- none is open behind those that were answered
pub none_open : {T E : Type 0} (res : Result T E) (cs : List Command) (a b : Mine) → OnOk res (Commanded cs a b)
    → OnErr res (CommandedSome cs a b) → b.running ≡ []
none_open (Ok x) cs a b ok err = ap (λ (m : Mine). m.running) ok.is
none_open (Err e) cs a b ok err = ap (λ (m : Mine). m.running) err.is
