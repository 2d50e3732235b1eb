-- A command from its call to its answer.
use Rattle.std.proofs.Common.{◌≡◌, ℕ, Bool, true, false, List, [], ◌∷◌, IfSome, Result, Ok, Err, OnOk, OnErr}
use Rattle.std.proofs.Common.{subst, sym, refl, ap, ◌∙◌}
use Rattle.volume_model.specs.declared.call.Call.TheVariants as call
use Rattle.volume_model.specs.declared.command.Command.{Command}
use Rattle.step_answers.specs.declared.whole_op.WholeOp.{WholeOp}
use Rattle.step_answers.specs.declared.whole_op.WholeOp.TheVariants as whole
use Rattle.step_answers.specs.Asked.{command_of}
use Rattle.range_turns.specs.declared.turns.MayStart.{MayStart}
use Rattle.range_turns.specs.declared.turns.MayStart.TheVariants as may
use Rattle.stream_steps.specs.Mine.{Mine, OwnCall, with_running, log_length}
use Rattle.stream_steps.specs.Steps.{EnrolsAt}
use Rattle.stream_steps.specs.Maint.{IsMaint, IsNoAdd, HasTurn, AwaitsTurn, TurnsTo, HasWhole, EnrolsWhole}
use Rattle.stream_steps.specs.Maint.{EnrolsUnder, StartsWhole, StartsAs}
use Rattle.client_worker.proofs.Going.{one_of}
use Rattle.control_worker.specs.Serving.{GrewByCommand}
use Rattle.control_worker.specs.Whole.{IsWhole, IsNoPart, StartsOr, EndsBehind, AnswersCall, TurnBegins}
use Rattle.control_worker.proofs.AnswerLemmas.{grew_call, refused_call, started_call}
use Rattle.control_worker.proofs.PartLemmas.{started_whole, starts_plainly}
use Rattle.control_worker.proofs.ShownLemmas.{StaysShown, stays_same, stays_running, idle_of}

-- ---- enrolled

pub enrolled_has : (t : ℕ) (op : WholeOp) (turn : List OwnCall) (a b : Mine) → (e : EnrolsWhole t op turn a b) → HasWhole t op turn e.own b
enrolled_has t op turn a b e = record { is = ap (λ (m : Mine). m.running) e.is; number = e.number; call = e.call; does = e.does }

pub enrolled_waits : (t : ℕ) (op : WholeOp) (turn : List OwnCall) (a b : Mine) → EnrolsWhole t op turn a b → IsWhole false t op b
enrolled_waits t op turn a b e = (turn, e.own, enrolled_has t op turn a b e, e.waits)

-- ---- taken up

-- it starts, and is carried to its end
pub taken_started : (t : ℕ) (op : WholeOp) (n : IsNoPart op) (started : Bool) (a b c : Mine) → started ≡ true
    → ((op : WholeOp) (turn : List OwnCall) (o : OwnCall) → HasWhole t op turn o a → StartsOr started op turn o a b)
    → ((turn : List OwnCall) (o : OwnCall) → HasWhole t op turn o b → EndsBehind op turn o b c)
    → (turn : List OwnCall) (o : OwnCall) → HasWhole t op turn o a → AnswersCall o a c
taken_started t op n started a b c e start done turn o h =
    let s : StartsWhole turn o a b = starts_plainly op n turn o a b (subst (λ x. StartsOr x op turn o a b) e (start op turn o h)) in
    started_call t op n turn o a b c h s (done turn s.own (started_whole t op turn o a b h s))

pub taken_refused : (t : ℕ) (op : WholeOp) (started : Bool) (a b : Mine) → started ≡ false
    → ((op : WholeOp) (turn : List OwnCall) (o : OwnCall) → HasWhole t op turn o a → StartsOr started op turn o a b)
    → (turn : List OwnCall) (o : OwnCall) → HasWhole t op turn o a → AnswersCall o a b
taken_refused t op started a b e start turn o h = refused_call o a b (subst (λ x. StartsOr x op turn o a b) e (start op turn o h))

pub starts_so : (t : ℕ) (op : WholeOp) (started : Bool) (a b : Mine) → started ≡ true
    → ((op : WholeOp) (turn : List OwnCall) (o : OwnCall) → HasWhole t op turn o a → StartsOr started op turn o a b)
    → (w : IsWhole false t op a) → StartsAs op w.0 w.1 a b
starts_so t op started a b e start w = subst (λ x. StartsOr x op w.0 w.1 a b) e (start op w.0 w.1 w.2)

-- ---- a snapshot

pub snapshot_grew : {E : Type 0} (res : Result (Unit {0}) E) (t : ℕ) (op : WholeOp) (n : IsNoPart op) (a b c : Mine)
    → EnrolsWhole t op [] a b → EnrolsAt t (call.Command (command_of op)) a b
    → OnOk res ((turn : List OwnCall) (o : OwnCall) → HasWhole t op turn o b → AnswersCall o b c)
    → OnOk res (GrewByCommand (command_of op) a c)
snapshot_grew (Ok u) t op n a b c e saw done =
    let same : saw.own ≡ e.own = one_of saw.own e.own (ap (λ (m : Mine). m.running) (sym saw.is ∙ e.is)) in
    grew_call op n e.own (e.own ∷ []) a b c e.is e.call
    (subst (λ (x : OwnCall). IfSome (log_length a) (λ place. x.saw ≡ place)) same saw.saw)
    (done [] e.own (enrolled_has t op [] a b e))
snapshot_grew (Err x) t op n a b c e saw done = tt

pub snapshot_left : {E : Type 0} (res : Result (Unit {0}) E) (t : ℕ) (op : WholeOp) (a b c : Mine) → a.running ≡ []
    → EnrolsWhole t op [] a b
    → OnErr res ((turn : List OwnCall) (o : OwnCall) → HasWhole t op turn o b → c ≡ with_running b turn) → OnErr res (c ≡ a)
snapshot_left (Ok u) t op a b c idle e left = tt
snapshot_left (Err x) t op a b c idle e left =
    left [] e.own (enrolled_has t op [] a b e) ∙ ap (λ (m : Mine). with_running m []) e.is ∙ sym (idle_of a idle)

-- ---- under the turn

-- the command of one that is no part is no add
pub no_add : (op : WholeOp) → IsNoPart op → IsNoAdd (command_of op)
no_add (whole.Snapshot name) n = tt
no_add (whole.Remove name) n = tt
no_add (whole.Revert name) n = tt
no_add (whole.Purge f) n = tt
no_add (whole.Barrier r) n = absurd n

pub awaits : (t : ℕ) (c : Command) → IsMaint c → (a b : Mine) → (e : EnrolsAt t (call.Command c) a b) → AwaitsTurn t c e.own b
awaits t c wants a b e = record { is = ap (λ (m : Mine). m.running) e.is; number = e.number; call = e.call; wants = wants; waits = e.waits }

-- that has the turn
abbrev pub with_turn : OwnCall → OwnCall
with_turn o = record o { started = true }

pub has_turn : (t : ℕ) (c : Command) (o : OwnCall) (a b : Mine) → AwaitsTurn t c o a → TurnBegins o a b → HasTurn t c (with_turn o) b
has_turn t c o a b w e = record { is = ap (λ (m : Mine). m.running) e; number = w.number; call = w.call; wants = w.wants; started = refl }

module _ {t : ℕ} {m0 m : Mine} (m2 : Mine) (x : MayStart) (same : m ≡ m0)
    (ok : (c : Command) (o : OwnCall) → AwaitsTurn t c o m → TurnsTo o x m m2) where
  pub turn_begins : x ≡ may.Yes → (c : Command) (o : OwnCall) → AwaitsTurn t c o m0 → TurnBegins o m0 m2
  turn_begins is c o w =
      subst (λ y. TurnsTo o y m0 m2) is
      (subst (λ (z : Mine). (c : Command) (o : OwnCall) → AwaitsTurn t c o z → TurnsTo o x z m2) same ok c o w)

  turned : ((c : Command) × (o : OwnCall) × AwaitsTurn t c o m0) → (o : OwnCall) × TurnsTo o x m m2
  turned w = (w.1, ok w.0 w.1 (subst (AwaitsTurn t w.0 w.1) (sym same) w.2))

  pub turn_waits : (x ≡ may.Yes → ⊥) → ((c : Command) × (o : OwnCall) × AwaitsTurn t c o m0) → m2 ≡ m
  turn_waits other w = let e = turned w in waits e.0 x other e.1
    where
      waits : (o : OwnCall) (y : MayStart) → (y ≡ may.Yes → ⊥) → TurnsTo o y m m2 → m2 ≡ m
      waits o may.Yes not e = absurd (not refl)
      waits o (may.After n) not e = e

  pub turn_stays : ((c : Command) × (o : OwnCall) × AwaitsTurn t c o m0) → StaysShown m m2
  turn_stays w = let e = turned w in stays e.0 x e.1
    where
      stays : (o : OwnCall) (y : MayStart) → TurnsTo o y m m2 → StaysShown m m2
      stays o may.Yes e = stays_running (with_turn o ∷ []) m m2 e
      stays o (may.After n) e = stays_same m m2 e

pub turn_grew : {E : Type 0} (res : Result (Unit {0}) E) (t n : ℕ) (op : WholeOp) (part : IsNoPart op) (a b c d f : Mine)
    → (e : EnrolsAt t (call.Command (command_of op)) a b) → TurnBegins e.own b c → EnrolsUnder n op (with_turn e.own) c d
    → OnOk res ((turn : List OwnCall) (o : OwnCall) → HasWhole n op turn o d → AnswersCall o d f)
    → OnOk res (GrewByCommand (command_of op) a f)
turn_grew (Ok u) t n op part a b c d f e turn w done =
    let own = w.whole.own in
    let os = with_turn e.own ∷ own ∷ [] in
    grew_call op part own os a d f
    (w.whole.is ∙ ap (λ (m : Mine). with_running m os) (turn ∙ ap (λ (m : Mine). with_running m (with_turn e.own ∷ [])) e.is))
    w.whole.call
    (subst (λ k. IfSome (log_length a) (λ place. k ≡ place)) (sym w.saw) e.saw)
    (done (with_turn e.own ∷ []) own (enrolled_has n op (with_turn e.own ∷ []) c d w.whole))
turn_grew (Err x) t n op part a b c d f e turn w done = tt

-- it is given back without an answer
pub turn_left : (t : ℕ) (c : Command) (a b d f : Mine) → a.running ≡ [] → (e : EnrolsAt t (call.Command c) a b)
    → TurnBegins e.own b d → f ≡ with_running d [] → f ≡ a
turn_left t c a b d f idle e turn left =
    left ∙ ap (λ (m : Mine). with_running m []) (turn ∙ ap (λ (m : Mine). with_running m (with_turn e.own ∷ [])) e.is)
    ∙ sym (idle_of a idle)

-- the operation was taken back, and the turn is there still
pub turn_there : (t n : ℕ) (op : WholeOp) (o : OwnCall) (c d f : Mine) → HasTurn t (command_of op) o c
    → EnrolsUnder n op o c d → f ≡ with_running d (o ∷ []) → HasTurn t (command_of op) o f
turn_there t n op o c d f h w e =
    record { is = ap (λ (m : Mine). m.running) e; number = h.number; call = h.call; wants = h.wants; started = h.started }

pub under_left : (n : ℕ) (op : WholeOp) (o : OwnCall) (c d f : Mine) → EnrolsUnder n op o c d → f ≡ with_running d (o ∷ [])
    → with_running f [] ≡ with_running c []
under_left n op o c d f w e = ap (λ (m : Mine). with_running m []) e ∙ ap (λ (m : Mine). with_running m []) w.whole.is

pub on_err : {T E : Type 0} (r : Result T E) {P : Type 0} → P → OnErr r P
on_err (Ok x) h = tt
on_err (Err e) h = h
