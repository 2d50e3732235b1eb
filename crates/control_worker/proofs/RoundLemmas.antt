-- A round of a purge: a layer goes, or the purge is answered.
use Rattle.std.proofs.Common.{◌≡◌, ℕ, ◌+◌, ◌*◌, ◌<◌, arith, ⊎_elim, inl, inr, Bool, true, false, List, [], ◌∷◌, Option, Some, None, IfSome}
use Rattle.std.proofs.Common.{Result, Ok, Err, OnOk, OnErr, is_ok}
use Rattle.std.proofs.Common.{subst, sym, refl, ap, ◌∙◌}
use Rattle.std.specs.Prelude.{All}
use Rattle.std.proofs.lemmas.Bool.{cases_eq}
use Rattle.vol_units.specs.declared.size.TheConstants.{PAGE_BYTES}
use Rattle.volume_model.specs.declared.call.Refusal.TheVariants.{NoReplica}
use Rattle.volume_model.specs.declared.call.Reply.{Reply}
use Rattle.volume_model.specs.declared.call.Reply.TheVariants as reply
use Rattle.volume_model.specs.declared.mark.FoldOrDrop.{FoldOrDrop}
use Rattle.volume_model.specs.declared.mode.Mode.{Mode}
use Rattle.volume_model.specs.declared.mode.Mode.TheVariants.{Err as Failed, Rw}
use Rattle.volume_model.specs.Modes.{mode_of}
use Rattle.volume_model.specs.declared.command.Command.TheVariants as command
use Rattle.step_answers.specs.declared.whole_op.WholeOp.TheVariants as whole
use Rattle.step_answers.specs.declared.answers.NextPart.{NextPart}
use Rattle.step_answers.specs.declared.answers.NextPart.TheVariants as next
use Rattle.stream_steps.specs.Mine.{Mine, OwnCall, Log, entries_in, with_entries, with_running, answer_placed}
use Rattle.stream_steps.specs.Maint.{HasTurn, AnswersWhole, EnrolsUnder, StartsWhole, IsNext}
use Rattle.stream_steps.specs.Seen.{Seen}
use Rattle.client_worker.specs.Working.{Work}
use Rattle.control_worker.specs.Carrying.{PassesOr}
use Rattle.control_worker.specs.Purges.{MayComeBefore, IsFolded, IsPurgeReply, PurgesOn, PurgeEnds, PurgesWhole, GoesNext, RoundTo}
use Rattle.control_worker.specs.Serving.{GrewByCommand, GaveUp}
use Rattle.control_worker.specs.Whole.{Goes, GoesOn, RefusedWhole, EndsBehind}
use Rattle.control_worker.proofs.InTurn.{TakesTurn}
use Rattle.control_worker.proofs.Goes.{goes_to, goes_then, goes_running}
use Rattle.control_worker.proofs.ShownLemmas.{StaysShown, stays_same, stays_answer}
use Rattle.control_worker.proofs.PurgeLemmas.{on_none, on_goes, on_part, on_then, ends_now, ends_refused, grew_purge}

pub some_of : {A : Type 0} (x : Option A) (a : A) (P : A → Type 0) → x ≡ Some a → IfSome x P → P a
some_of x a P is h = subst (λ y. IfSome y P) is h

-- ---- its pages

-- one more of those below
pub below_next : (P : ℕ → Type 0) (n : ℕ) → ((k : ℕ) → k < n → P k) → P n → (k : ℕ) → k < n + 1 → P k
below_next P n before last k below =
    ⊎_elim (λ (same : k ≡ n). subst P (sym same) last) (λ other. before k (omega (arith, below, other))) (cases_eq k n)

-- a page that a replica has folded is folded behind the carry of its reply too, which comes through or fails the replica
pub folded_told : {C L : Type 0} (modes : C → List Mode) (told : L → Option (List (List ℕ))) (wants : C → Type 0)
    (came : Bool) (r page : ℕ) (reply parent : List ℕ) (seen : Seen) (w w2 : Work C L) → ¬ wants w.steps
    → PassesOr modes told r reply came w w2 → IsFolded (wants w2.steps) (mode_of (modes w2.steps) r) parent page seen
folded_told modes told wants true r page reply parent seen w w2 not p = inl (λ want. not (subst wants p.same want))
folded_told modes told wants false r page reply parent seen w w2 not p = inr (inl (λ read. not_read (sym p ∙ read)))
  where
    not_read : Failed ≡ Rw → ⊥
    not_read e = cc

-- a page of so many
pub page_below : (page pages size : ℕ) → pages * PAGE_BYTES ≡ size → page * PAGE_BYTES < size → page < pages
page_below page pages size is below = omega (arith, is, below)

-- ---- a layer goes

module _ (t : ℕ) (o : OwnCall) (a0 a : Mine) (f : FoldOrDrop) (h : HasTurn t command.Purge o a0) (g : GoesOn a0 a) where
  folded : Goes (o ∷ []) a0 a
  folded = subst (λ os. Goes os a0 a) h.is g

  pub turn_there : HasTurn t command.Purge o a
  turn_there = record { is = goes_running (o ∷ []) a0 a folded; number = h.number; call = h.call; wants = h.wants; started = h.started }

  -- it was not enrolled
  pub out_same : (b : Mine) → b ≡ a → PurgesOn (o ∷ []) a0 b
  out_same b e = subst (PurgesOn (o ∷ []) a0) (sym e) (on_goes (o ∷ []) a0 a folded)

  module _ (n : ℕ) (b : Mine) (w : EnrolsUnder n (whole.Purge f) o a b) where
    abbrev open_now : List OwnCall
    open_now = o ∷ w.whole.own ∷ []

    enrolled : Goes open_now a0 b
    enrolled = goes_then (o ∷ []) open_now a0 a b folded (goes_to open_now a b w.whole.is)

    -- it was taken back
    pub out_left : (c : Mine) → c ≡ with_running b (o ∷ []) → PurgesOn (o ∷ []) a0 c
    out_left c e = on_goes (o ∷ []) a0 c (goes_then open_now (o ∷ []) a0 b c enrolled (goes_to (o ∷ []) b c e))

    -- there is no replica
    pub out_refused : (c : Mine) → RefusedWhole w.whole.own b c → PurgeEnds o a0 c
    out_refused c s = ends_refused w.whole.own o open_now a0 b c enrolled s w.whole.call (w.whole.call ∙ sym h.call) w.saw

    pub out_done : (c d : Mine) (s : StartsWhole (o ∷ []) w.whole.own b c) → EndsBehind (whole.Purge f) (o ∷ []) s.own c d
        → GoesNext f a0 → PurgesOn (o ∷ []) a0 d
    out_done c d s e next =
        let started = o ∷ s.own ∷ [] in
        let asked = o ∷ record s.own { parts = e.parts } ∷ [] in
        on_part f asked (o ∷ []) a0 e.mid d
        (goes_then started asked a0 c e.mid (goes_then open_now started a0 b c enrolled (goes_to started b c s.is)) e.goes) next e.ends

-- ---- the answer

pub none_open : (t : ℕ) (o : OwnCall) (a b : Mine) → HasTurn t command.Purge o a → b ≡ a → PurgesOn (o ∷ []) a b
none_open t o a b h e = on_none (o ∷ []) a b (e ∙ ap (with_running a) h.is)

-- the end was asked for
pub round_ends : {A E : Type 0} (res : Result A E) (t : ℕ) (o : OwnCall) (r : Reply) (a b c : Mine)
    → HasTurn t command.Purge o a → b ≡ a → IfSome a.log (λ l. IsPurgeReply l.spot r)
    → OnOk res ((o : OwnCall) → HasTurn t command.Purge o b → AnswersWhole o r b c) → OnErr res (c ≡ b) → RoundTo o (is_ok res) a c
round_ends (Ok x) t o r a b c h e right ok err = ends_now o o r a b c e (ok o (subst (HasTurn t command.Purge o) (sym e) h)) refl refl right
round_ends (Err x) t o r a b c h e right ok err = none_open t o a c h (err ∙ e)

-- and what lines show is shown still
pub round_stays : {A E : Type 0} (res : Result A E) (t : ℕ) (r : Reply) (b c : Mine) → ((o : OwnCall) × HasTurn t command.Purge o b)
    → OnOk res ((o : OwnCall) → HasTurn t command.Purge o b → AnswersWhole o r b c) → OnErr res (c ≡ b) → StaysShown b c
round_stays (Ok x) t r b c op ok err =
    let s = ok op.0 op.1 in
    stays_answer command.Purge s.spot s.answer (entries_in (answer_placed s.spot s.answer ∷ [])) b c s.is (s.call ∙ op.1.call)
round_stays (Err x) t r b c op ok err = stays_same b c err

-- what goes next says how it may end
pub next_done : (log : Option Log) (x : NextPart) → x ≡ next.Nothing → IfSome log (IsNext x)
    → IfSome log (λ l. IsPurgeReply l.spot reply.Done)
next_done None x e h = tt
next_done (Some l) x e h = subst (λ y. IsNext y l) e h

pub next_refused : (log : Option Log) (x : NextPart) → x ≡ next.NoReplica → IfSome log (IsNext x)
    → IfSome log (λ l. IsPurgeReply l.spot (reply.Refused NoReplica))
next_refused None x e h = tt
next_refused (Some l) x e h = (refl, subst (λ y. IsNext y l) e h)

-- ---- round after round

pub on_turn : (t : ℕ) (o : OwnCall) (a b : Mine) → HasTurn t command.Purge o a → PurgesOn (o ∷ []) a b → HasTurn t command.Purge o b
on_turn t o a b h f = record {
  is = ap (λ (m : Mine). m.running) f.is;
  number = h.number;
  call = h.call;
  wants =
      h.wants;
  started = h.started;
}

pub rounds_on : (t : ℕ) (a b c : Mine) → ((o : OwnCall) → HasTurn t command.Purge o a → PurgesOn (o ∷ []) a b)
    → ((o : OwnCall) → HasTurn t command.Purge o b → PurgesOn (o ∷ []) b c) → (o : OwnCall) → HasTurn t command.Purge o a
    → PurgesOn (o ∷ []) a c
rounds_on t a b c f g o h = on_then (o ∷ []) (o ∷ []) a b c (f o h) (g o (on_turn t o a b h (f o h)))

pub rounds_end : (t : ℕ) (a b c : Mine) → ((o : OwnCall) → HasTurn t command.Purge o a → PurgesOn (o ∷ []) a b)
    → ((o : OwnCall) → HasTurn t command.Purge o b → PurgeEnds o b c) → (o : OwnCall) → HasTurn t command.Purge o a
    → PurgesWhole o a c
rounds_end t a b c f g o h = record { mid = b; on = f o h; ends = g o (on_turn t o a b h (f o h)) }

-- ---- from its call to its answer

pub purge_grew : {E : Type 0} (res : Result (Unit {0}) E) (t : ℕ) (a c d : Mine) → TakesTurn t command.Purge a c
    → OnOk res ((o : OwnCall) → HasTurn t command.Purge o c → PurgesWhole o c d) → OnOk res (GrewByCommand command.Purge a d)
purge_grew (Ok u) t a c d k done =
    let s = done k.own k.has in
    let os = k.own ∷ [] in
    grew_purge k.own os a s.mid d (on_then os os a c s.mid (on_none os a c k.is) s.on) s.ends k.call k.saw
purge_grew (Err x) t a c d k done = tt

pub purge_left : {E : Type 0} (res : Result (Unit {0}) E) (t : ℕ) (a c d : Mine) → TakesTurn t command.Purge a c
    → OnErr res (GaveUp c d) → OnErr res (GaveUp a d)
purge_left (Ok u) t a c d k left = tt
purge_left (Err x) t a c d k left = record {
  own = left.own;
  marks = left.marks;
  is = left.is ∙ ap (λ (m : Mine). with_entries m left.own left.marks []) k.is;
  same = left.same;
  are = subst (λ n. All (MayComeBefore n) left.marks) (ap (λ (m : Mine). m.stream) k.is) left.are;
}
