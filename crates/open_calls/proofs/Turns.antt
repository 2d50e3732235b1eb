-- The queue of the commands that want the maintenance turn: one is enrolled, starts, is withdrawn, asks and ends.
use Rattle.std.proofs.Common.{◌≡◌, ◌≢◌, ℕ, ◌%◌, ◌<◌, ◌≤◌, ⊎_elim, true, false, List, [], ◌∷◌, ◌++◌, length}
use Rattle.std.proofs.Common.{length-set, get_or-set_same, subst, sym, refl, ap, ◌∙◌, arith}
use Rattle.std.specs.Prelude.{Some}
use Rattle.std.specs.List.{remove}
use Rattle.std.proofs.lemmas.Bool.{cases_lt, cases_eq}
use Rattle.std.proofs.lemmas.List.{get_or_append_left, length_push}
use Rattle.std.proofs.lemmas.List.Edits.{length-remove, get_or-remove_below}
use Rattle.vol_units.specs.Name.{begins_sys}
use Rattle.vol_units.specs.Range.{blocks_around}
use Rattle.volume_model.specs.declared.command.Command.{Command}
use Rattle.volume_model.specs.declared.command.Command.TheVariants as command
use Rattle.volume_model.specs.declared.entry.Entry.{Entry}
use Rattle.volume_model.specs.declared.mode.Mode.{Mode}
use Rattle.volume_model.specs.Snapshots.{Snapshots}
use Rattle.range_turns.specs.declared.ticket.Kind.TheVariants as kind
use Rattle.range_turns.specs.declared.ticket.Ticket.{Ticket}
use Rattle.range_turns.specs.Order.{ticket_at, no_ticket, IsFresh, with_started}
use Rattle.range_turns.proofs.OrderLemmas.{AreInOrder-push, AreInOrder-with_started, AreInOrder-remove}
use Rattle.replica_node.specs.Node.{Node}
use Rattle.open_calls.specs.declared.open_call.OpenCall.{OpenCall}
use Rattle.step_answers.specs.declared.whole_op.WholeOp.{WholeOp}
use Rattle.step_answers.specs.declared.whole_op.WholeOp.TheVariants as whole
use Rattle.step_answers.specs.Asked.{command_of}
use Rattle.open_calls.specs.Calls.{open_at, whole_call}
use Rattle.open_calls.specs.Clients.{Fits, IsIdle, behind_last}
use Rattle.open_calls.proofs.Enrolled.{enrolled_fits}
use Rattle.open_calls.proofs.FreeLemmas.{not_both}
use Rattle.open_calls.proofs.ListLemmas.{at_set, at_push, skip, skip-in, skip-other, skip-more, get_or-remove}
use Rattle.open_calls.proofs.SeenLemmas.{behind_within}
use Rattle.open_calls.specs.declared.maint.MaintCall.{MaintCall}
use Rattle.open_calls.specs.Maint.{command_at, no_command, IsMaint, HasNoCommand, HasTurn, IsAskedBy, IsOfTurn, CanStill}
use Rattle.open_calls.specs.Maint.{FitsMaint, AreQueued, AreMaint}
use Rattle.open_calls.proofs.Kept.{each_push}
use Rattle.open_calls.proofs.PartSteps.{turn_of}

-- ---- the command that has the turn

-- it is the first, and has started
abbrev pub IsFirst : List Ticket → List MaintCall → MaintCall → Type 0
IsFirst maint commands c = (0 < length commands) × ((ticket_at maint 0).started ≡ true) × (command_at commands 0 ≡ c)

-- whichever it is, it has it still
abbrev pub FirstStays : List Ticket → List MaintCall → List Ticket → List MaintCall → Type 0
FirstStays maint commands maint2 commands2 =
    0 < length commands → (ticket_at maint 0).started ≡ true → IsFirst maint2 commands2 (command_at commands 0)

pub turn_still : (maint maint2 : List Ticket) (commands commands2 : List MaintCall) (stream : ℕ) (c : Command)
    → HasTurn maint commands stream c → IsFirst maint2 commands2 (command_at commands 0) → HasTurn maint2 commands2 stream c
turn_still maint maint2 commands commands2 stream c has first = record {
  some = first.0;
  started = first.1;
  own = ap (λ (x : MaintCall). x.stream) first.2 ∙ has.own;
  command = ap (λ (x : MaintCall). x.command) first.2 ∙ has.command;
}

-- as one is enrolled
pub first_pushed : (maint : List Ticket) (commands : List MaintCall) (t : Ticket) (c : MaintCall)
    → length commands ≡ length maint → FirstStays maint commands (maint ++ t ∷ []) (commands ++ c ∷ [])
first_pushed maint commands t c paired some started = (
  omega (arith, some, length_push commands c),
  ap (λ (x : Ticket). x.started) (get_or_append_left maint (t ∷ []) no_ticket 0 (omega (arith, some, paired))) ∙ started,
  get_or_append_left commands (c ∷ []) no_command 0 some,
)

-- as the first has the turn
pub first_started : (maint : List Ticket) (commands : List MaintCall) → 0 < length maint
    → FirstStays maint commands (with_started maint 0) commands
first_started maint commands within some started = (
  some,
  ap (λ (x : Ticket). x.started)
      (get_or-set_same maint 0 (record (ticket_at maint 0) { started = true }) no_ticket within),
  refl,
)

-- as one goes that waits
pub first_left : (maint : List Ticket) (commands : List MaintCall) (k : ℕ) → length commands ≡ length maint
    → k < length maint → (ticket_at maint k).started ≡ false
    → FirstStays maint commands (remove maint k) (remove commands k)
first_left maint commands k paired h waits some started =
    ⊎_elim
    (λ zero. absurd (not_both (ticket_at maint k).started waits (ap (λ n. (ticket_at maint n).started) zero ∙ started)))
    (λ later.
    let low : 0 < k = omega (arith, later) in
    let within : k < length commands = omega (arith, h, paired) in (
      omega (arith, low, within, length-remove commands k within),
      ap (λ (x : Ticket). x.started) (get_or-remove_below maint k no_ticket 0 low h) ∙ started,
      get_or-remove_below commands k no_command 0 low within,
    ))
    (cases_eq k 0)

-- ---- a ticket fits, where what is asked of the queue stays

-- an operation is asked as before
pub asked_still : (maint maint2 : List Ticket) (commands commands2 : List MaintCall) (stream : ℕ) (op : WholeOp)
    → ((c : Command) → HasTurn maint commands stream c → HasTurn maint2 commands2 stream c)
    → (HasNoCommand stream commands → HasNoCommand stream commands2) → IsAskedBy maint commands stream op
    → IsAskedBy maint2 commands2 stream op
asked_still maint maint2 commands commands2 stream (whole.Snapshot name) turn none asked = (asked.0, none asked.1)
asked_still maint maint2 commands commands2 stream (whole.Remove name) turn none asked = turn (command.Remove name) asked
asked_still maint maint2 commands commands2 stream (whole.Revert name) turn none asked = turn (command.Revert name) asked
asked_still maint maint2 commands commands2 stream (whole.Purge f) turn none asked = turn command.Purge asked
asked_still maint maint2 commands commands2 stream (whole.Barrier r) turn none asked = turn (command.Add r) asked

-- and its ticket fits
pub fits_queue : (s : Snapshots) (modes : List Mode) (ns : List Node) (maint maint2 : List Ticket)
    (commands commands2 : List MaintCall) (t : Ticket) (c : OpenCall)
    → ((d : Command) → HasTurn maint commands c.stream d → IsFirst maint2 commands2 (command_at commands 0))
    → (HasNoCommand c.stream commands → HasNoCommand c.stream commands2)
    → ((k : ℕ) → k < length commands2 → c.stream ≡ (command_at commands2 k).stream → t.kind ≡ kind.Whole)
    → FitsMaint s modes ns maint commands t c → FitsMaint s modes ns maint2 commands2 t c
fits_queue s modes ns maint maint2 commands commands2 t c first none apart fit = record {
  apart = apart;
  whole = λ w. let o = fit.whole w in
      record {
        op = o.op;
        is = o.is;
        asked = asked_still maint maint2 commands commands2 c.stream o.op
            (λ d has. turn_still maint maint2 commands commands2 c.stream d has (first d has)) none o.asked;
        saw = λ of. o.saw of
            ∙ ap (λ (x : MaintCall). x.saw) (sym (first (command_of o.op) (turn_of maint commands c.stream o.op of o.asked)).2);
        still = o.still;
      };
}

-- ---- a command is enrolled behind all

module _ (streams : ℕ) (es : List Entry) (maint : List Ticket) (commands : List MaintCall) (t : Ticket) (c : MaintCall)
    (ok : AreQueued streams es maint commands) where
  abbrev longer : List Ticket
  longer = maint ++ t ∷ []

  abbrev more : List MaintCall
  more = commands ++ c ∷ []

  each_command : (P : MaintCall → Type 0) → ((k : ℕ) → k < length commands → P (command_at commands k)) → P c → (k : ℕ)
      → k < length more → P (command_at more k)
  each_command P old new k l = at_push P commands c k no_command l (old k) (λ _. new)

  -- the queue with it
  pub queued_more : t.kind ≡ kind.Whole → t.started ≡ false → IsFresh maint t.number → IsMaint c.command
      → c.stream < streams → c.saw ≡ length es → HasNoCommand c.stream commands → AreQueued streams es longer more
  queued_more is waits fresh wants within saw none = record {
    paired = omega (arith, ok.paired, length_push commands c, length_push maint t);
    order = AreInOrder-push maint t fresh waits ok.order;
    kinds = λ k l. at_push (λ (x : Ticket). x.kind ≡ kind.Whole) maint t k no_ticket l (ok.kinds k) (λ _. is);
    want = each_command (λ (x : MaintCall). IsMaint x.command) ok.want wants;
    within = each_command (λ (x : MaintCall). x.stream < streams) ok.within within;
    alone = λ k l b h. at_push (λ (x : MaintCall). (command_at more k).stream ≢ x.stream) commands c l no_command h
        (λ m. subst (λ (x : MaintCall). x.stream ≢ (command_at commands l).stream)
        (sym (get_or_append_left commands (c ∷ []) no_command k (omega (arith, b, m)))) (ok.alone k l b m))
        (λ e. subst (λ (x : MaintCall). x.stream ≢ c.stream)
        (sym (get_or_append_left commands (c ∷ []) no_command k (omega (arith, b, e)))) (none k (omega (arith, b, e))));
    past = each_command (λ (x : MaintCall). behind_last x.stream es ≤ x.saw) ok.past (omega (arith, saw, behind_within c.stream es));
    saw = each_command (λ (x : MaintCall). x.saw ≤ length es) ok.saw (omega (arith, saw));
  }

  -- a call of another stream fits as before
  pub fits_more : (s : Snapshots) (modes : List Mode) (ns : List Node) (u : Ticket) (d : OpenCall) → d.stream ≢ c.stream
      → FitsMaint s modes ns maint commands u d → FitsMaint s modes ns longer more u d
  fits_more s modes ns u d other fit =
      fits_queue s modes ns maint longer commands more u d
      (λ e has. first_pushed maint commands t c ok.paired has.some has.started)
      (λ none. each_command (λ (x : MaintCall). x.stream ≢ d.stream) none (λ e. other (sym e)))
      (each_command (λ (x : MaintCall). d.stream ≡ x.stream → u.kind ≡ kind.Whole) fit.apart (λ e. absurd (other e)))
      fit

-- the queue and the calls, once a command of a stream that has nothing open is enrolled
pub turn_enrolled : (s : Snapshots) (streams : ℕ) (es : List Entry) (modes : List Mode) (ts : List Ticket)
    (cs : List OpenCall) (ns : List Node) (maint : List Ticket) (commands : List MaintCall) (t : Ticket) (c : MaintCall)
    → length cs ≡ length ts → t.kind ≡ kind.Whole → t.started ≡ false → IsFresh maint t.number → IsMaint c.command
    → c.stream < streams → c.saw ≡ length es → HasNoCommand c.stream commands → IsIdle c.stream cs
    → AreMaint s streams es modes ts cs ns maint commands → AreMaint s streams es modes ts cs ns (maint ++ t ∷ []) (commands ++ c ∷ [])
turn_enrolled s streams es modes ts cs ns maint commands t c paired is waits fresh wants within saw none idle ok = record {
  queued = queued_more streams es maint commands t c ok.queued is waits fresh wants within saw none;
  fits = λ i l. fits_more streams es maint commands t c ok.queued s modes ns (ticket_at ts i) (open_at cs i)
      (idle i (omega (arith, l, paired))) (ok.fits i l);
}

-- ---- the first starts

module _ (streams : ℕ) (es : List Entry) (maint : List Ticket) (commands : List MaintCall)
    (ok : AreQueued streams es maint commands) (some : 0 < length maint) where
  abbrev first : Ticket
  first = record (ticket_at maint 0) { started = true }

  -- the queue then
  pub queued_started : AreQueued streams es (with_started maint 0) commands
  queued_started = record {
    paired = ok.paired ∙ sym (length-set maint 0 first);
    order = AreInOrder-with_started maint 0 (λ k l. absurd (omega (arith, l))) ok.order;
    kinds = λ k l. at_set (λ (x : Ticket). x.kind ≡ kind.Whole) maint 0 k first no_ticket some (λ _. ok.kinds 0 some)
        (λ _. ok.kinds k (omega (arith, l, length-set maint 0 first)));
    want = ok.want;
    within = ok.within;
    alone = ok.alone;
    past = ok.past;
    saw = ok.saw;
  }

  -- and each call fits as before
  pub fits_turn : (s : Snapshots) (modes : List Mode) (ns : List Node) (u : Ticket) (d : OpenCall)
      → FitsMaint s modes ns maint commands u d → FitsMaint s modes ns (with_started maint 0) commands u d
  fits_turn s modes ns u d fit =
      fits_queue s modes ns maint (with_started maint 0) commands commands u d
      (λ e has. first_started maint commands some has.some has.started)
      (λ none. none) fit.apart fit

-- the queue and the calls, once the first has started
pub turn_started : (s : Snapshots) (streams : ℕ) (es : List Entry) (modes : List Mode) (ts : List Ticket)
    (cs : List OpenCall) (ns : List Node) (maint : List Ticket) (commands : List MaintCall) → 0 < length maint
    → AreMaint s streams es modes ts cs ns maint commands → AreMaint s streams es modes ts cs ns (with_started maint 0) commands
turn_started s streams es modes ts cs ns maint commands some ok = record {
  queued = queued_started streams es maint commands ok.queued some;
  fits = λ i l. fits_turn streams es maint commands ok.queued some s modes ns (ticket_at ts i) (open_at cs i) (ok.fits i l);
}

-- ---- a command goes

module _ (streams : ℕ) (es : List Entry) (maint : List Ticket) (commands : List MaintCall) (k : ℕ)
    (ok : AreQueued streams es maint commands) (h : k < length maint) where
  abbrev fewer : List Ticket
  fewer = remove maint k

  abbrev others : List MaintCall
  others = remove commands k

  command_in : k < length commands
  command_in = omega (arith, h, ok.paired)

  was : (l : ℕ) → command_at others l ≡ command_at commands (skip k l)
  was l = get_or-remove commands k l no_command command_in

  was_in : (l : ℕ) → l < length others → skip k l < length commands
  was_in l m = skip-in k l (length commands) (omega (arith, m, length-remove commands k command_in))

  each_other : (P : MaintCall → Type 0) → ((l : ℕ) → l < length commands → P (command_at commands l)) → (l : ℕ)
      → l < length others → P (command_at others l)
  each_other P old l m = subst P (sym (was l)) (old (skip k l) (was_in l m))

  -- the queue without it
  pub queued_less : AreQueued streams es fewer others
  queued_less = record {
    paired = omega (arith, ok.paired, length-remove maint k h, length-remove commands k command_in);
    order = AreInOrder-remove maint k h ok.order;
    kinds = λ l m. subst (λ (x : Ticket). x.kind ≡ kind.Whole) (sym (get_or-remove maint k l no_ticket h))
        (ok.kinds (skip k l) (skip-in k l (length maint) (omega (arith, m, length-remove maint k h))));
    want = each_other (λ (x : MaintCall). IsMaint x.command) ok.want;
    within = each_other (λ (x : MaintCall). x.stream < streams) ok.within;
    alone = λ a b l m. subst (λ (x : MaintCall). x.stream ≢ (command_at others b).stream) (sym (was a))
        (subst (λ (x : MaintCall). (command_at commands (skip k a)).stream ≢ x.stream) (sym (was b))
        (ok.alone (skip k a) (skip k b) (skip-more k a b l) (was_in b m)));
    past = each_other (λ (x : MaintCall). behind_last x.stream es ≤ x.saw) ok.past;
    saw = each_other (λ (x : MaintCall). x.saw ≤ length es) ok.saw;
  }

  -- its stream has no command any more
  pub none_left : HasNoCommand (command_at commands k).stream others
  none_left l m e =
      ⊎_elim
      (λ below. ok.alone (skip k l) k below command_in (ap (λ (x : MaintCall). x.stream) (sym (was l)) ∙ e))
      (λ above. ok.alone k (skip k l) (omega (arith, above, skip-other k l)) (was_in l m)
      (sym (ap (λ (x : MaintCall). x.stream) (sym (was l)) ∙ e)))
      (cases_lt (skip k l) k)

  -- each call fits that was not asked by it
  fits_less : (s : Snapshots) (modes : List Mode) (ns : List Node) (u : Ticket) (d : OpenCall)
      → ((c : Command) → HasTurn maint commands d.stream c → IsFirst fewer others (command_at commands 0))
      → FitsMaint s modes ns maint commands u d → FitsMaint s modes ns fewer others u d
  fits_less s modes ns u d first fit =
      fits_queue s modes ns maint fewer commands others u d first
      (λ none. each_other (λ (x : MaintCall). x.stream ≢ d.stream) none)
      (each_other (λ (x : MaintCall). d.stream ≡ x.stream → u.kind ≡ kind.Whole) fit.apart)
      fit

  -- one that has not started is withdrawn, and each call fits
  pub fits_withdrawn : (s : Snapshots) (modes : List Mode) (ns : List Node) (u : Ticket) (d : OpenCall)
      → (ticket_at maint k).started ≡ false → FitsMaint s modes ns maint commands u d
      → FitsMaint s modes ns fewer others u d
  fits_withdrawn s modes ns u d waits = fits_less s modes ns u d
      (λ c has. first_left maint commands k ok.paired h waits has.some has.started)

  -- the first ends, and each call of another stream fits
  pub fits_ended : (s : Snapshots) (modes : List Mode) (ns : List Node) (u : Ticket) (d : OpenCall) → k ≡ 0
      → d.stream ≢ (command_at commands k).stream → FitsMaint s modes ns maint commands u d
      → FitsMaint s modes ns fewer others u d
  fits_ended s modes ns u d zero other = fits_less s modes ns u d
      (λ c has. absurd (other (sym has.own ∙ ap (λ n. (command_at commands n).stream) (sym zero))))

-- a command that has not started is withdrawn
pub turn_withdrawn : (s : Snapshots) (streams : ℕ) (es : List Entry) (modes : List Mode) (ts : List Ticket)
    (cs : List OpenCall) (ns : List Node) (maint : List Ticket) (commands : List MaintCall) (k : ℕ) → k < length maint
    → (ticket_at maint k).started ≡ false → AreMaint s streams es modes ts cs ns maint commands
    → AreMaint s streams es modes ts cs ns (remove maint k) (remove commands k)
turn_withdrawn s streams es modes ts cs ns maint commands k h waits ok = record {
  queued = queued_less streams es maint commands k ok.queued h;
  fits = λ i l. fits_withdrawn streams es maint commands k ok.queued h s modes ns (ticket_at ts i) (open_at cs i) waits (ok.fits i l);
}

-- the first ends, while its stream has nothing open
pub turn_ended : (s : Snapshots) (streams : ℕ) (es : List Entry) (modes : List Mode) (ts : List Ticket) (cs : List OpenCall)
    (ns : List Node) (maint : List Ticket) (commands : List MaintCall) → length cs ≡ length ts → 0 < length maint
    → IsIdle (command_at commands 0).stream cs → AreMaint s streams es modes ts cs ns maint commands
    → AreMaint s streams es modes ts cs ns (remove maint 0) (remove commands 0)
turn_ended s streams es modes ts cs ns maint commands paired h idle ok = record {
  queued = queued_less streams es maint commands 0 ok.queued h;
  fits = λ i l. fits_ended streams es maint commands 0 ok.queued h s modes ns (ticket_at ts i) (open_at cs i) refl
      (idle i (omega (arith, l, paired))) (ok.fits i l);
}

-- ---- what a stream asks for the whole volume

-- the command that has the turn asks
pub turn_asks : (s : Snapshots) (modes : List Mode) (ns : List Node) (maint : List Ticket) (commands : List MaintCall)
    (t : Ticket) (c : OpenCall) (op : WholeOp) → t.kind ≡ kind.Whole → c.op ≡ Some op → IsOfTurn op
    → HasTurn maint commands c.stream (command_of op) → c.saw ≡ (command_at commands 0).saw → CanStill s modes ns op
    → FitsMaint s modes ns maint commands t c
turn_asks s modes ns maint commands t c op is asks of turn saw can = record {
  apart = λ _ _ _. is;
  whole = λ _. record { op = op; is = asks; asked = go op of turn; saw = λ _. saw; still = λ _. can };
}
  where
    go : (op : WholeOp) → IsOfTurn op → HasTurn maint commands c.stream (command_of op) → IsAskedBy maint commands c.stream op
    go (whole.Snapshot name) of turn = absurd of
    go (whole.Remove name) of turn = turn
    go (whole.Revert name) of turn = turn
    go (whole.Purge f) of turn = turn
    go (whole.Barrier r) of turn = turn

-- a stream with no command asks for a snapshot
pub snapshot_asks : (s : Snapshots) (modes : List Mode) (ns : List Node) (maint : List Ticket) (commands : List MaintCall)
    (t : Ticket) (c : OpenCall) (name : List ℕ) → t.kind ≡ kind.Whole → c.op ≡ Some (whole.Snapshot name)
    → begins_sys name ≡ false → HasNoCommand c.stream commands → FitsMaint s modes ns maint commands t c
snapshot_asks s modes ns maint commands t c name is asks own none = record {
  apart = λ _ _ _. is;
  whole = λ _. record { op = whole.Snapshot name; is = asks; asked = (own, none); saw = λ of. absurd of; still = λ _. tt };
}

-- its ticket is enrolled
pub maint_enrolled : (s : Snapshots) (streams : ℕ) (es : List Entry) (modes : List Mode) (ts : List Ticket)
    (cs : List OpenCall) (ns : List Node) (maint : List Ticket) (commands : List MaintCall) (t : Ticket) (c : OpenCall)
    → length cs ≡ length ts → FitsMaint s modes ns maint commands t c → AreMaint s streams es modes ts cs ns maint commands
    → AreMaint s streams es modes (ts ++ t ∷ []) (cs ++ c ∷ []) ns maint commands
maint_enrolled s streams es modes ts cs ns maint commands t c paired fit ok = record {
  queued = ok.queued;
  fits = each_push (FitsMaint s modes ns maint commands) ts cs t c paired ok.fits fit;
}

-- and its call fits it, as one of no bytes
pub whole_fits : (size streams replicas stream saw : ℕ) (t : Ticket) (op : WholeOp) → size % 2097152 ≡ 0
    → t.range ≡ blocks_around 0 0 → t.started ≡ false → t.kind ≡ kind.Whole → stream < streams
    → Fits size streams replicas t (whole_call stream saw op)
whole_fits size streams replicas stream saw t op whole is waits k within =
    enrolled_fits size streams replicas t (whole_call stream saw op) whole is waits (omega arith)
    (λ e. absurd (no_read (sym k ∙ e))) (λ e. absurd (no_write (sym k ∙ e))) within
  where
    no_read : kind.Whole ≢ kind.Read
    no_read e = cc

    no_write : kind.Whole ≢ kind.Write
    no_write e = cc
