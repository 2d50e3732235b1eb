-- A call on the whole volume starts: nothing else has started, so each replica that is read is the volume.
use Rattle.std.proofs.Common.{◌≡◌, ◌≢◌, ℕ, ◌<◌, ⊎_elim, Bool, true, false, List, length, map, length-set}
use Rattle.std.proofs.Common.{get_or-set_same, subst, sym, refl, ap, ◌∙◌, arith}
use Rattle.std.specs.Prelude.{Some}
use Rattle.std.proofs.lemmas.Bool.{cases_lt, cases_eq}
use Rattle.std.proofs.lemmas.List.{ext_get_or, length-map}
use Rattle.volume_model.specs.declared.entry.Entry.{Entry}
use Rattle.volume_model.specs.declared.mode.Mode.{Mode}
use Rattle.volume_model.specs.declared.mode.Mode.TheVariants.{Rw, Wo, Err}
use Rattle.volume_model.specs.Modes.{mode_of}
use Rattle.volume_model.specs.Names.{AreNamed}
use Rattle.volume_model.specs.PlainState.{PlainState, Volume, Copy}
use Rattle.volume_model.specs.Snapshots.{Snapshots}
use Rattle.range_turns.specs.declared.ticket.Kind.TheVariants as kind
use Rattle.range_turns.specs.declared.ticket.Ticket.{Ticket}
use Rattle.range_turns.specs.Order.{ticket_at, no_ticket, IsClear, AreInOrder, StandsAt, with_started}
use Rattle.range_turns.proofs.OrderLemmas.{AreInOrder-with_started}
use Rattle.replica_node.specs.Node.{Node}
use Rattle.replica_node.specs.Fold.{snapshots_of}
use Rattle.replica_node.specs.Volume.{volume_of_node}
use Rattle.open_calls.specs.declared.open_call.OpenCall.{OpenCall}
use Rattle.step_answers.specs.declared.parts.Part.{Part}
use Rattle.step_answers.specs.declared.whole_op.WholeOp.{WholeOp}
use Rattle.step_answers.specs.declared.whole_op.WholeOp.TheVariants as whole
use Rattle.open_calls.specs.Calls.{open_at, node_at}
use Rattle.open_calls.specs.Clients.{AreClients, Agree, Fits, IsWriting, IsReading, IsUnheld, byte_of}
use Rattle.step_answers.specs.Parts.{part_at, part_for}
use Rattle.open_calls.proofs.FreeLemmas.{not_both}
use Rattle.open_calls.proofs.ListLemmas.{at_set}
use Rattle.open_calls.proofs.PartLemmas.{up_in, rw_up, part_of, part_for_up}
use Rattle.open_calls.specs.declared.maint.MaintCall.{MaintCall}
use Rattle.open_calls.specs.declared.whole.Whole.{Whole}
use Rattle.open_calls.specs.Due.{part_on, due_of, form_part, formed}
use Rattle.open_calls.specs.Whole.{MayBeDone, CanTake, IsFoldedFor, AreSpared, IsStarted, spare_at}
use Rattle.open_calls.specs.Maint.{CanStill, FitsMaint}
use Rattle.open_calls.proofs.Forms.{length-formed, formed_in, part_for_owed}
use Rattle.open_calls.proofs.Kept.{whole_after, whole_before}
use Rattle.open_calls.proofs.Ops.{IsPlain, CanBe, can_be, op_whole, op_tree, due_size, plain_stands}

-- ---- while no ticket is started

-- no ticket is started
abbrev pub IsStill : List Ticket → Type 0
IsStill tickets = (j : ℕ) → j < length tickets → (ticket_at tickets j).started ≡ false

-- none is, where nothing is in the way of a call on the whole volume that waits
pub still_clear : (ts : List Ticket) (i : ℕ) → AreInOrder ts → i < length ts → (ticket_at ts i).kind ≡ kind.Whole
    → (ticket_at ts i).started ≡ false → IsClear ts i → IsStill ts
still_clear ts i order h is waits clear j l = one (ticket_at ts j).started refl
  where
    one : (b : Bool) → (ticket_at ts j).started ≡ b → (ticket_at ts j).started ≡ false
    one false e = e
    one true e =
        ⊎_elim
        (λ below. absurd (whole_before ts j i below is clear))
        (λ above. ⊎_elim
        (λ same. ap (λ n. (ticket_at ts n).started) same ∙ waits)
        (λ other. absurd (whole_after ts j i (omega (arith, above, other)) is (order.apart j l e)))
        (cases_eq j i))
        (cases_lt j i)

-- then no byte is held
pub still_unheld : (ts : List Ticket) (k : ℕ) → IsStill ts → IsUnheld ts k
still_unheld ts k still i l w = absurd (not_both (ticket_at ts i).started (still i l) w.started)

-- where no replica is rebuilt, one that has not failed is read
pub settled_rw : (m : Mode) → m ≢ Wo → m ≢ Err → m ≡ Rw
settled_rw Rw w e = refl
settled_rw Wo w e = absurd (w refl)
settled_rw Err w e = absurd (e refl)

volume_with : List ℕ → List Copy → Snapshots → Volume
volume_with d a s = record { disk = d; copies = a; snapshots = s }

same_volume : (d e : List ℕ) (a b : List Copy) (s t : Snapshots) → d ≡ e → a ≡ b → s ≡ t → volume_with d a s ≡ volume_with e b t
same_volume d e a b s t f g h = cc

-- a replica that is read is the volume then
pub is_volume : (v : Volume) (size r : ℕ) (modes : List Mode) (ts : List Ticket) (ns : List Node) → IsStill ts
    → Agree v size modes ts ns → mode_of modes r ≡ Rw → volume_of_node (node_at ns r) ≡ v
unfolding volume_with
is_volume v size r modes ts ns still ok e =
    let n = node_at ns r in
    let up = rw_up (mode_of modes r) e in
    let disk : n.disk ≡ v.disk = ext_get_or 0 n.disk v.disk (ok.sizes r up ∙ sym ok.disk)
    (λ k l. ok.bytes r k e (still_unheld ts k still)) in
    same_volume n.disk v.disk _ v.copies _ v.snapshots disk (ok.copies r e) (ok.tree r up)

-- ---- a ticket that starts

-- it keeps its number
pub started_number : (ts : List Ticket) (i j : ℕ) → i < length ts → (ticket_at (with_started ts i) j).number ≡ (ticket_at ts j).number
started_number ts i j h = at_set (λ (x : Ticket). x.number ≡ (ticket_at ts j).number) ts i j
    (record (ticket_at ts i) { started = true }) no_ticket h (λ e. ap (λ n. (ticket_at ts n).number) (sym e)) (λ _. refl)

-- and stands there under it alone
pub started_stands : (ts : List Ticket) (i : ℕ) → AreInOrder ts → i < length ts → StandsAt (with_started ts i) (ticket_at ts i).number i
started_stands ts i order h = record {
  within = omega (arith, h, length-set ts i (record (ticket_at ts i) { started = true }));
  is = started_number ts i i h;
  only = λ j l e. alone j (omega (arith, l, length-set ts i (record (ticket_at ts i) { started = true })))
      (sym (started_number ts i j h) ∙ e);
}
  where
    alone : (j : ℕ) → j < length ts → (ticket_at ts j).number ≡ (ticket_at ts i).number → j ≡ i
    alone j l e =
        ⊎_elim
        (λ same. same)
        (λ other. ⊎_elim
        (λ below. absurd (order.numbered j i below h e))
        (λ above. absurd (order.numbered i j (omega (arith, above, other)) l (sym e)))
        (cases_lt j i))
        (cases_eq j i)

-- its operation asks no more of the replicas, and all else of it stays
pub fits_started : (s : Snapshots) (modes : List Mode) (ns : List Node) (maint : List Ticket) (commands : List MaintCall)
    (t : Ticket) (c : OpenCall) → FitsMaint s modes ns maint commands t c
    → FitsMaint s modes ns maint commands (record t { started = true }) c
fits_started s modes ns maint commands t c fit = record {
  apart = fit.apart;
  whole = λ w. let o = fit.whole w in record { op = o.op; is = o.is; asked = o.asked; saw = o.saw; still = λ e. absurd (never e) };
}
  where
    never : true ≡ false → ⊥
    never e = cc

-- each ticket fits the maintenance turn as before
pub maint_started : (s : Snapshots) (modes : List Mode) (ns : List Node) (maint : List Ticket) (commands : List MaintCall)
    (ts : List Ticket) (cs : List OpenCall) (i : ℕ) → i < length ts
    → ((j : ℕ) → j < length ts → FitsMaint s modes ns maint commands (ticket_at ts j) (open_at cs j))
    → (j : ℕ) → j < length (with_started ts i) → FitsMaint s modes ns maint commands (ticket_at (with_started ts i) j) (open_at cs j)
maint_started s modes ns maint commands ts cs i h fit j l =
    at_set (λ (x : Ticket). FitsMaint s modes ns maint commands x (open_at cs j)) ts i j
    (record (ticket_at ts i) { started = true }) no_ticket h
    (λ e. subst (λ n. FitsMaint s modes ns maint commands (record (ticket_at ts i) { started = true }) (open_at cs n))
    (sym e) (fits_started s modes ns maint commands (ticket_at ts i) (open_at cs i) (fit i h)))
    (λ _. fit j (omega (arith, l, length-set ts i (record (ticket_at ts i) { started = true }))))

-- what a part of a purge finds that still can be done
pub folded_still : (op : WholeOp) (s : Snapshots) (modes : List Mode) (ns : List Node) (r : ℕ) → CanStill s modes ns op
    → mode_of modes r ≡ Rw → IsFoldedFor op (node_at ns r)
folded_still (whole.Snapshot name) s modes ns r can e = tt
folded_still (whole.Remove name) s modes ns r can e = tt
folded_still (whole.Revert name) s modes ns r can e = tt
folded_still (whole.Purge f) s modes ns r can e = can.folded r e
folded_still (whole.Barrier q) s modes ns r can e = tt

-- ---- the start

no_write : kind.Whole ≢ kind.Write
no_write e = cc

no_read : kind.Whole ≢ kind.Read
no_read e = cc

-- of the volume and of the replicas before and after
module _ (v v2 : Volume) (size streams : ℕ) (es : List Entry) (modes : List Mode) (ts : List Ticket) (cs : List OpenCall)
    (ns ns2 : List Node) (i : ℕ) (ok : AreClients v size streams es modes ts cs ns)
    (h : i < length ts) (is : (ticket_at ts i).kind ≡ kind.Whole) (waits : (ticket_at ts i).started ≡ false) (clear : IsClear ts i) where
  abbrev begun : Ticket
  begun = record (ticket_at ts i) { started = true }

  -- nothing has started before
  pub whole_still : IsStill ts
  whole_still = still_clear ts i ok.order h is waits clear

  still_in : (j : ℕ) → j < length (with_started ts i) → j < length ts
  still_in j l = omega (arith, l, length-set ts i begun)

  no_writing : (j : ℕ) → j < length (with_started ts i) → IsWriting (ticket_at (with_started ts i) j) → ⊥
  no_writing j l = at_set (λ (x : Ticket). IsWriting x → ⊥) ts i j begun no_ticket h (λ _ w. no_write (sym is ∙ w.writes))
      (λ _ w. not_both (ticket_at ts j).started (whole_still j (still_in j l)) w.started)

  no_reading : (j : ℕ) → j < length (with_started ts i) → IsReading (ticket_at (with_started ts i) j) → ⊥
  no_reading j l = at_set (λ (x : Ticket). IsReading x → ⊥) ts i j begun no_ticket h (λ _ w. no_read (sym is ∙ w.reads))
      (λ _ w. not_both (ticket_at ts j).started (whole_still j (still_in j l)) w.started)

  fits_begun : (t : Ticket) (c : OpenCall) → t.kind ≡ kind.Whole → Fits size streams (length ns) t c
      → Fits size streams (length ns) (record t { started = true }) c
  fits_begun t c w f = record {
    lies = record {
      around = f.lies.around;
      up = f.lies.up;
      within = f.lies.within;
      good = f.lies.good;
      covers =
          f.lies.covers;
      empty = f.lies.empty;
    };
    stream = f.stream;
    short = f.short;
    count = f.count;
    parts = λ _ n. absurd (n w);
    buffer = λ r. absurd (no_read (sym w ∙ r.reads));
    whole = λ r. absurd (no_write (sym w ∙ r.writes));
  }

  -- the call starts, where the replicas are the volume that is due
  pub started_whole : length ns2 ≡ length ns → length v2.disk ≡ size
      → ((r : ℕ) → mode_of modes r ≢ Err → length (node_at ns2 r).disk ≡ size)
      → ((r : ℕ) → mode_of modes r ≢ Err → snapshots_of (node_at ns2 r) ≡ v2.snapshots)
      → ((r : ℕ) → mode_of modes r ≡ Rw → volume_of_node (node_at ns2 r) ≡ v2)
      → AreClients v2 size streams es modes (with_started ts i) cs ns2
  started_whole many disk sizes tree read = record {
    paired = ok.paired ∙ sym (length-set ts i begun);
    order = AreInOrder-with_started ts i clear ok.order;
    fits = λ j l. subst (λ n. Fits size streams n (ticket_at (with_started ts i) j) (open_at cs j)) (sym many)
        (at_set (λ (x : Ticket). Fits size streams (length ns) x (open_at cs j)) ts i j begun no_ticket h
        (λ e. subst (λ n. Fits size streams (length ns) begun (open_at cs n)) (sym e)
        (fits_begun (ticket_at ts i) (open_at cs i) is (ok.fits i h)))
        (λ _. ok.fits j (still_in j l)));
    agree = record {
      disk = disk;
      as_many = ok.agree.as_many ∙ sym many;
      sizes = sizes;
      tree = tree;
      copies = λ r e. ap (λ (v : Volume). v.copies) (read r e);
      bytes = λ r k e free. ap (λ (v : Volume). byte_of v.disk k) (read r e);
    };
    writes = λ j l w. absurd (no_writing j l w);
    reads = λ j l w. absurd (no_reading j l w);
    seen = ok.seen;
  }

-- the call is started then, which owes its part to each replica that has not failed
pub started_is : (p : PlainState) (modes : List Mode) (ts : List Ticket) (cs : List OpenCall) (ns : List Node) (i : ℕ)
    (op : WholeOp) (w : Whole) → AreInOrder ts → i < length ts → (ticket_at ts i).kind ≡ kind.Whole
    → length modes ≡ length ns → w.number ≡ (ticket_at ts i).number → w.op ≡ op → w.parts ≡ map part_for modes
    → (open_at cs i).op ≡ Some op → MayBeDone op p
    → ((r : ℕ) → mode_of modes r ≢ Err → CanTake op p.volume.snapshots (node_at ns r) (spare_at w.spares r))
    → IsStarted p modes (with_started ts i) cs ns w
started_is p modes ts cs ns i op w order h is many number same owed asked may takes =
    let here : ticket_at (with_started ts i) i ≡ record (ticket_at ts i) { started = true } =
    get_or-set_same ts i (record (ticket_at ts i) { started = true }) no_ticket h in
    record {
      place = i;
      stands = subst (λ n. StandsAt (with_started ts i) n i) (sym number) (started_stands ts i order h);
      kind = ap (λ (x : Ticket). x.kind) here ∙ is;
      started = ap (λ (x : Ticket). x.started) here;
      op = asked ∙ ap Some (sym same);
      parts = ap length owed ∙ length-map modes part_for ∙ many;
      owes = λ r up e. part_for_up (mode_of modes r) up (sym (ap (λ ps. part_at ps r) owed ∙ part_of modes r) ∙ e);
      may = subst (λ o. MayBeDone o p) (sym same) may;
      takes = λ r up _. subst (λ o. CanTake o p.volume.snapshots (node_at ns r) (spare_at w.spares r)) (sym same) (takes r up);
    }

-- ---- an operation that does the same to the replicas and to the volume

-- the operation may start on replicas of these modes: none but a snapshot does while one is written and not read
abbrev pub StartsOn : WholeOp → List Mode → Type 0
StartsOn (whole.Snapshot name) modes = Unit {0}
StartsOn (whole.Remove name) modes = (r : ℕ) → mode_of modes r ≢ Wo
StartsOn (whole.Revert name) modes = (r : ℕ) → mode_of modes r ≢ Wo
StartsOn (whole.Purge f) modes = (r : ℕ) → mode_of modes r ≢ Wo
StartsOn (whole.Barrier q) modes = ⊥

-- it is no barrier
pub starts_plain : (op : WholeOp) (modes : List Mode) → StartsOn op modes → IsPlain op
starts_plain (whole.Snapshot name) modes on = tt
starts_plain (whole.Remove name) modes on = tt
starts_plain (whole.Revert name) modes on = tt
starts_plain (whole.Purge f) modes on = tt
starts_plain (whole.Barrier q) modes on = absurd on

-- it keeps the length of a disk that is written and not read
written_size : (op : WholeOp) (modes : List Mode) (r : ℕ) (n : Node) → StartsOn op modes → mode_of modes r ≡ Wo
    → length (part_on op n).disk ≡ length n.disk
written_size (whole.Snapshot name) modes r n on e = refl
written_size (whole.Remove name) modes r n on e = absurd (on r e)
written_size (whole.Revert name) modes r n on e = absurd (on r e)
written_size (whole.Purge f) modes r n on e = absurd (on r e)
written_size (whole.Barrier q) modes r n on e = absurd on

-- and finds no block of a child there
written_folded : (op : WholeOp) (modes : List Mode) (r : ℕ) (n : Node) → StartsOn op modes → mode_of modes r ≡ Wo → IsFoldedFor op n
written_folded (whole.Snapshot name) modes r n on e = tt
written_folded (whole.Remove name) modes r n on e = tt
written_folded (whole.Revert name) modes r n on e = tt
written_folded (whole.Purge f) modes r n on e = absurd (on r e)
written_folded (whole.Barrier q) modes r n on e = tt

module _ (op : WholeOp) (p : PlainState) (size streams : ℕ) (es : List Entry) (modes : List Mode) (ts : List Ticket)
    (cs : List OpenCall) (ns : List Node) (i : ℕ)
    (ok : AreClients p.volume size streams es modes ts cs ns) (may : MayBeDone op p) (on : StartsOn op modes)
    (h : i < length ts) (is : (ticket_at ts i).kind ≡ kind.Whole) (waits : (ticket_at ts i).started ≡ false) (clear : IsClear ts i) where
  abbrev parts : List Part
  parts = map part_for modes

  can : CanBe op p.volume.snapshots
  can = can_be op p (starts_plain op modes on) may

  -- a replica that has not failed owes its part
  due_form : (r : ℕ) → mode_of modes r ≢ Err → node_at (formed op parts ns) r ≡ part_on op (node_at ns r)
  due_form r up = formed_in op parts ns r (omega (arith, up_in modes r up, ok.agree.as_many))
      ∙ ap (λ x. form_part op x (node_at ns r)) (part_of modes r ∙ part_for_owed (mode_of modes r) up)

  -- one that is read is in due form the due volume
  pub each_due : AreNamed p → (r : ℕ) → mode_of modes r ≡ Rw → volume_of_node (node_at (formed op parts ns) r) ≡ due_of op p.volume
  each_due named r e =
      ap volume_of_node (due_form r (rw_up (mode_of modes r) e))
      ∙ op_whole op p.volume (node_at ns r) named.once can
      (is_volume p.volume size r modes ts ns (still_clear ts i ok.order h is waits clear) ok.agree e)

  -- each has in due form the volume's length
  each_size : AreNamed p → (r : ℕ) → mode_of modes r ≢ Err → length (node_at (formed op parts ns) r).disk ≡ size
  each_size named r up = by (mode_of modes r) refl
    where
      by : (m : Mode) → mode_of modes r ≡ m → length (node_at (formed op parts ns) r).disk ≡ size
      by Rw e = ap (λ (v : Volume). length v.disk) (each_due named r e) ∙ due_size op p may ∙ ok.agree.disk
      by Wo e = ap (λ (n : Node). length n.disk) (due_form r up) ∙ written_size op modes r (node_at ns r) on e ∙ ok.agree.sizes r up
      by Err e = absurd (up e)

  -- the replicas agree in due form with the due volume
  pub begun_whole : AreNamed p → AreClients (due_of op p.volume) size streams es modes (with_started ts i) cs (formed op parts ns)
  begun_whole named =
      started_whole p.volume (due_of op p.volume) size streams es modes ts cs ns (formed op parts ns) i ok h is waits clear
      (length-formed op parts ns) (due_size op p may ∙ ok.agree.disk) (each_size named)
      (λ r up. ap snapshots_of (due_form r up) ∙ op_tree op p.volume (node_at ns r) named.once can (ok.agree.tree r up)) (each_due named)

  -- and the call on the whole volume is started, which owes its part to each that has not failed
  pub begun_is : (w : Whole) → w.number ≡ (ticket_at ts i).number → w.op ≡ op → w.parts ≡ parts
      → AreSpared op modes ns w.spares → (open_at cs i).op ≡ Some op
      → ((r : ℕ) → mode_of modes r ≡ Rw → IsFoldedFor op (node_at ns r)) → IsStarted p modes (with_started ts i) cs ns w
  begun_is w number same owed spares asked folded =
      started_is p modes ts cs ns i op w ok.order h is ok.agree.as_many number same owed asked may
      (λ r up. record {
        still = plain_stands op p.volume.snapshots (node_at ns r) (starts_plain op modes on) (ok.agree.tree r up);
        spared = spares r up;
        folded = by r up (mode_of modes r) refl;
      })
    where
      by : (r : ℕ) → mode_of modes r ≢ Err → (m : Mode) → mode_of modes r ≡ m → IsFoldedFor op (node_at ns r)
      by r up Rw e = folded r e
      by r up Wo e = written_folded op modes r (node_at ns r) on e
      by r up Err e = absurd (up e)
