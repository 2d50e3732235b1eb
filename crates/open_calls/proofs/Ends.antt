-- A call on the whole volume ends: done by each replica that has not failed, or given up where none is left.
use Rattle.std.proofs.Common.{◌≡◌, ◌≢◌, ℕ, suc, ◌<◌, ⊎_elim, Bool, true, false, cond, List, ◌∷◌, length, subst, sym, refl, ap, ◌∙◌, arith}
use Rattle.std.specs.Prelude.{Option, None, Some}
use Rattle.std.specs.List.{remove}
use Rattle.std.specs.Str.{bytes_eq}
use Rattle.std.proofs.lemmas.Bool.{cases_lt, cases_eq, false≢true}
use Rattle.std.proofs.lemmas.List.Edits.{length-remove}
use Rattle.std.proofs.lemmas.Slice.Eq.{bytes_eq-Decides}
use Rattle.vol_units.specs.Chain.{is_named}
use Rattle.volume_model.specs.declared.entry.Entry.{Entry}
use Rattle.volume_model.specs.declared.mark.FoldOrDrop.{FoldOrDrop}
use Rattle.volume_model.specs.declared.mark.FoldOrDrop.TheVariants as part
use Rattle.volume_model.specs.declared.mode.Mode.{Mode}
use Rattle.volume_model.specs.declared.mode.Mode.TheVariants.{Rw, Wo, Err}
use Rattle.volume_model.specs.Modes.{mode_of}
use Rattle.volume_model.specs.Names.{AreNamed}
use Rattle.volume_model.specs.PlainState.{PlainState, Volume, is_used}
use Rattle.volume_model.specs.Purge.{CanBeDone, IsMarked, children_of}
use Rattle.volume_model.specs.Snapshots.{Snapshot, Snapshots, with_snapshot}
use Rattle.volume_model.proofs.NamesLemmas.{marked_has_name}
use Rattle.range_turns.specs.declared.ticket.Kind.TheVariants as kind
use Rattle.range_turns.specs.declared.ticket.Ticket.{Ticket}
use Rattle.range_turns.specs.Order.{ticket_at, no_ticket, AreInOrder}
use Rattle.replica_node.specs.Node.{Node}
use Rattle.replica_node.specs.Fold.{snapshots_of}
use Rattle.replica_node.specs.Volume.{copies_in}
use Rattle.open_calls.specs.declared.open_call.OpenCall.{OpenCall}
use Rattle.step_answers.specs.declared.parts.Part.{Part}
use Rattle.step_answers.specs.declared.parts.Part.TheVariants.{Owed, Acked}
use Rattle.step_answers.specs.declared.whole_op.WholeOp.{WholeOp}
use Rattle.step_answers.specs.declared.whole_op.WholeOp.TheVariants as whole
use Rattle.open_calls.specs.Calls.{open_at, no_call, node_at}
use Rattle.open_calls.specs.Clients.{AreClients, AreSeen, Fits, IsIdle, byte_of}
use Rattle.step_answers.specs.Parts.{part_at, is_pending_at}
use Rattle.open_calls.proofs.FreeLemmas.{not_both}
use Rattle.open_calls.proofs.Gone.{left_clients}
use Rattle.open_calls.proofs.ListLemmas.{skip, skip-in, skip-other, get_or-remove}
use Rattle.open_calls.proofs.PartLemmas.{up_in, rw_up}
use Rattle.open_calls.specs.declared.maint.MaintCall.{MaintCall}
use Rattle.open_calls.specs.declared.whole.Whole.{Whole}
use Rattle.open_calls.specs.Due.{due_of, formed}
use Rattle.open_calls.specs.Whole.{MayBeDone, IsStarted}
use Rattle.open_calls.specs.Maint.{CanStill, FitsMaint, IsOfTurn}
use Rattle.open_calls.proofs.Forms.{length-formed, formed_in, form_as_is, done_part}
use Rattle.open_calls.proofs.Kept.{whole_after, whole_before, each_left}
use Rattle.open_calls.proofs.Ops.{due_size}
use Rattle.open_calls.proofs.PartSteps.{other_name, one_stream, none_waits}
use Rattle.open_calls.proofs.Starts.{IsStill, settled_rw}

-- ---- what is left of the tickets

-- the started ticket beside a call on the whole volume is its own
pub only_started : (ts : List Ticket) (i j : ℕ) → AreInOrder ts → i < length ts → j < length ts
    → (ticket_at ts i).kind ≡ kind.Whole → (ticket_at ts i).started ≡ true → (ticket_at ts j).started ≡ true → j ≡ i
only_started ts i j order h l is started e =
    ⊎_elim
    (λ same. same)
    (λ other. ⊎_elim
    (λ below. absurd (whole_before ts j i below is (order.apart i h started)))
    (λ above. absurd (whole_after ts j i (omega (arith, above, other)) is (order.apart j l e)))
    (cases_lt j i))
    (cases_eq j i)

-- none is started once it went
pub still_left : (ts : List Ticket) (i : ℕ) → AreInOrder ts → i < length ts → (ticket_at ts i).kind ≡ kind.Whole
    → (ticket_at ts i).started ≡ true → IsStill (remove ts i)
still_left ts i order h is started j l = one (ticket_at (remove ts i) j).started refl
  where
    one : (b : Bool) → (ticket_at (remove ts i) j).started ≡ b → (ticket_at (remove ts i) j).started ≡ false
    one false e = e
    one true e = absurd (skip-other i j
        (only_started ts i (skip i j) order h (skip-in i j (length ts) (omega (arith, l, length-remove ts i h))) is started
        (ap (λ (x : Ticket). x.started) (sym (get_or-remove ts i j no_ticket h)) ∙ e)))

-- its stream has nothing open any more
pub idle_left : (es : List Entry) (cs : List OpenCall) (i : ℕ) → AreSeen es cs → i < length cs → IsIdle (open_at cs i).stream (remove cs i)
idle_left es cs i seen h j l e =
    skip-other i j (one_stream es cs i (skip i j) seen h (skip-in i j (length cs) (omega (arith, l, length-remove cs i h)))
    (sym (ap (λ (x : OpenCall). x.stream) (sym (get_or-remove cs i j no_call h)) ∙ e)))

-- other replicas, while no ticket is started, that are the same where they have not failed
pub swapped_clients : (v : Volume) (size streams : ℕ) (es : List Entry) (modes : List Mode) (ts : List Ticket)
    (cs : List OpenCall) (old new : List Node) → IsStill ts → length new ≡ length old
    → ((r : ℕ) → mode_of modes r ≢ Err → node_at new r ≡ node_at old r) → AreClients v size streams es modes ts cs old
    → AreClients v size streams es modes ts cs new
swapped_clients v size streams es modes ts cs old new still many same ok =
    let a = ok.agree in
    record {
      paired = ok.paired;
      order = ok.order;
      fits = λ i l. subst (λ n. Fits size streams n (ticket_at ts i) (open_at cs i)) (sym many) (ok.fits i l);
      agree = record {
        disk = a.disk;
        as_many = a.as_many ∙ sym many;
        sizes = λ r up. ap (λ (n : Node). length n.disk) (same r up) ∙ a.sizes r up;
        tree = λ r up. ap snapshots_of (same r up) ∙ a.tree r up;
        copies = λ r e. ap (λ (n : Node). copies_in n.layers) (same r (rw_up (mode_of modes r) e)) ∙ a.copies r e;
        bytes = λ r k e free. ap (λ (n : Node). byte_of n.disk k) (same r (rw_up (mode_of modes r) e)) ∙ a.bytes r k e free;
      };
      writes = λ j l w. absurd (not_both (ticket_at ts j).started (still j l) w.started);
      reads = λ j l w. absurd (not_both (ticket_at ts j).started (still j l) w.started);
      seen = ok.seen;
    }

-- ---- the end

never_owed : (x : Part) → x ≡ Acked → x ≢ Owed
never_owed x e f = cc

module _ (p : PlainState) (size streams : ℕ) (es : List Entry) (modes : List Mode) (ts : List Ticket) (cs : List OpenCall)
    (ns : List Node) (w : Whole)
    (is : IsStarted p modes ts cs ns w) (ok : AreClients (due_of w.op p.volume) size streams es modes ts cs (formed w.op w.parts ns)) where
  abbrev left_tickets : List Ticket
  left_tickets = remove ts is.place

  abbrev left_calls : List OpenCall
  left_calls = remove cs is.place

  -- no ticket is started once it went
  pub ended_still : IsStill left_tickets
  ended_still = still_left ts is.place ok.order is.stands.within is.kind is.started

  -- the volume has the size, and will have it
  pub ended_size : length p.volume.disk ≡ size
  ended_size = sym (due_size w.op p is.may) ∙ ok.agree.disk

  no_write : kind.Whole ≢ kind.Write
  no_write e = cc

  gone : AreClients (due_of w.op p.volume) size streams es modes left_tickets left_calls (formed w.op w.parts ns)
  gone = left_clients (due_of w.op p.volume) size streams es modes ts cs (formed w.op w.parts ns) is.place ok
      is.stands.within (λ r e t. no_write (sym is.kind ∙ t.writes))

  -- each replica that has not failed has acknowledged: they are the due volume
  pub done_clients : ((r : ℕ) → r < length ns → is_pending_at (mode_of modes r) (part_at w.parts r) ≡ false)
      → AreClients (due_of w.op p.volume) size streams es modes left_tickets left_calls ns
  done_clients acknowledged =
      swapped_clients (due_of w.op p.volume) size streams es modes left_tickets left_calls (formed w.op w.parts ns) ns
      ended_still (sym (length-formed w.op w.parts ns))
      (λ r up. let l : r < length ns = omega (arith, up_in modes r up, ok.agree.as_many, length-formed w.op w.parts ns) in
      sym (formed_in w.op w.parts ns r l ∙ form_as_is w.op (part_at w.parts r) (node_at ns r)
      (never_owed (part_at w.parts r) (done_part (mode_of modes r) (part_at w.parts r) up (acknowledged r l) (is.owes r up)))))
      gone

  -- no replica is left that is read: the volume is as it was
  pub lost_clients : ((r : ℕ) → mode_of modes r ≢ Wo) → ((r : ℕ) → mode_of modes r ≢ Rw)
      → AreClients p.volume size streams es modes left_tickets left_calls ns
  lost_clients settled none =
      let failed = λ (r : ℕ) (up : mode_of modes r ≢ Err). none r (settled_rw (mode_of modes r) (settled r) up) in
      record {
        paired = gone.paired;
        order = gone.order;
        fits = λ i l. subst (λ n. Fits size streams n (ticket_at left_tickets i) (open_at left_calls i))
            (length-formed w.op w.parts ns) (gone.fits i l);
        agree = record {
          disk = ended_size;
          as_many = gone.agree.as_many ∙ length-formed w.op w.parts ns;
          sizes = λ r up. absurd (failed r up);
          tree = λ r up. absurd (failed r up);
          copies = λ r e. absurd (none r e);
          bytes = λ r k e free. absurd (none r e);
        };
        writes = λ j l t. absurd (not_both (ticket_at left_tickets j).started (ended_still j l) t.started);
        reads = λ j l t. absurd (not_both (ticket_at left_tickets j).started (ended_still j l) t.started);
        seen = gone.seen;
      }

-- ---- what waits behind it

-- what can be folded or dropped still can be once a snapshot was taken
pub snapped_can : (p : PlainState) (name : List ℕ) (f : FoldOrDrop) → AreNamed p → is_used p.used name ≡ false
    → CanBeDone p.volume.snapshots.tree p.volume.snapshots.on f
    → CanBeDone (with_snapshot p.volume.snapshots name).tree (Some name) f
snapped_can p name f named unused = by f
  where
    tree : List Snapshot
    tree = p.volume.snapshots.tree

    later : (q : List ℕ) (s : Snapshot) (ss : List Snapshot) → IsMarked ss q → IsMarked (s ∷ ss) q
    later q s ss a = (suc a.0, a.1, omega (arith, a.2), a.3, a.4)

    same : (q : List ℕ) → Some name ≡ Some q → q ≡ name
    same q e = cc

    head : (q : List ℕ) → IsMarked p.volume.snapshots.tree q → Some name ≢ Some q
    head q marked e = false≢true (sym (other_name p name q named unused (marked_has_name q p.volume.snapshots.tree marked))
        ∙ (bytes_eq-Decides q name).1 (same q e))

    unnamed : (on : Option (List ℕ)) (q : List ℕ) → on ≢ Some q → is_named on q ≡ false
    unnamed None q off = refl
    unnamed (Some r) q off = go (bytes_eq r q) refl
      where
        go : (b : Bool) → bytes_eq r q ≡ b → b ≡ false
        go true e = absurd (off (ap Some ((bytes_eq-Decides r q).0 e)))
        go false e = refl

    above : (q : List ℕ) → p.volume.snapshots.on ≢ Some q
        → children_of (with_snapshot p.volume.snapshots name).tree q ≡ children_of p.volume.snapshots.tree q
    above q off = ap (λ b. cond b (name ∷ children_of p.volume.snapshots.tree q) (children_of p.volume.snapshots.tree q))
        (unnamed p.volume.snapshots.on q off)

    by : (f : FoldOrDrop) → CanBeDone p.volume.snapshots.tree p.volume.snapshots.on f
        → CanBeDone (with_snapshot p.volume.snapshots name).tree (Some name) f
    by (part.Fold q c) can = record {
      marked = later q (record { name = name; parent = p.volume.snapshots.on; marked = false }) p.volume.snapshots.tree can.marked;
      child = above q can.head ∙ can.child;
      head = head q can.marked;
    }
    by (part.Drop q) can = record {
      marked = later q (record { name = name; parent = p.volume.snapshots.on; marked = false }) p.volume.snapshots.tree can.marked;
      leaf = above q can.head ∙ can.leaf;
      head = head q can.marked;
    }

-- so a part of a purge that waits still can be done
pub still_snapped : (p : PlainState) (modes : List Mode) (ns : List Node) (name : List ℕ) (op : WholeOp) → AreNamed p
    → is_used p.used name ≡ false → CanStill p.volume.snapshots modes ns op
    → CanStill (with_snapshot p.volume.snapshots name) modes ns op
still_snapped p modes ns name (whole.Snapshot other) named unused can = tt
still_snapped p modes ns name (whole.Remove other) named unused can = tt
still_snapped p modes ns name (whole.Revert other) named unused can = tt
still_snapped p modes ns name (whole.Purge f) named unused can =
    record { can = snapped_can p name f named unused can.can; folded = can.folded }
still_snapped p modes ns name (whole.Barrier r) named unused can = tt

-- each other ticket fits the maintenance turn and the due volume
pub due_maint : (es : List Entry) (p : PlainState) (modes : List Mode) (ts : List Ticket) (cs : List OpenCall)
    (ns : List Node) (w : Whole) (maint : List Ticket) (commands : List MaintCall)
    → AreNamed p → AreSeen es cs → length cs ≡ length ts → (is : IsStarted p modes ts cs ns w)
    → ((j : ℕ) → j < length ts → FitsMaint p.volume.snapshots modes ns maint commands (ticket_at ts j) (open_at cs j))
    → (j : ℕ) → j < length (remove ts is.place) → FitsMaint (due_of w.op p.volume).snapshots modes ns maint commands
    (ticket_at (remove ts is.place) j) (open_at (remove cs is.place) j)
due_maint es p modes ts cs ns w maint commands named seen paired is fit =
    each_left (FitsMaint (due_of w.op p.volume).snapshots modes ns maint commands) ts cs is.place paired is.stands.within
    (go w.op is.op is.may)
  where
    turn : (op : WholeOp) → (open_at cs is.place).op ≡ Some op → IsOfTurn op
        → (j : ℕ) → j < length ts → FitsMaint (due_of op p.volume).snapshots modes ns maint commands (ticket_at ts j) (open_at cs j)
    turn op asks of = none_waits es p.volume.snapshots (due_of op p.volume).snapshots modes modes ns ns maint commands ts cs
        is.place op seen paired is.stands.within is.kind is.started asks of fit

    go : (op : WholeOp) → (open_at cs is.place).op ≡ Some op → MayBeDone op p
        → (j : ℕ) → j < length ts → FitsMaint (due_of op p.volume).snapshots modes ns maint commands (ticket_at ts j) (open_at cs j)
    go (whole.Snapshot name) asks may = λ j l. let f = fit j l in record {
      apart = f.apart;
      whole = λ k. let o = f.whole k in
          record {
            op = o.op;
            is = o.is;
            asked = o.asked;
            saw = o.saw;
            still =
                λ n. still_snapped p modes ns name o.op named may.1 (o.still n);
          };
    }
    go (whole.Remove name) asks may = turn (whole.Remove name) asks tt
    go (whole.Revert name) asks may = turn (whole.Revert name) asks tt
    go (whole.Purge f) asks may = turn (whole.Purge f) asks tt
    go (whole.Barrier r) asks may = turn (whole.Barrier r) asks tt

-- and, where it is given up, the volume as it was
pub lost_maint : (s : Snapshots) (modes : List Mode) (ts : List Ticket) (cs : List OpenCall) (ns : List Node) (i : ℕ)
    (maint : List Ticket) (commands : List MaintCall) → length cs ≡ length ts → i < length ts
    → ((j : ℕ) → j < length ts → FitsMaint s modes ns maint commands (ticket_at ts j) (open_at cs j))
    → (j : ℕ) → j < length (remove ts i) → FitsMaint s modes ns maint commands (ticket_at (remove ts i) j) (open_at (remove cs i) j)
lost_maint s modes ts cs ns i maint commands paired h fit = each_left (FitsMaint s modes ns maint commands) ts cs i paired h fit
