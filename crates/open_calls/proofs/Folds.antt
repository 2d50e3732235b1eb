-- A replica folds a page of a layer, while no call on the whole volume is started, or a snapshot of another stream is.
use Rattle.std.proofs.Common.{◌≡◌, ◌≢◌, ℕ, ◌<◌, Bool, false, List, ◌∷◌, length, replicate, set, length-set, subst}
use Rattle.std.proofs.Common.{sym, refl, ap, ◌∙◌, arith}
use Rattle.std.specs.Prelude.{Option, None, Some, slice_index_or}
use Rattle.sparse_image.specs.Image.{Tables}
use Rattle.vol_units.specs.declared.range.BlockRange.{BlockRange}
use Rattle.volume_model.specs.declared.entry.Entry.{Entry}
use Rattle.volume_model.specs.declared.mode.Mode.{Mode}
use Rattle.volume_model.specs.declared.mode.Mode.TheVariants.{Rw, Err}
use Rattle.volume_model.specs.declared.mark.FoldOrDrop.TheVariants as part
use Rattle.volume_model.specs.Modes.{mode_of}
use Rattle.volume_model.specs.Names.{AreNamed, NamesOnce}
use Rattle.volume_model.specs.PlainState.{PlainState, Volume, Copy}
use Rattle.volume_model.specs.Purge.{CanFold}
use Rattle.volume_model.specs.Snapshots.{Snapshots, with_snapshot}
use Rattle.range_turns.specs.declared.ticket.Ticket.{Ticket}
use Rattle.range_turns.specs.Order.{ticket_at}
use Rattle.replica_node.specs.Node.{Node, blank, snapped_node}
use Rattle.replica_node.specs.Fold.{tree_of, snapshots_of, page_folded}
use Rattle.replica_node.specs.Room.{HasRoom}
use Rattle.replica_node.proofs.FoldedNode.{page_folded_tree}
use Rattle.replica_node.specs.Volume.{copies_in}
use Rattle.replica_node.proofs.PurgeLemmas.{page_folded_volume}
use Rattle.open_calls.specs.declared.open_call.OpenCall.{OpenCall}
use Rattle.step_answers.specs.declared.parts.Part.{Part}
use Rattle.step_answers.specs.declared.parts.Part.TheVariants.{Apart, Owed, Taken, Acked}
use Rattle.step_answers.specs.declared.whole_op.WholeOp.{WholeOp}
use Rattle.step_answers.specs.declared.whole_op.WholeOp.TheVariants as whole
use Rattle.open_calls.specs.Calls.{open_at, node_at}
use Rattle.open_calls.specs.Clients.{AreClients, Fits, IsIdle, byte_of}
use Rattle.step_answers.specs.Parts.{part_at}
use Rattle.open_calls.proofs.ListLemmas.{each_set}
use Rattle.open_calls.proofs.PartLemmas.{up_in, rw_up}
use Rattle.open_calls.specs.declared.maint.MaintCall.{MaintCall}
use Rattle.open_calls.specs.declared.whole.Whole.{Whole}
use Rattle.open_calls.specs.Due.{due, due_of, form_part, formed, forms}
use Rattle.open_calls.specs.Whole.{MayBeDone, CanTake, HasSpare, IsStarted, IsWhole, StandsFor, spare_at}
use Rattle.open_calls.specs.Maint.{command_at, IsAskedBy, FitsMaint}
use Rattle.open_calls.proofs.Forms.{length-forms, formed_at}
use Rattle.open_calls.proofs.Ops.{not_there}
use Rattle.open_calls.proofs.PartSteps.{asked_there, other_still}
use Rattle.open_calls.proofs.Ends.{snapped_can}

-- ---- replicas that show the same

-- what the calls and the volume see of a replica is the same
pub record SameFace (old new : Node) : Type 0 where
  pub snapshots : snapshots_of new ≡ snapshots_of old
  pub disk : new.disk ≡ old.disk
  pub copies : copies_in new.layers ≡ copies_in old.layers
  pub room : new.room ≡ old.room

-- a replica shows the same as itself
pub same_face : (n : Node) → SameFace n n
same_face n = record { snapshots = refl; disk = refl; copies = refl; room = refl }

-- replicas that show the same serve the calls as well
pub faced_clients : (v : Volume) (size streams : ℕ) (es : List Entry) (modes : List Mode) (ts : List Ticket)
    (cs : List OpenCall) (old new : List Node) → length new ≡ length old
    → ((r : ℕ) → SameFace (node_at old r) (node_at new r)) → AreClients v size streams es modes ts cs old
    → AreClients v size streams es modes ts cs new
faced_clients v size streams es modes ts cs old new many face ok =
    let a = ok.agree in
    record {
      paired = ok.paired;
      order = ok.order;
      fits = λ i l. subst (λ n. Fits size streams n (ticket_at ts i) (open_at cs i)) (sym many) (ok.fits i l);
      agree = record {
        disk = a.disk;
        as_many = a.as_many ∙ sym many;
        sizes = λ r up. ap length (face r).disk ∙ a.sizes r up;
        tree = λ r up. (face r).snapshots ∙ a.tree r up;
        copies = λ r e. (face r).copies ∙ a.copies r e;
        bytes = λ r k e free. ap (λ d. byte_of d k) (face r).disk ∙ a.bytes r k e free;
      };
      writes = λ i l w. let o = ok.writes i l w in record {
        owed = o.owed;
        room = λ r up. room_kept (node_at old r) (node_at new r) (ticket_at ts i).range (face r).room (o.room r up);
        taken = λ r tk k f u. ap (λ d. byte_of d k) (face r).disk ∙ o.taken r tk k f u;
        merged = o.merged;
      };
      reads = ok.reads;
      seen = ok.seen;
    }
  where
    room_kept : (old new : Node) (range : BlockRange) → new.room ≡ old.room → HasRoom old range → HasRoom new range
    room_kept old new range e has = λ block b. ap (λ (l : List Bool). slice_index_or l block false) e ∙ has block b

-- ---- a page is folded

-- a page that is folded is not seen
pub folded_face : (n : Node) (a b : List ℕ) (page : ℕ) → NamesOnce (tree_of n) → CanFold (tree_of n) n.on a b
    → SameFace n (page_folded n a b page)
folded_face n a b page once can =
    let same = page_folded_volume n a b page once can in
    record { snapshots = ap (λ (v : Volume). v.snapshots) same; disk = refl; copies = ap (λ (v : Volume). v.copies) same; room = refl }

-- the operation is a snapshot
abbrev pub IsSnapshot : WholeOp → Type 0
IsSnapshot (whole.Snapshot name) = Unit {0}
IsSnapshot (whole.Remove name) = ⊥
IsSnapshot (whole.Revert name) = ⊥
IsSnapshot (whole.Purge f) = ⊥
IsSnapshot (whole.Barrier r) = ⊥

-- no call on the whole volume is started, or a snapshot is
abbrev pub IsBeside : Option Whole → Type 0
IsBeside None = Unit {0}
IsBeside (Some w) = IsSnapshot w.op

-- a replica that owes its part of a snapshot has the volume's snapshots still
pub snapshot_stands : (op : WholeOp) (s : Snapshots) (n : Node) → IsSnapshot op → StandsFor op s n → snapshots_of n ≡ s
snapshot_stands (whole.Snapshot name) s n is stands = stands
snapshot_stands (whole.Remove name) s n is stands = absurd is
snapshot_stands (whole.Revert name) s n is stands = absurd is
snapshot_stands (whole.Purge f) s n is stands = absurd is
snapshot_stands (whole.Barrier r) s n is stands = absurd is

-- replicas that show the same show the same once a snapshot of them is taken
pub snapped_face : (old new : Node) (name : List ℕ) → SameFace old new → SameFace (snapped_node old name) (snapped_node new name)
snapped_face old new name face = record {
  snapshots = ap (λ (s : Snapshots). with_snapshot s name) face.snapshots;
  disk = face.disk;
  copies = both face.disk face.copies;
  room = ap (λ (l : List Bool). replicate (length l) false) face.room;
}
  where
    both : {d e : List ℕ} {l m : List Copy} → d ≡ e → l ≡ m → record { name = name; disk = d } ∷ l ≡ record { name = name; disk = e } ∷ m
    both p q = cc

-- and in due form
pub formed_face : (op : WholeOp) (x : Part) (old new : Node) → IsSnapshot op → SameFace old new
    → SameFace (form_part op x old) (form_part op x new)
formed_face (whole.Snapshot name) Apart old new is face = face
formed_face (whole.Snapshot name) Owed old new is face = snapped_face old new name face
formed_face (whole.Snapshot name) Taken old new is face = face
formed_face (whole.Snapshot name) Acked old new is face = face
formed_face (whole.Remove name) x old new is face = absurd is
formed_face (whole.Revert name) x old new is face = absurd is
formed_face (whole.Purge f) x old new is face = absurd is
formed_face (whole.Barrier r) x old new is face = absurd is

-- ---- what can be folded on the replica

-- no name of its layers comes twice, and the fold can be done there
pub record FoldsOn (n : Node) (a b : List ℕ) : Type 0 where
  pub once : NamesOnce (tree_of n)
  pub can : CanFold (tree_of n) n.on a b

-- a replica with these snapshots
folds_with : (n : Node) (s : Snapshots) (a b : List ℕ) → snapshots_of n ≡ s → NamesOnce s.tree → CanFold s.tree s.on a b → FoldsOn n a b
folds_with n s a b is once can = record {
  once = subst (λ (t : Snapshots). NamesOnce t.tree) (sym is) once;
  can = subst (λ (t : Snapshots). CanFold t.tree t.on a b) (sym is) can;
}

module _ (p : PlainState) (size streams : ℕ) (es : List Entry) (modes : List Mode) (ts : List Ticket) (cs : List OpenCall)
    (ns : List Node) (w : Option Whole) (r : ℕ) (a b : List ℕ)
    (named : AreNamed p) (can : CanFold p.volume.snapshots.tree p.volume.snapshots.on a b) (is : IsWhole p modes ts cs ns w)
    (beside : IsBeside w)
    (ok : AreClients (due w p.volume) size streams es modes ts cs (forms w ns)) where
  -- what can be folded of the volume can be on each replica that has not failed, whether or not it has taken a started snapshot
  pub folds_on : mode_of modes r ≢ Err → FoldsOn (node_at ns r) a b
  folds_on up = go w is beside ok
    where
      snapped : (v : Whole) (op : WholeOp) → v.op ≡ op → IsSnapshot op → MayBeDone op p
          → snapshots_of (node_at ns r) ≡ (due_of op p.volume).snapshots → FoldsOn (node_at ns r) a b
      snapped v (whole.Snapshot name) e s may same =
          folds_with (node_at ns r) (with_snapshot p.volume.snapshots name) a b same
          (not_there p name named may.1, named.once) (snapped_can p name (part.Fold a b) named may.1 can)
      snapped v (whole.Remove name) e s may same = absurd s
      snapped v (whole.Revert name) e s may same = absurd s
      snapped v (whole.Purge f) e s may same = absurd s
      snapped v (whole.Barrier q) e s may same = absurd s

      by_part : (v : Whole) → (st : IsStarted p modes ts cs ns v) → IsSnapshot v.op
          → AreClients (due_of v.op p.volume) size streams es modes ts cs (formed v.op v.parts ns)
          → (x : Part) → part_at v.parts r ≡ x → FoldsOn (node_at ns r) a b
      by_part v st s ok Apart e = absurd (st.owes r up e)
      by_part v st s ok Owed e = folds_with (node_at ns r) p.volume.snapshots a b
          (snapshot_stands v.op p.volume.snapshots (node_at ns r) s (st.takes r up e).still) named.once can
      by_part v st s ok Taken e = snapped v v.op refl s st.may
          (ap snapshots_of (sym (formed_at v.op v.parts ns r st.parts ∙ ap (λ x. form_part v.op x (node_at ns r)) e))
          ∙ ok.agree.tree r up)
      by_part v st s ok Acked e = snapped v v.op refl s st.may
          (ap snapshots_of (sym (formed_at v.op v.parts ns r st.parts ∙ ap (λ x. form_part v.op x (node_at ns r)) e))
          ∙ ok.agree.tree r up)

      go : (w : Option Whole) → IsWhole p modes ts cs ns w → IsBeside w
          → AreClients (due w p.volume) size streams es modes ts cs (forms w ns) → FoldsOn (node_at ns r) a b
      go None is beside ok = folds_with (node_at ns r) p.volume.snapshots a b (ok.agree.tree r up) named.once can
      go (Some v) is beside ok = by_part v is beside ok (part_at v.parts r) refl

  -- the replicas in due form serve the calls as before
  pub folded_clients : (page : ℕ) → mode_of modes r ≡ Rw
      → AreClients (due w p.volume) size streams es modes ts cs (forms w (set ns r (page_folded (node_at ns r) a b page)))
  folded_clients page e =
      faced_clients (due w p.volume) size streams es modes ts cs (forms w ns) (forms w (set ns r new))
      (length-forms w (set ns r new) ∙ length-set ns r new ∙ sym (length-forms w ns)) (λ q. form q w is beside) ok
    where
      up : mode_of modes r ≢ Err
      up = rw_up (mode_of modes r) e

      new : Node
      new = page_folded (node_at ns r) a b page

      within : r < length ns
      within = omega (arith, up_in modes r up, ok.agree.as_many, length-forms w ns)

      plain : (q : ℕ) → SameFace (node_at ns q) (node_at (set ns r new) q)
      plain q = each_set (λ m n. SameFace (node_at ns m) n) ns r q new (blank 0) within
          (folded_face (node_at ns r) a b page (folds_on up).once (folds_on up).can) (λ _. same_face (node_at ns q))

      form : (q : ℕ) (w : Option Whole) → IsWhole p modes ts cs ns w → IsBeside w
          → SameFace (node_at (forms w ns) q) (node_at (forms w (set ns r new)) q)
      form q None is beside = plain q
      form q (Some v) is beside =
          subst (λ n. SameFace n (node_at (formed v.op v.parts (set ns r new)) q)) (sym (formed_at v.op v.parts ns q is.parts))
          (subst (λ n. SameFace (form_part v.op (part_at v.parts q) (node_at ns q)) n)
          (sym (formed_at v.op v.parts (set ns r new) q (is.parts ∙ sym (length-set ns r new))))
          (formed_face v.op (part_at v.parts q) (node_at ns q) (node_at (set ns r new) q) beside (plain q)))

-- ---- the call on the whole volume, and the maintenance turn

folded_spared : (n : Node) (a b : List ℕ) (page : ℕ) (spare : Option Tables) → HasSpare n spare → HasSpare (page_folded n a b page) spare
folded_spared n a b page None has = absurd has
folded_spared n a b page (Some x) has = has

folded_takes : (op : WholeOp) (s : Snapshots) (n : Node) (a b : List ℕ) (page : ℕ) (spare : Option Tables) → IsSnapshot op
    → CanTake op s n spare → CanTake op s (page_folded n a b page) spare
folded_takes (whole.Snapshot name) s n a b page spare is takes = record {
  still = ap (λ t. record (snapshots_of n) { tree = t }) (page_folded_tree n a b page) ∙ takes.still;
  spared = folded_spared n a b page spare takes.spared;
  folded = tt;
}
folded_takes (whole.Remove name) s n a b page spare is takes = absurd is
folded_takes (whole.Revert name) s n a b page spare is takes = absurd is
folded_takes (whole.Purge f) s n a b page spare is takes = absurd is
folded_takes (whole.Barrier r) s n a b page spare is takes = absurd is

-- the snapshot is started as before
pub folded_whole : (p : PlainState) (modes : List Mode) (ts : List Ticket) (cs : List OpenCall) (ns : List Node)
    (w : Option Whole) (r : ℕ) (a b : List ℕ) (page : ℕ) → r < length ns → IsBeside w
    → IsWhole p modes ts cs ns w → IsWhole p modes ts cs (set ns r (page_folded (node_at ns r) a b page)) w
folded_whole p modes ts cs ns None r a b page l beside is = is
folded_whole p modes ts cs ns (Some w) r a b page l beside is =
    let new = page_folded (node_at ns r) a b page in
    record {
      place = is.place;
      stands = record { within = is.stands.within; is = is.stands.is; only = is.stands.only };
      kind = is.kind;
      started = is.started;
      op = is.op;
      parts = is.parts ∙ sym (length-set ns r new);
      owes = is.owes;
      may = is.may;
      takes = λ q up owed. each_set (λ m n. mode_of modes m ≢ Err → part_at w.parts m ≡ Owed
          → CanTake w.op p.volume.snapshots n (spare_at w.spares m)) ns r q new (blank 0) l
          (λ u o. folded_takes w.op p.volume.snapshots (node_at ns r) a b page (spare_at w.spares r) beside (is.takes r u o))
          (λ _. is.takes q) up owed;
    }

-- what waits asks nothing of the volume or of the replicas, while the stream of the command that has the turn is idle
pub idle_maint : (s s2 : Snapshots) (modes modes2 : List Mode) (ns ns2 : List Node) (maint : List Ticket)
    (commands : List MaintCall) (ts : List Ticket) (cs : List OpenCall) → length cs ≡ length ts
    → IsIdle (command_at commands 0).stream cs
    → ((j : ℕ) → j < length ts → FitsMaint s modes ns maint commands (ticket_at ts j) (open_at cs j))
    → (j : ℕ) → j < length ts → FitsMaint s2 modes2 ns2 maint commands (ticket_at ts j) (open_at cs j)
idle_maint s s2 modes modes2 ns ns2 maint commands ts cs paired idle fit j l =
    let f = fit j l in
    record {
      apart = f.apart;
      whole = λ k. let o = f.whole k in record {
        op = o.op;
        is = o.is;
        asked = o.asked;
        saw = o.saw;
        still = λ _. other_still maint commands (open_at cs j).stream o.op s2 modes2 ns2
            (λ e. idle j (omega (arith, l, paired)) (sym e)) o.asked;
      };
    }

-- and the call on the whole volume that is started then is a snapshot
pub idle_beside : (p : PlainState) (s : Snapshots) (modes modes2 : List Mode) (ns ns2 : List Node) (maint : List Ticket)
    (commands : List MaintCall) (ts : List Ticket) (cs : List OpenCall) (w : Option Whole) → length cs ≡ length ts
    → IsIdle (command_at commands 0).stream cs
    → ((j : ℕ) → j < length ts → FitsMaint s modes ns maint commands (ticket_at ts j) (open_at cs j))
    → IsWhole p modes2 ts cs ns2 w → IsBeside w
idle_beside p s modes modes2 ns ns2 maint commands ts cs None paired idle fit is = tt
idle_beside p s modes modes2 ns ns2 maint commands ts cs (Some w) paired idle fit is =
    go w.op (asked_there s modes ns maint commands (ticket_at ts is.place) (open_at cs is.place) w.op is.kind is.op
    (fit is.place is.stands.within))
  where
    off : (command_at commands 0).stream ≢ (open_at cs is.place).stream
    off e = idle is.place (omega (arith, is.stands.within, paired)) (sym e)

    go : (op : WholeOp) → IsAskedBy maint commands (open_at cs is.place).stream op → IsSnapshot op
    go (whole.Snapshot name) asked = tt
    go (whole.Remove name) asked = absurd (off asked.own)
    go (whole.Revert name) asked = absurd (off asked.own)
    go (whole.Purge f) asked = absurd (off asked.own)
    go (whole.Barrier r) asked = absurd (off asked.own)
