-- A page that comes into the replica that is rebuilt shows nowhere: it is written and not read, and neither its head nor
-- what is told of its layers changes.
use Rattle.std.proofs.Common.{◌≡◌, ◌≢◌, ⊎_elim, ℕ, ◌-◌, ◌*◌, ◌/◌, ◌%◌, Bool, true, false, cond, List, length}
use Rattle.std.proofs.Common.{length-set, map, get_or, set, get_or-set_other, Option, None, Some, sym, ap, subst, ◌∙◌}
use Rattle.std.proofs.Common.{arith}
use Rattle.std.specs.Prelude.{Contains}
use Rattle.std.proofs.lemmas.Bool.{cases_eq}
use Rattle.std.proofs.lemmas.List.{places}
use Rattle.std.proofs.lemmas.Simd.{map-map}
use Rattle.vol_units.specs.Bytes.{bytes_at}
use Rattle.vol_units.specs.declared.range.BlockRange.{BlockRange}
use Rattle.sparse_image.specs.Image.{Table, Tables}
use Rattle.coalesce.specs.Folding.{snapshot_of}
use Rattle.volume_model.specs.declared.entry.Entry.{Entry}
use Rattle.volume_model.specs.declared.mode.Mode.{Mode}
use Rattle.volume_model.specs.declared.mode.Mode.TheVariants.{Rw, Wo, Err}
use Rattle.volume_model.specs.Modes.{mode_of}
use Rattle.volume_model.specs.PlainState.{PlainState, Volume}
use Rattle.volume_model.specs.Snapshots.{Snapshots}
use Rattle.range_turns.specs.declared.ticket.Ticket.{Ticket}
use Rattle.range_turns.specs.Order.{ticket_at}
use Rattle.replica_node.specs.Node.{Kept, Node, blank}
use Rattle.replica_node.specs.Room.{HasRoom, head_block}
use Rattle.replica_node.specs.Fold.{tree_of, snapshots_of}
use Rattle.replica_node.specs.Held.{PutsPage, metas_of}
use Rattle.replica_node.specs.Volume.{copies_in}
use Rattle.open_calls.specs.declared.open_call.OpenCall.{OpenCall}
use Rattle.step_answers.specs.declared.parts.Part.TheVariants.{Owed}
use Rattle.step_answers.specs.declared.whole_op.WholeOp.{WholeOp}
use Rattle.step_answers.specs.declared.whole_op.WholeOp.TheVariants as whole
use Rattle.open_calls.specs.Calls.{open_at, node_at, whole_of}
use Rattle.open_calls.specs.Clients.{AreClients, Fits, HasBytes, byte_of}
use Rattle.step_answers.specs.Parts.{part_at}
use Rattle.open_calls.proofs.ListLemmas.{each_set}
use Rattle.open_calls.specs.declared.maint.MaintCall.{MaintCall}
use Rattle.open_calls.specs.declared.whole.Whole.{Whole}
use Rattle.open_calls.specs.Due.{forms}
use Rattle.open_calls.specs.Whole.{CanTake, HasSpare, IsFolded, IsWhole, spare_at}
use Rattle.open_calls.specs.Maint.{AreMaint, CanStill}
use Rattle.open_calls.proofs.Forms.{length-forms}
use Rattle.open_rebuild.specs.declared.rebuilding.Rebuilding.{Rebuilding}
use Rattle.open_rebuild.specs.Claim.{HasWrite, IsBesideThese, IsBesideStarted, IsRebuilding}
use Rattle.open_rebuild.proofs.PageSteps.{new_puts, other, same_head, still, target_in, u}

-- ---- what is told of a replica

snapshots_same : (old new : Node) → metas_of new ≡ metas_of old → new.on ≡ old.on → new.number ≡ old.number
    → snapshots_of new ≡ snapshots_of old
snapshots_same old new metas on number = all (tree new ∙ ap (map snapshot_of) metas ∙ sym (tree old)) on number
  where
    tree : (n : Node) → tree_of n ≡ map snapshot_of (metas_of n)
    tree n = sym (map-map snapshot_of (λ (k : Kept). k.meta) n.layers)

    all : tree_of new ≡ tree_of old → new.on ≡ old.on → new.number ≡ old.number → snapshots_of new ≡ snapshots_of old
    all p q r = cc

-- the replica is told alike, is as large, and has the same places in its head
record IsToldAlike (old new : Node) : Type 0 where
  pub snapshots : snapshots_of new ≡ snapshots_of old
  pub size : length new.disk ≡ length old.disk
  pub room : new.room ≡ old.room

put_alike : (old new : Node) (name : List ℕ) (page : ℕ) (table : Table) → PutsPage old new name page table → IsToldAlike old new
put_alike old new name page table p = record { snapshots = snapshots_same old new p.metas p.on p.number; size = p.size; room = p.room }

room_kept : (old new : Node) (range : BlockRange) → new.room ≡ old.room → HasRoom old range → HasRoom new range
room_kept old new range e has = λ block b. ap (λ (l : List Bool). get_or l block false) e ∙ has block b

-- ---- the bytes of a head's own block

own_bytes : (has : Bool) (x y : List ℕ) → cond has (Some x) None ≡ Some y → x ≡ y
own_bytes true x y e = cc
own_bytes false x y e = absurd (cc)

byte_in : (disk : List ℕ) (k : ℕ) → byte_of disk k ≡ byte_of (bytes_at disk (k / 4096 * 4096) 4096) (k % 4096)
byte_in disk k = grind (arith, places)

-- a block that the head itself has, and had
same_byte : (old new : Node) (k : ℕ) (bytes : List ℕ) → head_block old (k / 4096) ≡ Some bytes
    → head_block new (k / 4096) ≡ head_block old (k / 4096) → byte_of new.disk k ≡ byte_of old.disk k
same_byte old new k bytes has same =
    byte_in new.disk k
    ∙ ap (λ (l : List ℕ). byte_of l (k % 4096))
    (own_bytes (get_or new.own (k / 4096) false) (bytes_at new.disk (k / 4096 * 4096) 4096) bytes (same ∙ has)
    ∙ sym (own_bytes (get_or old.own (k / 4096) false) (bytes_at old.disk (k / 4096 * 4096) 4096) bytes has))
    ∙ sym (byte_in old.disk k)

has_still : (old new : Node) (t : Ticket) (c : OpenCall) → HasWrite t c old
    → ((block : ℕ) → head_block new block ≡ head_block old block) → HasBytes t c old → HasBytes t c new
has_still old new t c put same has k f u =
    same_byte old new k (bytes_at (whole_of c) ((k / 4096 - t.range.first) * 4096) 4096)
    (put (k / 4096) (omega (arith, f)) (omega (arith, f, u))) (same (k / 4096))
    ∙ has k f u

-- ---- a snapshot that is owed

takes_still : (op : WholeOp) (frozen : List (List ℕ)) (s : Snapshots) (old new : Node) (spare : Option Tables)
    → IsBesideThese frozen op → IsToldAlike old new → CanTake op s old spare → CanTake op s new spare
takes_still (whole.Snapshot name) frozen s old new spare beside alike takes =
    record { still = alike.snapshots ∙ takes.still; spared = spared spare takes.spared; folded = tt }
  where
    spared : (spare : Option Tables) → HasSpare old spare → HasSpare new spare
    spared None has = absurd has
    spared (Some x) has = (has.0 ∙ ap length (sym alike.room), has.1)
takes_still (whole.Remove name) frozen s old new spare beside alike takes = absurd beside
takes_still (whole.Revert name) frozen s old new spare beside alike takes = absurd beside
takes_still (whole.Purge f) frozen s old new spare beside alike takes = absurd beside
takes_still (whole.Barrier r) frozen s old new spare beside alike takes = absurd beside

-- a part of a purge that waits asks for replicas that are read and written
waits_still : (op : WholeOp) (s : Snapshots) (modes : List Mode) (ns ms : List Node)
    → ((r : ℕ) → mode_of modes r ≡ Rw → node_at ms r ≡ node_at ns r) → CanStill s modes ns op → CanStill s modes ms op
waits_still (whole.Snapshot name) s modes ns ms same can = can
waits_still (whole.Remove name) s modes ns ms same can = can
waits_still (whole.Revert name) s modes ns ms same can = can
waits_still (whole.Purge f) s modes ns ms same can = record {
  can = can.can;
  folded = λ r e. subst (λ (n : Node). IsFolded f n) (sym (same r e)) (can.folded r e);
}
waits_still (whole.Barrier r) s modes ns ms same can = can

-- ---- a page comes in

module _ (size : ℕ) (modes : List Mode) (ts : List Ticket) (cs : List OpenCall) (w : Option Whole) (ns : List Node)
    (b : Rebuilding) (after : Node) (name : List ℕ) (page : ℕ) (table : Table)
    (many : length modes ≡ length ns) (may : b.may_copy ≡ true) (there : Contains b.frozen name)
    (puts : PutsPage (node_at ns b.target) after name page table)
    (k : IsRebuilding size modes ts cs w ns (Some b)) where
  abbrev ms : List Node
  ms = set ns b.target after

  -- a replica that is read and written is another
  apart : (r : ℕ) → mode_of modes r ≡ Rw → r ≢ b.target
  apart r e same = rw≢wo (sym e ∙ ap (mode_of modes) same ∙ k.roles.target)
    where
      rw≢wo : Rw ≢ Wo
      rw≢wo e = cc

  as_it_was : (r : ℕ) → r ≢ b.target → node_at (forms w ms) r ≡ node_at (forms w ns) r
  as_it_was r n = other size modes ts cs w ns b after name page table many may there puts k r n

  alike : (r : ℕ) → IsToldAlike (node_at (forms w ns) r) (node_at (forms w ms) r)
  alike r = ⊎_elim
      (λ e. subst (λ q. IsToldAlike (node_at (forms w ns) q) (node_at (forms w ms) q)) (sym e)
      (put_alike (node_at (forms w ns) b.target) (node_at (forms w ms) b.target) name page table
      (new_puts size modes ts cs w ns b after name page table many may there puts k)))
      (λ n. let same = as_it_was r n in record {
        snapshots = ap (λ (x : Node). snapshots_of x) same;
        size = ap (λ (x : Node). length x.disk) same;
        room = ap (λ (x : Node). x.room) same;
      })
      (cases_eq r b.target)

  as_many : length (forms w ms) ≡ length (forms w ns)
  as_many = length-forms w ms ∙ length-set ns b.target after ∙ sym (length-forms w ns)

  pub page_clients : (v : Volume) (streams : ℕ) (es : List Entry) → AreClients v size streams es modes ts cs (forms w ns)
      → AreClients v size streams es modes ts cs (forms w ms)
  page_clients v streams es ok =
      let a = ok.agree in
      let way = u size modes ts cs w ns b after name page table many may there puts k in
      record {
        paired = ok.paired;
        order = ok.order;
        fits = λ i l. subst (λ n. Fits size streams n (ticket_at ts i) (open_at cs i)) (sym as_many) (ok.fits i l);
        agree = record {
          disk = a.disk;
          as_many = a.as_many ∙ sym as_many;
          sizes = λ r up. (alike r).size ∙ a.sizes r up;
          tree = λ r up. (alike r).snapshots ∙ a.tree r up;
          copies = λ r e. ap (λ (x : Node). copies_in x.layers) (as_it_was r (apart r e)) ∙ a.copies r e;
          bytes = λ r j e free. ap (λ (x : Node). byte_of x.disk j) (as_it_was r (apart r e)) ∙ a.bytes r j e free;
        };
        writes = λ i l x. let o = ok.writes i l x in record {
          owed = o.owed;
          room = λ r up. room_kept (node_at (forms w ns) r) (node_at (forms w ms) r) (ticket_at ts i).range (alike r).room (o.room r up);
          taken = λ r tk. has_still (node_at (forms w ns) r) (node_at (forms w ms) r) (ticket_at ts i) (open_at cs i)
              (way.writes i l x r tk)
              (same_head size modes ts cs w ns b after name page table many may there puts k r) (o.taken r tk);
          merged = o.merged;
        };
        reads = ok.reads;
        seen = ok.seen;
      }

  pub page_whole : (p : PlainState) → IsWhole p modes ts cs ns w → IsWhole p modes ts cs ms w
  page_whole p = go w (still size modes ts cs w ns b after name page table many may there puts k)
    where
      go : (o : Option Whole) → IsBesideStarted b o → IsWhole p modes ts cs ns o → IsWhole p modes ts cs ms o
      go None beside is = is
      go (Some x) beside is = record {
        place = is.place;
        stands = record { within = is.stands.within; is = is.stands.is; only = is.stands.only };
        kind = is.kind;
        started = is.started;
        op = is.op;
        parts = is.parts ∙ sym (length-set ns b.target after);
        owes = is.owes;
        may = is.may;
        takes = λ q up owed. each_set (λ m n. mode_of modes m ≢ Err → part_at x.parts m ≡ Owed
            → CanTake x.op p.volume.snapshots n (spare_at x.spares m)) ns b.target q after (blank 0)
            (target_in size modes ts cs w ns b after name page table many may there puts k)
            (λ v o. takes_still x.op b.frozen p.volume.snapshots (node_at ns b.target) after (spare_at x.spares b.target)
            beside (put_alike (node_at ns b.target) after name page table puts) (is.takes b.target v o))
            (λ _. is.takes q) up owed;
      }

  pub page_maint : (s : Snapshots) (streams : ℕ) (es : List Entry) (maint : List Ticket) (commands : List MaintCall)
      → AreMaint s streams es modes ts cs ns maint commands → AreMaint s streams es modes ts cs ms maint commands
  page_maint s streams es maint commands ok = record {
    queued = ok.queued;
    fits = λ i l. let f = ok.fits i l in record {
      apart = f.apart;
      whole = λ is. let o = f.whole is in record {
        op = o.op;
        is = o.is;
        asked = o.asked;
        saw = o.saw;
        still = λ waits. waits_still o.op s modes ns ms (λ r e. get_or-set_other ns b.target r after (blank 0) (apart r e)) (o.still waits);
      };
    };
  }
