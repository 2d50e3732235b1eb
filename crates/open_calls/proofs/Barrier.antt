-- The barrier of a rebuild, from its start to its end. It begins with a mark, by which the volume has its snapshot at
-- once, and with a failed replica that is written from now on: one without a block, with the layers of its source.
use Rattle.std.proofs.Common.{◌≡◌, ◌≢◌, ℕ, ◌<◌, Bool, true, false, ◌||◌, List, [], ◌∷◌, ◌++◌, length, map, set}
use Rattle.std.proofs.Common.{length-set, get_or-set_same, get_or-set_other, subst, sym, refl, ap, ◌∙◌, arith}
use Rattle.std.specs.Prelude.{Some}
use Rattle.std.specs.List.{All}
use Rattle.std.specs.Str.{bytes_eq}
use Rattle.std.proofs.lemmas.List.Elements.{All-head, All-tail}
use Rattle.std.proofs.lemmas.Slice.Eq.{bytes_eq-Decides}
use Rattle.vol_units.proofs.BytesLemmas.{length-zeros}
use Rattle.vol_units.specs.Name.{sys_name}
use Rattle.volume_model.specs.declared.entry.Entry.{Entry}
use Rattle.volume_model.specs.declared.entry.Entry.TheVariants as entry
use Rattle.volume_model.specs.declared.mark.Mark.{Mark}
use Rattle.volume_model.specs.declared.mode.Mode.{Mode}
use Rattle.volume_model.specs.declared.mode.Mode.TheVariants.{Rw, Wo, Err}
use Rattle.volume_model.specs.Modes.{mode_of}
use Rattle.volume_model.specs.Names.{has_name}
use Rattle.volume_model.specs.PlainState.{PlainState, Volume, snapped}
use Rattle.volume_model.specs.Snapshots.{Snapshots, layer_count, with_snapshot}
use Rattle.range_turns.specs.declared.ticket.Kind.TheVariants as kind
use Rattle.range_turns.specs.declared.ticket.Ticket.{Ticket}
use Rattle.range_turns.specs.Order.{ticket_at, no_ticket, IsClear, with_started}
use Rattle.replica_node.specs.Node.{Kept, Node, blank, snapped_node}
use Rattle.replica_node.specs.Fold.{tree_of, snapshots_of}
use Rattle.replica_node.specs.Held.{emptied, emptied_layer}
use Rattle.replica_node.specs.Volume.{copies_in, volume_of_node}
use Rattle.replica_node.proofs.VolumeLemmas.{snap, same_count, free_of}
use Rattle.open_calls.specs.declared.open_call.OpenCall.{OpenCall}
use Rattle.step_answers.specs.declared.whole_op.WholeOp.TheVariants as whole
use Rattle.open_calls.specs.Calls.{open_at, node_at}
use Rattle.open_calls.specs.Clients.{AreClients, Fits, byte_of}
use Rattle.step_answers.specs.Parts.{part_for}
use Rattle.open_calls.proofs.FreeLemmas.{not_both}
use Rattle.open_calls.proofs.Gone.{seen_clients}
use Rattle.open_calls.proofs.ListLemmas.{each_set}
use Rattle.open_calls.proofs.PartLemmas.{up_in, rw_up, part_of}
use Rattle.open_calls.proofs.SeenLemmas.{seen_mark}
use Rattle.open_calls.specs.declared.maint.MaintCall.{MaintCall}
use Rattle.open_calls.specs.declared.whole.Whole.{Whole}
use Rattle.open_calls.specs.Due.{form_part, formed}
use Rattle.open_calls.specs.Whole.{CanSnap, AreSpared, IsStarted}
use Rattle.open_calls.specs.Maint.{AreMaint}
use Rattle.open_calls.proofs.Forms.{length-formed, formed_in, part_for_owed}
use Rattle.open_calls.proofs.Kept.{queued_mark}
use Rattle.open_calls.proofs.PartSteps.{none_waits}
use Rattle.open_calls.proofs.Starts.{IsStill, still_clear, is_volume, started_whole, started_is, maint_started}

-- ---- a replica without a block has the snapshots of its source

pub emptied_snapshots : (n : Node) → snapshots_of (emptied n) ≡ snapshots_of n
emptied_snapshots n = ap (λ t. record (snapshots_of n) { tree = t }) (trees n.layers)
  where
    trees : (ks : List Kept) → map snap (map emptied_layer ks) ≡ map snap ks
    trees [] = refl
    trees (k ∷ ks) = ap (λ t. snap k ∷ t) (trees ks)

-- and its length
pub emptied_size : (n : Node) → length (emptied n).disk ≡ length n.disk
emptied_size n = length-zeros (length n.disk)

-- ---- each replica with these snapshots can take the barrier's snapshot, where one of them can

-- no snapshot has a name that no layer has
unnamed : (ks : List Kept) (name : List ℕ) → All (λ (k : Kept). k.meta.name ≢ name) ks → has_name (map snap ks) name ≡ false
unnamed [] name free = refl
unnamed (k ∷ ks) name free = both (bytes_eq name k.meta.name) refl (unnamed ks name (All-tail (λ (x : Kept). x.meta.name ≢ name) k ks free))
  where
    both : (b : Bool) → bytes_eq name k.meta.name ≡ b → has_name (map snap ks) name ≡ false → (b || has_name (map snap ks) name) ≡ false
    both true same rest = absurd (All-head (λ (x : Kept). x.meta.name ≢ name) k ks free (sym ((bytes_eq-Decides name k.meta.name).0 same)))
    both false same rest = rest

pub snaps_too : (n m : Node) → snapshots_of n ≡ snapshots_of m → CanSnap m (sys_name m.number) → CanSnap n (sys_name n.number)
snaps_too n m same can =
    let number : n.number ≡ m.number = ap (λ (s : Snapshots). s.number) same in
    record {
      layers = omega (arith, can.layers, same_count n, same_count m, ap layer_count same);
      free = free_of n (sys_name n.number)
          (ap (λ k. has_name (tree_of n) (sys_name k)) number
          ∙ ap (λ (s : Snapshots). has_name s.tree (sys_name m.number)) same
          ∙ unnamed m.layers (sys_name m.number) can.free);
      number = omega (arith, can.number, number);
    }

-- ---- a failed replica is written from now on

wo_rw : Wo ≡ Rw → ⊥
wo_rw e = cc

-- while no ticket is started, with the volume's snapshots and its length
pub joined_clients : (v : Volume) (size streams : ℕ) (es : List Entry) (modes : List Mode) (ts : List Ticket)
    (cs : List OpenCall) (ns : List Node) (r : ℕ) (target : Node) → AreClients v size streams es modes ts cs ns → IsStill ts
    → r < length modes → snapshots_of target ≡ v.snapshots → length target.disk ≡ size
    → AreClients v size streams es (set modes r Wo) ts cs (set ns r target)
joined_clients v size streams es modes ts cs ns r target ok still h tree long =
    let a = ok.agree in
    let l : r < length ns = omega (arith, h, a.as_many) in
    let many = length-set ns r target in
    record {
      paired = ok.paired;
      order = ok.order;
      fits = λ i m. subst (λ n. Fits size streams n (ticket_at ts i) (open_at cs i)) (sym many) (ok.fits i m);
      agree = record {
        disk = a.disk;
        as_many = length-set modes r Wo ∙ a.as_many ∙ sym many;
        sizes = λ q. each_set (λ (k : ℕ) (n : Node). mode_of (set modes r Wo) k ≢ Err → length n.disk ≡ size) ns r q target
            (blank 0) l (λ _. long) (λ n up. a.sizes q (was_up q n up));
        tree = λ q. each_set (λ (k : ℕ) (n : Node). mode_of (set modes r Wo) k ≢ Err → snapshots_of n ≡ v.snapshots) ns r q
            target (blank 0) l (λ _. tree) (λ n up. a.tree q (was_up q n up));
        copies = λ q. each_set (λ (k : ℕ) (n : Node). mode_of (set modes r Wo) k ≡ Rw → copies_in n.layers ≡ v.copies) ns r
            q target (blank 0) l (λ e. absurd (unread e)) (λ n e. a.copies q (was_read q n e));
        bytes = λ q k e free. each_set (λ (j : ℕ) (n : Node). mode_of (set modes r Wo) j ≡ Rw
            → byte_of n.disk k ≡ byte_of v.disk k) ns r q target (blank 0) l (λ e. absurd (unread e))
            (λ n e. a.bytes q k (was_read q n e) free) e;
      };
      writes = λ j m w. absurd (not_both (ticket_at ts j).started (still j m) w.started);
      reads = λ j m w. absurd (not_both (ticket_at ts j).started (still j m) w.started);
      seen = ok.seen;
    }
  where
    unread : mode_of (set modes r Wo) r ≡ Rw → ⊥
    unread e = wo_rw (sym (get_or-set_same modes r Wo Err h) ∙ e)

    was_up : (q : ℕ) → q ≢ r → mode_of (set modes r Wo) q ≢ Err → mode_of modes q ≢ Err
    was_up q n up e = up (get_or-set_other modes r q Wo Err n ∙ e)

    was_read : (q : ℕ) → q ≢ r → mode_of (set modes r Wo) q ≡ Rw → mode_of modes q ≡ Rw
    was_read q n e = sym (get_or-set_other modes r q Wo Err n) ∙ e

-- ---- the start, of a barrier for replica r

module _ (v : Volume) (size streams : ℕ) (es : List Entry) (m : Mark) (modes : List Mode) (ts : List Ticket)
    (cs : List OpenCall) (ns : List Node) (i r source : ℕ)
    (ok : AreClients v size streams es modes ts cs ns) (h : i < length ts) (is : (ticket_at ts i).kind ≡ kind.Whole)
    (waits : (ticket_at ts i).started ≡ false) (clear : IsClear ts i)
    (l : r < length modes) (read : mode_of modes source ≡ Rw) where
  abbrev written : List Mode
  written = set modes r Wo

  abbrev target : Node
  target = emptied (node_at ns source)

  abbrev joined : List Node
  joined = set ns r target

  abbrev name : List ℕ
  name = sys_name v.snapshots.number

  abbrev marked_entries : List Entry
  marked_entries = es ++ entry.Mark m ∷ []

  -- the replicas serve the calls with the target among them
  with_target : AreClients v size streams marked_entries written ts cs joined
  with_target =
      let n = node_at ns source in
      let up = rw_up (mode_of modes source) read in
      joined_clients v size streams marked_entries modes ts cs ns r target
      (seen_clients v size streams es marked_entries modes ts cs ns (seen_mark es cs ok.seen m) ok)
      (still_clear ts i ok.order h is waits clear) l
      (emptied_snapshots n ∙ ok.agree.tree source up) (emptied_size n ∙ ok.agree.sizes source up)

  abbrev due_nodes : List Node
  due_nodes = formed (whole.Barrier r) (map part_for written) joined

  -- each that has not failed owes its part, a snapshot under the one name
  due_form : (q : ℕ) → mode_of written q ≢ Err → node_at due_nodes q ≡ snapped_node (node_at joined q) name
  due_form q up =
      let c = with_target in
      formed_in (whole.Barrier r) (map part_for written) joined q (omega (arith, up_in written q up, c.agree.as_many))
      ∙ ap (λ x. form_part (whole.Barrier r) x (node_at joined q)) (part_of written q ∙ part_for_owed (mode_of written q) up)
      ∙ ap (λ (s : Snapshots). snapped_node (node_at joined q) (sys_name s.number)) (c.agree.tree q up)

  -- the barrier starts: in due form the replicas are the volume with its snapshot
  pub barrier_begun : AreClients (snapped v name) size streams marked_entries written (with_started ts i) cs due_nodes
  barrier_begun =
      let c = with_target in
      let still = still_clear ts i ok.order h is waits clear in
      started_whole v (snapped v name) size streams marked_entries written ts cs joined due_nodes i c h is waits clear
      (length-formed (whole.Barrier r) (map part_for written) joined) c.agree.disk
      (λ q up. ap (λ (n : Node). length n.disk) (due_form q up) ∙ c.agree.sizes q up)
      (λ q up. ap snapshots_of (due_form q up) ∙ ap (λ s. with_snapshot s name) (c.agree.tree q up))
      (λ q e. ap volume_of_node (due_form q (rw_up (mode_of written q) e))
      ∙ ap (λ (x : Volume). snapped x name) (is_volume v size q written ts joined still c.agree e))

  -- and its call is started, each replica that has not failed owing its part of it
  pub barrier_is : (p : PlainState) (w : Whole) → p.volume ≡ snapped v name
      → CanSnap (node_at ns source) (sys_name (node_at ns source).number) → w.number ≡ (ticket_at ts i).number
      → w.op ≡ whole.Barrier r
      → w.parts ≡ map part_for written → AreSpared (whole.Barrier r) written joined w.spares
      → (open_at cs i).op ≡ Some (whole.Barrier r) → IsStarted p written (with_started ts i) cs joined w
  barrier_is p w told can number same owed spares asked =
      let c = with_target in
      started_is p written ts cs joined i (whole.Barrier r) w ok.order h is c.agree.as_many number same owed asked tt
      (λ q up. record {
        still = (
          ap (λ (s : Snapshots). with_snapshot s (sys_name s.number)) (c.agree.tree q up) ∙ sym (ap (λ (x : Volume). x.snapshots) told),
          snaps_too (node_at joined q) (node_at ns source)
              (c.agree.tree q up ∙ sym (ok.agree.tree source (rw_up (mode_of modes source) read))) can,
        );
        spared = spares q up;
        folded = tt;
      })

  -- no other command has the turn: what waits asks nothing of the volume or of the replicas
  pub barrier_maint : (s s2 : Snapshots) (maint : List Ticket) (commands : List MaintCall)
      → (open_at cs i).op ≡ Some (whole.Barrier r) → AreMaint s streams es modes ts cs ns maint commands
      → AreMaint s2 streams marked_entries written (with_started ts i) cs joined maint commands
  barrier_maint s s2 maint commands asked maintained =
      let begun = record (ticket_at ts i) { started = true } in
      let here : ticket_at (with_started ts i) i ≡ begun = get_or-set_same ts i begun no_ticket h in
      record {
        queued = queued_mark streams es m maint commands maintained.queued;
        fits = none_waits es s s2 modes written ns joined maint commands (with_started ts i) cs i (whole.Barrier r) ok.seen
            (ok.paired ∙ sym (length-set ts i begun)) (omega (arith, h, length-set ts i begun))
            (ap (λ (x : Ticket). x.kind) here ∙ is) (ap (λ (x : Ticket). x.started) here) asked tt
            (maint_started s modes ns maint commands ts cs i h maintained.fits);
      }
