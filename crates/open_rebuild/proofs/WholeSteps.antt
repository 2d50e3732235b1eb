-- What calls on the whole volume keep of a rebuild, from their start to their end; and how a rebuild begins.
use Rattle.std.proofs.Common.{◌≡◌, ◌≢◌, ⊎_elim, ℕ, suc, ◌*◌, ◌<◌, true, false, List, ◌∷◌, length, length-set, map}
use Rattle.std.proofs.Common.{set, get_or-set_same, get_or-set_other, Option, None, Some, refl, sym, ap, subst, ◌∙◌}
use Rattle.std.proofs.Common.{arith}
use Rattle.std.specs.List.{remove}
use Rattle.std.specs.Prelude.{Contains}
use Rattle.std.proofs.lemmas.Bool.{cases_eq}
use Rattle.std.proofs.lemmas.List.{length-replicate}
use Rattle.vol_units.specs.Name.{sys_name}
use Rattle.volume_model.specs.declared.mode.Mode.{Mode}
use Rattle.volume_model.specs.declared.mode.Mode.TheVariants.{Rw, Wo, Err}
use Rattle.volume_model.specs.Modes.{mode_of}
use Rattle.range_turns.specs.declared.ticket.Kind.TheVariants as kind
use Rattle.range_turns.specs.declared.ticket.Ticket.{Ticket}
use Rattle.range_turns.specs.Order.{ticket_at, no_ticket, AreInOrder, IsClear, with_started}
use Rattle.replica_node.specs.Node.{Node, blank, layer_names, snapped_node}
use Rattle.replica_node.specs.Held.{emptied}
use Rattle.open_calls.specs.declared.open_call.OpenCall.{OpenCall}
use Rattle.step_answers.specs.declared.parts.Part.{Part}
use Rattle.step_answers.specs.declared.parts.Part.TheVariants.{Apart, Owed, Acked}
use Rattle.step_answers.specs.declared.whole_op.WholeOp.{WholeOp}
use Rattle.step_answers.specs.declared.whole_op.WholeOp.TheVariants as whole
use Rattle.open_calls.specs.Calls.{node_at}
use Rattle.open_calls.specs.Clients.{IsWriting}
use Rattle.step_answers.specs.Parts.{part_at, part_for, is_pending_at, IsTaken}
use Rattle.open_calls.proofs.FreeLemmas.{not_both}
use Rattle.open_calls.proofs.ListLemmas.{at_set}
use Rattle.open_calls.proofs.PartLemmas.{up_in, part_of}
use Rattle.open_calls.specs.declared.whole.Whole.{Whole}
use Rattle.open_calls.specs.Due.{part_on, form_part, formed}
use Rattle.open_calls.specs.Whole.{parted, part_acked}
use Rattle.open_calls.proofs.Ends.{still_left, only_started}
use Rattle.open_calls.proofs.Forms.{formed_in, parted_form, acked_form, form_as_is, done_part, part_for_owed}
use Rattle.open_calls.proofs.Starts.{IsStill, still_clear, still_unheld}
use Rattle.open_rebuild.specs.Rebuild.{IsRebuilt, IsFreeBlock}
use Rattle.open_rebuild.specs.Listed.{is_listed_in}
use Rattle.open_rebuild.proofs.ListedLemmas.{none_listed}
use Rattle.open_rebuild.proofs.RebuildLemmas.{head_keeps, rebuild_begins, snapshot_keeps}
use Rattle.open_rebuild.specs.declared.rebuilding.Rebuilding.{Rebuilding}
use Rattle.open_rebuild.specs.Claim.{HasRoles, listed_of, IsBesideThese, IsBeside, IsUnderWay, IsRebuilding, Snaps, IsNew}
use Rattle.open_rebuild.proofs.UnderWay.{each_rebuild}
use Rattle.open_rebuild.proofs.RangeSteps.{up_rw, up_wo}

-- ---- replicas in due form

-- where each replica that has not failed owes its part, its due form is what the part makes of it
pub owes_form : (op : WholeOp) (modes : List Mode) (ns : List Node) (q : ℕ) → length modes ≡ length ns
    → mode_of modes q ≢ Err → node_at (formed op (map part_for modes) ns) q ≡ part_on op (node_at ns q)
owes_form op modes ns q many up =
    formed_in op (map part_for modes) ns q (omega (arith, up_in modes q up, many))
    ∙ ap (λ p. form_part op p (node_at ns q)) (part_of modes q ∙ part_for_owed (mode_of modes q) up)

-- a replica that owes nothing any more is its own due form
done_form : (op : WholeOp) (modes : List Mode) (parts : List Part) (ns : List Node) (q : ℕ) → length modes ≡ length ns
    → ((r : ℕ) → mode_of modes r ≢ Err → part_at parts r ≢ Apart)
    → ((r : ℕ) → r < length ns → is_pending_at (mode_of modes r) (part_at parts r) ≡ false) → mode_of modes q ≢ Err
    → node_at (formed op parts ns) q ≡ node_at ns q
done_form op modes parts ns q many owes acknowledged up =
    let l : q < length ns = omega (arith, up_in modes q up, many) in
    formed_in op parts ns q l
    ∙ form_as_is op (part_at parts q) (node_at ns q)
    (λ e. never (part_at parts q) (done_part (mode_of modes q) (part_at parts q) up (acknowledged q l) (owes q up)) e)
  where
    never : (p : Part) → p ≡ Acked → p ≡ Owed → ⊥
    never p e f = cc

-- ---- where no write is started

no_write : kind.Whole ≢ kind.Write
no_write e = cc

-- none is beside a call on the whole volume that starts
none_written : (ts : List Ticket) (i : ℕ) → i < length ts → (ticket_at ts i).kind ≡ kind.Whole → IsStill ts → (j : ℕ)
    → j < length (with_started ts i) → IsWriting (ticket_at (with_started ts i) j) → ⊥
none_written ts i h is still j l =
    at_set (λ (x : Ticket). IsWriting x → ⊥) ts i j (record (ticket_at ts i) { started = true }) no_ticket h
    (λ _ w. no_write (sym is ∙ w.writes))
    (λ _ w. not_both (ticket_at ts j).started (still j (omega (arith, l, length-set ts i (record (ticket_at ts i) { started = true }))))
    w.started)

-- with other blocks free
refree : (frozen : List (List ℕ)) (is_listed : List ℕ → ℕ → Rattle.std.specs.Prelude.Bool) (Free After : ℕ → Type 0)
    (source target : Node) → ((block : ℕ) → After block → Free block)
    → IsRebuilt frozen is_listed Free source target → IsRebuilt frozen is_listed After source target
refree frozen is_listed Free After source target was r =
    head_keeps frozen is_listed Free After source target source target refl refl refl refl refl refl
    (λ block f. r.head block (was block f)) r

-- ---- a call on the whole volume starts

-- beside a rebuild it is a snapshot
snapped_way : (size : ℕ) (modes : List Mode) (ts us : List Ticket) (cs : List OpenCall) (ns : List Node) (b : Rebuilding)
    (op : WholeOp) → length modes ≡ length ns → HasRoles modes b → IsBesideThese b.frozen op
    → ((block : ℕ) → IsFreeBlock ts block) → ((j : ℕ) → j < length us → IsWriting (ticket_at us j) → ⊥)
    → IsUnderWay size ts cs ns b → IsUnderWay size us cs (formed op (map part_for modes) ns) b
snapped_way size modes ts us cs ns b (whole.Remove name) many roles beside calm none u = absurd beside
snapped_way size modes ts us cs ns b (whole.Revert name) many roles beside calm none u = absurd beside
snapped_way size modes ts us cs ns b (whole.Purge f) many roles beside calm none u = absurd beside
snapped_way size modes ts us cs ns b (whole.Barrier r) many roles beside calm none u = absurd beside
snapped_way size modes ts us cs ns b (whole.Snapshot name) many roles beside calm none u =
    let op = whole.Snapshot name in
    let fs : List Node = formed op (map part_for modes) ns in
    let s : node_at fs b.source ≡ snapped_node (node_at ns b.source) name =
    owes_form op modes ns b.source many (up_rw (mode_of modes b.source) roles.source) in
    let t : node_at fs b.target ≡ snapped_node (node_at ns b.target) name =
    owes_form op modes ns b.target many (up_wo (mode_of modes b.target) roles.target) in
    record {
      pages = u.pages;
      bits = u.bits;
      frozen = λ n c. subst (λ (x : Node). Contains (layer_names x.layers) n) (sym s) (later n (u.frozen n c));
      rebuilt = subst (λ (x : Node). IsRebuilt b.frozen (listed_of b) (IsFreeBlock us) x (node_at fs b.target)) (sym s)
          (subst (λ (x : Node). IsRebuilt b.frozen (listed_of b) (IsFreeBlock us) (snapped_node (node_at ns b.source) name) x) (sym t)
          (refree b.frozen (listed_of b) (IsFreeBlock ts) (IsFreeBlock us) (snapped_node (node_at ns b.source) name)
          (snapped_node (node_at ns b.target) name) (λ block _. calm block)
          (snapshot_keeps b.frozen (listed_of b) (IsFreeBlock ts) (node_at ns b.source) (node_at ns b.target) name calm u.rebuilt)));
      writes = λ j l w. absurd (none j l w);
    }
  where
    later : (n : List ℕ) → Contains (layer_names (node_at ns b.source).layers) n
        → Contains (name ∷ layer_names (node_at ns b.source).layers) n
    later n c = (suc c.0, omega (arith, c.1), c.2)

pub whole_started : (size : ℕ) (modes : List Mode) (ts : List Ticket) (cs : List OpenCall) (ns : List Node)
    (rebuild : Option Rebuilding) (w : Whole) (i : ℕ)
    → AreInOrder ts → i < length ts → (ticket_at ts i).kind ≡ kind.Whole → (ticket_at ts i).started ≡ false → IsClear ts i
    → length modes ≡ length ns → w.parts ≡ map part_for modes → IsBeside rebuild w.op
    → IsRebuilding size modes ts cs None ns rebuild → IsRebuilding size modes (with_started ts i) cs (Some w) ns rebuild
whole_started size modes ts cs ns rebuild w i order h is waits clear many parts beside =
    let still = still_clear ts i order h is waits clear in
    each_rebuild size modes ts (with_started ts i) cs cs None (Some w) ns ns rebuild
    (λ b there roles o.
    let these : IsBesideThese b.frozen w.op = subst (λ (r : Option Rebuilding). IsBeside r w.op) there beside in
    record {
      under_way = subst (λ ps. IsUnderWay size (with_started ts i) cs (formed w.op ps ns) b) (sym parts)
          (snapped_way size modes ts (with_started ts i) cs ns b w.op many roles these
          (λ block. still_unheld ts (block * 4096) still) (none_written ts i h is still) o.under_way);
      beside = λ _. these;
    })

-- ---- a replica takes its part, and acknowledges it

pub whole_parted : (size : ℕ) (modes : List Mode) (ts : List Ticket) (cs : List OpenCall) (ns : List Node)
    (rebuild : Option Rebuilding) (w : Whole) (r : ℕ) → part_at w.parts r ≡ Owed → r < length ns
    → IsRebuilding size modes ts cs (Some w) ns rebuild
    → IsRebuilding size modes ts cs (Some (parted w r)) (set ns r (part_on w.op (node_at ns r))) rebuild
whole_parted size modes ts cs ns rebuild w r owed h =
    each_rebuild size modes ts ts cs cs (Some w) (Some (parted w r)) ns (set ns r (part_on w.op (node_at ns r))) rebuild
    (λ b _ _ o. record {
      under_way = subst (λ (xs : List Node). IsUnderWay size ts cs xs b) (sym (parted_form w.op w.parts ns r owed h)) o.under_way;
      beside = o.beside;
    })

pub whole_told : (size : ℕ) (modes : List Mode) (ts : List Ticket) (cs : List OpenCall) (ns : List Node)
    (rebuild : Option Rebuilding) (w : Whole) (r : ℕ) → IsTaken (part_at w.parts r)
    → IsRebuilding size modes ts cs (Some w) ns rebuild → IsRebuilding size modes ts cs (Some (part_acked w r)) ns rebuild
whole_told size modes ts cs ns rebuild w r taken =
    each_rebuild size modes ts ts cs cs (Some w) (Some (part_acked w r)) ns ns rebuild
    (λ b _ _ o. record {
      under_way = subst (λ (xs : List Node). IsUnderWay size ts cs xs b) (sym (acked_form w.op w.parts ns r taken)) o.under_way;
      beside = o.beside;
    })

-- ---- it ends

module _ (size : ℕ) (modes : List Mode) (ts : List Ticket) (cs : List OpenCall) (ns : List Node) (w : Whole) (i : ℕ)
    (order : AreInOrder ts) (h : i < length ts) (is : (ticket_at ts i).kind ≡ kind.Whole)
    (started : (ticket_at ts i).started ≡ true) (many : length modes ≡ length ns)
    (owes : (r : ℕ) → mode_of modes r ≢ Err → part_at w.parts r ≢ Apart)
    (acknowledged : (r : ℕ) → r < length ns → is_pending_at (mode_of modes r) (part_at w.parts r) ≡ false) where
  was_free : (block : ℕ) → IsFreeBlock ts block
  was_free block j l writes =
      absurd (no_write (sym is ∙ ap (λ n. (ticket_at ts n).kind) (sym (only_started ts i j order h l is started writes.started))
      ∙ writes.writes))

  ended_way : (b : Rebuilding) → HasRoles modes b → IsUnderWay size ts cs (formed w.op w.parts ns) b
      → IsUnderWay size (remove ts i) (remove cs i) ns b
  ended_way b roles u =
      let fs : List Node = formed w.op w.parts ns in
      let s : node_at fs b.source ≡ node_at ns b.source =
      done_form w.op modes w.parts ns b.source many owes acknowledged (up_rw (mode_of modes b.source) roles.source) in
      let t : node_at fs b.target ≡ node_at ns b.target =
      done_form w.op modes w.parts ns b.target many owes acknowledged (up_wo (mode_of modes b.target) roles.target) in
      record {
        pages = u.pages;
        bits = u.bits;
        frozen = λ n c. subst (λ (x : Node). Contains (layer_names x.layers) n) s (u.frozen n c);
        rebuilt = refree b.frozen (listed_of b) (IsFreeBlock ts) (IsFreeBlock (remove ts i)) (node_at ns b.source)
            (node_at ns b.target) (λ block _. was_free block)
            (subst (λ (x : Node). IsRebuilt b.frozen (listed_of b) (IsFreeBlock ts) x (node_at ns b.target)) s
            (subst (λ (x : Node). IsRebuilt b.frozen (listed_of b) (IsFreeBlock ts) (node_at fs b.source) x) t u.rebuilt));
        writes = λ j l writes. absurd (not_both (ticket_at (remove ts i) j).started (still_left ts i order h is started j l)
            writes.started);
      }

  pub whole_ended : (rebuild : Option Rebuilding) → IsRebuilding size modes ts cs (Some w) ns rebuild
      → IsRebuilding size modes (remove ts i) (remove cs i) None ns rebuild
  whole_ended rebuild =
      each_rebuild size modes ts (remove ts i) cs (remove cs i) (Some w) None ns ns rebuild
      (λ b _ roles o. record { under_way = ended_way b roles o.under_way; beside = λ _. tt })

-- the barrier has ended: pages may be copied
pub barrier_ended : (size : ℕ) (modes : List Mode) (ts : List Ticket) (cs : List OpenCall) (ns : List Node) (b : Rebuilding)
    → IsRebuilding size modes ts cs None ns (Some b) → IsRebuilding size modes ts cs None ns (Some (record b { may_copy = true }))
barrier_ended size modes ts cs ns b k =
    let o = k.claim in
    let u = o.under_way in
    record {
      roles = record { target = k.roles.target; source = k.roles.source; only = k.roles.only };
      claim = record {
        under_way = record { pages = u.pages; bits = u.bits; frozen = u.frozen; rebuilt = u.rebuilt; writes = u.writes };
        beside = λ _. tt;
      };
    }

-- ---- a rebuild begins

module _ (size : ℕ) (modes : List Mode) (ts : List Ticket) (cs : List OpenCall) (ns : List Node) (w : Whole) (i : ℕ)
    (name : List ℕ) (b : Rebuilding)
    (order : AreInOrder ts) (h : i < length ts) (is : (ticket_at ts i).kind ≡ kind.Whole)
    (waits : (ticket_at ts i).started ≡ false) (clear : IsClear ts i) (many : length modes ≡ length ns)
    (failed : mode_of modes b.target ≡ Err) (read : mode_of modes b.source ≡ Rw) (in_modes : b.target < length modes)
    (begins : IsNew size (node_at ns b.source) name b) (snaps : Snaps w.op (node_at ns b.source).number name) where
  abbrev new_modes : List Mode
  new_modes = set modes b.target Wo

  abbrev new_nodes : List Node
  new_nodes = set ns b.target (emptied (node_at ns b.source))

  still : IsStill ts
  still = still_clear ts i order h is waits clear

  apart : b.source ≢ b.target
  apart e = up_rw (mode_of modes b.source) read (ap (mode_of modes) e ∙ failed)

  reads : mode_of new_modes b.source ≡ Rw
  reads = get_or-set_other modes b.target b.source Wo Err apart ∙ read

  writes : mode_of new_modes b.target ≡ Wo
  writes = get_or-set_same modes b.target Wo Err in_modes

  new_many : length new_modes ≡ length new_nodes
  new_many = length-set modes b.target Wo ∙ many ∙ sym (length-set ns b.target (emptied (node_at ns b.source)))

  abbrev fs : List Node
  fs = formed w.op (map part_for new_modes) new_nodes

  of_source : node_at fs b.source ≡ snapped_node (node_at ns b.source) name
  of_source =
      let same = get_or-set_other ns b.target b.source (emptied (node_at ns b.source)) (blank 0) apart in
      owes_form w.op new_modes new_nodes b.source new_many (up_rw (mode_of new_modes b.source) reads)
      ∙ snaps (node_at new_nodes b.source) (ap (λ (n : Node). n.number) same)
      ∙ ap (λ (n : Node). snapped_node n name) same

  of_target : node_at fs b.target ≡ snapped_node (emptied (node_at ns b.source)) name
  of_target =
      let same = get_or-set_same ns b.target (emptied (node_at ns b.source)) (blank 0) (omega (arith, in_modes, many)) in
      owes_form w.op new_modes new_nodes b.target new_many (up_wo (mode_of new_modes b.target) writes)
      ∙ snaps (node_at new_nodes b.target) (ap (λ (n : Node). n.number) same)
      ∙ ap (λ (n : Node). snapped_node n name) same

  begun_way : IsUnderWay size (with_started ts i) cs fs b
  begun_way = record {
    pages = begins.pages;
    bits = ap length begins.listed ∙ length-replicate (length b.frozen * b.pages) false;
    frozen = λ n c. subst (λ (x : Node). Contains (layer_names x.layers) n) (sym of_source) ((begins.frozen n).0 c);
    rebuilt = subst (λ (x : Node). IsRebuilt b.frozen (listed_of b) (IsFreeBlock (with_started ts i)) x (node_at fs b.target))
        (sym of_source)
        (subst (λ (x : Node). IsRebuilt b.frozen (listed_of b) (IsFreeBlock (with_started ts i))
        (snapped_node (node_at ns b.source) name) x) (sym of_target)
        (rebuild_begins b.frozen (listed_of b) (IsFreeBlock (with_started ts i)) (node_at ns b.source) name (λ n. (begins.frozen n).1)
        (λ n page e. none_listed b.frozen b.pages (length b.frozen * b.pages) n page
        (subst (λ (bits : List Rattle.std.specs.Prelude.Bool). is_listed_in b.frozen b.pages bits n page ≡ true)
        begins.listed e))));
    writes = λ j l x. absurd (none_written ts i h is still j l x);
  }

  pub rebuild_begun : w.parts ≡ map part_for new_modes → IsRebuilding size modes ts cs None ns None
      → IsRebuilding size new_modes (with_started ts i) cs (Some w) new_nodes (Some b)
  rebuild_begun parts k = record {
    roles = record {
      target = writes;
      source = reads;
      only = λ r e. ⊎_elim (λ same. same) (λ n. absurd (k.roles r (sym (get_or-set_other modes b.target r Wo Err n) ∙ e)))
          (cases_eq r b.target);
    };
    claim = record {
      under_way = subst (λ ps. IsUnderWay size (with_started ts i) cs (formed w.op ps new_nodes) b) (sym parts) begun_way;
      beside = λ e. absurd (not_both b.may_copy begins.waits e);
    };
  }

-- a barrier takes a snapshot under the engine's own name of the head's number
pub barrier_snaps : (r number : ℕ) → Snaps (whole.Barrier r) number (sys_name number)
barrier_snaps r number node e = ap (λ n. snapped_node node (sys_name n)) e
