-- An operation starts.
use Rattle.std.proofs.Common.{◌≡◌, ◌≢◌, ℕ, zero, suc, ◌+◌, ◌<◌, Bool, true, false, not, cond, List, [], ◌∷◌, length}
use Rattle.std.proofs.Common.{get_or, map, refl, sym, ap, subst, ◌∙◌, arith}
use Rattle.std.specs.Prelude.{Option, None, Some, All, Contains}
use Rattle.std.specs.Option.{option_or}
use Rattle.std.specs.Str.{bytes_eq}
use Rattle.std.specs.List.{count_by}
use Rattle.std.proofs.lemmas.Bool.{ltb-true}
use Rattle.std.proofs.lemmas.List.Sums.{sum_by-set}
use Rattle.std.proofs.lemmas.List.Elements.{All-head, All-tail}
use Rattle.sparse_image.specs.Image.{Tables}
use Rattle.volume_model.specs.declared.command.Command.TheVariants as command
use Rattle.volume_model.specs.declared.call.Call.TheVariants as call
use Rattle.volume_model.specs.declared.call.Refusal.{Refusal}
use Rattle.volume_model.specs.declared.call.Refusal.TheVariants.{NameUsed, ChainFull, NoSuchSnapshot}
use Rattle.volume_model.specs.declared.mode.Mode.TheVariants.{Rw, Wo}
use Rattle.volume_model.specs.Modes.{mode_of, source_of}
use Rattle.volume_model.specs.OneWorker.{want_of_replica}
use Rattle.volume_model.specs.PlainState.{PlainState, Volume, is_used, copy_of}
use Rattle.volume_model.specs.Names.{AreNamed, has_name}
use Rattle.volume_model.specs.PlainStep.{refusal_of}
use Rattle.volume_model.specs.Snapshots.{Snapshot, is_live, layer_count}
use Rattle.range_turns.specs.declared.ticket.Kind.TheVariants as kind
use Rattle.range_turns.specs.declared.ticket.Ticket.{Ticket}
use Rattle.range_turns.specs.Order.{ticket_at, no_ticket, with_started, IsClear}
use Rattle.coalesce.specs.Folding.{snapshot_of}
use Rattle.replica_node.specs.Node.{Kept, layer_names}
use Rattle.replica_node.specs.Fold.{tree_of}
use Rattle.replica_node.proofs.VolumeLemmas.{free_of}
use Rattle.replica_node.specs.Volume.{volume_of_node, copies_in}
use Rattle.step_answers.specs.declared.whole_op.WholeOp.{WholeOp}
use Rattle.step_answers.specs.declared.whole_op.WholeOp.TheVariants as whole
use Rattle.step_answers.specs.Asked.{command_of}
use Rattle.open_calls.specs.Calls.{open_at, node_at}
use Rattle.open_calls.specs.Whole.{MayBeDone, AreSpared}
use Rattle.open_calls.proofs.FreeLemmas.{not_both}
use Rattle.open_calls.specs.Maint.{command_at, IsAskedBy, CanStill}
use Rattle.open_calls.proofs.Ops.{IsPlain}
use Rattle.open_calls.proofs.Starts.{StartsOn, is_volume, still_clear, begun_whole, begun_is, folded_still, maint_started}
use Rattle.volume_core.specs.State.{State, told_of, modes_in}
use Rattle.volume_core.specs.Sound.{IsSound, IsCalm}
use Rattle.open_rebuild.specs.declared.rebuilding.Rebuilding.{Rebuilding}
use Rattle.open_rebuild.specs.Claim.{IsBeside, IsRebuilding}
use Rattle.open_rebuild.proofs.WholeSteps.{whole_started}
use Rattle.volume_core.proofs.Keep.{calm_by, calm_of, rebuild_of_none}
use Rattle.volume_core.proofs.Rows.{counts_not}
use Rattle.volume_maint.specs.Answers.{refused_in, snapshots_told, IsLongSource}
use Rattle.volume_maint.specs.Steps as steps
use Rattle.volume_maint.proofs.Adds.{no_rebuild, turn_no_add, settled}
use Rattle.volume_core.proofs.TurnLemmas.{told_named}

-- ---- what stands against nothing can be done

not_used : (used : Bool) (x : Option Refusal) → option_or (cond used (Some NameUsed) None) x ≡ None → (used ≡ false) × (x ≡ None)
not_used true x e = absurd cc
not_used false x e = (refl, e)

pub has_room : (fits : Bool) → cond fits None (Some ChainFull) ≡ None → fits ≡ true
has_room true e = refl
has_room false e = absurd cc

is_there : (live : Bool) → cond live None (Some NoSuchSnapshot) ≡ None → live ≡ true
is_there true e = refl
is_there false e = absurd cc

pub nothing : (x : Option Refusal) (source : Option ℕ) → option_or x (want_of_replica true source) ≡ None
    → (x ≡ None) × ((r : ℕ) × (source ≡ Some r))
nothing (Some why) source e = absurd cc
nothing None None e = absurd cc
nothing None (Some r) e = (refl, (r, refl))

-- a replica is read
pub free_source : (s : State) (op : WholeOp) → refused_in s (command_of op) ≡ None → (r : ℕ) × (source_of (modes_in s) ≡ Some r)
free_source s (whole.Snapshot name) e =
    (nothing (refusal_of (modes_in s) (told_of s) (call.Command (command.Snapshot name))) (source_of (modes_in s)) e).1
free_source s (whole.Remove name) e =
    (nothing (refusal_of (modes_in s) (told_of s) (call.Command (command.Remove name))) (source_of (modes_in s)) e).1
free_source s (whole.Revert name) e =
    (nothing (refusal_of (modes_in s) (told_of s) (call.Command (command.Revert name))) (source_of (modes_in s)) e).1
free_source s (whole.Purge f) e = (nothing (refusal_of (modes_in s) (told_of s) (call.Command command.Purge)) (source_of (modes_in s)) e).1
free_source s (whole.Barrier r) e =
    (nothing (refusal_of (modes_in s) (told_of s) (call.Command (command.Add r))) (source_of (modes_in s)) e).1

-- the copy of a live name is as long as the layers
copy_long : (layers : List Kept) (name : List ℕ) (n : ℕ) → is_live (map (λ k. snapshot_of k.meta) layers) name ≡ true
    → All (λ (k : Kept). length k.disk ≡ n) layers → length (copy_of (copies_in layers) name) ≡ n
copy_long [] name n live long = absurd cc
copy_long (k ∷ ks) name n live long = by (bytes_eq name k.meta.name) k.meta.marked refl refl live
    (λ l. copy_long ks name n l (All-tail (λ (x : Kept). length x.disk ≡ n) k ks long))
  where
    by : (same marked : Bool) → bytes_eq name k.meta.name ≡ same → k.meta.marked ≡ marked
        → cond same (not marked) (is_live (map (λ x. snapshot_of x.meta) ks) name) ≡ true
        → (is_live (map (λ x. snapshot_of x.meta) ks) name ≡ true → length (copy_of (copies_in ks) name) ≡ n)
        → length (copy_of (copies_in (k ∷ ks)) name) ≡ n
    by true true e f l more = absurd cc
    by true false e f l more =
        ap (λ b. length (copy_of (cond b (copies_in ks) (record { name = k.meta.name; disk = k.disk } ∷ copies_in ks)) name)) f
        ∙ ap (λ b. length (cond b k.disk (copy_of (copies_in ks) name))) e ∙ All-head (λ (x : Kept). length x.disk ≡ n) k ks long
    by false true e f l more =
        ap (λ b. length (copy_of (cond b (copies_in ks) (record { name = k.meta.name; disk = k.disk } ∷ copies_in ks)) name)) f ∙ more l
    by false false e f l more =
        ap (λ b. length (copy_of (cond b (copies_in ks) (record { name = k.meta.name; disk = k.disk } ∷ copies_in ks)) name)) f
        ∙ ap (λ b. length (cond b k.disk (copy_of (copies_in ks) name))) e ∙ more l

-- a name that was not used is of no snapshot
not_used_there : {p : PlainState} → AreNamed p → (name : List ℕ) → is_used p.used name ≡ false
    → has_name p.volume.snapshots.tree name ≡ false
not_used_there {p} named name unused = by (has_name p.volume.snapshots.tree name) refl
  where
    by : (b : Bool) → has_name p.volume.snapshots.tree name ≡ b → b ≡ false
    by true e = absurd (not_both (is_used p.used name) unused (named.taken name e))
    by false e = refl

-- a name that no layer has is not among theirs
not_among : (ks : List Kept) (name : List ℕ) → All (λ (k : Kept). k.meta.name ≢ name) ks → Contains (layer_names ks) name → ⊥
not_among ks name free c = at ks free c.0 c.1 c.2
  where
    at : (ks : List Kept) → All (λ (k : Kept). k.meta.name ≢ name) ks → (j : ℕ) → j < length (layer_names ks)
        → get_or (layer_names ks) j name ≡ name → ⊥
    at [] free j l e = absurd (omega arith)
    at (k ∷ ks) free zero l e = All-head (λ (x : Kept). x.meta.name ≢ name) k ks free e
    at (k ∷ ks) free (suc j) l e = at ks (All-tail (λ (x : Kept). x.meta.name ≢ name) k ks free) j (omega arith) e

module _ (s : State) (i : ℕ) (ok : IsSound s) (h : i < length s.tickets) (is : (ticket_at s.tickets i).kind ≡ kind.Whole)
    (waits : (ticket_at s.tickets i).started ≡ false) (clear : IsClear s.tickets i) where
  pub none : s.whole ≡ None
  none = calm_by s i ok h clear (λ w. waits)

  pub calm : IsCalm s
  calm = calm_of s ok none

  pub its_volume : (r : ℕ) → mode_of (modes_in s) r ≡ Rw → volume_of_node (node_at s.nodes r) ≡ (told_of s).volume
  its_volume r e = is_volume (told_of s).volume s.size r (modes_in s) s.tickets s.nodes
      (still_clear s.tickets i calm.clients.order h is waits clear) calm.clients.agree e

  can_do : (op : WholeOp) → IsPlain op → IsAskedBy s.maint s.commands (open_at s.calls i).stream op
      → CanStill (snapshots_told s) (modes_in s) s.nodes op → refused_in s (command_of op) ≡ None
      → (r : ℕ) → IsLongSource s r → MayBeDone op (told_of s)
  can_do (whole.Snapshot name) other asked can free r at =
      let no = nothing (refusal_of (modes_in s) (told_of s) (call.Command (command.Snapshot name))) (source_of (modes_in s)) free in
      let two = not_used (is_used (told_of s).used name) _ no.0 in
      (asked.0, two.0, ltb-true (layer_count (snapshots_told s)) 250 (has_room _ two.1))
  can_do (whole.Remove name) other asked can free r at =
      is_there _ (nothing (refusal_of (modes_in s) (told_of s) (call.Command (command.Remove name)))
      (source_of (modes_in s)) free).0
  can_do (whole.Revert name) other asked can free r at =
      let live : is_live (snapshots_told s).tree name ≡ true =
      is_there _ (nothing (refusal_of (modes_in s) (told_of s) (call.Command (command.Revert name)))
      (source_of (modes_in s)) free).0 in
      let v = its_volume r at.read in (
        live,
        subst (λ (x : Volume). length (copy_of x.copies name) ≡ length x.disk) v
            (copy_long (node_at s.nodes r).layers name (length (node_at s.nodes r).disk)
            (ap (λ (x : Volume). is_live x.snapshots.tree name) v ∙ live) at.long),
      )
  can_do (whole.Purge f) other asked can free r at = can.can
  can_do (whole.Barrier q) other asked can free r at = absurd other

  pub started_room : count_by (λ t. t.started) (with_started s.tickets i) ≡ count_by (λ t. t.started) s.tickets + 1
  started_room = omega (
    arith,
    sum_by-set (λ (x : Ticket). cond x.started 1 0) s.tickets i
        (record (ticket_at s.tickets i) { started = true }) no_ticket h,
    counts_not (ticket_at s.tickets i).started waits,
  )

  -- a name that was not used is of no layer of the source of a rebuild
  new_name : (b : Rebuilding) → s.rebuild ≡ Some b → (name : List ℕ) → is_used (told_of s).used name ≡ false → Contains b.frozen name → ⊥
  new_name b begun name unused there =
      let k : IsRebuilding s.size (modes_in s) s.tickets s.calls None s.nodes (Some b) =
      subst (λ (x : Option Rebuilding). IsRebuilding s.size (modes_in s) s.tickets s.calls None s.nodes x) begun
      (rebuild_of_none s ok none) in
      let under = k.claim.under_way in
      let source = node_at s.nodes b.source in
      let same = ap (λ (v : Volume). v.snapshots.tree) (its_volume b.source k.roles.source) in
      let fresh : has_name (tree_of source) name ≡ false = ap (λ (t : List Snapshot). has_name t name) same
      ∙ not_used_there (told_named s ok) name unused in
      not_among source.layers name (free_of source name fresh) (under.frozen name there)

  -- nor is a rebuild open of another command
  alone : (op : WholeOp) → ((r : ℕ) → (command_at s.commands 0).command ≢ command.Add r) → IsBeside s.rebuild op
  alone op other = subst (λ (x : Option Rebuilding). IsBeside x op)
      (sym (no_rebuild s.maint s.commands s.rebuild s.ended ok.adds other).0) tt

  -- so that the operation may start
  may_begin : (op : WholeOp) → IsPlain op → IsAskedBy s.maint s.commands (open_at s.calls i).stream op
      → MayBeDone op (told_of s) → IsBeside s.rebuild op
  may_begin (whole.Snapshot name) other asked may = by s.rebuild refl
    where
      by : (o : Option Rebuilding) → s.rebuild ≡ o → IsBeside o (whole.Snapshot name)
      by None e = tt
      by (Some b) e = new_name b e name may.1
  may_begin (whole.Remove name) other asked may =
      alone (whole.Remove name) (turn_no_add s.maint s.commands (open_at s.calls i).stream (whole.Remove name) tt asked)
  may_begin (whole.Revert name) other asked may =
      alone (whole.Revert name) (turn_no_add s.maint s.commands (open_at s.calls i).stream (whole.Revert name) tt asked)
  may_begin (whole.Purge f) other asked may =
      alone (whole.Purge f) (turn_no_add s.maint s.commands (open_at s.calls i).stream (whole.Purge f) tt asked)
  may_begin (whole.Barrier r) other asked may = absurd other

  -- no replica is rebuilt meanwhile, but where a snapshot starts
  none_rebuilt : ((r : ℕ) → (command_at s.commands 0).command ≢ command.Add r) → (r : ℕ) → mode_of (modes_in s) r ≢ Wo
  none_rebuilt other = settled (modes_in s) s.rebuild (no_rebuild s.maint s.commands s.rebuild s.ended ok.adds other).0 ok.rebuild.roles

  starts_on : (op : WholeOp) → IsPlain op → IsAskedBy s.maint s.commands (open_at s.calls i).stream op → StartsOn op (modes_in s)
  starts_on (whole.Snapshot name) other asked = tt
  starts_on (whole.Remove name) other asked =
      none_rebuilt (turn_no_add s.maint s.commands (open_at s.calls i).stream (whole.Remove name) tt asked)
  starts_on (whole.Revert name) other asked =
      none_rebuilt (turn_no_add s.maint s.commands (open_at s.calls i).stream (whole.Revert name) tt asked)
  starts_on (whole.Purge f) other asked = none_rebuilt (turn_no_add s.maint s.commands (open_at s.calls i).stream (whole.Purge f) tt asked)
  starts_on (whole.Barrier q) other asked = absurd other

  pub begun_sound : (op : WholeOp) (spares : List (Option Tables)) → IsPlain op → (open_at s.calls i).op ≡ Some op
      → IsAskedBy s.maint s.commands (open_at s.calls i).stream op → CanStill (snapshots_told s) (modes_in s) s.nodes op
      → refused_in s (command_of op) ≡ None → (r : ℕ) → IsLongSource s r → AreSpared op (modes_in s) s.nodes spares
      → IsSound (steps.whole_begun s i op spares)
  begun_sound op spares other asks asked can free r at spared =
      let p = told_of s in
      let may = can_do op other asked can free r at in
      let named = told_named s ok in
      let w = steps.begun_of s i op spares in
      let starts = starts_on op other asked in
      record {
        on = record {
          opened = ok.on.opened;
          told = record { legal = ok.on.told.legal; ordered = ok.on.told.ordered };
          clients = begun_whole op p s.size (length s.indices) s.book.entries (modes_in s) s.tickets s.calls s.nodes i
              calm.clients may starts h is waits clear named;
          spare = omega (arith, ok.on.spare, started_room);
          spare_data = ok.on.spare_data;
        };
        whole = begun_is op p s.size (length s.indices) s.book.entries (modes_in s) s.tickets s.calls s.nodes i calm.clients
            may starts h is waits clear w refl refl refl spared asks
            (λ q e. folded_still op (snapshots_told s) (modes_in s) s.nodes q can e);
        maint = record {
          queued = ok.maint.queued;
          fits = maint_started (snapshots_told s) (modes_in s) s.nodes s.maint s.commands s.tickets s.calls i h ok.maint.fits;
        };
        disk = ok.disk;
        rebuild = whole_started s.size (modes_in s) s.tickets s.calls s.nodes s.rebuild w i calm.clients.order h is waits
            clear calm.clients.agree.as_many refl (may_begin op other asked may) (rebuild_of_none s ok none);
        adds = ok.adds;
        caused = ok.caused;
        streams = ok.streams;
      }

-- ---- what the ticket's operation is asked by, and that it still can be done

same_op : (a b : WholeOp) (x : Option WholeOp) → x ≡ Some a → x ≡ Some b → a ≡ b
same_op a b x e f = inside (sym e ∙ f)
  where
    inside : Some a ≡ Some b → a ≡ b
    inside g = cc

pub asked_op : (s : State) (i : ℕ) (op : WholeOp) → IsSound s → i < length s.tickets
    → (ticket_at s.tickets i).kind ≡ kind.Whole → (open_at s.calls i).op ≡ Some op
    → IsAskedBy s.maint s.commands (open_at s.calls i).stream op
asked_op s i op ok h is asks =
    let of = (ok.maint.fits i h).whole is in
    subst (IsAskedBy s.maint s.commands (open_at s.calls i).stream) (same_op of.op op (open_at s.calls i).op of.is asks) of.asked

pub still_op : (s : State) (i : ℕ) (op : WholeOp) → IsSound s → i < length s.tickets
    → (ticket_at s.tickets i).kind ≡ kind.Whole → (ticket_at s.tickets i).started ≡ false → (open_at s.calls i).op ≡ Some op
    → CanStill (snapshots_told s) (modes_in s) s.nodes op
still_op s i op ok h is waits asks =
    let of = (ok.maint.fits i h).whole is in
    subst (CanStill (snapshots_told s) (modes_in s) s.nodes) (same_op of.op op (open_at s.calls i).op of.is asks) (of.still waits)
