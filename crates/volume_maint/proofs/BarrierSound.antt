-- The barrier of an add starts: a rebuild begins by its mark, and the invariant is kept.
use Rattle.std.proofs.Common.{◌≡◌, ℕ, ◌+◌, ◌<◌, ◌≤◌, ◌^◌, false, cond, eqb, List, [], ◌∷◌, ◌++◌, length, set, refl}
use Rattle.std.proofs.Common.{sym, ap, subst, ◌∙◌, arith}
use Rattle.std.specs.Prelude.{Option, None, Some}
use Rattle.std.specs.List.{count_by}
use Rattle.std.proofs.lemmas.Bool.{ltb-true}
use Rattle.std.proofs.lemmas.List.Sums.{sum_by-set}
use Rattle.vol_units.specs.Name.{sys_name}
use Rattle.sparse_image.specs.Image.{Tables}
use Rattle.volume_model.specs.declared.command.Command.TheVariants as command
use Rattle.volume_model.specs.declared.entry.Entry.{Entry}
use Rattle.volume_model.specs.declared.entry.Entry.TheVariants as entry
use Rattle.volume_model.specs.declared.mark.Mark.{Mark}
use Rattle.volume_model.specs.declared.mark.Mark.TheVariants as mark
use Rattle.volume_model.specs.declared.mark.Rebuild.{Rebuild}
use Rattle.volume_model.specs.declared.mark.Rebuild.TheVariants as rebuild
use Rattle.volume_model.specs.declared.mode.Mode.{Mode}
use Rattle.volume_model.specs.declared.mode.Mode.TheVariants.{Rw, Wo, Err}
use Rattle.volume_model.specs.Modes.{mode_of, source_of, IsSource}
use Rattle.volume_model.specs.PlainState.{PlainState, Volume, snapped, taken, is_used}
use Rattle.volume_model.specs.PlainStep.{add_refusal}
use Rattle.volume_model.specs.Rebuilds.{rebuild_of, MayBegin}
use Rattle.volume_model.specs.Snapshots.{layer_count}
use Rattle.volume_model.proofs.FallLemmas.{behind_falls_added}
use Rattle.volume_model.proofs.FaultLemmas.{rise-added}
use Rattle.volume_model.proofs.PushLemmas.{modes_after-push}
use Rattle.volume_model.proofs.RebuildLemmas.{legal_added, rebuild_of-push}
use Rattle.volume_model.proofs.StepLemmas.{replay-push}
use Rattle.range_turns.specs.declared.ticket.Kind.TheVariants as kind
use Rattle.range_turns.specs.Order.{ticket_at, with_started, IsClear}
use Rattle.replica_node.specs.Node.{Node}
use Rattle.replica_node.specs.Volume.{volume_of_node}
use Rattle.step_answers.specs.declared.whole_op.WholeOp.{WholeOp}
use Rattle.step_answers.specs.declared.whole_op.WholeOp.TheVariants as whole
use Rattle.step_answers.specs.Asked.{command_of}
use Rattle.open_calls.specs.Calls.{open_at, node_at}
use Rattle.open_calls.specs.Clients.{AreClients}
use Rattle.open_calls.specs.Due.{formed}
use Rattle.open_calls.specs.Whole.{AreSpared, CanSnap}
use Rattle.open_calls.specs.Maint.{HasTurn, AreMaint}
use Rattle.open_calls.proofs.Barrier as barriers
use Rattle.open_calls.proofs.Ops.{IsPlain, can_snap}
use Rattle.open_rebuild.specs.declared.rebuilding.Rebuilding.{Rebuilding}
use Rattle.open_rebuild.specs.Claim.{IsRebuilding, IsNew}
use Rattle.open_rebuild.proofs.WholeSteps.{barrier_snaps, rebuild_begun}
use Rattle.volume_core.specs.declared.world.EndedRebuild.{EndedRebuild}
use Rattle.volume_core.specs.State.{State, opening_of, told_of, modes_in}
use Rattle.volume_core.specs.Sound.{IsSound, IsTold, AreAdds, is_up, how_far}
use Rattle.volume_core.proofs.Caused.{caused_mark}
use Rattle.volume_core.proofs.FarLemmas.{none_open}
use Rattle.volume_core.proofs.Keep.{rebuild_of_none}
use Rattle.volume_core.proofs.Told.{mark_ordered}
use Rattle.volume_maint.specs.Answers.{refused_in, IsWaiting, IsLongSource, MayBeginOf, BeginsBarrier, BeginsWith, BeginsWhole}
use Rattle.volume_maint.specs.Answers.{MayBegin as MayBeginOp}
use Rattle.volume_maint.specs.Steps.{barrier_name, barrier_modes, barrier_nodes, barrier_of, barrier_begun}
use Rattle.volume_maint.proofs.Begins.{nothing, has_room, none, calm, its_volume, started_room, asked_op, still_op, begun_sound}
use Rattle.volume_core.proofs.TurnLemmas.{told_named}
use Rattle.volume_maint.proofs.WholeSound.{number_fits}

-- nothing stands against an add where its replica has failed and there is room
free_add : (m : Mode) (v : Volume) → add_refusal m v ≡ None → (m ≡ Err) × (layer_count v.snapshots < 250)
free_add Rw v e = absurd cc
free_add Wo v e = absurd cc
free_add Err v e = (refl, ltb-true (layer_count v.snapshots) 250 (has_room _ e))

-- the rebuild that begins is the only one
begun_far : (es : List Entry) (b : Rebuilding) (g : Option EndedRebuild) (name : List ℕ) → ((q : ℕ) → rebuild_of q es ≡ rebuild.Unasked)
    → (q : ℕ) → rebuild_of q (es ++ entry.Mark (mark.Added b.target b.source name) ∷ []) ≡ how_far (Some b) g q
begun_far es b g name unasked q =
    rebuild_of-push q es (entry.Mark (mark.Added b.target b.source name))
    ∙ ap (λ (x : Rebuild). cond (eqb b.target q) (rebuild.Open b.source) x) (unasked q)

one_up : (ms : List Mode) (r : ℕ) → r < length ms → count_by is_up (set ms r Wo) ≤ count_by is_up ms + 1
one_up ms r l = omega (arith, sum_by-set (λ (m : Mode). cond (is_up m) 1 0) ms r Wo Err l)

module _ (s : State) (i : ℕ) (b : Rebuilding) (spares : List (Option Tables)) (ok : IsSound s) (h : i < length s.tickets)
    (is : (ticket_at s.tickets i).kind ≡ kind.Whole) (waits : (ticket_at s.tickets i).started ≡ false)
    (clear : IsClear s.tickets i)
    (asks : (open_at s.calls i).op ≡ Some (whole.Barrier b.target)) (begin : MayBeginOf s b.target)
    (free : refused_in s (command.Add b.target) ≡ None) (few : length s.book.entries < 2 ^ 63)
    (source : IsSource (modes_in s) b.source) where
  abbrev p : PlainState
  p = told_of s

  abbrev name : List ℕ
  name = barrier_name s b.source

  abbrev m : Mark
  m = mark.Added b.target b.source name

  abbrev longer : List Entry
  longer = s.book.entries ++ entry.Mark m ∷ []

  abbrev next : State
  next = barrier_begun s i b spares

  abbrev node : Node
  node = node_at s.nodes b.source

  asked : HasTurn s.maint s.commands (open_at s.calls i).stream (command.Add b.target)
  asked = asked_op s i (whole.Barrier b.target) ok h is asks

  clients : AreClients p.volume s.size (length s.indices) s.book.entries (modes_in s) s.tickets s.calls s.nodes
  clients = (calm s i ok h is waits clear).clients

  in_modes : b.target < length (modes_in s)
  in_modes = omega (arith, begin.there, clients.agree.as_many)

  fails : (mode_of (modes_in s) b.target ≡ Err) × (layer_count p.volume.snapshots < 250)
  fails = free_add (mode_of (modes_in s) b.target) p.volume
      (nothing (add_refusal (mode_of (modes_in s) b.target) p.volume) (source_of (modes_in s)) free).0

  -- ---- the name

  source_is : volume_of_node node ≡ p.volume
  source_is = its_volume s i ok h is waits clear b.source source.read

  own : name ≡ sys_name p.volume.snapshots.number
  own = ap (λ (v : Volume). sys_name v.snapshots.number) source_is

  number : p.volume.snapshots.number + 1 < 2 ^ 64
  number = number_fits s ok few

  own_unused : is_used p.used (sys_name p.volume.snapshots.number) ≡ false
  own_unused = ok.on.told.ordered.own p.volume.snapshots.number (omega arith) (omega (arith, number))

  unused : is_used p.used name ≡ false
  unused = subst (λ (x : List ℕ). is_used p.used x ≡ false) (sym own) own_unused

  can : CanSnap node (sys_name node.number)
  can = can_snap p node name (told_named s ok) (ap (λ (v : Volume). v.snapshots) source_is) unused fails.1 number

  -- ---- the journal

  unasked : (q : ℕ) → rebuild_of q s.book.entries ≡ rebuild.Unasked
  unasked q = ok.on.told.ordered.rebuild q ∙ ap (λ (x : Option Rebuilding). how_far x s.ended q) begin.closed
      ∙ ap (λ (x : Option EndedRebuild). how_far None x q) begin.first

  may : MayBegin (modes_in s) p s.book.entries b.target b.source name
  may = record {
    replica = in_modes;
    failed = fails.0;
    source = source;
    room = fails.1;
    own = own;
    new = unused;
    alone = λ q t e. none_open None q t (sym (unasked q) ∙ e);
  }

  told : IsTold (opening_of s) longer s.indices (Some b) s.ended
  told = record {
    legal = legal_added (opening_of s) s.book.entries b.target b.source name ok.on.told.legal may;
    ordered = mark_ordered (opening_of s) s.book.entries s.indices s.rebuild (Some b) s.ended s.ended m ok.on.told.ordered
        (own, omega (arith, number))
        (rise-added s.book.entries b.target b.source name ok.on.told.ordered.rise) (begun_far s.book.entries b s.ended name unasked);
  }

  back : told_of next ≡ taken p name
  back = replay-push (opening_of s).state s.book.entries (entry.Mark m)

  volume : (told_of next).volume ≡ snapped p.volume (sys_name p.volume.snapshots.number)
  volume = ap (λ (x : PlainState). x.volume) back ∙ ap (snapped p.volume) own

  modes : modes_in next ≡ barrier_modes s b.target
  modes = modes_after-push (opening_of s).modes s.book.entries (entry.Mark m)

  -- ---- the rest

  adds : AreAdds s.maint s.commands (Some b) s.ended
  adds = record {
    of_begun = record { stream = (open_at s.calls i).stream; turn = asked };
    of_ended = ok.adds.of_ended;
    one = begin.first;
  }

  begun_clients : AreClients (told_of next).volume s.size (length s.indices) longer (modes_in next)
      (with_started s.tickets i) s.calls
      (formed (whole.Barrier b.target) (barrier_of s i b spares).parts (barrier_nodes s b))
  begun_clients =
      subst (λ (x : List Mode). AreClients (told_of next).volume s.size (length s.indices) longer x
      (with_started s.tickets i) s.calls (formed (whole.Barrier b.target) (barrier_of s i b spares).parts (barrier_nodes s b)))
      (sym modes)
      (subst (λ (x : Volume). AreClients x s.size (length s.indices) longer (barrier_modes s b.target)
      (with_started s.tickets i) s.calls (formed (whole.Barrier b.target) (barrier_of s i b spares).parts (barrier_nodes s b)))
      (sym volume)
      (barriers.barrier_begun p.volume s.size (length s.indices) s.book.entries m (modes_in s) s.tickets s.calls s.nodes i
      b.target b.source clients h is waits clear in_modes source.read))

  pub barrier_sound : IsNew s.size node name b → AreSpared (whole.Barrier b.target) (barrier_modes s b.target)
      (barrier_nodes s b) spares → IsSound next
  barrier_sound new spared =
      let w = barrier_of s i b spares in
      let calmly = rebuild_of_none s ok (none s i ok h is waits clear) in
      record {
        on = record {
          opened = ok.on.opened;
          told = told;
          clients = begun_clients;
          spare = omega (
            arith,
            ok.on.spare,
            started_room s i ok h is waits clear,
            one_up (modes_in s) b.target in_modes,
            ap (count_by is_up) modes,
          );
          spare_data = omega (arith, ok.on.spare_data);
        };
        whole = subst (λ (x : List Mode). Rattle.open_calls.specs.Whole.IsStarted (told_of next) x
            (with_started s.tickets i) s.calls (barrier_nodes s b) w) (sym modes)
            (barriers.barrier_is p.volume s.size (length s.indices) s.book.entries m (modes_in s) s.tickets s.calls s.nodes
            i b.target b.source clients h is waits clear in_modes source.read
            (told_of next) w volume can refl refl refl spared asks);
        maint = subst (λ (x : List Mode). AreMaint (told_of next).volume.snapshots (length s.indices) longer x
            (with_started s.tickets i) s.calls (barrier_nodes s b) s.maint s.commands) (sym modes)
            (barriers.barrier_maint p.volume s.size (length s.indices) s.book.entries m (modes_in s) s.tickets s.calls
            s.nodes i b.target b.source clients h is waits clear in_modes source.read
            p.volume.snapshots (told_of next).volume.snapshots s.maint s.commands asks ok.maint);
        disk = ap (λ (v : Volume). length v.disk) volume ∙ ok.disk;
        rebuild = subst (λ (x : List Mode). IsRebuilding s.size x (with_started s.tickets i) s.calls (Some w)
            (barrier_nodes s b) (Some b)) (sym modes)
            (rebuild_begun s.size (modes_in s) s.tickets s.calls s.nodes w i name b clients.order h is waits clear
            clients.agree.as_many fails.0 source.read in_modes new
            (barrier_snaps b.target node.number) refl
            (subst (λ (x : Option Rebuilding). IsRebuilding s.size (modes_in s) s.tickets s.calls None s.nodes x) begin.closed calmly));
        adds = adds;
        caused = λ gave. let was = ok.caused gave in
            caused_mark s.maint s.commands s.book.entries was m (command.Add b.target) (length s.indices)
            (open_at s.calls i).stream (behind_falls_added s.book.entries b.target b.source name was.fell) refl asked
            ok.maint.queued;
        streams = ok.streams;
      }

-- as its step tells it
pub begins_barrier_sound : (s s2 : State) (i r : ℕ) → IsSound s → i < length s.tickets
    → (ticket_at s.tickets i).kind ≡ kind.Whole → (ticket_at s.tickets i).started ≡ false → IsClear s.tickets i
    → (open_at s.calls i).op ≡ Some (whole.Barrier r) → MayBeginOf s r → refused_in s (command.Add r) ≡ None
    → length s.book.entries < 2 ^ 63 → BeginsBarrier s i r s2 → IsSound s2
begins_barrier_sound s s2 i r ok h is waits clear asks begin free few y =
    subst IsSound (sym y.state)
    (barrier_sound s i y.b y.spares ok h is waits clear
    (subst (λ q. (open_at s.calls i).op ≡ Some (whole.Barrier q)) (sym y.target) asks)
    (subst (MayBeginOf s) (sym y.target) begin)
    (subst (λ q. refused_in s (command.Add q) ≡ None) (sym y.target) free) few y.source y.new
    (subst (λ q. AreSpared (whole.Barrier q) (barrier_modes s q) (barrier_nodes s y.b) y.spares) (sym y.target) y.spared))

-- ---- whatever it is that starts

pub starts_sound : (s s2 : State) (t i r : ℕ) (op : WholeOp) → IsSound s → IsWaiting s t i op → MayBeginOp s op
    → refused_in s (command_of op) ≡ None → length s.book.entries < 2 ^ 63 → IsLongSource s r → BeginsWhole s i op s2
    → IsSound s2
starts_sound s s2 t i r op ok at begin free few source y = by op at.asks begin free y
  where
    within : i < length s.tickets
    within = at.awaits.stands.within

    other : (op : WholeOp) → IsPlain op → (open_at s.calls i).op ≡ Some op → refused_in s (command_of op) ≡ None
        → BeginsWith s i op s2 → IsSound s2
    other op plain asks free y =
        subst IsSound (sym y.2)
        (begun_sound s i ok within at.awaits.kind at.awaits.waits at.clear op y.0 plain asks
        (asked_op s i op ok within at.awaits.kind asks) (still_op s i op ok within at.awaits.kind at.awaits.waits asks)
        free r source y.1)

    by : (op : WholeOp) → (open_at s.calls i).op ≡ Some op → MayBeginOp s op → refused_in s (command_of op) ≡ None
        → BeginsWhole s i op s2 → IsSound s2
    by (whole.Snapshot name) asks begin free y = other (whole.Snapshot name) tt asks free y
    by (whole.Remove name) asks begin free y = other (whole.Remove name) tt asks free y
    by (whole.Revert name) asks begin free y = other (whole.Revert name) tt asks free y
    by (whole.Purge f) asks begin free y = other (whole.Purge f) tt asks free y
    by (whole.Barrier q) asks begin free y = begins_barrier_sound s s2 i q ok within at.awaits.kind at.awaits.waits at.clear
        asks begin free few y
