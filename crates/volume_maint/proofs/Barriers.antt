-- What the end of a barrier leaves of its rebuild, and how an add is refused before one was begun.
use Rattle.std.proofs.Common.{◌≡◌, ◌⊎◌, ⊎_elim, ℕ, ◌+◌, ◌<◌, ◌≤◌, true, List, [], ◌∷◌, ◌++◌, length, map, set, refl}
use Rattle.std.proofs.Common.{sym, ap, subst, ◌∙◌, arith}
use Rattle.std.specs.Prelude.{Option, None, Some, Result, Ok, Err as Failed, OnOk}
use Rattle.std.specs.Option.{option_map}
use Rattle.vol_units.specs.declared.layer_name.LayerName.{LayerName}
use Rattle.vol_units.specs.declared.snap_name.SnapName.{SnapName}
use Rattle.volume_model.specs.declared.mark.FoldOrDrop.{FoldOrDrop}
use Rattle.volume_model.specs.declared.command.Command.TheVariants as command
use Rattle.volume_model.specs.declared.call.Call.TheVariants as call
use Rattle.volume_model.specs.declared.entry.Answer.{Answer}
use Rattle.volume_model.specs.declared.entry.Entry.{Entry}
use Rattle.volume_model.specs.declared.entry.Entry.TheVariants as entry
use Rattle.volume_model.specs.declared.mark.Mark.TheVariants as mark
use Rattle.volume_model.specs.declared.mark.Rebuild.{Rebuild}
use Rattle.volume_model.specs.declared.mark.Rebuild.TheVariants as rebuild
use Rattle.volume_model.specs.declared.mode.Mode.{Mode}
use Rattle.volume_model.specs.History.{Spot, IsAnswered, IsEnded, EndsAdd}
use Rattle.volume_model.specs.declared.mode.Mode.TheVariants.{Rw}
use Rattle.volume_model.specs.Modes.{mode_of, modes_after, IsSource}
use Rattle.volume_model.specs.Rebuilds.{rebuild_of, rebuild_after_add, added_by}
use Rattle.volume_model.specs.Replay.{replay, is_refusal}
use Rattle.volume_model.proofs.PushLemmas.{IsLegal-push, modes_after-push}
use Rattle.volume_model.proofs.RebuildLemmas.{rebuild_of-push}
use Rattle.range_turns.specs.declared.ticket.Ticket.{Ticket}
use Rattle.replica_node.specs.Node.{Node}
use Rattle.replica_node.specs.Held.{emptied}
use Rattle.sparse_image.specs.Image.{Tables}
use Rattle.step_answers.specs.declared.whole_op.WholeOp.{WholeOp}
use Rattle.step_answers.specs.declared.whole_op.WholeOp.TheVariants as whole
use Rattle.open_calls.specs.Calls.{node_at}
use Rattle.step_answers.specs.Parts.{part_for}
use Rattle.range_turns.specs.Order.{ticket_at, with_started}
use Rattle.open_calls.proofs.PartLemmas.{up_in, rw_up}
use Rattle.open_calls.specs.Whole.{AreSpared}
use Rattle.open_calls.proofs.Forms.{length-forms}
use Rattle.open_calls.proofs.Ops.{IsPlain}
use Rattle.open_calls.specs.declared.open_call.OpenCall.{OpenCall}
use Rattle.open_calls.specs.Clients.{behind_last}
use Rattle.open_calls.specs.declared.maint.MaintCall.{MaintCall}
use Rattle.open_rebuild.specs.declared.rebuilding.Rebuilding.{Rebuilding}
use Rattle.open_rebuild.specs.Claim.{IsRebuilding, IsNew}
use Rattle.open_rebuild.proofs.WholeSteps as rebuilds
use Rattle.volume_core.specs.declared.world.EndedRebuild.{EndedRebuild}
use Rattle.volume_core.specs.State.{State, opening_of, modes_in, index_at}
use Rattle.volume_core.specs.Steps.{with_entry}
use Rattle.volume_core.specs.Sound.{IsSound, IsTold, AreAdds, how_far, owed_end}
use Rattle.volume_core.proofs.Keep.{calm_of}
use Rattle.volume_core.proofs.Told.{answer_ordered_to}
use Rattle.volume_maint.specs.Answers.{BeginsBarrier, BeginsWith, BeginsWhole}
use Rattle.volume_maint.specs.Steps.{barrier_name, barrier_modes, barrier_put, with_places, past_barrier}
use Rattle.volume_maint.proofs.AddEnds.{still_unasked}

-- ---- at the barrier

-- its mark lets the target be written
pub modes_with_added : (s s2 : State) (r source : ℕ) (name : List ℕ)
    → s2 ≡ record s { book = with_entry s.book (entry.Mark (mark.Added r source name)) } → modes_in s2 ≡ barrier_modes s r
modes_with_added s s2 r source name is = ap modes_in is
    ∙ modes_after-push (opening_of s).modes s.book.entries (entry.Mark (mark.Added r source name))

-- where its mark stands, its target is another replica and its call is started, its rebuild is open
pub put_is : (s s1 s2 s3 : State) (i : ℕ) (b : Rebuilding) (target : Node) (spares : List (Option Tables))
    → s1 ≡ record s { book = with_entry s.book (entry.Mark (mark.Added b.target b.source (barrier_name s b.source))) }
    → s2 ≡ record s1 { nodes = set s1.nodes b.target target }
    → s3 ≡ record s2 {
      tickets = with_started s2.tickets i;
      whole =
          Some (record {
            number = (ticket_at s2.tickets i).number;
            op = whole.Barrier b.target;
            parts =
                map part_for (modes_in s2);
            spares = spares;
          });
    }
    → record s3 { rebuild = Some b } ≡ barrier_put s i b target spares
put_is s s1 s2 s3 i b target spares e1 e2 e3 =
    ap (λ (x : State). record x { rebuild = Some b }) e3
    ∙ ap (λ (x : State). put x (modes_in x)) e2
    ∙ ap (λ (x : State). put (record x { nodes = set x.nodes b.target target }) (modes_in x)) e1
    ∙ ap (put (record (marked s) { nodes = set s.nodes b.target target }))
    (modes_with_added s (marked s) b.target b.source (barrier_name s b.source) refl)
  where
    marked : State → State
    marked x = record x { book = with_entry x.book (entry.Mark (mark.Added b.target b.source (barrier_name x b.source))) }

    put : State → List Mode → State
    put x ms = record x {
      tickets = with_started x.tickets i;
      whole = Some (record {
        number = (ticket_at x.tickets i).number;
        op = whole.Barrier b.target;
        parts =
            map part_for ms;
        spares = spares;
      });
      rebuild = Some b;
    }

-- a replica is as long as the volume
pub long_node : (s : State) (r : ℕ) → IsSound s → s.whole ≡ None → mode_of (modes_in s) r ≡ Rw → length (node_at s.nodes r).disk ≡ s.size
long_node s r ok none read = let calm = calm_of s ok none in calm.clients.agree.sizes r (rw_up (mode_of (modes_in s) r) read)

pub node_within : (s : State) (r : ℕ) → IsSound s → mode_of (modes_in s) r ≡ Rw → r < length s.nodes
node_within s r ok read = omega (
  arith,
  up_in (modes_in s) r (rw_up (mode_of (modes_in s) r) read),
  ok.on.clients.agree.as_many,
  length-forms s.whole s.nodes,
)

-- so it begins
pub begins_by : (s s2 : State) (i r source : ℕ) (b : Rebuilding) (target : Node) (spares : List (Option Tables))
    → IsSource (modes_in s) source → b.target ≡ r → b.source ≡ source → length (node_at s.nodes source).disk ≡ s.size
    → IsNew (length (node_at s.nodes source).disk) (node_at s.nodes source) (barrier_name s source) b
    → target ≡ emptied (node_at s.nodes source)
    → AreSpared (whole.Barrier r) (barrier_modes s r) (set s.nodes r target) spares
    → s2 ≡ barrier_put (with_places s) i b target spares → BeginsBarrier s i r s2
begins_by s s2 i r source b target spares first of from long new blank spared is =
    let from_it = sym from in
    let same : target ≡ emptied (node_at s.nodes b.source) = blank ∙ ap (λ q. emptied (node_at s.nodes q)) from_it in
    record {
      b = b;
      spares = spares;
      source = subst (IsSource (modes_in s)) from_it first;
      target = of;
      new = subst (λ q. IsNew s.size (node_at s.nodes q) (barrier_name s q) b) from_it
          (subst (λ n. IsNew n (node_at s.nodes source) (barrier_name s source) b) long new);
      spared = subst (λ (n : Node). AreSpared (whole.Barrier r) (barrier_modes s r) (set s.nodes b.target n) spares) same
          (subst (λ q. AreSpared (whole.Barrier r) (barrier_modes s r) (set s.nodes q target) spares) (sym of) spared);
      state = is ∙ ap (λ (n : Node). barrier_put (with_places s) i b n spares) same;
    }

-- ---- an operation starts that is no barrier

pub begins_plain : (s s2 : State) (i : ℕ) (op : WholeOp) → IsPlain op → BeginsWith s i op s2 → BeginsWhole s i op s2
begins_plain s s2 i (whole.Snapshot name) plain y = y
begins_plain s s2 i (whole.Remove name) plain y = y
begins_plain s s2 i (whole.Revert name) plain y = y
begins_plain s s2 i (whole.Purge f) plain y = y
begins_plain s s2 i (whole.Barrier r) plain y = absurd plain

plain_is : (op other : WholeOp) → op ≡ other → IsPlain other → IsPlain op
plain_is op other e plain = subst IsPlain (sym e) plain

pub plain_of : (op : WholeOp) → ((name : SnapName) × (op ≡ whole.Snapshot name))
    ⊎ (((name : LayerName) × (op ≡ whole.Remove name))
    ⊎ (((name : LayerName) × (op ≡ whole.Revert name)) ⊎ ((f : FoldOrDrop) × (op ≡ whole.Purge f)))) → IsPlain op
plain_of op which =
    ⊎_elim
    (λ e. plain_is op (whole.Snapshot e.0) e.1 tt)
    (λ more. ⊎_elim
    (λ e. plain_is op (whole.Remove e.0) e.1 tt)
    (λ rest. ⊎_elim
    (λ e. plain_is op (whole.Revert e.0) e.1 tt)
    (λ e. plain_is op (whole.Purge e.0) e.1 tt)
    rest)
    more)
    which

pub ok_to : {A E : Type 0} (r : Result A E) (P Q : Type 0) → (P → Q) → OnOk r P → OnOk r Q
ok_to (Ok a) P Q f p = f p
ok_to (Failed e) P Q f p = tt

-- ---- behind the barrier

past_far : (b : Option Rebuilding) (g : Option EndedRebuild) (q : ℕ) → how_far b g q ≡ how_far (option_map past_barrier b) g q
past_far None g q = refl
past_far (Some b) g q = refl

pub past_told : (o : Spot) (es : List Entry) (indices : List ℕ) (b : Option Rebuilding) (g : Option EndedRebuild)
    → IsTold o es indices b g → IsTold o es indices (option_map past_barrier b) g
past_told o es indices b g told =
    let was = told.ordered in
    record {
      legal = told.legal;
      ordered = record {
        rise = was.rise;
        order = was.order;
        index = was.index;
        few = was.few;
        own = was.own;
        rebuild =
            λ q. was.rebuild q ∙ past_far b g q;
      };
    }

pub past_owed : (b : Option Rebuilding) → owed_end (option_map past_barrier b) ≡ owed_end b
past_owed None = refl
past_owed (Some b) = refl

pub past_adds : (maint : List Ticket) (commands : List MaintCall) (b : Option Rebuilding) (g : Option EndedRebuild)
    → AreAdds maint commands b g → AreAdds maint commands (option_map past_barrier b) g
past_adds maint commands None g adds = record { of_begun = tt; of_ended = adds.of_ended; one = tt }
past_adds maint commands (Some b) g adds = record { of_begun = adds.of_begun; of_ended = adds.of_ended; one = adds.one }

pub past_rebuilding : (size : ℕ) (modes : List Mode) (ts : List Ticket) (cs : List OpenCall) (ns : List Node) (b : Option Rebuilding)
    → IsRebuilding size modes ts cs None ns b → IsRebuilding size modes ts cs None ns (option_map past_barrier b)
past_rebuilding size modes ts cs ns None k = record { roles = k.roles; claim = tt }
past_rebuilding size modes ts cs ns (Some b) k = rebuilds.barrier_ended size modes ts cs ns b k

-- ---- an add is refused

-- which leaves that no rebuild was asked for
pub refused_add_told : (o : Spot) (es : List Entry) (indices : List ℕ) (b : Option Rebuilding) (g : Option EndedRebuild)
    (a : Answer) (r : ℕ) → IsTold o es indices b g
    → a.call ≡ call.Command (command.Add r) → b ≡ None → g ≡ None
    → IsAnswered (replay o.state es) (modes_after o.modes es) a → is_refusal a.reply ≡ true
    → a.stream < length indices → a.index ≡ index_at indices a.stream → behind_last a.stream es ≤ a.saw → a.saw ≤ length es
    → IsTold o (es ++ entry.Answer a ∷ []) (set indices a.stream (index_at indices a.stream + 1)) b g
refused_add_told o es indices b g a r told is closed first may refused within index past saw =
    let state = replay o.state es in
    let modes = modes_after o.modes es in
    let ends : EndsAdd (rebuild_of r es) es state modes a r =
    subst (λ (x : Rebuild). EndsAdd x es state modes a r) (sym (far r)) (may, refused) in
    record {
      legal = IsLegal-push o es (entry.Answer a) told.legal (subst (λ c. IsEnded (added_by c) es state modes a) (sym is) ends);
      ordered = answer_ordered_to o es indices b b g g a told.ordered (λ name e. absurd (no_snapshot name (sym is ∙ e)))
          rebuilds_so within index past saw;
    }
  where
    far : (q : ℕ) → rebuild_of q es ≡ rebuild.Unasked
    far q = told.ordered.rebuild q ∙ ap (λ (x : Option Rebuilding). how_far x g q) closed
        ∙ ap (λ (x : Option EndedRebuild). how_far None x q) first

    no_snapshot : (name : List ℕ) → call.Command (command.Add r) ≡ call.Command (command.Snapshot name) → ⊥
    no_snapshot name e = cc

    rebuilds_so : (q : ℕ) → rebuild_of q (es ++ entry.Answer a ∷ []) ≡ how_far b g q
    rebuilds_so q =
        rebuild_of-push q es (entry.Answer a) ∙ ap (λ (x : Rebuild). rebuild_after_add q x (added_by a.call)) (far q)
        ∙ still_unasked q (added_by a.call)
        ∙ sym (far q) ∙ told.ordered.rebuild q
