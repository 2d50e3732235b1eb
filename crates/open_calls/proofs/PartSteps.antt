-- One replica takes its part of what is done to the whole volume, or acknowledges it.
use Rattle.std.proofs.Common.{◌≡◌, ◌≢◌, ℕ, ◌<◌, ⊎_elim, Bool, true, false, cond, ◌||◌, List, [], ◌∷◌, length, set}
use Rattle.std.proofs.Common.{length-set, get_or-set_other, subst, sym, refl, ap, ◌∙◌, arith}
use Rattle.std.specs.Prelude.{None, Some}
use Rattle.std.specs.Str.{bytes_eq}
use Rattle.std.proofs.lemmas.Bool.{cases_lt, cases_eq, false≢true}
use Rattle.std.proofs.lemmas.List.{get_or_past}
use Rattle.std.proofs.lemmas.Slice.Eq.{bytes_eq-Decides}
use Rattle.vol_units.specs.Chain.{is_named}
use Rattle.volume_model.specs.declared.entry.Entry.{Entry}
use Rattle.volume_model.specs.declared.mark.FoldOrDrop.TheVariants as part
use Rattle.volume_model.specs.declared.mode.Mode.{Mode}
use Rattle.volume_model.specs.declared.mode.Mode.TheVariants.{Rw}
use Rattle.volume_model.specs.Modes.{mode_of}
use Rattle.volume_model.specs.Names.{AreNamed, has_name}
use Rattle.volume_model.specs.PlainState.{PlainState, Volume, is_used}
use Rattle.volume_model.specs.Purge.{children_of}
use Rattle.volume_model.specs.Snapshots.{Snapshot, Snapshots}
use Rattle.range_turns.specs.declared.ticket.Kind.TheVariants as kind
use Rattle.range_turns.specs.declared.ticket.Ticket.{Ticket}
use Rattle.range_turns.specs.Order.{ticket_at}
use Rattle.replica_node.specs.Node.{Node, blank, snapped_node, has_own}
use Rattle.replica_node.specs.Fold.{IsBare, own_named}
use Rattle.open_calls.specs.declared.open_call.OpenCall.{OpenCall}
use Rattle.step_answers.specs.declared.parts.Part.{Part}
use Rattle.step_answers.specs.declared.parts.Part.TheVariants.{Apart, Owed, Taken, Acked}
use Rattle.step_answers.specs.declared.whole_op.WholeOp.{WholeOp}
use Rattle.step_answers.specs.declared.whole_op.WholeOp.TheVariants as whole
use Rattle.step_answers.specs.Asked.{command_of}
use Rattle.open_calls.specs.Calls.{open_at, node_at}
use Rattle.open_calls.specs.Clients.{AreClients, AreSeen}
use Rattle.step_answers.specs.Parts.{part_at, IsTaken}
use Rattle.open_calls.proofs.FreeLemmas.{not_both}
use Rattle.open_calls.proofs.ListLemmas.{at_set}
use Rattle.open_calls.proofs.PartLemmas.{part_owed, taken_in, taken≢apart, acked≢apart}
use Rattle.open_calls.specs.declared.maint.MaintCall.{MaintCall}
use Rattle.open_calls.specs.declared.whole.Whole.{Whole}
use Rattle.open_calls.specs.Due.{part_on, formed}
use Rattle.open_calls.specs.Whole.{MayBeDone, CanTake, IsStarted, spare_at, parted, part_acked}
use Rattle.open_calls.specs.Maint.{command_at, HasTurn, IsAskedBy, IsOfTurn, CanStill, FitsMaint}
use Rattle.open_calls.proofs.Forms.{parted_form, acked_form}

-- ---- the call

owed≢taken : Taken ≡ Owed → ⊥
owed≢taken e = cc

owed≢acked : Acked ≡ Owed → ⊥
owed≢acked e = cc

owed≢apart : Apart ≡ Owed → ⊥
owed≢apart e = cc

-- what is owed is of a replica that is there
pub owed_in : (parts : List Part) (r : ℕ) → part_at parts r ≡ Owed → r < length parts
owed_in parts r e = ⊎_elim (λ l. l) (λ l. absurd (owed≢apart (sym (get_or_past parts r Apart l) ∙ e))) (cases_lt r (length parts))

module _ (p : PlainState) (modes : List Mode) (ts : List Ticket) (cs : List OpenCall) (ns : List Node) (w : Whole) (r : ℕ)
    (is : IsStarted p modes ts cs ns w) where
  abbrev had : Node
  had = node_at ns r

  -- the replica takes its part, and the call is still started
  pub part_taken : part_at w.parts r ≡ Owed → IsStarted p modes ts cs (set ns r (part_on w.op had)) (parted w r)
  part_taken owed =
      let l : r < length w.parts = owed_in w.parts r owed in
      record {
        place = is.place;
        stands = record { within = is.stands.within; is = is.stands.is; only = is.stands.only };
        kind = is.kind;
        started = is.started;
        op = is.op;
        parts = length-set w.parts r Taken ∙ is.parts ∙ sym (length-set ns r (part_on w.op had));
        owes = λ q up. part_owed w.parts r q Taken l taken≢apart (is.owes q up);
        may = is.may;
        takes = λ q up. at_set (λ (x : Part). x ≡ Owed
            → CanTake w.op p.volume.snapshots (node_at (set ns r (part_on w.op had)) q) (spare_at (set w.spares r None) q))
            w.parts r q Taken Apart l
            (λ _ e. absurd (owed≢taken e))
            (λ n e. subst (λ (x : Node). CanTake w.op p.volume.snapshots x (spare_at (set w.spares r None) q))
            (sym (get_or-set_other ns r q (part_on w.op had) (blank 0) n))
            (subst (CanTake w.op p.volume.snapshots (node_at ns q)) (sym (get_or-set_other w.spares r q None None n)) (is.takes q up e)));
      }

  -- the replica acknowledges its part
  pub part_told : IsTaken (part_at w.parts r) → IsStarted p modes ts cs ns (part_acked w r)
  part_told taken =
      let l : r < length w.parts = taken_in w.parts r taken in
      record {
        place = is.place;
        stands = record { within = is.stands.within; is = is.stands.is; only = is.stands.only };
        kind = is.kind;
        started = is.started;
        op = is.op;
        parts = length-set w.parts r Acked ∙ is.parts;
        owes = λ q up. part_owed w.parts r q Acked l acked≢apart (is.owes q up);
        may = is.may;
        takes = λ q up. at_set (λ (x : Part). x ≡ Owed → CanTake w.op p.volume.snapshots (node_at ns q) (spare_at w.spares q)) w.parts r
            q Acked Apart l
            (λ _ e. absurd (owed≢acked e))
            (λ _. is.takes q up);
      }

  -- the replicas agree in due form as before, where it takes its part
  pub parted_clients : (v : Volume) (size streams : ℕ) (es : List Entry) → part_at w.parts r ≡ Owed
      → AreClients v size streams es modes ts cs (formed w.op w.parts ns)
      → AreClients v size streams es modes ts cs (formed w.op (set w.parts r Taken) (set ns r (part_on w.op had)))
  parted_clients v size streams es owed ok =
      subst (λ xs. AreClients v size streams es modes ts cs xs)
      (sym (parted_form w.op w.parts ns r owed (omega (arith, owed_in w.parts r owed, is.parts)))) ok

  -- and where it acknowledges its part
  pub told_clients : (v : Volume) (size streams : ℕ) (es : List Entry) → IsTaken (part_at w.parts r)
      → AreClients v size streams es modes ts cs (formed w.op w.parts ns)
      → AreClients v size streams es modes ts cs (formed w.op (set w.parts r Acked) ns)
  told_clients v size streams es taken ok = subst (λ xs. AreClients v size streams es modes ts cs xs)
      (sym (acked_form w.op w.parts ns r taken)) ok

-- ---- what waits behind it

-- a snapshot that stands on another is there
pub child_there : (tree : List Snapshot) (p c : List ℕ) (cs : List (List ℕ)) → children_of tree p ≡ c ∷ cs → has_name tree c ≡ true
child_there [] p c cs e = absurd cc
child_there (s ∷ ss) p c cs e = go (is_named s.parent p) e (λ cs' e'. child_there ss p c cs' e')
  where
    same : {a b : List ℕ} {l m : List (List ℕ)} → a ∷ l ≡ b ∷ m → b ≡ a
    same e = cc

    first : (b x : Bool) → b ≡ true → (b || x) ≡ true
    first b x e = rw e refl

    second : (b x : Bool) → x ≡ true → (b || x) ≡ true
    second true x e = refl
    second false x e = e

    go : (b : Bool) → cond b (s.name ∷ children_of ss p) (children_of ss p) ≡ c ∷ cs
        → ((cs' : List (List ℕ)) → children_of ss p ≡ c ∷ cs' → has_name ss c ≡ true)
        → (bytes_eq c s.name || has_name ss c) ≡ true
    go true is rest = first (bytes_eq c s.name) (has_name ss c) ((bytes_eq-Decides c s.name).1 (same is))
    go false is rest = second (bytes_eq c s.name) (has_name ss c) (rest cs is)

-- a name that was not taken is none of a snapshot
pub other_name : (p : PlainState) (name c : List ℕ) → AreNamed p → is_used p.used name ≡ false
    → has_name p.volume.snapshots.tree c ≡ true → bytes_eq c name ≡ false
other_name p name c named unused there = go (bytes_eq c name) refl
  where
    go : (b : Bool) → bytes_eq c name ≡ b → b ≡ false
    go true e = absurd (false≢true (sym unused ∙ ap (is_used p.used) (sym ((bytes_eq-Decides c name).0 e)) ∙ named.taken c there))
    go false e = refl

-- a layer that has no block has none where another is taken
snapped_bare : (n : Node) (name c : List ℕ) → bytes_eq c name ≡ false → IsBare n.layers c → IsBare (snapped_node n name).layers c
snapped_bare n name c apart bare block = ap (λ b. has_own (cond b n.own (own_named n.layers c)) block) apart ∙ bare block

-- what waits still can be done where a replica takes its part of a snapshot
pub snapped_still : (p : PlainState) (modes : List Mode) (ns : List Node) (r : ℕ) (name : List ℕ) (op : WholeOp)
    → AreNamed p → is_used p.used name ≡ false → r < length ns
    → CanStill p.volume.snapshots modes ns op → CanStill p.volume.snapshots modes (set ns r (snapped_node (node_at ns r) name)) op
snapped_still p modes ns r name (whole.Snapshot other) named unused l can = tt
snapped_still p modes ns r name (whole.Remove other) named unused l can = tt
snapped_still p modes ns r name (whole.Revert other) named unused l can = tt
snapped_still p modes ns r name (whole.Barrier q) named unused l can = tt
snapped_still p modes ns r name (whole.Purge (part.Drop a)) named unused l can = record { can = can.can; folded = λ q e. tt }
snapped_still p modes ns r name (whole.Purge (part.Fold a c)) named unused l can =
    let apart = other_name p name c named unused (child_there p.volume.snapshots.tree a c [] can.can.child) in
    record {
      can = can.can;
      folded = λ q e. at_set (λ (x : Node). IsBare x.layers c) ns r q (snapped_node (node_at ns r) name) (blank 0) l
          (λ same. snapped_bare (node_at ns r) name c apart (can.folded r (subst (λ n. mode_of modes n ≡ Rw) same e)))
          (λ _. can.folded q e);
    }

same_op : {a b : WholeOp} → Some a ≡ Some b → a ≡ b
same_op e = cc

-- how the operation of an open call was asked
pub asked_there : (s : Snapshots) (modes : List Mode) (ns : List Node) (maint : List Ticket) (commands : List MaintCall)
    (t : Ticket) (c : OpenCall) (op : WholeOp) → t.kind ≡ kind.Whole → c.op ≡ Some op
    → FitsMaint s modes ns maint commands t c → IsAskedBy maint commands c.stream op
asked_there s modes ns maint commands t c op is asks fit = let o = fit.whole is in
    subst (IsAskedBy maint commands c.stream) (same_op (sym o.is ∙ asks)) o.asked

-- and what it saw, if it is of the command that has the turn
pub saw_there : (s : Snapshots) (modes : List Mode) (ns : List Node) (maint : List Ticket) (commands : List MaintCall)
    (t : Ticket) (c : OpenCall) (op : WholeOp) → t.kind ≡ kind.Whole → c.op ≡ Some op → IsOfTurn op
    → FitsMaint s modes ns maint commands t c → c.saw ≡ (command_at commands 0).saw
saw_there s modes ns maint commands t c op is asks of fit = let o = fit.whole is in
    o.saw (subst IsOfTurn (same_op (sym asks ∙ o.is)) of)

-- what is no snapshot was asked by the command that has the turn
pub turn_of : (maint : List Ticket) (commands : List MaintCall) (stream : ℕ) (op : WholeOp) → IsOfTurn op
    → IsAskedBy maint commands stream op → HasTurn maint commands stream (command_of op)
turn_of maint commands stream (whole.Snapshot name) of asked = absurd of
turn_of maint commands stream (whole.Remove name) of asked = asked
turn_of maint commands stream (whole.Revert name) of asked = asked
turn_of maint commands stream (whole.Purge f) of asked = asked
turn_of maint commands stream (whole.Barrier r) of asked = asked

-- its stream is that of the first command
pub turn_stream : (maint : List Ticket) (commands : List MaintCall) (stream : ℕ) (op : WholeOp) → IsOfTurn op
    → IsAskedBy maint commands stream op → (command_at commands 0).stream ≡ stream
turn_stream maint commands stream op of asked = (turn_of maint commands stream op of asked).own

-- an operation of another stream asks nothing of the replicas while it waits
pub other_still : (maint : List Ticket) (commands : List MaintCall) (stream : ℕ) (op : WholeOp) (s : Snapshots)
    (modes : List Mode) (ns : List Node) → (command_at commands 0).stream ≢ stream → IsAskedBy maint commands stream op
    → CanStill s modes ns op
other_still maint commands stream (whole.Snapshot name) s modes ns off asked = tt
other_still maint commands stream (whole.Remove name) s modes ns off asked = absurd (off asked.own)
other_still maint commands stream (whole.Revert name) s modes ns off asked = absurd (off asked.own)
other_still maint commands stream (whole.Purge f) s modes ns off asked = absurd (off asked.own)
other_still maint commands stream (whole.Barrier r) s modes ns off asked = absurd (off asked.own)

-- two calls of one stream are one
pub one_stream : (es : List Entry) (cs : List OpenCall) (i j : ℕ) → AreSeen es cs → i < length cs → j < length cs
    → (open_at cs i).stream ≡ (open_at cs j).stream → j ≡ i
one_stream es cs i j seen h l e =
    ⊎_elim
    (λ same. same)
    (λ other. ⊎_elim
    (λ below. absurd (seen.alone j i below h (sym e)))
    (λ above. absurd (seen.alone i j (omega (arith, above, other)) l e))
    (cases_lt j i))
    (cases_eq j i)

-- while an operation of the command that has the turn is started, none that waits asks anything of the volume or the replicas
pub none_waits : (es : List Entry) (s s2 : Snapshots) (modes modes2 : List Mode) (ns ns2 : List Node) (maint : List Ticket)
    (commands : List MaintCall) (ts : List Ticket) (cs : List OpenCall) (i : ℕ) (op : WholeOp)
    → AreSeen es cs → length cs ≡ length ts → i < length ts → (ticket_at ts i).kind ≡ kind.Whole
    → (ticket_at ts i).started ≡ true → (open_at cs i).op ≡ Some op → IsOfTurn op
    → ((j : ℕ) → j < length ts → FitsMaint s modes ns maint commands (ticket_at ts j) (open_at cs j))
    → (j : ℕ) → j < length ts → FitsMaint s2 modes2 ns2 maint commands (ticket_at ts j) (open_at cs j)
none_waits es s s2 modes modes2 ns ns2 maint commands ts cs i op seen paired h is started asks of fit j l =
    let f = fit j l in
    record {
      apart = f.apart;
      whole = λ w. let o = f.whole w in record { op = o.op; is = o.is; asked = o.asked; saw = o.saw; still = λ n. still n o.op o.asked };
    }
  where
    own : (command_at commands 0).stream ≡ (open_at cs i).stream
    own = turn_stream maint commands (open_at cs i).stream op of
        (asked_there s modes ns maint commands (ticket_at ts i) (open_at cs i) op is asks (fit i h))

    still : (ticket_at ts j).started ≡ false → (o : WholeOp) → IsAskedBy maint commands (open_at cs j).stream o → CanStill s2 modes2 ns2 o
    still n o asked = other_still maint commands (open_at cs j).stream o s2 modes2 ns2
        (λ e. not_both (ticket_at ts j).started n
        (ap (λ k. (ticket_at ts k).started)
        (one_stream es cs i j seen (omega (arith, h, paired)) (omega (arith, l, paired)) (sym own ∙ e)) ∙ started)) asked

-- each ticket fits the maintenance turn once the replica took its part
pub part_maint : (es : List Entry) (p : PlainState) (modes : List Mode) (ts : List Ticket) (cs : List OpenCall)
    (ns : List Node) (w : Whole) (r : ℕ) (maint : List Ticket) (commands : List MaintCall)
    → AreNamed p → AreSeen es cs → length cs ≡ length ts → IsStarted p modes ts cs ns w → part_at w.parts r ≡ Owed
    → ((j : ℕ) → j < length ts → FitsMaint p.volume.snapshots modes ns maint commands (ticket_at ts j) (open_at cs j))
    → (j : ℕ) → j < length ts → FitsMaint p.volume.snapshots modes (set ns r (part_on w.op (node_at ns r))) maint commands
    (ticket_at ts j) (open_at cs j)
part_maint es p modes ts cs ns w r maint commands named seen paired is owed fit = go w.op is.op is.may
  where
    within : r < length ns
    within = omega (arith, owed_in w.parts r owed, is.parts)

    turn : (op : WholeOp) → (open_at cs is.place).op ≡ Some op → IsOfTurn op
        → (j : ℕ) → j < length ts → FitsMaint p.volume.snapshots modes (set ns r (part_on op (node_at ns r))) maint commands
        (ticket_at ts j) (open_at cs j)
    turn op asks of = none_waits es p.volume.snapshots p.volume.snapshots modes modes ns
        (set ns r (part_on op (node_at ns r))) maint commands ts cs is.place op seen paired is.stands.within is.kind
        is.started asks of fit

    go : (op : WholeOp) → (open_at cs is.place).op ≡ Some op → MayBeDone op p
        → (j : ℕ) → j < length ts → FitsMaint p.volume.snapshots modes (set ns r (part_on op (node_at ns r))) maint commands
        (ticket_at ts j) (open_at cs j)
    go (whole.Snapshot name) asks may = λ j l. let f = fit j l in record {
      apart = f.apart;
      whole = λ k. let o = f.whole k in
          record {
            op = o.op;
            is = o.is;
            asked = o.asked;
            saw = o.saw;
            still =
                λ n. snapped_still p modes ns r name o.op named may.1 within (o.still n);
          };
    }
    go (whole.Remove name) asks may = turn (whole.Remove name) asks tt
    go (whole.Revert name) asks may = turn (whole.Revert name) asks tt
    go (whole.Purge f) asks may = turn (whole.Purge f) asks tt
    go (whole.Barrier q) asks may = turn (whole.Barrier q) asks tt
