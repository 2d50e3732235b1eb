-- Each step of a command that is answered at once, of the maintenance turn and of a purge in one turn: the World that was
-- seen as s is found as x, left as y, and seen so as u.
use Rattle.std.proofs.Common.{◌≡◌, ℕ, Bool, true, false, List, [], Result, Ok, OnOk, OnErr, IfOk, IfErr, IfSome, subst, sym, refl, ap, ◌∙◌}
use Rattle.std.proofs.Common.{arith, length}
use Rattle.std.proofs.Common.{Err as Failed}
use Rattle.volume_model.specs.declared.command.Command.{Command}
use Rattle.volume_model.specs.declared.command.Command.TheVariants as command
use Rattle.range_turns.specs.declared.turns.MayStart.{MayStart}
use Rattle.range_turns.specs.declared.turns.MayStart.TheVariants as may_start
use Rattle.volume_model.specs.declared.call.Call.TheVariants as call
use Rattle.volume_model.specs.declared.call.Reply.{Reply}
use Rattle.volume_model.specs.declared.mark.FoldOrDrop.TheVariants as part
use Rattle.volume_model.specs.Commands.{NamesReplica}
use Rattle.open_calls.specs.Clients.{IsIdle}
use Rattle.open_calls.specs.Maint.{HasNoCommand, command_at}
use Rattle.step_answers.specs.declared.answers.NotThis.{NotThis}
use Rattle.volume_core.specs.Answers.{IsAnsweredNow}
use Rattle.volume_core.specs.State.{State, gave_up_at, modes_in}
use Rattle.volume_core.specs.Steps.{faulted}
use Rattle.volume_core.specs.Streams.{MayGo, IsAnsweredTo, turning, Origin}
use Rattle.volume_core.specs.Turn.{ForAsker, IsFreeTurn}
use Rattle.volume_core.specs.Against as core
use Rattle.volume_maint.specs.Steps.{gives_back, maint_enrolled, turn_abandoned}
use Rattle.volume_maint.specs.Answers as world
use Rattle.volume_maint.specs.Places as place
use Rattle.volume_maint.proofs.Purging.{IsPurging, node_in, told_can}
use Rattle.world_holder.specs.Counted.{AreOthersCounted}
use Rattle.world_holder.proofs.CountedLemmas.{kept_same, kept_answered, others_kept, own_turn}
use Rattle.world_holder.proofs.Leaves.{parts_stay}
use Rattle.world_holder.proofs.Found.{still_none, has_no_command}
use Rattle.stream_steps.specs.Mine.{Mine, OwnCall, with_running}
use Rattle.stream_steps.specs.Does.{Does, StartsOrWaits}
use Rattle.stream_steps.specs.Against.{RefusesFault}
use Rattle.stream_steps.specs.Steps.{CommandsTo, EnrolsAt, FallsTo, IsAtOnce}
use Rattle.stream_steps.specs.Maint.{IsNoAdd, HasTurn, ForTurn, AwaitsTurn, TurnsTo, IsYes, AnswersWhole}
use Rattle.stream_steps.specs.Seen.{RefusesEndPurge, RefusesFold, WaitsTurn}
use Rattle.world_holder.specs.View.{view, IsFound, Owes}
use Rattle.world_holder.proofs.Grow.{found_same, over, unchanged, only_open}
use Rattle.world_holder.proofs.Open.{has_none}
use Rattle.world_steps.proofs.Rest.{Rest, turns_answered, turns_faulted}
use Rattle.world_steps.proofs.FaultRows.{alone_calm}
use Rattle.world_steps.proofs.FrameRows.{none_open}
use Rattle.world_steps.proofs.FrameTurns.{found_in, fault_same, fault_why}
use Rattle.world_steps.proofs.AtOnce.{once_row, falls_row}
use Rattle.world_steps.proofs.GaveUp.{flag_kept, KeepsWhole, enrols_still, admits_still, ends_still, folds_still}
use Rattle.world_steps.proofs.Turns.{asked, enrols, waiting, waits_owner, turn_owner, turn_stream, free_turn, admits, admits_free}
use Rattle.world_steps.proofs.Turns.{ends, is_given_back, gone_without, turn_command}
use Rattle.world_steps.proofs.Settled.{none_begun}
use Rattle.world_steps.proofs.Purges.{none_kept, purge_ends, unwanted}
use Rattle.world_steps.specs.Rebuild.{IsUnbegun}
use Rattle.world_steps.specs.Seen.{seen_of}

-- what a step owes that leaves the operation on the whole volume as it is
pub owes_still : (n : ℕ) (x y : State) → MayGo n x y → KeepsWhole x y → AreOthersCounted n x y → Owes n x y
owes_still n x y may still counted = record { may = may; parts = parts_stay n x y may still.whole; counted = counted }

-- where neither a rebuild nor a replica changes
counted_as : (n : ℕ) (x y : State) → y.rebuild ≡ x.rebuild → y.ended ≡ x.ended → y.nodes ≡ x.nodes → AreOthersCounted n x y
counted_as n x y rebuild ended nodes = others_kept n x y (kept_same x y rebuild ended nodes)

counted_same : (n : ℕ) (x y : State) → y ≡ x → AreOthersCounted n x y
counted_same n x y e = counted_as n x y (ap (λ (z : State). z.rebuild) e) (ap (λ (z : State). z.ended) e) (ap (λ (z : State). z.nodes) e)

-- ---- what is known of a stream that has nothing open is so of what is found

module _ (a : Bool) (n : ℕ) (s x : State) (found : IsFound a n s x) where
  found_none : (view a n s).running ≡ [] → (view a n x).running ≡ []
  found_none = found_in a n s x found (λ (m : Mine). m.running ≡ [])

  -- a replica that a command names is there, as it was seen last
  pub found_there : (c : Command) → NamesReplica (view a n s).replicas c → NamesReplica (length x.nodes) c
  found_there c there = subst (λ k. NamesReplica k c) (sym (ap (λ (o : Origin). o.replicas) found.later.origin)) there

  pub found_unasked : (view a n s).running ≡ [] → HasNoCommand n x.commands
  found_unasked idle = has_no_command n x found.sound (has_none n x (found_none idle)).turns

-- ---- answered at once

module _ {E : Type 0} (a : Bool) (n : ℕ) (c : Command) (s x y : State) (found : IsFound a n s x) (res : Result ℕ E) (may : MayGo n x y)
    (ok : IfOk res (λ at. IsAnsweredNow x n (call.Command c) at y)) (err : OnErr res (y ≡ x)) where
  once_still : KeepsWhole x y
  once_still =
      let same = turns_answered n (call.Command c) x y res ok err in
      record { whole = ap (λ (r : Rest). r.whole) same; gave_up = ap (λ (r : Rest). r.gave_up) same }

  once_gave : y.gave_up ≡ x.gave_up
  once_gave = once_still.gave_up

  pub once_owes : Owes n x y
  once_owes = owes_still n x y may once_still (by res ok err)
    where
      by : (q : Result ℕ E) → IfOk q (λ at. IsAnsweredNow x n (call.Command c) at y) → OnErr q (y ≡ x) → AreOthersCounted n x y
      by (Ok at) is err = others_kept n x y (kept_answered n (call.Command c) at x y is)
      by (Failed e) is err = counted_same n x y err

  module _ (u : State) (left : u ≡ y) where
    pub once_flag : gave_up_at u.gave_up n ≡ gave_up_at s.gave_up n
    once_flag = flag_kept a n s x y u found left once_gave

    pub once_same : OnErr res (view a n u ≡ view a n s)
    once_same = over a n s x y u found left (λ (m : Mine) (z : State). OnErr res (view a n z ≡ m)) (unchanged a n x y res err)

    pub once_to : IsAtOnce c → (view a n s).running ≡ [] → IfOk res (λ at. IsAnsweredTo n (call.Command c) x y)
        → OnOk res (CommandsTo c (view a n s) (view a n u))
    once_to once idle sees = over a n s x y u found left (λ (m : Mine) (z : State). OnOk res (CommandsTo c m (view a n z))) (by res ok sees)
      where
        none : turning x n ≡ []
        none = (has_none n x (found_none a n s x found idle)).turns

        still : turning y n ≡ []
        still = still_none n x y found.sound (ap (λ (r : Rest). r.commands) (turns_answered n (call.Command c) x y res ok err)) none

        by : (q : Result ℕ E) → IfOk q (λ at. IsAnsweredNow x n (call.Command c) at y) → IfOk q (λ at. IsAnsweredTo n (call.Command c) x y)
            → OnOk q (CommandsTo c (view a n x) (view a n y))
        by (Ok at) is sees = once_row a n c x y once (λ alone. alone_calm n x found.sound (found.same alone).1 none) may still
            (none_open n y sees.idle) is.state
        by (Failed e) is sees = tt

-- ---- a line fails

module _ (a : Bool) (n r count : ℕ) (s x y : State) (found : IsFound a n s x) (res : Result (Unit {0}) NotThis) (may : MayGo n x y)
    (ok : OnOk res (y ≡ faulted x n r count)) (err : OnErr res (y ≡ x)) where
  falls_gave : y.gave_up ≡ x.gave_up
  falls_gave = ap (λ (z : Rest). z.gave_up) (turns_faulted n r count x y res ok err)

  pub falls_flag : (u : State) → u ≡ y → gave_up_at u.gave_up n ≡ gave_up_at s.gave_up n
  falls_flag u left = flag_kept a n s x y u found left falls_gave

  falls_to : (u : State) → u ≡ y → OnOk res (FallsTo r count (view a n s) (view a n u))
  falls_to u left = over a n s x y u found left (λ (m : Mine) (z : State). OnOk res (FallsTo r count m (view a n z))) (by res ok)
    where
      by : (q : Result (Unit {0}) NotThis) → OnOk q (y ≡ faulted x n r count) → OnOk q (FallsTo r count (view a n x) (view a n y))
      by (Ok v) e = falls_row a n r count x y may e
      by (Failed e) is = tt

  pub falls_does : (u : State) → u ≡ y → IfErr res (core.AgainstFault x n r count) → Does res (view a n s) (view a n u)
      (λ v. FallsTo r count (view a n s) (view a n u)) (RefusesFault (modes_in u) (view a n s) r count)
  falls_does u left why = record {
    ok = falls_to u left;
    why = fault_why a n r count s x y found res may ok err u left why;
    err = fault_same a n r count s x y found res may ok err u left;
  }

-- ---- the turn is asked for

module _ {E : Type 0} (a : Bool) (n : ℕ) (c : Command) (s x y : State) (found : IsFound a n s x) (res : Result ℕ E) (may : MayGo n x y)
    (ok : IfOk res (λ number. y ≡ maint_enrolled x number (asked n c x))) (err : OnErr res (y ≡ x)) where
  asks_gave : y.gave_up ≡ x.gave_up
  asks_gave = (enrols_still x y n c res ok err).gave_up

  pub asks_owes : Owes n x y
  asks_owes = owes_still n x y may (enrols_still x y n c res ok err) (by res ok err)
    where
      by : (q : Result ℕ E) → IfOk q (λ number. y ≡ maint_enrolled x number (asked n c x)) → OnErr q (y ≡ x) → AreOthersCounted n x y
      by (Ok number) e err =
          counted_as n x y (ap (λ (z : State). z.rebuild) e) (ap (λ (z : State). z.ended) e) (ap (λ (z : State). z.nodes) e)
      by (Failed f) e err = counted_same n x y err

  module _ (u : State) (left : u ≡ y) where
    pub asks_flag : gave_up_at u.gave_up n ≡ gave_up_at s.gave_up n
    asks_flag = flag_kept a n s x y u found left asks_gave

    pub asks_same : OnErr res (view a n u ≡ view a n s)
    asks_same = over a n s x y u found left (λ (m : Mine) (z : State). OnErr res (view a n z ≡ m)) (unchanged a n x y res err)

    pub asks_to : (view a n s).running ≡ [] → IfOk res (λ t. EnrolsAt t (call.Command c) (view a n s) (view a n u))
    asks_to idle = over a n s x y u found left (λ (m : Mine) (z : State). IfOk res (λ t. EnrolsAt t (call.Command c) m (view a n z)))
        (enrols a n c x y res found.sound may (found_none a n s x found idle) ok)

-- ---- and given

-- a command of the stream waits for the turn under that ticket
abbrev pub IsInQueue : ℕ → Mine → Type 0
IsInQueue t m = (c : Command) × (o : OwnCall) × AwaitsTurn t c o m

pub found_waiting : (a : Bool) (n t : ℕ) (s x : State) → IsFound a n s x → IsInQueue t (view a n s) → (k : ℕ) × place.AwaitsTurn x t k
found_waiting a n t s x found w = waiting a n t x found.sound (found_in a n s x found (IsInQueue t) w)

module _ (a : Bool) (n t : ℕ) (s x y : State) (found : IsFound a n s x) (told : MayStart) (w : IsInQueue t (view a n s))
    (may : ForAsker x t (λ m. MayGo m x y)) (ok : world.TurnsTo x t told y) where
  admit_go : MayGo n x y
  admit_go = waits_owner a n t x found.sound (found_in a n s x found (IsInQueue t) w) (λ m. MayGo m x y) may

  admit_gave : y.gave_up ≡ x.gave_up
  admit_gave = (admits_still x y t told ok).gave_up

  pub admit_owes : Owes n x y
  admit_owes = owes_still n x y admit_go (admits_still x y t told ok) (by told ok)
    where
      by : (q : MayStart) → world.TurnsTo x t q y → AreOthersCounted n x y
      by may_start.Yes d =
          counted_as n x y (ap (λ (z : State). z.rebuild) d.1) (ap (λ (z : State). z.ended) d.1) (ap (λ (z : State). z.nodes) d.1)
      by (may_start.After number) d = counted_same n x y d.4

  admit_free : IfSome (view a n s).log (λ log. IsYes told)
  admit_free = subst (λ (m : Mine). IfSome m.log (λ log. IsYes told)) (found_same a n s x found) (by a found)
    where
      by : (b : Bool) → IsFound b n s x → IfSome (view b n x).log (λ log. IsYes told)
      by true f = admits_free a n t x y found.sound told (f.same refl).1 ok (found_in a n s x found (IsInQueue t) w)
      by false f = tt

  pub admit_flag : (u : State) → u ≡ y → gave_up_at u.gave_up n ≡ gave_up_at s.gave_up n
  admit_flag u left = flag_kept a n s x y u found left admit_gave

  admit_to : (u : State) → u ≡ y → (c : Command) (o : OwnCall) → AwaitsTurn t c o (view a n s)
      → TurnsTo o told (view a n s) (view a n u)
  admit_to u left =
      over a n s x y u found left
      (λ (m : Mine) (z : State). (c : Command) (o : OwnCall) → AwaitsTurn t c o m → TurnsTo o told m (view a n z))
      (admits a n t x y found.sound told admit_go ok)

  -- a command that waits is behind the first
  admit_waits : (u : State) → u ≡ y → WaitsTurn t told (seen_of u)
  admit_waits u left = subst (λ (z : State). WaitsTurn t told (seen_of z)) (sym left) (by told ok)
    where
      by : (q : MayStart) → world.TurnsTo x t q y → WaitsTurn t q (seen_of y)
      by may_start.Yes d = tt
      by (may_start.After number) d =
          subst (λ (z : State). WaitsTurn t (may_start.After number) (seen_of z)) (sym d.4) (d.0, d.1.stands, d.2, d.3)

  pub admit_turns : (u : State) → u ≡ y → StartsOrWaits (view a n s) ((c : Command) (o : OwnCall) → AwaitsTurn t c o (view a n s)
      → TurnsTo o told (view a n s) (view a n u)) (IsYes told) (WaitsTurn t told (seen_of u))
  admit_turns u left = record { ok = admit_to u left; free = admit_free; waits = admit_waits u left }

  -- of one that has the turn now no rebuild was begun
  pub admit_unbegun : (u : State) → u ≡ y → told ≡ may_start.Yes → IsUnbegun u
  admit_unbegun u left given = subst IsUnbegun (sym left) (by (subst (λ q. world.TurnsTo x t q y) given ok))
    where
      by : world.TurnsTo x t may_start.Yes y → IsUnbegun y
      by d = let none = none_begun x found.sound d.0.waits in
          subst IsUnbegun (sym d.1) (record { closed = none.closed; first = none.first })

-- ---- under its turn

-- the command of the stream has the turn under that ticket
abbrev pub IsInTurn : ℕ → Command → Mine → Type 0
IsInTurn t c m = (o : OwnCall) × HasTurn t c o m

module _ (a : Bool) (n t : ℕ) (c : Command) (s x y : State) (found : IsFound a n s x) (h : IsInTurn t c (view a n s)) where
  found_turn : IsInTurn t c (view a n x)
  found_turn = found_in a n s x found (IsInTurn t c) h

  pub turn_go : ForAsker x t (λ m. MayGo m x y) → MayGo n x y
  turn_go may = let f = found_turn in turn_owner a n t x found.sound c f.0 f.1 (λ m. MayGo m x y) may

  pub turn_counted : AreOthersCounted n x y
  turn_counted = let f = found_turn in own_turn n x y found.sound (turn_stream a n t x found.sound c f.0 f.1)

module _ (a : Bool) (n t : ℕ) (r : Reply) (s x y : State) (found : IsFound a n s x) (res : Result ℕ NotThis)
    (h : IsInTurn t command.Purge (view a n s)) (may : ForAsker x t (λ m. MayGo m x y))
    (ok : OnOk res (world.EndsTurn x t r y)) (err : OnErr res (y ≡ x)) where
  ends_gave : y.gave_up ≡ x.gave_up
  ends_gave = (ends_still x y t r res ok err).gave_up

  pub ends_owes : Owes n x y
  ends_owes = owes_still n x y (turn_go a n t command.Purge s x y found h may) (ends_still x y t r res ok err)
      (turn_counted a n t command.Purge s x y found h)

  module _ (u : State) (left : u ≡ y) where
    pub ends_flag : gave_up_at u.gave_up n ≡ gave_up_at s.gave_up n
    ends_flag = flag_kept a n s x y u found left ends_gave

    ends_same : OnErr res (view a n u ≡ view a n s)
    ends_same = over a n s x y u found left (λ (m : Mine) (z : State). OnErr res (view a n z ≡ m)) (unchanged a n x y res err)

    ends_to : OnOk res ((o : OwnCall) → HasTurn t command.Purge o (view a n s) → AnswersWhole o r (view a n s) (view a n u))
    ends_to =
        over a n s x y u found left
        (λ (m : Mine) (z : State). OnOk res ((o : OwnCall) → HasTurn t command.Purge o m → AnswersWhole o r m (view a n z)))
        (ends a n t x y found.sound (turn_go a n t command.Purge s x y found h may) r res ok)

    ends_why : IfErr res (world.AgainstEndTurn x t r) → OnErr res (RefusesEndPurge r (seen_of u))
    ends_why why = subst (λ (z : State). OnErr res (RefusesEndPurge r (seen_of z))) (sym left) (by res why err)
      where
        by : (q : Result ℕ NotThis) → IfErr q (world.AgainstEndTurn x t r) → OnErr q (y ≡ x)
            → OnErr q (RefusesEndPurge r (seen_of y))
        by (Ok at) why same = tt
        by (Failed e) why same = subst (λ (z : State). RefusesEndPurge r (seen_of z)) (sym same)
            (λ may.
            let f = found_turn a n t command.Purge s x y found h in
            let held = why.cannot (free_turn a n t x found.sound command.Purge f.0 f.1)
            (purge_ends x (command_at x.commands 0).command (turn_command a n t x found.sound command.Purge f.0 f.1) r may) in
            (held.done, λ none. held.whole (none_kept x.whole none)))

    pub ends_does : IfErr res (world.AgainstEndTurn x t r) → Does res (view a n s) (view a n u)
        (λ at. ForTurn t command.Purge (view a n s) (λ o. AnswersWhole o r (view a n s) (view a n u)))
        (λ why. RefusesEndPurge r (seen_of u))
    ends_does why = record { ok = ends_to; why = ends_why why; err = ends_same }

-- ---- it is given back

pub found_free_turn : (a : Bool) (n t : ℕ) (s x : State) → IsFound a n s x
    → ((c : Command) × (o : OwnCall) × HasTurn t c o (view a n s) × IsNoAdd c) → IsFreeTurn x t
found_free_turn a n t s x found h =
    let f = found_turn a n t h.0 s x x found (h.1, h.2) in
    free_turn a n t x found.sound h.0 f.0 f.1

module _ (a : Bool) (n t : ℕ) (s x y : State) (found : IsFound a n s x)
    (h : (c : Command) × (o : OwnCall) × HasTurn t c o (view a n s) × IsNoAdd c) (may : ForAsker x t (λ m. MayGo m x y))
    (ok : y ≡ turn_abandoned x) where
  gone_go : MayGo n x y
  gone_go = turn_go a n t h.0 s x y found (h.1, h.2) may

  gone_as : y ≡ gives_back x
  gone_as = let f = found_turn a n t h.0 s x y found (h.1, h.2) in is_given_back a n t x y found.sound h.0 f.0 f.1 h.3 ok

  pub gone_owes : Owes n x y
  gone_owes = record {
    may = gone_go;
    parts = parts_stay n x y gone_go (ap (λ (z : State). z.whole) gone_as);
    counted = turn_counted a n t h.0 s x y found (h.1, h.2);
  }

  pub gone_to : (u : State) → u ≡ y → view a n u ≡ with_running (view a n s) []
  gone_to u left =
      let f = found_turn a n t h.0 s x y found (h.1, h.2) in
      over a n s x y u found left (λ (m : Mine) (z : State). view a n z ≡ with_running m [])
      (gone_without a n t x y found.sound gone_go h.0 f.0 f.1 gone_as)

-- ---- a replica folds a page

module _ {E : Type 0} (a : Bool) (n t r page : ℕ) (parent : List ℕ) (s x y : State) (found : IsFound a n s x) (res : Result (Unit {0}) E)
    (h : IsInTurn t command.Purge (view a n s)) (may : MayGo (command_at x.commands 0).stream x y)
    (ok : OnOk res (world.FoldsPage x r parent page y)) (err : OnErr res (y ≡ x)) where
  fold_go : MayGo n x y
  fold_go =
      let f = found_turn a n t command.Purge s x y found h in
      subst (λ k. MayGo k x y) (turn_stream a n t x found.sound command.Purge f.0 f.1) may

  fold_gave : y.gave_up ≡ x.gave_up
  fold_gave = (folds_still x y r page parent res ok err).gave_up

  pub fold_owes : Owes n x y
  fold_owes = owes_still n x y fold_go (folds_still x y r page parent res ok err) (turn_counted a n t command.Purge s x y found h)

  pub fold_flag : (u : State) → u ≡ y → gave_up_at u.gave_up n ≡ gave_up_at s.gave_up n
  fold_flag u left = flag_kept a n s x y u found left fold_gave

  pub fold_same : (u : State) → u ≡ y → view a n u ≡ view a n s
  fold_same u left = over a n s x y u found left (λ (m : Mine) (z : State). view a n z ≡ m) (by res ok err)
    where
      by : (q : Result (Unit {0}) E) → OnOk q (world.FoldsPage x r parent page y) → OnErr q (y ≡ x) → view a n y ≡ view a n x
      by (Ok v) d err = only_open n x y fold_go a (view a n x).running (ap (λ (z : State). z.book.entries) d.state)
          (ap (λ (z : State). (view a n z).running) d.state)
      by (Failed e) d err = ap (view a n) err

-- the purge has the turn, and nothing enrolled
pub found_purging : (a : Bool) (n t : ℕ) (s x : State) → IsFound a n s x → IsInTurn t command.Purge (view a n s)
    → place.IsTurnOf x command.Purge × IsIdle (command_at x.commands 0).stream x.calls
found_purging a n t s x found h =
    let f = found_turn a n t command.Purge s x x found h in
    let free = free_turn a n t x found.sound command.Purge f.0 f.1 in (
      record {
        some = omega (arith, free.stands.within, found.sound.maint.queued.paired);
        started = free.started;
        command = turn_command a n t x found.sound command.Purge f.0 f.1;
      },
      free.idle,
    )

module _ {E : Type 0} (a : Bool) (n r page : ℕ) (parent : List ℕ) (s x y : State) (found : IsFound a n s x) (res : Result (Unit {0}) E)
    (ok : OnOk res (world.FoldsPage x r parent page y)) where
  pub fold_folded : (u : State) → u ≡ y → OnOk res (¬ world.WantsFold u r parent page)
  fold_folded u left = subst (λ (z : State). OnOk res (¬ world.WantsFold z r parent page)) (sym left) (by res ok)
    where
      by : (q : Result (Unit {0}) E) → OnOk q (world.FoldsPage x r parent page y) → OnOk q (¬ world.WantsFold y r parent page)
      by (Failed e) d = tt
      by (Ok v) d =
          let purging : IsPurging x = record { stream = (command_at x.commands 0).stream; own = refl; idle = d.idle } in
          subst (λ (z : State). ¬ world.WantsFold z r parent page) (sym d.state)
          (unwanted x r page parent d.c (node_in x r found.sound purging d.read)
          (told_can x r found.sound purging d.read (part.Fold parent d.c) d.can))

pub fold_why : (r page : ℕ) (parent : List ℕ) (x y : State) (res : Result (Unit {0}) NotThis)
    → IfErr res (RefusesFold r parent page (modes_in x) (seen_of x).log) → OnErr res (y ≡ x) → (u : State) → u ≡ y
    → IfErr res (RefusesFold r parent page (modes_in u) (seen_of u).log)
fold_why r page parent x y (Ok v) why err u left = tt
fold_why r page parent x y (Failed e) why err u left =
    subst (λ (z : State). RefusesFold r parent page (modes_in z) (seen_of z).log e) (sym (left ∙ err)) why
