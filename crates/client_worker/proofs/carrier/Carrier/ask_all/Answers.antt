use Rattle.std.proofs.Common.{rules, arith, ◌≡◌, ◌<◌, ◌≤◌, ℕ, length, drop, slice_index_or, refl, ap, sym, subst, ◌∙◌, Some, IfSome}
use Rattle.std.proofs.lemmas.List.{length-set}
use Rattle.frame_wire.specs.Spelling.{header_length}
use Rattle.client_worker.specs.Working.{Work}
use Rattle.client_worker.proofs.Acked.{asked_ends, asked_goes}
use Rattle.client_worker.proofs.Served.{ends_then}
use Rattle.client_worker.proofs.Carrying.{stays_then, whole_back}
use Rattle.client_worker.proofs.Going.{goes_same, goes_then}
use Rattle.client_worker.proofs.Writing.{AreLeft, carries_one, goes_replicas, sets_first, sets_left}
use Rattle.client_worker.proofs.carrier.Carrier.ask_all.Goals as goal

pub loop-next-init : goal.loop-next-init
loop-next-init g c =
    let here : c.len.result ≡ length c.self.inside.channels.items = search rules in
    let many = here ∙ ap (λ (w : Work g.row.C.Denot g.row.L.Denot). length w.channels) c.self.view_is in
    record {
      stays = record { home = refl; lines = record { count = refl; ends = refl } };
      goes = goes_same (g.C.ClientSteps.mine c.args.self.now.steps) (g.C.ClientSteps.mine c.args.self.now.steps) refl;
      room = search rules;
      long = refl;
      request = refl;
      many = refl;
      inside = subst (λ (n : ℕ). IfSome c.first_owed-next.result (λ r. r < n)) many c.first_owed-next.ensures.inside;
      sets = sets_first c.args.rooms.now.sets.items c.first_owed-next.result;
    }

pub index_mut-blocks-requires : goal.index_mut-blocks-requires
index_mut-blocks-requires g c =
    let e : c.loop-next.next ≡ Some c.in-Some.replica = search rules in
    let below = subst (λ x. IfSome x (λ r. r < length c.loop-next.self.channels)) e c.loop-next.invariant.inside in
    let sets = c.loop-next.invariant.many ∙ c.requires.own.2.sets ∙ sym c.loop-next.invariant.stays.lines.count in
    let inside : c.in-Some.replica < length c.loop-next.rooms.sets.items = omega (arith, below, sets) in
    search rules

pub ask_write-requires-clause-own : goal.ask_write-requires-clause-own
ask_write-requires-clause-own g c =
    let op = c.requires.own in
    let r = c.in-Some.replica in
    let e : c.loop-next.next ≡ Some r = search rules in
    let left : AreLeft c.args.rooms.now.sets.items c.loop-next.rooms.sets.items (Some r) =
    subst (AreLeft c.args.rooms.now.sets.items c.loop-next.rooms.sets.items) e c.loop-next.invariant.sets in
    let below = subst (λ x. IfSome x (λ q. q < length c.loop-next.self.channels)) e c.loop-next.invariant.inside in
    let sets = op.2.sets ∙ sym c.loop-next.invariant.stays.lines.count in
    let inside : r < length c.args.rooms.now.sets.items = omega (arith, below, sets) in
    let here : r < length c.loop-next.rooms.sets.items = omega (arith, inside, c.loop-next.invariant.many) in
    let low : r ≤ r = omega arith in
    carries_one op.0 (g.C.ClientSteps.mine c.args.self.now.steps) (g.C.ClientSteps.mine c.loop-next.self.steps)
    c.loop-next.invariant.goes c.args.t c.args.job.now.range.first op.2.blocks r op.1 c.args.rooms.now.request.items
    c.deref_mut.result.now c.args.rooms.now.sets.items c.index_mut-blocks.result.now c.index_mut-blocks.result.now
    op.2.carries op.2.boxes (ap (drop header_length) c.deref_mut.ensures.value ∙ c.loop-next.invariant.request)
    (ap length c.deref_mut.ensures.value ∙ c.loop-next.invariant.long) inside
    (◌∙◌ {b = slice_index_or c.loop-next.rooms.sets.items r c.index_mut-blocks.result.now} c.index_mut-blocks.ensures.value
    (left r c.index_mut-blocks.result.now low here))

pub loop-next-preserved : goal.loop-next-preserved
loop-next-preserved g c =
    let op = c.requires.own in
    let first = g.C.ClientSteps.mine c.args.self.now.steps in
    let before = g.C.ClientSteps.mine c.loop-next.self.steps in
    let modes = g.C.ClientSteps.modes c.ask_write.new.self.steps in
    let asked = asked_goes modes c.in-Some.replica before (g.C.ClientSteps.mine c.ask_write.new.self.steps) c.ask_write.result
    c.in-GoesOn.further c.ask_write.ensures.asked c.in-GoesOn.is in
    let e : c.loop-next.next ≡ Some c.in-Some.replica = search rules in
    let same : length c.ask_write.new.request ≡ length c.deref_mut.result.now = search rules in
    let long : length c.deref_mut.result.now ≡ c.loop-next.rooms.request.len = search rules in
    let back = whole_back c.loop-next.rooms.request.len c.ask_write.new.request
    (drop (length c.ask_write.new.request) c.loop-next.rooms.request.items) (same ∙ long) in
    let lines = subst (λ (w : Work g.row.C.Denot g.row.L.Denot). length w.channels ≡ (g.C.ClientSteps.mine w.steps).replicas)
    c.self.view_is c.self.invariant.lines in
    let many = goes_replicas first before op.0 c.loop-next.invariant.goes op.1.is
    ∙ sym (c.ask_write.ensures.stays.lines.count ∙ c.loop-next.invariant.stays.lines.count ∙ lines) in
    record {
      stays = stays_then c.args.self.now c.loop-next.self c.ask_write.new.self
          c.loop-next.invariant.stays c.ask_write.ensures.stays;
      goes = goes_then first before (g.C.ClientSteps.mine c.ask_write.new.self.steps) c.loop-next.invariant.goes asked.goes;
      room = search rules;
      long = ap length back ∙ same ∙ ap length c.deref_mut.ensures.value ∙ c.loop-next.invariant.long;
      request = ap (drop header_length) back ∙ c.ask_write.ensures.request
          ∙ ap (drop header_length) c.deref_mut.ensures.value ∙ c.loop-next.invariant.request;
      many = length-set c.loop-next.rooms.sets.items c.in-Some.replica c.ask_write.new.blocks ∙ c.loop-next.invariant.many;
      inside = subst (λ (n : ℕ). IfSome c.in-GoesOn.further (λ r. r < n)) many asked.inside;
      sets = sets_left modes c.args.rooms.now.sets.items c.loop-next.rooms.sets.items
          _ c.in-Some.replica c.ask_write.new.blocks c.in-GoesOn.further
          (subst (AreLeft c.args.rooms.now.sets.items c.loop-next.rooms.sets.items) e c.loop-next.invariant.sets) asked.up refl;
    }

pub returns-in-Answered-clause-done : goal.returns-in-Answered-clause-done
returns-in-Answered-clause-done g c = λ yes.
    let before = g.C.ClientSteps.mine c.loop-next.self.steps in
    let after = g.C.ClientSteps.mine c.ask_write.new.self.steps in
    ends_then (g.C.ClientSteps.mine c.args.self.now.steps) before after c.loop-next.invariant.goes
    (asked_ends (g.C.ClientSteps.modes c.ask_write.new.self.steps) c.in-Some.replica before after c.ask_write.result
    c.ask_write.ensures.asked c.in-Answered.is)
