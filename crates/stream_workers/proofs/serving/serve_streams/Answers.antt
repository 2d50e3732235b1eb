use Rattle.std.proofs.Common.{rules, ◌≡◌, ◌≢◌, ℕ, ◌<◌, true, false, List, length, map, All, slice_index_or, sym, ap, subst, ◌∙◌, arith}
use Rattle.std.specs.Prelude.{is_err}
use Rattle.std.proofs.lemmas.List.{length-map}
use Rattle.desk_lock.specs.Seats.{known, made_of}
use Rattle.volume_core.specs.declared.world.World.{World}
use Rattle.control_worker.specs.Store.{StoreSoFar}
use Rattle.script_text.specs.declared.script.Stream.{Stream}
use Rattle.script_text.specs.Good.{backs_up}
use Rattle.volume_core.specs.State.{state_of, opening_of}
use Rattle.volume_core.specs.Sound.{IsSound}
use Rattle.volume_core.specs.Streams.{Origin, origin_of}
use Rattle.world_holder.specs.View.{own_entries}
use Rattle.world_holder.proofs.Grow.{began_at}
use Rattle.stream_turns.specs.Turn.{KeepsOrigin}
use Rattle.world_holder.specs.Laid.{laid}
use Rattle.world_holder.specs.declared.kept.WorldOnDesk.{WorldOnDesk}
use Rattle.outer_traits.specs.Lines.{TellsMore}
use Rattle.stream_turns.specs.Volume.{asks_from, stream_calls}
use Rattle.stream_workers.specs.Ended.{HaveEnded}
use Rattle.stream_workers.proofs.Dealing.{not_err, all_back, all_numbered, all_streams, all_heads}
use Rattle.stream_workers.proofs.All.{has_all, have_ended, lent_tells, between_is}
use Rattle.stream_workers.proofs.Backed.{run_tells}
use Rattle.stream_workers.proofs.Lent.{lent_later, lent_told, unlent_same}
use Rattle.stream_workers.proofs.Outcome.{each_asked}
use Rattle.stream_workers.proofs.serving.serve_streams.Goals as goal

pub do_tasks-tasks-requires-after_bounds : goal.do_tasks-tasks-requires-after_bounds
do_tasks-tasks-requires-after_bounds g c κs within = let well : is_err c.deal-dealt.result ≡ false = search rules in
    not_err c.deal-dealt.result well c.deal-dealt.ensures.tasks

pub take_all_in-requires-clause-back : goal.take_all_in-requires-clause-back
take_all_in-requires-clause-back g c κs within =
    let served : c.are_served.result ≡ true = search rules in
    all_back g.V.Wrapped.Line.ends g.V.Wrapped.Line.count g.V.Wrapped.Line.carried c.in_ok-desk.desk
    c.deal-dealt.new.tasks.items c.do_tasks-tasks.result.0.items c.do_tasks-tasks.ensures.done
    (subst (All (λ j. j.served ≡ true)) c.as_slice-2.ensures.value (c.are_served.ensures served))

pub take_all_in-requires-clause-numbered : goal.take_all_in-requires-clause-numbered
take_all_in-requires-clause-numbered g c κs within =
    let well : is_err c.deal-dealt.result ≡ false = search rules in
    all_numbered g.V.Wrapped.Line.ends g.V.Wrapped.Line.count g.V.Wrapped.Line.carried c.in_ok-desk.desk
    c.deal-dealt.new.tasks.items c.do_tasks-tasks.result.0.items c.do_tasks-tasks.ensures.done
    (not_err c.deal-dealt.result well c.deal-dealt.ensures.numbered)

pub take_up-requires-clause-all : goal.take_up-requires-clause-all
take_up-requires-clause-all g c =
    let well : is_err c.deal-dealt.result ≡ false = search rules in
    let dealt = c.deal-dealt.new.tasks.items in
    let tasks = c.do_tasks-tasks.result.0.items in
    let made : made_of c.take_all_in.new.first ≡ length tasks =
    omega (
      arith,
      c.take_all_in.ensures.same.0,
      not_err c.deal-dealt.result well c.deal-dealt.ensures.made,
      c.do_tasks-tasks.ensures.done.many,
      ap length (not_err c.deal-dealt.result well c.deal-dealt.ensures.streams),
      length-map dealt (λ j. j.stream),
    ) in
    has_all g.V.Wrapped.Line.count g.V.Wrapped.Line.carried tasks (known c.take_all_in.new.first)
    (g.W.Wiring.counts c.take_all_in.new.wiring) (g.W.Wiring.carried c.take_all_in.new.wiring)
    (all_numbered g.V.Wrapped.Line.ends g.V.Wrapped.Line.count g.V.Wrapped.Line.carried c.in_ok-desk.desk dealt tasks
    c.do_tasks-tasks.ensures.done (not_err c.deal-dealt.result well c.deal-dealt.ensures.numbered))
    c.take_all_in.ensures.joined made

pub returns-then-take_all_in-clause-ended : goal.returns-then-take_all_in-clause-ended
returns-then-take_all_in-clause-ended g c =
    let well : is_err c.deal-dealt.result ≡ false = search rules in
    let dealt = c.deal-dealt.new.tasks.items in
    let tasks = c.do_tasks-tasks.result.0.items in
    let desk = c.in_ok-desk.desk in
    let last = c.take_all_in.ensures.same.1 ∙ (c.deal-dealt.ensures.fresh.1 ∙ ap (λ k. k.last) c.in_ok-desk.ensures.seat) in
    let numbered = all_numbered g.V.Wrapped.Line.ends g.V.Wrapped.Line.count g.V.Wrapped.Line.carried desk dealt tasks
    c.do_tasks-tasks.ensures.done (not_err c.deal-dealt.result well c.deal-dealt.ensures.numbered) in
    let served : c.are_served.result ≡ true = search rules in
    let back = all_back g.V.Wrapped.Line.ends g.V.Wrapped.Line.count g.V.Wrapped.Line.carried desk dealt tasks
    c.do_tasks-tasks.ensures.done
    (subst (All (λ j. j.served ≡ true)) c.as_slice-2.ensures.value (c.are_served.ensures served)) in
    let are = all_streams g.V.Wrapped.Line.ends g.V.Wrapped.Line.count g.V.Wrapped.Line.carried desk dealt tasks
    c.do_tasks-tasks.ensures.done ∙ not_err c.deal-dealt.result well c.deal-dealt.ensures.streams in
    let ended = have_ended g.V.Wrapped.Line.ends g.V.Wrapped.Line.count g.V.Wrapped.Line.carried desk tasks
    (known c.take_all_in.new.first) (record { world = c.take_up.result })
    (g.W.Wiring.counts c.take_all_in.new.wiring) (g.W.Wiring.carried c.take_all_in.new.wiring)
    c.take_all_in.ensures.first.1 c.take_up.ensures numbered back c.take_all_in.ensures.joined c.args.streams.items are
    (c.take_all_in.ensures.same.0 ∙ not_err c.deal-dealt.result well c.deal-dealt.ensures.made)
    (ap (λ (o : Origin). o.streams) c.take_up.ensures.finds.same_origin
    ∙ ap (λ (x : WorldOnDesk). length (laid x).indices) last ∙ ap (λ (z : World). length z.indices.items) c.in_ok-held.ensures.ok
    ∙ c.requires.many) in
    subst (λ (z : World). HaveEnded (map stream_calls c.args.streams.items) (g.W.Wiring.counts c.take_all_in.new.wiring)
    (g.W.Wiring.carried c.take_all_in.new.wiring) (state_of z)) (sym c.into_inner-world.ensures) ended

pub returns-then-take_all_in-clause-between : goal.returns-then-take_all_in-clause-between
returns-then-take_all_in-clause-between g c =
    let last = c.take_all_in.ensures.same.1 ∙ (c.deal-dealt.ensures.fresh.1 ∙ ap (λ k. k.last) c.in_ok-desk.ensures.seat) in
    let many : length c.take_up.result.value.nodes.items ≡ length c.args.world.nodes.items =
    ap (λ (o : Origin). o.replicas) c.take_up.ensures.finds.same_origin ∙ ap (λ (x : WorldOnDesk). length (laid x).nodes) last
    ∙ ap (λ (z : World). length z.nodes.items) c.in_ok-held.ensures.ok in
    let world : length c.into_inner-world.result.nodes.items ≡ length c.take_up.result.value.nodes.items =
    ap (λ (z : World). length z.nodes.items) c.into_inner-world.ensures in
    let sound = subst (λ (z : World). IsSound (state_of z)) (sym c.into_inner-world.ensures) c.take_up.ensures.sound in
    between_is (map stream_calls c.args.streams.items) (g.W.Wiring.counts c.take_all_in.new.wiring)
    (g.W.Wiring.carried c.take_all_in.new.wiring) c.into_inner-world.result sound
    (omega (arith, many, world, c.requires.between.few)) (returns-then-take_all_in-clause-ended g c)

pub returns-then-take_all_in-clause-heads : goal.returns-then-take_all_in-clause-heads
returns-then-take_all_in-clause-heads g c =
    let well : is_err c.deal-dealt.result ≡ false = search rules in
    c.take_all_in.ensures.heads c.if-take_all_in.true
    ∙ all_heads g.V.Wrapped.Line.ends g.V.Wrapped.Line.count g.V.Wrapped.Line.carried c.in_ok-desk.desk
    c.deal-dealt.new.tasks.items c.do_tasks-tasks.result.0.items c.do_tasks-tasks.ensures.done c.args.streams.items
    (not_err c.deal-dealt.result well c.deal-dealt.ensures.streams)

pub returns-then-take_all_in-clause-asked : goal.returns-then-take_all_in-clause-asked
returns-then-take_all_in-clause-asked g c =
    let well : is_err c.deal-dealt.result ≡ false = search rules in
    subst (λ x. TellsMore (g.W.Wiring.asked c.args.wiring.now) x
    (asks_from c.args.plans.now c.args.replicas (length c.args.streams.items))) (sym c.take_all_in.ensures.asked)
    (not_err c.deal-dealt.result well c.deal-dealt.ensures.asked)

pub returns-then-not-are_served-clause-later : goal.returns-then-not-are_served-clause-later
returns-then-not-are_served-clause-later g c =
    lent_later g.T.Target.tells g.T.Target.holds g.T.Target.faults c.args.volume.now c.args.target.now
    c.do_tasks-tasks.new.target c.do_tasks-tasks.result.1 c.do_tasks-tasks.result.0.items (length c.deal-dealt.new.tasks.items)
    c.backing_up-place.result c.do_tasks-tasks.ensures.done.many c.do_tasks-tasks.ensures.lent c.do_tasks-tasks.ensures.unlent

pub returns-then-not-are_served-clause-unasked : goal.returns-then-not-are_served-clause-unasked
returns-then-not-are_served-clause-unasked g c none =
    let well : is_err c.deal-dealt.result ≡ false = search rules in
    unlent_same g.T.Target.tells g.T.Target.holds g.T.Target.faults c.args.volume.now c.args.target.now
    c.do_tasks-tasks.new.target c.do_tasks-tasks.result.1 c.do_tasks-tasks.result.0.items (length c.deal-dealt.new.tasks.items)
    c.backing_up-place.result c.do_tasks-tasks.ensures.done.many c.do_tasks-tasks.ensures.lent c.do_tasks-tasks.ensures.unlent
    c.args.streams.items
    (sym (ap length (not_err c.deal-dealt.result well c.deal-dealt.ensures.streams))
    ∙ length-map c.deal-dealt.new.tasks.items (λ j. j.stream))
    (subst (λ (ss : List Stream). c.backing_up-place.result < length ss
    → (s : Stream) → backs_up (slice_index_or ss c.backing_up-place.result s) ≡ true) c.as_slice.ensures.value
    c.backing_up-place.ensures.there) none

pub returns-then-take_all_in-clause-later : goal.returns-then-take_all_in-clause-later
returns-then-take_all_in-clause-later g c =
    lent_later g.T.Target.tells g.T.Target.holds g.T.Target.faults c.args.volume.now c.args.target.now
    c.do_tasks-tasks.new.target c.do_tasks-tasks.result.1 c.do_tasks-tasks.result.0.items (length c.deal-dealt.new.tasks.items)
    c.backing_up-place.result c.do_tasks-tasks.ensures.done.many c.do_tasks-tasks.ensures.lent c.do_tasks-tasks.ensures.unlent

pub returns-then-take_all_in-clause-unasked : goal.returns-then-take_all_in-clause-unasked
returns-then-take_all_in-clause-unasked g c none =
    let well : is_err c.deal-dealt.result ≡ false = search rules in
    unlent_same g.T.Target.tells g.T.Target.holds g.T.Target.faults c.args.volume.now c.args.target.now
    c.do_tasks-tasks.new.target c.do_tasks-tasks.result.1 c.do_tasks-tasks.result.0.items (length c.deal-dealt.new.tasks.items)
    c.backing_up-place.result c.do_tasks-tasks.ensures.done.many c.do_tasks-tasks.ensures.lent c.do_tasks-tasks.ensures.unlent
    c.args.streams.items
    (sym (ap length (not_err c.deal-dealt.result well c.deal-dealt.ensures.streams))
    ∙ length-map c.deal-dealt.new.tasks.items (λ j. j.stream))
    (subst (λ (ss : List Stream). c.backing_up-place.result < length ss
    → (s : Stream) → backs_up (slice_index_or ss c.backing_up-place.result s) ≡ true) c.as_slice.ensures.value
    c.backing_up-place.ensures.there) none

pub returns-else-take_all_in-clause-later : goal.returns-else-take_all_in-clause-later
returns-else-take_all_in-clause-later g c =
    lent_later g.T.Target.tells g.T.Target.holds g.T.Target.faults c.args.volume.now c.args.target.now
    c.do_tasks-tasks.new.target c.do_tasks-tasks.result.1 c.do_tasks-tasks.result.0.items (length c.deal-dealt.new.tasks.items)
    c.backing_up-place.result c.do_tasks-tasks.ensures.done.many c.do_tasks-tasks.ensures.lent c.do_tasks-tasks.ensures.unlent

pub returns-else-take_all_in-clause-unasked : goal.returns-else-take_all_in-clause-unasked
returns-else-take_all_in-clause-unasked g c none =
    let well : is_err c.deal-dealt.result ≡ false = search rules in
    unlent_same g.T.Target.tells g.T.Target.holds g.T.Target.faults c.args.volume.now c.args.target.now
    c.do_tasks-tasks.new.target c.do_tasks-tasks.result.1 c.do_tasks-tasks.result.0.items (length c.deal-dealt.new.tasks.items)
    c.backing_up-place.result c.do_tasks-tasks.ensures.done.many c.do_tasks-tasks.ensures.lent c.do_tasks-tasks.ensures.unlent
    c.args.streams.items
    (sym (ap length (not_err c.deal-dealt.result well c.deal-dealt.ensures.streams))
    ∙ length-map c.deal-dealt.new.tasks.items (λ j. j.stream))
    (subst (λ (ss : List Stream). c.backing_up-place.result < length ss
    → (s : Stream) → backs_up (slice_index_or ss c.backing_up-place.result s) ≡ true) c.as_slice.ensures.value
    c.backing_up-place.ensures.there) none

pub returns-then-take_all_in-clause-fault : goal.returns-then-take_all_in-clause-fault
returns-then-take_all_in-clause-fault g c =
    let served : c.are_served.result ≡ true = search rules in
    lent_told g.T.Target.tells g.T.Target.holds g.T.Target.faults c.args.volume.now c.args.target.now
    c.do_tasks-tasks.new.target c.do_tasks-tasks.result.1 c.do_tasks-tasks.result.0.items (length c.deal-dealt.new.tasks.items)
    c.backing_up-place.result c.do_tasks-tasks.ensures.done.many c.do_tasks-tasks.ensures.lent c.do_tasks-tasks.ensures.unlent
    (subst (All (λ j. j.served ≡ true)) c.as_slice-2.ensures.value (c.are_served.ensures served))

pub returns-then-take_all_in-clause-store : goal.returns-then-take_all_in-clause-store
returns-then-take_all_in-clause-store g c = λ tells.
    let well : is_err c.deal-dealt.result ≡ false = search rules in
    let streams = c.args.streams.items in
    let dealt = c.deal-dealt.new.tasks.items in
    let tasks = c.do_tasks-tasks.result.0.items in
    let desk = c.in_ok-desk.desk in
    let place = c.backing_up-place.result in
    let first = g.T.Target.holds c.args.target.now in
    let from = g.T.Target.faults c.args.target.now in
    let now = g.T.Target.holds c.do_tasks-tasks.new.target in
    let count = g.T.Target.faults c.do_tasks-tasks.new.target in
    let same_streams = not_err c.deal-dealt.result well c.deal-dealt.ensures.streams in
    let as_many : length dealt ≡ length streams = sym (length-map dealt (λ j. j.stream)) ∙ ap length same_streams in
    let last = c.take_all_in.ensures.same.1 ∙ (c.deal-dealt.ensures.fresh.1 ∙ ap (λ k. k.last) c.in_ok-desk.ensures.seat) in
    let origin : KeepsOrigin c.args.world c.into_inner-world.result =
    ap (λ (z : World). origin_of (state_of z)) c.into_inner-world.ensures
    ∙ (c.take_up.ensures.finds.same_origin ∙ ap (λ (x : WorldOnDesk). origin_of (laid x)) last
    ∙ ap (λ (z : World). origin_of (state_of z)) c.in_ok-held.ensures.ok) in
    let numbered = all_numbered g.V.Wrapped.Line.ends g.V.Wrapped.Line.count g.V.Wrapped.Line.carried desk dealt tasks
    c.do_tasks-tasks.ensures.done (not_err c.deal-dealt.result well c.deal-dealt.ensures.numbered) in
    let served : c.are_served.result ≡ true = search rules in
    let all_served = subst (All (λ j. j.served ≡ true)) c.as_slice-2.ensures.value (c.are_served.ensures served) in
    let back = all_back g.V.Wrapped.Line.ends g.V.Wrapped.Line.count g.V.Wrapped.Line.carried desk dealt tasks
    c.do_tasks-tasks.ensures.done all_served in
    let are = all_streams g.V.Wrapped.Line.ends g.V.Wrapped.Line.count g.V.Wrapped.Line.carried desk dealt tasks
    c.do_tasks-tasks.ensures.done ∙ same_streams in
    run_tells streams place c.into_inner-world.result.journal.entries
    (subst (λ (ss : List Stream). (k : ℕ) (s : Stream) → k < length ss → k ≢ place → backs_up (slice_index_or ss k s) ≡ false)
    c.as_slice.ensures.value c.backing_up-place.ensures.others)
    (each_asked (map stream_calls streams) (g.W.Wiring.counts c.take_all_in.new.wiring)
    (g.W.Wiring.carried c.take_all_in.new.wiring) c.args.world c.into_inner-world.result origin
    (returns-then-take_all_in-clause-ended g c))
    first from now count c.args.volume.now (opening_of (state_of c.args.world))
    (λ low. subst (λ (o : Origin). StoreSoFar first from now count c.args.volume.now
    (own_entries place (began_at o) c.into_inner-world.result.journal.entries)) origin
    (subst (λ (z : World). StoreSoFar first from now count c.args.volume.now
    (own_entries place (opening_of (state_of z)) z.journal.entries)) (sym c.into_inner-world.ensures)
    (lent_tells g.V.Wrapped.Line.ends g.V.Wrapped.Line.count g.V.Wrapped.Line.carried desk tasks
    (known c.take_all_in.new.first) (record { world = c.take_up.result })
    (g.W.Wiring.counts c.take_all_in.new.wiring) (g.W.Wiring.carried c.take_all_in.new.wiring)
    c.take_all_in.ensures.first.1 c.take_up.ensures numbered back c.take_all_in.ensures.joined streams are
    (c.take_all_in.ensures.same.0 ∙ not_err c.deal-dealt.result well c.deal-dealt.ensures.made)
    (ap (λ (o : Origin). o.streams) c.take_up.ensures.finds.same_origin
    ∙ ap (λ (x : WorldOnDesk). length (laid x).indices) last ∙ ap (λ (z : World). length z.indices.items) c.in_ok-held.ensures.ok
    ∙ c.requires.many)
    g.T.Target.tells g.T.Target.holds g.T.Target.faults c.args.volume.now c.args.target.now c.do_tasks-tasks.new.target
    c.do_tasks-tasks.result.1 place low (c.do_tasks-tasks.ensures.lent (omega (arith, low, as_many))) all_served
    (subst (λ (ss : List Stream). place < length ss → (s : Stream) → backs_up (slice_index_or ss place s) ≡ true)
    c.as_slice.ensures.value c.backing_up-place.ensures.there low) tells)))
    (λ past. let same = (c.do_tasks-tasks.ensures.unlent (omega (arith, past, as_many))).0 in
    (ap g.T.Target.holds same, ap g.T.Target.faults same))
