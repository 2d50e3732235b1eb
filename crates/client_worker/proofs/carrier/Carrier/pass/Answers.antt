use Rattle.std.proofs.Common.{rules, arith, refl, ◌≡◌, ◌<◌, length, map, drop, slice_index_or}
use Rattle.client_worker.proofs.Carrying.{whole_back, serving_later}
use Rattle.client_worker.proofs.carrier.Carrier.pass.Goals as goal

pub invariant_of-self : goal.invariant_of-self
invariant_of-self g c =
    serving_later c.self.inside.steps
    c.self.inside.channels.items c.deref_mut.result.now c.carry.new.channels
    (drop (length c.carry.new.channels) c.self.inside.channels.items) c.self.inside.channels.len c.self.invariant
    c.deref_mut.ensures.value c.carry.ensures.keeps.count c.carry.ensures.counts.later c.carry.ensures.tells.on (search rules)

pub returns-then-carry-clause-came : goal.returns-then-carry-clause-came
returns-then-carry-clause-came g c =
    let long : length c.carry.new.channels ≡ c.self.inside.channels.len = search rules in
    rw (
      whole_back c.self.inside.channels.len c.carry.new.channels (drop (length c.carry.new.channels) c.self.inside.channels.items) long,
      ← c.self.view_is,
      ← c.deref_mut.ensures.value,
    ) (record { same = refl; carried = c.carry.ensures.tells.carried c.if-carry.true })

pub invariant_of-self-2 : goal.invariant_of-self-2
invariant_of-self-2 g c =
    serving_later c.self.inside.steps
    c.self.inside.channels.items c.deref_mut.result.now c.carry.new.channels
    (drop (length c.carry.new.channels) c.self.inside.channels.items) c.self.inside.channels.len c.self.invariant
    c.deref_mut.ensures.value c.carry.ensures.keeps.count c.carry.ensures.counts.later c.carry.ensures.tells.on (search rules)

pub tell_fault-requires-clause-above : goal.tell_fault-requires-clause-above
tell_fault-requires-clause-above g c =
    let long : length c.carry.new.channels ≡ c.self.inside.channels.len = search rules in
    let failed : slice_index_or (map (λ x. g.L.Line.count x.line) c.self.inside.channels.items) c.args.replica 0
    < slice_index_or (map (λ x. g.L.Line.count x.line) c.carry.new.channels) c.args.replica 0 =
    rw (← c.deref_mut.ensures.value) (c.carry.ensures.counts.failed c.if-carry.false) in
    rw (whole_back c.self.inside.channels.len c.carry.new.channels (drop (length c.carry.new.channels) c.self.inside.channels.items) long)
    (omega (arith, c.self.invariant.shown.counted c.args.replica, failed))
