use Rattle.std.proofs.Common.{rules, ◌≡◌, ◌-◌, ℕ, length, None, Some, refl, subst, sym, ap, arith, ◌∙◌}
use Rattle.stream_steps.specs.Steps.{StartsCall}
use Rattle.client_worker.specs.declared.rooms.Rooms.{Rooms}
use Rattle.client_worker.specs.Rooms.{HasWriteRoom, BeginsIn}
use Rattle.client_worker.specs.Working.{Work}
use Rattle.client_worker.proofs.Writing.{not_begun, begun, whole_long, begins_in, only_own}
use Rattle.client_worker.proofs.carrier.Carrier.begin_write.Goals as goal

pub returns-in_default-2-clause-ok : goal.returns-in_default-2-clause-ok
returns-in_default-2-clause-ok g c =
    let e : c.in_ok-start.field-0 ≡ None = search rules in
    not_begun c.args.write.now.ticket (g.C.ClientSteps.mine c.args.self.now.steps)
    (g.C.ClientSteps.mine c.start.new.self.steps) c.in_ok-start.field-0 c.in_ok-start.ensures.ok e

pub fill_request-requires-clause-room : goal.fill_request-requires-clause-room
fill_request-requires-clause-room g c =
    let before = g.C.ClientSteps.mine c.args.self.now.steps in
    let after = g.C.ClientSteps.mine c.start.new.self.steps in
    let range = c.touched_by-range.result in
    let op = c.requires.waits in
    let e : c.in_ok-start.field-0 ≡ Some c.in-Some.start = search rules in
    let s : StartsCall op.0 c.in-Some.start.answer before after =
    begun c.args.write.now.ticket before after c.in_ok-start.field-0 c.in_ok-start.ensures.ok c.in-Some.start e op.0 op.1 in
    let fits : HasWriteRoom (range.end - range.first) c.len-2.result c.make_for_write.new.self = search rules in
    let long = whole_long op.0 c.in-Some.start.answer before after s c.args.write.now.offset c.args.write.now.bytes.now op.3 range
    (search rules) c.touched_by-range.ensures.up in
    let one : length c.as_slice.result.now ≡ length c.in-Some.start.answer.front = search rules in
    let two : length c.as_slice-2.result.now ≡ length c.args.write.now.bytes.now = search rules in
    let three : length c.as_slice-3.result.now ≡ length c.in-Some.start.answer.back = search rules in
    omega (arith, long, fits.request, one, two, three)

pub returns-clause-ok : goal.returns-clause-ok
returns-clause-ok g c =
    let before = g.C.ClientSteps.mine c.args.self.now.steps in
    let after = g.C.ClientSteps.mine c.start.new.self.steps in
    let made = c.make_for_write.new.self in
    let range = c.touched_by-range.result in
    λ o own.
    let op = c.requires.waits in
    let e : c.in_ok-start.field-0 ≡ Some c.in-Some.start = search rules in
    let s : StartsCall op.0 c.in-Some.start.answer before after =
    begun c.args.write.now.ticket before after c.in_ok-start.field-0 c.in_ok-start.ensures.ok c.in-Some.start e op.0 op.1 in
    let many : c.len-2.result ≡ length c.self.inside.channels.items = search rules in
    let all = many ∙ ap (λ (w : Work g.row.C.Denot g.row.L.Denot). length w.channels) c.self.view_is in
    let fits : HasWriteRoom (range.end - range.first) c.len-2.result made = search rules in
    let filled : Rooms = record made { request = c.fill_request.new.request } in
    subst (λ x. BeginsIn x c.in-Some.start.answer (length c.args.self.now.channels) filled before after)
    (sym (only_own c.args.write.now.ticket before op.0 o op.1 own))
    (begins_in op.0 c.in-Some.start.answer before after s c.args.write.now.offset c.args.write.now.bytes.now op.3 range (search rules)
    c.touched_by-range.ensures.up (length c.args.self.now.channels) made filled c.touched_by-range.ensures.inside
    (subst (λ (n : ℕ). HasWriteRoom (range.end - range.first) n made) all fits) refl refl (search rules) (search rules))
