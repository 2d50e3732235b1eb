use Rattle.std.proofs.Common.{rules, ◌≡◌, ◌%◌, ◌^◌, ◌∷◌, refl, sym, ap, ◌∙◌, Some}
use Rattle.atomic_table.specs.Table.{rest}
use Rattle.desk_lock.specs.declared.views.Stage.TheVariants.{Waits}
use Rattle.desk_lock.specs.Known.{staged}
use Rattle.desk_lock.proofs.Looks.{looks}
use Rattle.desk_lock.proofs.Turned.{takes_told}
use Rattle.desk_lock.proofs.seats.Desk.take.Goals as goal

pub load-serving-requires : goal.load-serving-requires
load-serving-requires g c = let idle = c.requires.1 in let went = c.draw-ticket.ensures.draws idle.0 idle.1.0 idle.1.1 in (
  search rules,
  search rules,
  looks g.S.Kept.account _ _ _ (staged idle.0 (Waits went.0)) went.0 (idle.1.0, ap (λ m. m.0) (c.loop.invariant.2 ∙ went.2)) refl,
)

pub exchange-requires : goal.exchange-requires
exchange-requires g c = let idle = c.requires.1 in let went = c.draw-ticket.ensures.draws idle.0 idle.1.0 idle.1.1 in
    let saw = c.load-serving.ensures.2 (staged idle.0 (Waits went.0)) idle.1.0 went.0 (ap (λ m. m.0) (c.loop.invariant.2 ∙ went.2)) refl in
    let turn : c.load-serving.result ≡ went.0 % 2 ^ 64 = c.if-serving-ticket.true ∙ went.1 in
    let took = saw.0 turn in (search rules, (Some took.0, took.3 ∙ ap (λ cs. (0, Some took.0) ∷ rest cs) (sym took.3)))

pub returns-then-serving-ticket-clause-takes : goal.returns-then-serving-ticket-clause-takes
returns-then-serving-ticket-clause-takes g c = let idle = c.requires.1 in
    let went = c.draw-ticket.ensures.draws idle.0 idle.1.0 idle.1.1 in
    let saw = c.load-serving.ensures.2 (staged idle.0 (Waits went.0)) idle.1.0 went.0 (ap (λ m. m.0) (c.loop.invariant.2 ∙ went.2)) refl in
    let turn : c.load-serving.result ≡ went.0 % 2 ^ 64 = c.if-serving-ticket.true ∙ went.1 in
    let took = saw.0 turn in
    takes_told g.S.Kept.account idle.0 idle.1.0 went.0 took.0 c.unwrap.result c.args.pass.now.me c.draw-ticket.new.pass.me
    c.loop.pass.me c.load-serving.new.seat.me
    c.exchange.new.seat.me c.exchange.result idle.1.1 idle.3 (ap (λ m. m.1) went.2) c.loop.invariant.2 took.1 took.2 took.3 took.4
    c.exchange.ensures.2 c.unwrap.ensures c.exchange.ensures.3

pub loop-preserved : goal.loop-preserved
loop-preserved g c = let idle = c.requires.1 in
    let went = c.draw-ticket.ensures.draws idle.0 idle.1.0 idle.1.1 in let inv = c.loop.invariant in
    let saw = c.load-serving.ensures.2 (staged idle.0 (Waits went.0)) idle.1.0 went.0 (ap (λ m. m.0) (inv.2 ∙ went.2)) refl in
    (c.load-serving.ensures.0 ∙ inv.0, c.load-serving.ensures.1 ∙ inv.1, saw.1 (λ e. c.if-serving-ticket.false (e ∙ sym went.1)) ∙ inv.2)
