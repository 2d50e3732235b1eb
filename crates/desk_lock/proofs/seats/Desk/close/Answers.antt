use Rattle.std.proofs.Common.{◌≡◌, ◌≤◌, length, Some, refl, sym, ◌∙◌, subst}
use mathlib.Core.Option.{some-injective}
use Rattle.std.specs.Option.{IsSome}
use Rattle.desk_lock.specs.Known.{Fits}
use Rattle.desk_lock.specs.Seats.{known, told_of}
use Rattle.desk_lock.proofs.Stages.{some_is}
use Rattle.desk_lock.proofs.Turned.{closes_at}
use Rattle.desk_lock.proofs.seats.Desk.close.Goals as goal

pub unwrap-requires : goal.unwrap-requires
unwrap-requires g c =
    let end = closes_at g.S.Kept.account _ _ c.args.seat.live _ _ c.requires.seat.1 c.requires.seat.0.1.0 c.requires.all
    c.close_with-closed.ensures.values.2 in
    let is : c.take-state.result ≡ Some end.0 = some-injective _ _ (sym c.take-state.ensures.value ∙ end.1) in
    subst IsSome (sym is) refl

pub returns-clause-state : goal.returns-clause-state
returns-clause-state g c =
    let end = closes_at g.S.Kept.account _ _ c.args.seat.live _ _ c.requires.seat.1 c.requires.seat.0.1.0 c.requires.all
    c.close_with-closed.ensures.values.2 in
    let is : c.take-state.result ≡ Some end.0 = some-injective _ _ (sym c.take-state.ensures.value ∙ end.1) in
    subst (λ (x : g.row.S.Denot). Fits g.S.Kept.account x (known c.args.seat)) (some_is _ _ (sym is ∙ c.unwrap.ensures)) end.2

pub returns-clause-told : goal.returns-clause-told
returns-clause-told g c =
    let end = closes_at g.S.Kept.account _ _ c.args.seat.live _ _ c.requires.seat.1 c.requires.seat.0.1.0 c.requires.all
    c.close_with-closed.ensures.values.2 in
    let is : c.take-state.result ≡ Some end.0 = some-injective _ _ (sym c.take-state.ensures.value ∙ end.1) in
    subst (λ (x : g.row.S.Denot). told_of c.args.seat ≤ length (g.S.Kept.account.journal x)) (some_is _ _ (sym is ∙ c.unwrap.ensures)) end.3
