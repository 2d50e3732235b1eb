use Rattle.std.proofs.Common.{rules, ◌∷◌, refl, sym, ap, ◌∙◌, Some}
use Rattle.atomic_table.specs.Table.{rest}
use Rattle.desk_lock.specs.declared.views.Stage.TheVariants.{Back}
use Rattle.desk_lock.specs.Known.{knowing}
use Rattle.desk_lock.proofs.Stages.{same_known}
use Rattle.desk_lock.proofs.Passes.{compares, passes, publishes, ends}
use Rattle.desk_lock.proofs.seats.Desk.put.Goals as goal

pub load-requires : goal.load-requires
load-requires g c = (search rules, search rules, compares g.S.Kept.account _ _ _)

pub fetch_add-requires : goal.fetch_add-requires
fetch_add-requires g c = let may = c.requires.may in let now = c.exchange.ensures.3 in let at = c.load.ensures.2.0 ∙ now in
    let old = c.load.ensures.2.1 may.0 may.2.0 may.1 (ap (λ m. m.0) now ∙ may.2.1) may.3 in (
      search rules,
      search rules,
      passes g.S.Kept.account _ _ _ may.0 may.1 c.args.state (may.2.0, ap (λ m. m.0) at ∙ may.2.1) may.3
          (ap (λ m. m.1) at ∙ ap (λ cs. (0, Some c.args.state) ∷ rest cs) c.requires.turn.1) may.4
          (sym c.length-length.ensures ∙ (sym c.if-load-length.true ∙ old)),
    )

pub store-requires : goal.store-requires
store-requires g c = let may = c.requires.may in let at = c.load.ensures.2.0 ∙ c.exchange.ensures.3 in (
  search rules,
  search rules,
  publishes g.S.Kept.account _ _ _ may.0 may.1 c.args.state _ (may.2.0, ap (λ m. m.0) at ∙ may.2.1) may.3
      (ap (λ m. m.1) at ∙ ap (λ cs. (0, Some c.args.state) ∷ rest cs) c.requires.turn.1) may.4 c.length-length.ensures,
)

pub fetch_add-requires-else-load-length : goal.fetch_add-requires-else-load-length
fetch_add-requires-else-load-length g c = let may = c.requires.may in let at = c.load.ensures.2.0 ∙ c.exchange.ensures.3 in
    let back = c.store.ensures.2.1 may.0 may.2.0 may.1 c.args.state (ap (λ m. m.0) at ∙ may.2.1) may.3
    (ap (λ m. m.1) at ∙ ap (λ cs. (0, Some c.args.state) ∷ rest cs) c.requires.turn.1) in (
      search rules,
      search rules,
      ends g.S.Kept.account _ _ _ (knowing may.0 c.args.state (Back may.1)) may.1 (may.2.0, back) refl,
    )

pub returns-then-load-length-clause-left : goal.returns-then-load-length-clause-left
returns-then-load-length-clause-left g c = λ v told is. let at = c.load.ensures.2.0 ∙ c.exchange.ensures.3 in
    let home = c.fetch_add.ensures.2.1 v told c.args.state (ap (λ m. m.0) at ∙ is)
    (ap (λ m. m.1) at ∙ ap (λ cs. (0, Some c.args.state) ∷ rest cs) c.requires.turn.1) in
    λ i. (home i, c.fetch_add.ensures.2.0 i)

pub returns-else-load-length-clause-left : goal.returns-else-load-length-clause-left
returns-else-load-length-clause-left g c = λ v told is. let may = c.requires.may in let at = c.load.ensures.2.0 ∙ c.exchange.ensures.3 in
    let same = same_known may.0 v may.2.0 told (sym may.2.1 ∙ is) in
    let back = c.store.ensures.2.1 v told may.1 c.args.state (ap (λ m. m.0) at ∙ is) (ap (λ k. k.stage) (sym same) ∙ may.3)
    (ap (λ m. m.1) at ∙ ap (λ cs. (0, Some c.args.state) ∷ rest cs) c.requires.turn.1) in
    let home = c.fetch_add-else-load-length.ensures.2.1 _ _ back in
    λ i. (home i, (c.fetch_add-else-load-length.ensures.2.0 ∙ c.store.ensures.2.0) i)
