use Rattle.std.proofs.Common.{rules, ◌<◌, length, ◌≡◌, ◌∙◌, sym, ap, Err, arith}
use Rattle.std.proofs.lemmas.Result.{err_from_is_err_and}
use Rattle.outer_traits.specs.declared.error.OuterError.TheVariants.{Failed}
use Rattle.replica_shelf.proofs.CallLemmas.{both_then, both_and}
use Rattle.volume_folders.proofs.SavedLemmas.{saved_more, fell_next}
use Rattle.volume_folders.proofs.saving.save_replicas.Goals as goal

pub loop-shelf-preserved : goal.loop-shelf-preserved
loop-shelf-preserved g c =
    let old = g.S.Shelves.holds c.args.shelves.now in
    let now = g.S.Shelves.holds c.loop-shelf.shelves in
    let new = g.S.Shelves.holds c.save_one.new.shelves in
    let e = c.in_ok-save_one.ensures in
    record {
      saved = both_then old now new _ _ _ c.loop-shelf.invariant.saved (both_and now new _ _ e.ok e.others)
          (λ x y z before (here, stays). saved_more c.args.time.now c.args.heads.now c.args.modes.now c.args.nodes.now
          c.loop-shelf.shelf x y z before here stays);
      faults = search rules;
    }

pub returns-in_err-save_one-clause-fault : goal.returns-in_err-save_one-clause-fault
returns-in_err-save_one-clause-fault g c failed =
    let within : c.loop-shelf.shelf < length c.args.nodes.now = omega arith in
    let p = err_from_is_err_and c.from_residual.result c.from_residual.ensures.1 in
    let was : c.save_one.result ≡ Err c.in_err-save_one.field-0.0 = c.in_err-save_one.was in
    let is : c.save_one.result ≡ Err Failed = was ∙ ap Err (sym p.2) ∙ sym p.1 ∙ failed in
    fell_next c.args.time.now c.args.heads.now c.args.modes.now c.args.nodes.now c.loop-shelf.shelf
    (g.S.Shelves.failed_at c.save_one.new.shelves) (g.S.Shelves.holds c.args.shelves.now) (g.S.Shelves.holds c.loop-shelf.shelves)
    (g.S.Shelves.holds c.save_one.new.shelves) within c.loop-shelf.invariant.saved c.save_one.ensures.others
    (c.save_one.ensures.dirty is)
