use Rattle.std.proofs.Common.{◌<◌, sym, subst, arith}
use Rattle.volume_model.specs.declared.mark.FoldOrDrop.{FoldOrDrop}
use Rattle.volume_model.specs.Modes.{mode_of}
use Rattle.open_calls.proofs.PartLemmas.{up_in, rw_up}
use Rattle.open_calls.specs.Calls.{node_at}
use Rattle.open_calls.specs.Whole.{IsFolded}
use Rattle.volume_core.specs.State.{state_of, modes_in}
use Rattle.volume_maint.proofs.fold.is_folded.Goals as goal

pub returns-clause-folded : goal.returns-clause-folded
returns-clause-folded c = λ e r read.
    let s = state_of c.args.world.now in
    let within : r < c.replica_count-r-end.result =
    omega (arith, up_in (modes_in s) r (rw_up (mode_of (modes_in s) r) read), c.replica_count-r-end.ensures.value) in
    subst (λ (f : FoldOrDrop). IsFolded f (node_at s.nodes r)) (sym c.in-Fold.is) (c.loop-r.invariant r (omega arith) read)
