use Rattle.std.proofs.Common.{◌≡◌, None}
use Rattle.rebuild_worker.specs.Copying.{KeepsCopying}
use Rattle.rebuild_worker.specs.Rooms.{HasRoom}
use Rattle.rebuild_worker.specs.Told.{CopiesPages}
use Rattle.rebuild_worker.proofs.copy.copy_all.Given as goal

abbrev pub invariant-pages : goal.invariant-pages
invariant-pages g l = record {
  keeps : KeepsCopying g.C.CopySteps.ready g.C.CopySteps.home g.C.CopySteps.is_aborted g.C.CopySteps.is_text
      g.C.CopySteps.stays g.C.CopySteps.copying l.initial.steps l.steps;
  idle : (g.C.CopySteps.copying l.steps).hand ≡ None;
  room : HasRoom l.rooms;
  pages : CopiesPages (g.C.CopySteps.is_text l.steps) (g.C.CopySteps.copying l.initial.steps) (g.C.CopySteps.copying l.steps);
}

abbrev pub decreases-pages : goal.decreases-pages
decreases-pages g l = (g.C.CopySteps.copying l.steps).left
