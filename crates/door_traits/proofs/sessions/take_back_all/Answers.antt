use Rattle.std.proofs.Common.{◌∙◌, sym, refl, append-nil}
use Rattle.outer_traits.proofs.Lines.{cut_further}
use Rattle.door_traits.proofs.Coming.{told-push}
use Rattle.door_traits.proofs.sessions.take_back_all.Goals as goal

pub loop-session-init : goal.loop-session-init
loop-session-init g c = record {
  all = search;
  coming = refl;
  back = λ _. sym (append-nil _);
  faults = refl;
}

pub loop-session-preserved : goal.loop-session-preserved
loop-session-preserved g c =
    let i = c.loop-session.invariant in
    let t = c.take_back.ensures in
    record {
      all = cut_further _ _ _ _ _ i.all c.in-Some.ensures.steps.0;
      coming = t.coming ∙ i.coming;
      back = λ tells. told-push g.D.In.Source.left g.D.In.Source.faults g.D.Out.Sink.contents g.D.Out.Sink.faults _ _ _
          c.loop-session.yielded c.in-Some.session (i.back tells) (t.back tells);
      faults = t.faults ∙ i.faults;
    }
