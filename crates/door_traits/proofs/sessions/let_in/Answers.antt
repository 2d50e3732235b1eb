use Rattle.std.proofs.Common.{◌≡◌, ◌+◌, ◌++◌, ◌∷◌, [], arith, cond, subst, ◌∙◌, vec_len}
use Rattle.std.specs.Result.{is_ok}
use Rattle.door_traits.specs.declared.client.Client.{Client}
use Rattle.door_traits.proofs.Coming.{AreUnfailed-push, Come-push}
use Rattle.door_traits.proofs.sessions.let_in.Goals as goal

pub loop-preserved : goal.loop-preserved
loop-preserved g c =
    let i = c.loop.invariant in
    let a = c.in_ok-source.ensures in
    let before = c.loop.sessions.items in
    let held = vec_len c.loop.sessions in
    let new : Client _ _ = record { source = c.in_ok-source.source; sink = c.in_ok-source.sink } in
    let items : c.push.new.self.items ≡ before ++ new ∷ [] =
    subst (λ o. c.push.new.self.items ≡ cond (is_ok o) (before ++ new ∷ []) before) c.unwrap.ensures c.push.ensures.items in
    let grown : vec_len c.push.new.self ≡ held + 1 =
    subst (λ o. vec_len c.push.new.self ≡ cond (is_ok o) (held + 1) held) c.unwrap.ensures c.push.ensures.len in
    record {
      many = omega (arith, grown, i.many);
      room = omega (arith, i.room, c.push.ensures.capacity);
      unfailed = AreUnfailed-push g.D.In.Source.faults g.D.Out.Sink.faults before _ new items i.unfailed a.unfailed;
      come = λ tells. Come-push g.D.In.Source.left g.D.In.Source.faults g.D.Out.Sink.contents g.D.Out.Sink.faults _ _ _
          before _ new items (i.come tells) (a.comes tells) a.unfailed.0 a.unfailed.1;
      back = a.back ∙ i.back;
      faults = a.cause.cause ∙ i.faults;
    }
