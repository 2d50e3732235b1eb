use Rattle.std.proofs.Common.{◌≡◌, ◌≤◌, true, vec_len, vec_capacity}
use Rattle.door_traits.specs.Sessions.{AreUnfailed, Come, told_all}
use Rattle.door_traits.proofs.sessions.let_in.Given as goal

-- so many sessions are in, each as it came
abbrev pub invariant-loop : goal.invariant-loop
invariant-loop g l = record {
  many : vec_len l.sessions ≡ l.counter;
  room : l.count ≤ vec_capacity l.sessions;
  unfailed : AreUnfailed g.D.In.Source.faults g.D.Out.Sink.faults l.sessions.items;
  come : g.D.Doors.tells ≡ true → Come (g.D.Doors.coming l.fn.doors) (g.D.Doors.coming l.doors)
      (told_all g.D.In.Source.left g.D.In.Source.faults g.D.Out.Sink.contents g.D.Out.Sink.faults l.sessions.items);
  back : g.D.Doors.back l.doors ≡ g.D.Doors.back l.fn.doors;
  faults : g.D.Doors.faults l.doors ≡ g.D.Doors.faults l.fn.doors;
}
