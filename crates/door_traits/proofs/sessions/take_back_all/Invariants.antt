use Rattle.std.proofs.Common.{◌≡◌, ◌++◌, true}
use Rattle.door_traits.specs.Sessions.{told_all}
use Rattle.door_traits.proofs.sessions.take_back_all.Given as goal

-- what the sessions told that are back, and which are left
abbrev pub invariant-loop-session : goal.invariant-loop-session
invariant-loop-session g l = record {
  all : l.fn.sessions.items ≡ l.yielded ++ l.session-iterator.rest.items;
  coming : g.D.Doors.coming l.doors ≡ g.D.Doors.coming l.fn.doors;
  back : g.D.Doors.tells ≡ true → g.D.Doors.back l.doors ≡ g.D.Doors.back l.fn.doors
      ++ told_all g.D.In.Source.left g.D.In.Source.faults g.D.Out.Sink.contents g.D.Out.Sink.faults l.yielded;
  faults : g.D.Doors.faults l.doors ≡ g.D.Doors.faults l.fn.doors;
}
