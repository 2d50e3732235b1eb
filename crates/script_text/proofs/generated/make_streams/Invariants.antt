use Rattle.std.proofs.Common.{◌≡◌, ◌-◌, ◌++◌}
use Rattle.script_text.specs.Generated.{streams_from}
use Rattle.script_text.proofs.generated.make_streams.Given as goal

-- the streams so far, and those that are left
abbrev pub invariant-loop-page : goal.invariant-loop-page
invariant-loop-page l =
    l.made.items ++ streams_from l.number l.calls l.page (l.streams - l.page) ≡ streams_from l.number l.calls 0 l.streams
