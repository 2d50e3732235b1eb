use Rattle.std.proofs.Common.{◌≡◌, ◌++◌, map, string_bytes}
use Rattle.std.specs.BTreeMap.{keys}
use Rattle.target_memory.proofs.NameLemmas.{named}
use Rattle.target_memory.proofs.no_fault_target.NoFaultTarget.names.Given as goal

abbrev pub invariant-loop-name : goal.invariant-loop-name
invariant-loop-name l =
    map string_bytes l.names.items ++ named l.prefix (map string_bytes l.name-iterator)
    ≡ named l.prefix (map string_bytes (keys l.self.objects))
