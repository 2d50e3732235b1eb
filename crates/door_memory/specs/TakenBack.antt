-- What the sessions told that were taken back by doors in memory.
use Rattle.std.specs.Prelude.{List, [], ◌∷◌, ◌++◌, Some}
use Rattle.outer_memory.specs.declared.memory_source.MemorySource.{MemorySource}
use Rattle.outer_memory.specs.declared.memory_sink.MemorySink.{MemorySink}
use Rattle.door_traits.specs.declared.client.Client.{Client}
use Rattle.door_traits.specs.Sessions.{Told, told}
use Rattle.door_memory.specs.declared.taken_back.Pile.{Pile, Empty, On'}

-- what one of them told
abbrev pub told_of : Client MemorySource MemorySink → Told
told_of s = told (Some s.source.source.bytes) s.source.faults (Some s.sink.sink.bytes) s.sink.faults

-- the first first: on top lies the last
abbrev pub told_in : Pile → List Told
told_in Empty = []
told_in (On' s p below) = told_in below ++ told_of s ∷ []
