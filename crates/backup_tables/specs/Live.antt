-- The live names of the tests.
use Rattle.std.specs.Prelude.{ℕ, List, Some, if◌then◌else◌}
use Rattle.std.specs.Str.{bytes_eq}
use Rattle.backup_make.specs.Giving.{Copies}

-- the base has its copy, and each other name the other one
abbrev pub live : List ℕ → List ℕ → List ℕ → Copies
live disk base old name = if bytes_eq name base then Some old else Some disk
