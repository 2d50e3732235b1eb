-- What a step answers, told with the lowest replica that is read and written.
use Rattle.std.specs.Prelude.{ℕ, Option, Result, Ok}
use Rattle.std.specs.Prelude.{Err as Failed}
use Rattle.stream_steps.specs.declared.with_source.WithSource.{WithSource}

abbrev pub told_with : {A E : Type 0} → Result A E → Option ℕ → Result (WithSource A) E
told_with (Ok a) source = Ok (record { answer = a; source = source })
told_with (Failed e) source = Failed e
