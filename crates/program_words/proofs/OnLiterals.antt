-- What a row unfolds to compute what words that are written out ask for.
use Rattle.std.specs.Prelude.{⊤}
use Rattle.std.specs.Fmt.{digits}
use Rattle.clap.proofs.OnLiterals.{clap_on_literals}

unfoldable pub words_on_literals : ⊤
unfolding clap_on_literals digits
words_on_literals = tt
