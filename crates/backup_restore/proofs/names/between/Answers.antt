use Rattle.std.proofs.Common.{None, Some, ◌++◌}
use Rattle.std.proofs.lemmas.Bool.Decides.{Decides-eqb}
use Rattle.std.proofs.lemmas.Slice.Eq.{strip_prefix_is, strip_suffix_is}
use Rattle.backup_restore.proofs.NamesLemmas.{cut_both}
use Rattle.backup_restore.proofs.names.between.Goals as goal

pub returns-in-None : goal.returns-in-None
returns-in-None c middle =
    strip_prefix_is Decides-eqb c.args.text.now c.args.front.now None c.in-None.ensures.cases (middle ++ c.args.back.now)

pub returns-in-Some : goal.returns-in-Some
returns-in-Some c =
    cut_both c.args.text.now c.args.front.now c.args.back.now c.in-Some.rest.now c.strip_suffix.result
    (strip_prefix_is Decides-eqb c.args.text.now c.args.front.now (Some c.in-Some.rest) c.in-Some.ensures.cases)
    (strip_suffix_is Decides-eqb c.in-Some.rest.now c.args.back.now c.strip_suffix.result c.strip_suffix.ensures.cases)
