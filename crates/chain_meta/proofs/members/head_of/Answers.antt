use Rattle.std.proofs.Common.{rules, subst}
use Rattle.serde_json.specs.View.{view}
use Rattle.chain_meta.specs.ImageNames.{IsHeadFile}
use Rattle.chain_meta.proofs.KindLemmas.{no_head_file, too_high}
use Rattle.chain_meta.proofs.members.head_of.Goals as goal

pub returns-in-None-head_number : goal.returns-in-None-head_number
returns-in-None-head_number c =
    no_head_file (view c.args.value.now) c.in-Some.text.now (search rules)
    (λ n. subst (λ file. IsHeadFile n file → ⊥) c.as_bytes.ensures.value (c.in-None-head_number.ensures n))

pub returns-else-number-le-LARGEST_HEAD : goal.returns-else-number-le-LARGEST_HEAD
returns-else-number-le-LARGEST_HEAD c =
    let found = c.in-Some-head_number in
    too_high (view c.args.value.now) c.in-Some.text.now found.number (search rules)
    (subst (λ file. IsHeadFile found.number file) c.as_bytes.ensures.value found.ensures) (search rules)
