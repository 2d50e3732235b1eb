use Rattle.chain_meta.proofs.FileLemmas.{no_head, other_digits}
use Rattle.chain_meta.proofs.image_name.head_number.Goals as goal

pub returns-in-None : goal.returns-in-None
returns-in-None c = no_head c.args.file.now c.in-None.ensures

pub returns-in-None-number_in : goal.returns-in-None-number_in
returns-in-None-number_in c =
    other_digits c.args.file.now c.in-Some.digits.now c.in-Some.ensures c.in-None-number_in.ensures
