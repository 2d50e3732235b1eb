use Rattle.client_input.proofs.OneWay.{one_input, one_cut, calls_or_cut}
use Rattle.client_input.proofs.laws.an_input_ends_one_way.Goals as goal

pub returns-clause-calls : goal.returns-clause-calls
returns-clause-calls c = one_input

pub returns-clause-cut : goal.returns-clause-cut
returns-clause-cut c = one_cut

pub returns-clause-never_both : goal.returns-clause-never_both
returns-clause-never_both c = calls_or_cut
