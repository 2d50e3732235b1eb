use Rattle.client_input.proofs.OneWay.{one_beginning}
use Rattle.client_input.proofs.laws.an_input_begins_one_way.Goals as goal

pub returns : goal.returns
returns c = one_beginning
