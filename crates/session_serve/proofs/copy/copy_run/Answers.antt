use Rattle.std.proofs.Common.{rules, ◌≡◌, ◌+◌, ◌-◌, ◌++◌, length, take, replicate, ◌∙◌}
use Rattle.session_serve.proofs.Copies.{grown}
use Rattle.session_serve.proofs.copy.copy_run.Goals as goal

pub returns-clause-bytes : goal.returns-clause-bytes
returns-clause-bytes c =
    let had = c.args.into.now.items in
    let is : c.resize.new.self.items ≡ take (length had + c.args.count) had
    ++ replicate (length had + c.args.count - length had) c.args.byte = search rules in
    is ∙ grown had c.args.count c.args.byte
