use Rattle.volume_model.specs.Disk.{zeros}
use Rattle.volume_cli.proofs.ServedLemmas.{served_none}
use Rattle.volume_cli.proofs.replica.serve_blank.Goals as goal

pub returns-in_err-node-clause-served : goal.returns-in_err-node-clause-served
returns-in_err-node-clause-served g c =
    served_none (zeros c.args.size) (g.S.Source.left c.args.source.now) (g.K.Sink.contents c.args.sink.now)
    c.from_residual.result c.from_residual.ensures.1
