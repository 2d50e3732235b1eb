use Rattle.std.proofs.Common.{[], map, refl, subst, ◌∙◌}
use Rattle.std.proofs.KnownBytes.{Appends-nil}
use Rattle.std.proofs.lemmas.Result.{on_ok_weaker}
use Rattle.std.specs.Io.KnownBytes.{Appends}
use Rattle.outer_traits.specs.Passing.{WritesPrefix}
use Rattle.replica_node.specs.Volume.{volume_of_node}
use Rattle.report_writer.specs.Written.{written_summary}
use Rattle.report_writer.proofs.summary.write_summary.Goals as goal

pub returns-clause-whole : goal.returns-clause-whole
returns-clause-whole g c =
    on_ok_weaker c.write_all.result
    (λ e. subst (Appends (g.K.Sink.contents c.args.sink.now) (g.K.Sink.contents c.write_all.new.sink))
    (c.deref.ensures.value ∙ c.in_ok-text.ensures) e) c.write_all.ensures.whole

pub returns-clause-prefix : goal.returns-clause-prefix
returns-clause-prefix g c =
    subst (WritesPrefix (g.K.Sink.contents c.args.sink.now) (g.K.Sink.contents c.write_all.new.sink))
    (c.deref.ensures.value ∙ c.in_ok-text.ensures) c.write_all.ensures.prefix

pub returns-in_err-text-clause-prefix : goal.returns-in_err-text-clause-prefix
returns-in_err-text-clause-prefix g c = (
  [],
  written_summary c.args.heads.now c.args.journal.now (map volume_of_node c.args.replicas.now),
  refl,
  Appends-nil (g.K.Sink.contents c.args.sink.now),
)
