use Rattle.std.proofs.Common.{◌≡◌, ◌∙◌, [], Result, Err, refl, sym, subst}
use Rattle.replica_serve.specs.declared.error.ServeError.{ServeError}
use Rattle.frame_stream.proofs.ReadingLaws.{short_stays}
use Rattle.frame_stream.specs.Reading.{Fed, GivesNext}
use Rattle.frame_stream.specs.declared.reader.Next.TheVariants as next
use Rattle.client_input.specs.Feeding.{FeedsMore}
use Rattle.client_input.specs.declared.feeding.Input.{Input}
use Rattle.client_input.specs.declared.feeding.Input.TheVariants as input
use Rattle.replica_serve.specs.declared.serve.Served.{Served}
use Rattle.replica_serve.specs.Ends.{HasServed, ServeCounts}
use Rattle.replica_serve.specs.Turns.{WriteCounts, ReadCounts, ServesSome, StopsSo}
use Rattle.replica_serve.proofs.Ending.{none_answered, answered_on, served_all, served_closed, cut_bad, cut_short, all_written}
use Rattle.replica_serve.proofs.Ending.{some_more, some_out, some_so_far, ended_write, ended_read, counts_write, counts_read, err_is}
use Rattle.replica_serve.proofs.serve.serve_replica.Goals as goal

pub loop-init : goal.loop-init
loop-init g c = (
  tt,
  tt,
  (
    [],
    none_answered c.args.node.disk (g.S.Source.left c.args.source.now) (g.K.Sink.contents c.args.sink.now)
        c.new-reader.result c.new-reader.ensures,
  ),
  c.new-replies.ensures.items,
  refl,
  refl,
)

pub serve_waiting-requires : goal.serve_waiting-requires
serve_waiting-requires g c = c.loop.invariant.2.1.came.most

pub returns-in_err-served-clause-served : goal.returns-in_err-served-clause-served
returns-in_err-served-clause-served g c =
    let so_far = c.loop.invariant in
    let left = g.S.Source.left c.args.source.now in
    let sink = g.K.Sink.contents c.args.sink.now in
    let had = g.K.Sink.contents c.loop.sink in
    let has = g.K.Sink.contents c.serve_waiting.new.sink in
    let disk = c.args.node.disk in
    let now = c.loop.node.disk in
    let before = c.loop.reader in
    let e = c.in_err-served.field-0.0 in
    let some = some_more disk now left (g.S.Source.left c.loop.source) sink had before
    so_far.2.0 so_far.2.1 has (subst (λ h. ServesSome before now h had has) so_far.3 c.in_err-served.ensures.some) in
    subst (HasServed disk left sink has)
    (sym (err_is c.from_residual.result e c.from_residual.ensures.1))
    (ended_write disk left sink has some Served e (g.K.Sink.faults c.loop.sink) (g.K.Sink.faults c.serve_waiting.new.sink)
    c.in_err-served.ensures.counts)

pub returns-in_err-served-clause-counts : goal.returns-in_err-served-clause-counts
returns-in_err-served-clause-counts g c =
    let so_far = c.loop.invariant in
    let reads = g.S.Source.faults c.args.source.now in
    let reads_now = g.S.Source.faults c.loop.source in
    let writes = g.K.Sink.faults c.args.sink.now in
    let writes_served = g.K.Sink.faults c.serve_waiting.new.sink in
    let e = c.in_err-served.field-0.0 in
    subst (λ (r : Result (Unit {0}) ServeError). ServeCounts r reads reads_now writes writes_served)
    (sym (err_is c.from_residual.result e c.from_residual.ensures.1))
    (counts_write Served e reads reads_now writes writes_served so_far.4
    (subst (λ k. WriteCounts {T = Served} (Err e) k writes_served) so_far.5 c.in_err-served.ensures.counts))

pub returns-in_err-write_out-clause-served : goal.returns-in_err-write_out-clause-served
returns-in_err-write_out-clause-served g c =
    let so_far = c.loop.invariant in
    let left = g.S.Source.left c.args.source.now in
    let sink = g.K.Sink.contents c.args.sink.now in
    let got = g.K.Sink.contents c.write_out.new.sink in
    let disk = c.args.node.disk in
    let e = c.in_err-write_out.field-0.0 in
    let some = some_out disk c.loop.node.disk c.serve_waiting.new.node.disk left (g.S.Source.left c.loop.source) sink
    (g.K.Sink.contents c.loop.sink) (g.K.Sink.contents c.serve_waiting.new.sink) got c.loop.reader c.serve_waiting.new.reader
    so_far.2.0 c.loop.replies.items c.serve_waiting.new.replies.items c.in_ok-served.served so_far.2.1 so_far.3
    c.in_ok-served.ensures.all c.write_out.ensures.prefix in
    subst (HasServed disk left sink got)
    (sym (err_is c.from_residual-in_err-write_out.result e c.from_residual-in_err-write_out.ensures.1))
    (ended_write disk left sink got some (Unit {0}) e (g.K.Sink.faults c.serve_waiting.new.sink)
    (g.K.Sink.faults c.write_out.new.sink) c.in_err-write_out.ensures.counts)

pub returns-in_err-write_out-clause-counts : goal.returns-in_err-write_out-clause-counts
returns-in_err-write_out-clause-counts g c =
    let so_far = c.loop.invariant in
    let reads = g.S.Source.faults c.args.source.now in
    let reads_now = g.S.Source.faults c.loop.source in
    let writes = g.K.Sink.faults c.args.sink.now in
    let writes_then = g.K.Sink.faults c.write_out.new.sink in
    let e = c.in_err-write_out.field-0.0 in
    subst (λ (r : Result (Unit {0}) ServeError). ServeCounts r reads reads_now writes writes_then)
    (sym (err_is c.from_residual-in_err-write_out.result e c.from_residual-in_err-write_out.ensures.1))
    (counts_write (Unit {0}) e reads reads_now writes writes_then so_far.4
    (subst (λ k. WriteCounts {T = Unit {0}} (Err e) k writes_then) (c.in_ok-served.ensures.counts ∙ so_far.5)
    c.in_err-write_out.ensures.counts))

pub returns-in-Closed-clause-served : goal.returns-in-Closed-clause-served
returns-in-Closed-clause-served g c =
    let so_far = c.loop.invariant in
    let left = g.S.Source.left c.args.source.now in
    let came = g.S.Source.left c.loop.source in
    let sink = g.K.Sink.contents c.args.sink.now in
    let got = g.K.Sink.contents c.write_out.new.sink in
    let disk = c.args.node.disk in
    let later = c.serve_waiting.new.node.disk in
    let behind = c.serve_waiting.new.reader in
    let written = all_written disk c.loop.node.disk later left came sink (g.K.Sink.contents c.loop.sink)
    (g.K.Sink.contents c.serve_waiting.new.sink) got c.loop.reader behind so_far.2.0 c.loop.replies.items
    c.serve_waiting.new.replies.items c.in_ok-served.served so_far.2.1 so_far.3 c.in_ok-served.ensures.all
    c.in_ok-write_out.ensures.written in
    let stops = subst (StopsSo written.1 behind) c.in-Closed.is written.3 in
    served_closed disk later left came sink got written.1 written.0 written.2 behind stops.0 stops.1 stops.2

pub returns-in-Closed-clause-counts : goal.returns-in-Closed-clause-counts
returns-in-Closed-clause-counts g c =
    let so_far = c.loop.invariant in
    (so_far.4, c.in_ok-write_out.ensures.counts ∙ c.in_ok-served.ensures.counts ∙ so_far.5)

pub returns-in-Bad-clause-served : goal.returns-in-Bad-clause-served
returns-in-Bad-clause-served g c =
    let so_far = c.loop.invariant in
    let left = g.S.Source.left c.args.source.now in
    let came = g.S.Source.left c.loop.source in
    let sink = g.K.Sink.contents c.args.sink.now in
    let got = g.K.Sink.contents c.write_out.new.sink in
    let disk = c.args.node.disk in
    let later = c.serve_waiting.new.node.disk in
    let behind = c.serve_waiting.new.reader in
    let written = all_written disk c.loop.node.disk later left came sink (g.K.Sink.contents c.loop.sink)
    (g.K.Sink.contents c.serve_waiting.new.sink) got c.loop.reader behind so_far.2.0 c.loop.replies.items
    c.serve_waiting.new.replies.items c.in_ok-served.served so_far.2.1 so_far.3 c.in_ok-served.ensures.all
    c.in_ok-write_out.ensures.written in
    let stops = subst (StopsSo written.1 behind) c.in-Bad.is written.3 in
    cut_bad disk later left came sink got written.1 written.0 written.2 behind c.in-Bad.place stops

pub returns-in-Bad-clause-counts : goal.returns-in-Bad-clause-counts
returns-in-Bad-clause-counts g c =
    let so_far = c.loop.invariant in
    (so_far.4, c.in_ok-write_out.ensures.counts ∙ c.in_ok-served.ensures.counts ∙ so_far.5)

pub returns-in_err-read_on-clause-served : goal.returns-in_err-read_on-clause-served
returns-in_err-read_on-clause-served g c =
    let so_far = c.loop.invariant in
    let left = g.S.Source.left c.args.source.now in
    let came = g.S.Source.left c.loop.source in
    let sink = g.K.Sink.contents c.args.sink.now in
    let got = g.K.Sink.contents c.write_out.new.sink in
    let disk = c.args.node.disk in
    let later = c.serve_waiting.new.node.disk in
    let written = all_written disk c.loop.node.disk later left came sink (g.K.Sink.contents c.loop.sink)
    (g.K.Sink.contents c.serve_waiting.new.sink) got c.loop.reader c.serve_waiting.new.reader so_far.2.0 c.loop.replies.items
    c.serve_waiting.new.replies.items c.in_ok-served.served so_far.2.1 so_far.3 c.in_ok-served.ensures.all
    c.in_ok-write_out.ensures.written in
    let e = c.in_err-read_on.field-0.0 in
    let some = some_so_far disk later left came sink got written.1 written.0 written.2 in
    subst (HasServed disk left sink got)
    (sym (err_is c.from_residual-in_err-read_on.result e c.from_residual-in_err-read_on.ensures.1))
    (ended_read disk left sink got some Input e (g.S.Source.faults c.loop.source) (g.S.Source.faults c.read_on.new.source)
    c.in_err-read_on.ensures.counts)

pub returns-in_err-read_on-clause-counts : goal.returns-in_err-read_on-clause-counts
returns-in_err-read_on-clause-counts g c =
    let so_far = c.loop.invariant in
    let reads = g.S.Source.faults c.args.source.now in
    let reads_then = g.S.Source.faults c.read_on.new.source in
    let writes = g.K.Sink.faults c.args.sink.now in
    let writes_then = g.K.Sink.faults c.write_out.new.sink in
    let e = c.in_err-read_on.field-0.0 in
    subst (λ (r : Result (Unit {0}) ServeError). ServeCounts r reads reads_then writes writes_then)
    (sym (err_is c.from_residual-in_err-read_on.result e c.from_residual-in_err-read_on.ensures.1))
    (counts_read Input e reads reads_then writes writes_then (subst (λ s. ReadCounts {T = Input} (Err e) s reads_then) so_far.4
    c.in_err-read_on.ensures.counts) (c.in_ok-write_out.ensures.counts ∙ c.in_ok-served.ensures.counts ∙ so_far.5))

pub loop-preserved : goal.loop-preserved
loop-preserved g c =
    let so_far = c.loop.invariant in
    let left = g.S.Source.left c.args.source.now in
    let came = g.S.Source.left c.loop.source in
    let last = g.S.Source.left c.read_on.new.source in
    let sink = g.K.Sink.contents c.args.sink.now in
    let got = g.K.Sink.contents c.write_out.new.sink in
    let disk = c.args.node.disk in
    let later = c.serve_waiting.new.node.disk in
    let behind = c.serve_waiting.new.reader in
    let written = all_written disk c.loop.node.disk later left came sink (g.K.Sink.contents c.loop.sink)
    (g.K.Sink.contents c.serve_waiting.new.sink) got c.loop.reader behind so_far.2.0 c.loop.replies.items
    c.serve_waiting.new.replies.items c.in_ok-served.served so_far.2.1 so_far.3 c.in_ok-served.ensures.all
    c.in_ok-write_out.ensures.written in
    let short = subst (StopsSo written.1 behind) c.in-All.is written.3 in
    let stays : behind ≡ written.1 = short_stays written.1 behind short in
    let reader = c.read_on.new.reader in
    let feeds = subst (FeedsMore came last behind reader) c.in-More.is c.in_ok-read_on.ensures.fed in (
      tt,
      tt,
      (
        written.0,
        answered_on disk later left came last sink got written.1 reader written.0 input.More written.2
            (subst (λ (f : Fed). FeedsMore came last f reader input.More) stays feeds),
      ),
      c.in_ok-write_out.ensures.empty,
      c.in_ok-read_on.ensures.counts ∙ so_far.4,
      c.in_ok-write_out.ensures.counts ∙ c.in_ok-served.ensures.counts ∙ so_far.5,
    )

pub returns-in-End-clause-served : goal.returns-in-End-clause-served
returns-in-End-clause-served g c =
    let so_far = c.loop.invariant in
    let left = g.S.Source.left c.args.source.now in
    let came = g.S.Source.left c.loop.source in
    let last = g.S.Source.left c.read_on.new.source in
    let sink = g.K.Sink.contents c.args.sink.now in
    let got = g.K.Sink.contents c.write_out.new.sink in
    let disk = c.args.node.disk in
    let later = c.serve_waiting.new.node.disk in
    let behind = c.serve_waiting.new.reader in
    let written = all_written disk c.loop.node.disk later left came sink (g.K.Sink.contents c.loop.sink)
    (g.K.Sink.contents c.serve_waiting.new.sink) got c.loop.reader behind so_far.2.0 c.loop.replies.items
    c.serve_waiting.new.replies.items c.in_ok-served.served so_far.2.1 so_far.3 c.in_ok-served.ensures.all
    c.in_ok-write_out.ensures.written in
    let short = subst (StopsSo written.1 behind) c.in-All.is written.3 in
    let stays : behind ≡ written.1 = short_stays written.1 behind short in
    let reader = c.read_on.new.reader in
    let over = subst (FeedsMore came last behind reader) c.in-End.is c.in_ok-read_on.ensures.fed in
    let still = answered_on disk later left came last sink got written.1 reader written.0 input.End written.2
    (subst (λ (f : Fed). FeedsMore came last f reader input.End) stays over) in
    served_all disk later left last sink got reader written.0 still (c.if-is_empty.ensures.0 refl) over.1

pub returns-in-End-clause-counts : goal.returns-in-End-clause-counts
returns-in-End-clause-counts g c =
    let so_far = c.loop.invariant in
    (c.in_ok-read_on.ensures.counts ∙ so_far.4, c.in_ok-write_out.ensures.counts ∙ c.in_ok-served.ensures.counts ∙ so_far.5)

pub returns-in-End-2-clause-served : goal.returns-in-End-2-clause-served
returns-in-End-2-clause-served g c =
    let so_far = c.loop.invariant in
    let left = g.S.Source.left c.args.source.now in
    let came = g.S.Source.left c.loop.source in
    let last = g.S.Source.left c.read_on.new.source in
    let sink = g.K.Sink.contents c.args.sink.now in
    let got = g.K.Sink.contents c.write_out.new.sink in
    let disk = c.args.node.disk in
    let later = c.serve_waiting.new.node.disk in
    let behind = c.serve_waiting.new.reader in
    let written = all_written disk c.loop.node.disk later left came sink (g.K.Sink.contents c.loop.sink)
    (g.K.Sink.contents c.serve_waiting.new.sink) got c.loop.reader behind so_far.2.0 c.loop.replies.items
    c.serve_waiting.new.replies.items c.in_ok-served.served so_far.2.1 so_far.3 c.in_ok-served.ensures.all
    c.in_ok-write_out.ensures.written in
    let short = subst (StopsSo written.1 behind) c.in-All.is written.3 in
    let stays : behind ≡ written.1 = short_stays written.1 behind short in
    let reader = c.read_on.new.reader in
    let over = subst (FeedsMore came last behind reader) c.in-End-2.is c.in_ok-read_on.ensures.fed in
    let still = answered_on disk later left came last sink got written.1 reader written.0 input.End written.2
    (subst (λ (f : Fed). FeedsMore came last f reader input.End) stays over) in
    cut_short disk later left last sink got reader written.0 still behind c.place.result c.place.ensures
    (subst (λ (f : Fed). GivesNext f behind next.Short) (sym (over.2 ∙ stays)) short)
    (λ none. cc (c.if-is_empty.ensures.1 none)) over.1

pub returns-in-End-2-clause-counts : goal.returns-in-End-2-clause-counts
returns-in-End-2-clause-counts g c =
    let so_far = c.loop.invariant in
    (c.in_ok-read_on.ensures.counts ∙ so_far.4, c.in_ok-write_out.ensures.counts ∙ c.in_ok-served.ensures.counts ∙ so_far.5)

pub same-reader : goal.same-reader
same-reader g c = refl

pub same-node : goal.same-node
same-node g c = refl

pub same-reader-in-More : goal.same-reader-in-More
same-reader-in-More g c = refl
