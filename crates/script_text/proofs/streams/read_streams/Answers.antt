use Rattle.std.proofs.Common.{◌≡◌, ◌∷◌, ◌∙◌, ap, arith, length, sym}
use Rattle.std.specs.Vec.Iter.{into_iter_items}
use Rattle.script_text.proofs.StreamsLemmas.{next_read, all_read}
use Rattle.script_text.proofs.streams.read_streams.Goals as goal

pub loop-head-preserved : goal.loop-head-preserved
loop-head-preserved c =
    let so_far = c.loop-head.invariant in
    let stream = c.in_ok-stream.stream in
    let found = c.in_ok-stream.ensures in
    let others = into_iter_items c.loop-head.head-iterator in
    let behind = into_iter_items c.next.new.self in
    let cut : others ≡ c.in-Some.head ∷ behind = c.in-Some.ensures.steps.0 in
    record {
      read = rw (c.in_ok-push.ensures.items, c.frame_count-left.ensures, c.in_ok-bytes.ensures.rest)
          (next_read c.args.room c.args.place c.args.heads c.args.bytes c.loop-head.streams.items c.loop-head.left
          c.loop-head.rest others c.in-Some.head behind c.byte_count.result
          cut c.byte_count.ensures so_far.read c.in_ok-bytes.bytes stream c.in_ok-bytes.ensures.front found.0 found.1);
      count = omega (arith, ap length cut, c.in-Some.ensures.steps.1, so_far.count);
      end = so_far.end;
    }

pub returns : goal.returns
returns c =
    let so_far = c.loop-head.invariant in
    let others = into_iter_items c.loop-head.head-iterator in
    let none : length others ≡ 0 = sym so_far.count ∙ c.in-None.ensures.steps.0 in
    rw c.of.ensures
    (all_read c.args.room c.args.place c.args.heads c.args.bytes c.loop-head.streams.items c.loop-head.left c.loop-head.rest
    others none so_far.read)
