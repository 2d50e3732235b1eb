use Rattle.std.proofs.Common.{rules, ◌≡◌, suc, ◌-◌, drop, sym, subst, arith}
use Rattle.packed_entries.specs.View.{answer_seen, entry_seen}
use Rattle.session_serve.specs.Replies.{IsNoAnswer, HasNoAnswer}
use Rattle.session_serve.proofs.Last.{none_more, last_at}
use Rattle.session_serve.proofs.reply.last_answer.Goals as goal

pub returns-in-Some : goal.returns-in-Some
returns-in-Some c =
    let es = c.args.journal.now.entries in
    let back : suc (c.loop-place.place - 1) ≡ c.loop-place.place = omega (arith, c.loop-place-test.true) in
    last_at c.args.stream es (c.loop-place.place - 1) _ (answer_seen c.in-Some.answer) c.entry.ensures c.in-Some.ensures.0
    c.in-Some.ensures.1 (subst (λ k. HasNoAnswer c.args.stream (drop k es)) (sym back) c.loop-place.invariant.none)

pub loop-place-preserved : goal.loop-place-preserved
loop-place-preserved c =
    let es = c.args.journal.now.entries in
    let back : suc (c.loop-place.place - 1) ≡ c.loop-place.place = omega (arith, c.loop-place-test.true) in
    let other : IsNoAnswer c.args.stream (entry_seen c.entry.result) = search rules in
    record {
      within = omega (arith, c.loop-place.invariant.within);
      none = none_more c.args.stream es (c.loop-place.place - 1) (entry_seen c.entry.result) c.entry.ensures other
          (subst (λ k. HasNoAnswer c.args.stream (drop k es)) (sym back) c.loop-place.invariant.none);
    }
