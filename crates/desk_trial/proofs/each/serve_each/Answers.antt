use Rattle.std.proofs.Common.{rules, ◌≡◌, length, arith}
use Rattle.desk_lock.specs.Seats.{made_of}
use Rattle.desk_trial.proofs.Gathers.{all_done, each_done, all_joined}
use Rattle.desk_trial.proofs.each.serve_each.Goals as goal

pub gather-ok-requires-clause-all : goal.gather-ok-requires-clause-all
gather-ok-requires-clause-all g c = all_done c.in_ok-desk.desk c.in_ok-jobs.jobs.items c.in_ok-dones.dones.items
    c.in_ok-dones.ensures.len c.in_ok-jobs.ensures.jobs c.in_ok-dones.ensures.each

pub close-book-requires-clause-all : goal.close-book-requires-clause-all
close-book-requires-clause-all g c = let made : made_of c.gather-ok.new.seat ≡ length c.in_ok-dones.dones.items =
    search rules in all_joined c.in_ok-dones.dones.items _ _ made c.gather-ok.ensures.pairs

pub returns-then-ok-clause-each : goal.returns-then-ok-clause-each
returns-then-ok-clause-each g c = each_done c.in_ok-desk.desk c.in_ok-jobs.jobs.items c.in_ok-dones.dones.items
    c.in_ok-dones.ensures.len c.in_ok-jobs.ensures.jobs c.in_ok-dones.ensures.each
    c.close-book.result _ _ c.in_ok-jobs.ensures.values c.close-book.ensures.state.joined c.gather-ok.ensures.pairs
    (c.gather-ok.ensures.ok c.if-ok.true)

pub returns-then-ok-clause-others : goal.returns-then-ok-clause-others
returns-then-ok-clause-others g c = let made : made_of c.gather-ok.new.seat ≡ length c.args.lists.items = search rules in
    λ n le. (c.close-book.ensures.state.rest (search rules) n (omega arith)).entries
