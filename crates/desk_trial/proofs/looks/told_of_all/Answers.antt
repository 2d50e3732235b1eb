use Rattle.std.proofs.Common.{◌≤◌, ◌++◌, map, length, refl, ap, ◌∙◌, subst}
use Rattle.desk_lock.specs.Account.{entries_of}
use Rattle.desk_lock.specs.Known.{one_more, keeping, Fits, ReachesSeen}
use Rattle.desk_lock.specs.Seats.{last_of}
use Rattle.desk_trial.specs.Books.{book_account, note_of, notes_in}
use Rattle.desk_trial.proofs.Told.{told_is}
use Rattle.desk_trial.proofs.looks.told_of_all.Goals as goal

pub returns-then-ok : goal.returns-then-ok
returns-then-ok g c =
    let x = last_of c.serve_all-seat.result.0 in
    let kept = c.join.ensures.kept 0 c.serve_all-seat.ensures.seat.1 in
    let reaches = subst (ReachesSeen book_account c.seen_now-told.result) kept c.seen_now-told.ensures.seen in
    let high = subst (λ n. n ≤ length c.close.result.notes.items) c.seen_now-told.ensures.told.0 c.close.ensures.told in
    let blank = ap (λ v. notes_in 0 v.last) c.split-seat.ensures.new
    ∙ (ap (λ v. notes_in 0 v.last) c.in_ok-desk.ensures.seat ∙ ap (entries_of book_account 0) c.in_ok-book.ensures.notes) in
    let made = c.serve_all-seat.ensures.mine c.if-ok.true ∙ ap (λ es. es ++ map (note_of 0) c.args.values.now) blank in
    let first = c.split-seat.ensures.first ∙ ap one_more c.in_ok-desk.ensures.seat in
    let all = c.seen_now-told.ensures.seat.1 ∙ (kept ∙ ap (λ v. keeping v 0 x) first) in
    let fits = subst (Fits book_account c.close.result) all c.close.ensures.state in
    told_is c.seen_now-told.result x c.close.result c.args.values.now reaches.joined.0 high made fits.joined.0.mine
    (λ n le. (fits.rest refl n le).entries)
