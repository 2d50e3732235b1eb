use Rattle.std.proofs.Common.{rules, ◌≡◌, is_ok, true, ◌*◌, length, pos, subst, sym, ap, ◌∙◌}
use Rattle.std.proofs.lemmas.List.{with_items_is, places}
use Rattle.vol_units.specs.Bytes.{bytes_at}
use Rattle.vol_units.specs.declared.size.TheConstants.{PAGE_BYTES}
use Rattle.frame_wire.specs.Spelling.{IsHead}
use Rattle.client_worker.specs.Frames.{read_reply, read_reply_head}
use Rattle.control_worker.specs.Frames.{page_in, page_request}
use Rattle.control_worker.specs.Giver.{GivesOn, IsPageOf, TellsPage, line_at}
use Rattle.control_worker.proofs.CarrierLemmas.{serves_step}
use Rattle.control_worker.proofs.GiverLemmas.{backup_goes, gives_none, gives_step, gives_then, kept_of}
use Rattle.control_worker.proofs.GiverLemmas.{page_kept, still_live, tells_page, weaker}
use Rattle.control_worker.proofs.PartLemmas.{ok_of}
use Rattle.control_worker.proofs.ShownLemmas.{stays_same}
use Rattle.control_worker.proofs.giver.page_from.Given.{Over}
use Rattle.control_worker.proofs.giver.page_from.Goals as goal
use Rattle.control_worker.proofs.giver.page_from.Goals.{After-give_into}

-- it was asked for, and given
given : (g : Over) (c : After-give_into g) → GivesOn g.C.CommandSteps.home g.C.CommandSteps.mine g.C.BackupSteps.copies g.L.Line.ends
    (record { steps = c.args.steps.now; channels = c.args.channels.now })
    (record { steps = c.give_into.new.steps; channels = c.pass_on.new.channels })
given g c = gives_then _ (record { steps = c.pass_on.new.steps; channels = c.pass_on.new.channels }) _ c.pass_on.ensures.keeps
    (gives_step (record { steps = c.pass_on.new.steps; channels = c.pass_on.new.channels }) c.give_into.new.steps
    c.give_into.ensures.stands.home c.give_into.ensures.stands.same c.give_into.ensures.kept)

pub returns-in_err-fill_page_request-clause-keeps : goal.returns-in_err-fill_page_request-clause-keeps
returns-in_err-fill_page_request-clause-keeps g c = gives_none _

pub returns-in_err-make_long-clause-keeps : goal.returns-in_err-make_long-clause-keeps
returns-in_err-make_long-clause-keeps g c = gives_none _

pub give_into-requires-clause-turn : goal.give_into-requires-clause-turn
give_into-requires-clause-turn g c = backup_goes c.args.turn _ _ c.pass_on.ensures.keeps.goes c.requires.turn

pub give_into-requires-clause-page : goal.give_into-requires-clause-page
give_into-requires-clause-page g c =
    kept_of _ _ c.args.snapshot.now _ c.pass_on.ensures.keeps.kept c.requires.live c.requires.page

pub give_into-requires-clause-live : goal.give_into-requires-clause-live
give_into-requires-clause-live g c = still_live _ _ c.args.snapshot.now c.pass_on.ensures.keeps.kept c.requires.live

pub returns-then-is_err-clause-keeps : goal.returns-then-is_err-clause-keeps
returns-then-is_err-clause-keeps g c = given g (goal.at.returns-then-is_err-clause-keeps g c).After-give_into

pub pass_on-requires-2-clause-serving : goal.pass_on-requires-2-clause-serving
pass_on-requires-2-clause-serving g c =
    serves_step g.C.CommandSteps.mine (record { steps = c.pass_on.new.steps; channels = c.pass_on.new.channels })
    c.give_into.new.steps c.give_into.ensures.stands.ready (stays_same _ _ c.give_into.ensures.stands.same) c.pass_on.ensures.serving

pub pass_on-requires-2-clause-turn : goal.pass_on-requires-2-clause-turn
pass_on-requires-2-clause-turn g c =
    backup_goes c.args.turn _ _ (given g (goal.at.pass_on-requires-2-clause-turn g c).After-give_into).goes c.requires.turn

pub returns-clause-keeps : goal.returns-clause-keeps
returns-clause-keeps g c =
    gives_then _ _ _ (given g (goal.at.returns-clause-keeps g c).After-give_into) c.pass_on-2.ensures.keeps

pub returns-clause-ok : goal.returns-clause-ok
returns-clause-ok g c =
    let done : is_ok c.give_into.result ≡ true = search rules in
    let gave = ok_of c.give_into.result done c.give_into.ensures.ok in
    let first = given g (goal.at.returns-clause-ok g c).After-give_into in
    let page = page_in c.give_into.new.reply in
    let offset = pos (c.args.page * PAGE_BYTES) in
    let reply : c.put_page_head.new.reply ≡ read_reply 0 offset page = search rules in
    let copy = kept_of (g.C.BackupSteps.copies c.give_into.new.steps) (g.C.BackupSteps.copies c.pass_on-2.new.steps)
    c.args.snapshot.now (λ disk. page ≡ bytes_at disk (c.args.page * PAGE_BYTES) PAGE_BYTES) c.pass_on-2.ensures.keeps.kept
    (still_live _ _ c.args.snapshot.now first.kept c.requires.live) gave in
    let out = with_items_is c.make_long.new.frame c.pass_on-2.new.frame (search (rules, places)) in
    weaker _ _ c.pass_on-2.result
    (λ came carries is. subst (IsPageOf (g.C.BackupSteps.copies c.pass_on-2.new.steps c.args.snapshot.now) c.args.page)
    (sym (ap page_in out ∙ page_kept _ _ offset page _ _ (carries is) reply)) copy) c.pass_on-2.ensures.came

pub returns-clause-came : goal.returns-clause-came
returns-clause-came g c =
    let page = page_in c.give_into.new.reply in
    let offset = pos (c.args.page * PAGE_BYTES) in
    let before = (line_at g.L.Line.carried c.args.channels.now c.args.replica).told in
    let now = (line_at g.L.Line.carried c.pass_on-2.new.channels c.args.replica).told in
    let sent : c.in_ok-pass_on.field-0 ≡ true = search rules in
    let asked : c.deref_mut.result.now ≡ page_request 0 offset c.args.snapshot.now = search rules in
    let given : c.put_page_head.new.reply ≡ read_reply 0 offset page = search rules in
    let fits : IsHead (read_reply_head 0 offset (length page)) = search rules in
    let out = with_items_is c.make_long.new.frame c.pass_on-2.new.frame (search (rules, places)) in
    weaker _ _ c.pass_on-2.result
    (λ came carries is. subst (λ bytes. TellsPage c.args.snapshot.now c.args.page bytes before now)
    (sym (ap page_in out ∙ page_kept _ _ offset page _ _ (carries is) given))
    (tells_page c.args.snapshot.now c.args.page page _ _ _ _ _ _ _
    (c.in_ok-pass_on.ensures.came sent) (carries is) asked given fits)) c.pass_on-2.ensures.came
