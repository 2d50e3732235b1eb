use Rattle.std.proofs.Common.{sym, subst, ◌∙◌}
use Rattle.volume_core.specs.State.{State}
use Rattle.volume_core.specs.Sound.{IsSound}
use Rattle.world_holder.proofs.Taken.{found_as, seen_as}
use Rattle.world_steps.proofs.FrameTurns.{look_owes, look_free, look_same}
use Rattle.session_serve.specs.Replies.{IsLastReply}
use Rattle.session_serve.proofs.Place.{place_found}
use Rattle.session_serve.proofs.reply.last_reply.Goals as goal

pub reply_in-reply-requires-clause-place : goal.reply_in-reply-requires-clause-place
reply_in-reply-requires-clause-place g c =
    let asked = c.requires.asked in
    place_found g.H.Holder.alone c.args.stream _ _ asked.0 _ (found_as c.deref.ensures c.take-world.ensures.found) asked.1 asked.2 asked.3

pub put-requires-clause-owes : goal.put-requires-clause-owes
put-requires-clause-owes g c =
    look_owes g.H.Holder.alone c.args.stream _ _ _ c.take-world.ensures.seen c.take-world.ensures.found

pub returns-clause-home : goal.returns-clause-home
returns-clause-home g c = c.put.ensures.home ∙ c.take-world.ensures.home

pub returns-clause-same : goal.returns-clause-same
returns-clause-same g c = look_same _ _ _ _ _ c.take-world.ensures.found c.put.ensures.seen

pub returns-clause-free : goal.returns-clause-free
returns-clause-free g c = look_free _ _ _ _ _ c.take-world.ensures.found c.put.ensures.seen

pub returns-clause-sound : goal.returns-clause-sound
returns-clause-sound g c = subst IsSound (sym c.put.ensures.seen) c.take-world.ensures.found.sound

pub returns-clause-reply : goal.returns-clause-reply
returns-clause-reply g c =
    subst (λ (z : State). IsLastReply c.args.stream c.reply_in-reply.result z.book.entries)
    (sym (seen_as c.deref.ensures c.put.ensures.seen)) c.reply_in-reply.ensures
