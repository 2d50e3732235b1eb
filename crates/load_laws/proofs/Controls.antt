-- An answered call of the control stream: it was done, and it comes where its turn is.
use Rattle.std.proofs.Common.{◌≡◌, ℕ, eqb, cond, Bool, true, false, List, [], ◌∷◌, refl, sym, ap, subst, ◌∙◌, inr}
use Rattle.std.specs.Prelude.{None, Some}
use Rattle.volume_model.specs.declared.command.Command.TheVariants as command
use Rattle.volume_model.specs.declared.call.Call.{Call}
use Rattle.volume_model.specs.declared.call.Call.TheVariants as call
use Rattle.volume_model.specs.declared.call.Reply.{Reply}
use Rattle.volume_model.specs.declared.call.Reply.TheVariants as reply
use Rattle.volume_model.specs.declared.entry.Answer.{Answer}
use Rattle.volume_model.specs.declared.entry.Entry.{Entry}
use Rattle.volume_model.specs.declared.entry.Entry.TheVariants as entry
use Rattle.volume_model.specs.declared.mark.FoldOrDrop.TheVariants as part
use Rattle.volume_model.specs.declared.mark.Rebuild.TheVariants as rebuild
use Rattle.volume_model.specs.declared.mode.Mode.TheVariants.{Rw, Err}
use Rattle.volume_model.specs.Snapshots.{Snapshot}
use Rattle.volume_model.specs.Purge.{IsMarked, CanFold}
use Rattle.volume_model.specs.PlainState.{Copy, without}
use Rattle.volume_model.specs.PlainStep.{after_call, plain_step}
use Rattle.volume_model.specs.Modes.{asks_store, modes_after}
use Rattle.volume_model.specs.Replay.{is_refusal, replay}
use Rattle.volume_model.specs.Rebuilds.{added_by, rebuild_after_add}
use Rattle.volume_model.specs.History.{IsAnswered, IsEnded, EndsAdd, MayStand}
use Rattle.volume_model.proofs.PurgeLemmas.{any_here, any_later}
use Rattle.volume_model.proofs.StepLemmas.{answered_plainly}
use Rattle.load_laws.specs.Load.{fresh, user_name}
use Rattle.load_laws.proofs.Phases.{Phase, Begins, Taken, Falls, Fallen, Opened, Promoted, Rebuilt, Removed, Folded, Ends}
use Rattle.load_laws.proofs.Phases.{own_name, last_one, last_two, last_three, last_four, calls_left, one_marked, state_in, modes_in}
use Rattle.load_laws.proofs.Phases.{rebuild_at, calls_in, Is, AreOwed, Stands, GoesOn}
use Rattle.load_laws.proofs.Calls.{left_behind, control_left}
use Rattle.load_laws.proofs.Frames.{source_in, is_behind, asked_in}

-- ---- what is known of the answer

heads : (c d : Call) (cs ds : List Call) → c ∷ cs ≡ d ∷ ds → c ≡ d
heads c d cs ds e = cc

tails : (c d : Call) (cs ds : List Call) → c ∷ cs ≡ d ∷ ds → cs ≡ ds
tails c d cs ds e = cc

-- of a call that is no add, the volume answered it
answered_in : (blank : List ℕ) (p : Phase) (disk : List ℕ) (before : List Entry) (a : Answer) (c : Call) (at : Is blank p disk before)
    → IsEnded (added_by a.call) before (replay (fresh blank).state before) (modes_after (fresh blank).modes before) a
    → a.call ≡ c → added_by c ≡ None → IsAnswered (state_in p disk at.copies) (modes_in p) a
answered_in blank p disk before a c at ended is none =
    subst (λ x. IsEnded x before (state_in p disk at.copies) (modes_in p) a) (ap added_by is ∙ none)
    (asked_in blank p disk before (added_by a.call) a at ended)

-- as the plain disk does
reply_in : (p : Phase) (disk : List ℕ) (copies : List Copy) (a : Answer) (c : Call) → IsAnswered (state_in p disk copies) (modes_in p) a
    → a.call ≡ c → asks_store c ≡ false → a.reply ≡ (plain_step (modes_in p) (state_in p disk copies) c).1
reply_in p disk copies a c answered is apart =
    answered_plainly (state_in p disk copies) (modes_in p) a (source_in p) (ap asks_store is ∙ apart) answered
    ∙ ap (λ d. (plain_step (modes_in p) (state_in p disk copies) d).1) is

-- an add of replica 1 is answered by how far its rebuild is
add_in : (blank : List ℕ) (p : Phase) (disk : List ℕ) (before : List Entry) (a : Answer) (at : Is blank p disk before)
    → IsEnded (added_by a.call) before (replay (fresh blank).state before) (modes_after (fresh blank).modes before) a
    → a.call ≡ call.Command (command.Add 1) → EndsAdd (rebuild_at p 1) before (state_in p disk at.copies) (modes_in p) a 1
add_in blank p disk before a at ended is =
    subst (λ b. EndsAdd b before (state_in p disk at.copies) (modes_in p) a 1) (at.rebuilds 1)
    (subst (λ x. IsEnded x before (state_in p disk at.copies) (modes_in p) a) (ap added_by is)
    (asked_in blank p disk before (added_by a.call) a at ended))

-- ---- one that was done

done_is_no_refusal : (r : Reply) → r ≡ reply.Done → is_refusal r ≡ false
done_is_no_refusal r done = ap is_refusal done

-- the control stream is as far as the call brings it
goes_by_done : (slices : ℕ) (blank : List ℕ) (p q : Phase) (disk : List ℕ) (before es : List Entry) (a : Answer) (c : Call)
    (copies : List Copy) (at : Stands slices blank p disk before (entry.Answer a ∷ es)) → a.stream ≡ slices → a.reply ≡ reply.Done
    → a.call ∷ calls_in slices es ≡ c ∷ calls_left q → after_call (state_in p disk at.is.copies) c ≡ state_in q disk copies
    → modes_in p ≡ modes_in q → ((r : ℕ) → rebuild_after_add r (rebuild_at p r) (added_by c) ≡ rebuild_at q r) → AreOwed q es
    → GoesOn slices blank p disk before (entry.Answer a) es
goes_by_done slices blank p q disk before es a c copies at own done left leaves modes rebuilds owed =
    let is = heads a.call c (calls_in slices es) (calls_left q) left in
    inr (
      (own, done),
      q,
      record {
        is = is_behind blank p q disk disk before a at.is copies (done_is_no_refusal a.reply done)
            (ap (after_call (state_in p disk at.is.copies)) is ∙ leaves) modes
            (λ r. ap (λ d. rebuild_after_add r (rebuild_at p r) (added_by d)) is ∙ rebuilds r);
        size = at.size;
        left = left_behind slices p q a es at.left (tails a.call c (calls_in slices es) (calls_left q) left);
        owed = owed;
      },
    )

-- ---- how far it was

-- where no call is left none is answered
no_answer : (c : Call) (cs : List Call) → c ∷ cs ≡ [] → ⊥
no_answer c cs e = cc

-- a replica that is read has not failed
no_fall : Rw ≡ Err → ⊥
no_fall e = cc

-- what was done was not refused
not_done : (r : Reply) → r ≡ reply.Done → is_refusal r ≡ true → ⊥
not_done r done refused = not_true (sym (ap is_refusal done) ∙ refused)
  where
    not_true : false ≡ true → ⊥
    not_true e = cc

-- once its add is answered none is asked
answered_once : (b : Bool) → cond b rebuild.Unasked (cond b rebuild.Promoted rebuild.Unasked) ≡ cond b rebuild.Unasked rebuild.Unasked
answered_once true = refl
answered_once false = refl

-- the user's snapshot can be folded into the rebuild's
marked_second : (p : List ℕ) (s t : Snapshot) → t.name ≡ p → t.marked ≡ true → IsMarked (s ∷ t ∷ []) p
marked_second p s t named marked = any_later (λ (x : Snapshot). (x.name ≡ p) × (x.marked ≡ true)) s (t ∷ [])
    (any_here (λ (x : Snapshot). (x.name ≡ p) × (x.marked ≡ true)) t [] (named, marked))

not_that : Some own_name ≡ Some user_name → ⊥
not_that e = cc

-- so a purge is not over while it is there
can_fold : CanFold one_marked.tree one_marked.on user_name own_name
can_fold = record {
  marked = marked_second user_name (record { name = own_name; parent = Some user_name; marked = false })
      (record { name = user_name; parent = None; marked = true }) refl refl;
  child = refl;
  head = not_that;
}

-- the control stream's next call, in each case of how far it is
pub goes_by_control : (slices : ℕ) (blank : List ℕ) (p : Phase) (disk : List ℕ) (before es : List Entry) (a : Answer)
    → Stands slices blank p disk before (entry.Answer a ∷ es) → MayStand (fresh blank) before (entry.Answer a) es → a.stream ≡ slices
    → GoesOn slices blank p disk before (entry.Answer a) es
goes_by_control slices blank Begins disk before es a at may own =
    let c = call.Command (command.Snapshot user_name) in
    let left = control_left slices Begins a es at.left own in
    let is = heads a.call c (calls_in slices es) last_four left in
    let done = reply_in Begins disk at.is.copies a c (answered_in blank Begins disk before a c at.is may is refl) is refl in
    goes_by_done slices blank Begins Taken disk before es a c _ at own done left refl refl (λ r. refl) tt
goes_by_control slices blank Taken disk before es a at may own =
    let c = call.Command (command.Fail 1) in
    let is = heads a.call c (calls_in slices es) last_three (control_left slices Taken a es at.left own) in
    absurd (no_fall ((answered_in blank Taken disk before a c at.is may is refl).fails 1 is))
goes_by_control slices blank Falls disk before es a at may own =
    let c = call.Command (command.Fail 1) in
    let left = control_left slices Falls a es at.left own in
    let is = heads a.call c (calls_in slices es) last_three left in
    let done = reply_in Falls disk at.is.copies a c (answered_in blank Falls disk before a c at.is may is refl) is refl in
    goes_by_done slices blank Falls Fallen disk before es a c at.is.copies at own done left refl refl (λ r. refl) tt
goes_by_control slices blank Fallen disk before es a at may own =
    let c = call.Command (command.Add 1) in
    let is = heads a.call c (calls_in slices es) last_two (control_left slices Fallen a es at.left own) in
    let ends = add_in blank Fallen disk before a at.is may is in
    absurd (not_done a.reply (reply_in Fallen disk at.is.copies a c ends.0 is refl) ends.1)
goes_by_control slices blank Opened disk before es a at may own =
    let c = call.Command (command.Add 1) in
    let is = heads a.call c (calls_in slices es) last_two (control_left slices Opened a es at.left own) in
    absurd (add_in blank Opened disk before a at.is may is)
goes_by_control slices blank Promoted disk before es a at may own =
    let c = call.Command (command.Add 1) in
    let left = control_left slices Promoted a es at.left own in
    let is = heads a.call c (calls_in slices es) last_two left in
    let ends = add_in blank Promoted disk before a at.is may is in
    goes_by_done slices blank Promoted Rebuilt disk before es a c at.is.copies at own ends.0 left refl refl
    (λ r. answered_once (eqb 1 r)) tt
goes_by_control slices blank Rebuilt disk before es a at may own =
    let c = call.Command (command.Remove user_name) in
    let left = control_left slices Rebuilt a es at.left own in
    let is = heads a.call c (calls_in slices es) last_one left in
    let done = reply_in Rebuilt disk at.is.copies a c (answered_in blank Rebuilt disk before a c at.is may is refl) is refl in
    goes_by_done slices blank Rebuilt Removed disk before es a c (without at.is.copies user_name) at own done left refl refl (λ r. refl) tt
goes_by_control slices blank Removed disk before es a at may own =
    let c = call.Command command.Purge in
    let is = heads a.call c (calls_in slices es) [] (control_left slices Removed a es at.left own) in
    let answered = answered_in blank Removed disk before a c at.is may is refl in
    let done = reply_in Removed disk at.is.copies a c answered is refl in
    absurd (answered.purged is (done_is_no_refusal a.reply done) (part.Fold user_name own_name) can_fold)
goes_by_control slices blank Folded disk before es a at may own =
    let c = call.Command command.Purge in
    let left = control_left slices Folded a es at.left own in
    let is = heads a.call c (calls_in slices es) [] left in
    let done = reply_in Folded disk at.is.copies a c (answered_in blank Folded disk before a c at.is may is refl) is refl in
    goes_by_done slices blank Folded Ends disk before es a c at.is.copies at own done left refl refl (λ r. refl) tt
goes_by_control slices blank Ends disk before es a at may own =
    absurd (no_answer a.call (calls_in slices es) (control_left slices Ends a es at.left own))
