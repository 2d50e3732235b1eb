-- The entries that the steps of a rebuild append to a legal journal.
use Rattle.std.proofs.Common.{◌≡◌, ◌≢◌, ℕ, suc, ◌+◌, eqb, cond, List, [], ◌∷◌, ◌++◌, length, set, refl, sym, ap, subst, ◌∙◌, arith}
use Rattle.std.proofs.lemmas.Bool.{eq-eqb, false≢true}
use Rattle.volume_model.specs.declared.command.Command.TheVariants as command
use Rattle.volume_model.specs.declared.call.Call.TheVariants as call
use Rattle.volume_model.specs.declared.call.Reply.TheVariants as reply
use Rattle.volume_model.specs.declared.entry.Answer.{Answer}
use Rattle.volume_model.specs.declared.entry.Entry.{Entry}
use Rattle.volume_model.specs.declared.entry.Entry.TheVariants as entry
use Rattle.volume_model.specs.declared.mark.FoldOrDrop.{FoldOrDrop}
use Rattle.volume_model.specs.declared.mark.Mark.TheVariants as mark
use Rattle.volume_model.specs.declared.mark.Rebuild.{Rebuild}
use Rattle.volume_model.specs.declared.mark.Rebuild.TheVariants as rebuild
use Rattle.volume_model.specs.declared.mode.Mode.{Mode}
use Rattle.volume_model.specs.PlainState.{PlainState}
use Rattle.volume_model.specs.PlainStep.{plain_step}
use Rattle.volume_model.specs.Modes.{mode_of, is_change}
use Rattle.volume_model.specs.declared.mode.Mode.TheVariants.{Err}
use Rattle.volume_model.specs.Replay.{replay}
use Rattle.volume_model.specs.Modes.{modes_after}
use Rattle.volume_model.specs.History.{Spot, OfVolume, OfReplicas, OfStore, subject_of, EndsAdd, IsEnded, IsLegal}
use Rattle.volume_model.specs.Rebuilds.{added_by, rebuild_after_entry, MayBegin, MayFall, rebuild_from, rebuild_of}
use Rattle.volume_model.proofs.LegalLemmas.{LegalAfter-append}
use Rattle.volume_model.proofs.PushLemmas.{modes_after-push, IsLegal-push}
use Rattle.volume_model.proofs.ModeLemmas.{failed_is, failed_stays}

pub rebuild_from-append : (r place : ℕ) (b : Rebuild) (xs ys : List Entry)
    → rebuild_from r place b (xs ++ ys) ≡ rebuild_from r (place + length xs) (rebuild_from r place b xs) ys
rebuild_from-append r place b [] ys = let e : place ≡ place + 0 = omega arith in ap (λ p. rebuild_from r p b ys) e
rebuild_from-append r place b (x ∷ xs) ys =
    let e : suc place + length xs ≡ place + length (x ∷ xs) = omega arith in
    rebuild_from-append r (suc place) (rebuild_after_entry r place b x) xs ys
    ∙ ap (λ p. rebuild_from r p (rebuild_from r (suc place) (rebuild_after_entry r place b x) xs) ys) e

-- how far a rebuild is after one entry more
pub rebuild_of-push : (r : ℕ) (journal : List Entry) (e : Entry)
    → rebuild_of r (journal ++ e ∷ []) ≡ rebuild_after_entry r (length journal) (rebuild_of r journal) e
rebuild_of-push r journal e =
    let place : 0 + length journal ≡ length journal = omega arith in
    rebuild_from-append r 0 rebuild.Unasked journal (e ∷ []) ∙ ap (λ p. rebuild_after_entry r p (rebuild_of r journal) e) place

same_test : (r : ℕ) (a b : Rebuild) → cond (eqb r r) a b ≡ a
same_test r a b = ap (λ t. cond t a b) (eq-eqb r r refl)

-- ---- entries that leave how far each rebuild is

pub rebuild_of-purged : (q : ℕ) (journal : List Entry) (p : FoldOrDrop)
    → rebuild_of q (journal ++ entry.Mark (mark.Purged p) ∷ []) ≡ rebuild_of q journal
rebuild_of-purged q journal p = rebuild_of-push q journal (entry.Mark (mark.Purged p))

pub rebuild_of-fault : (q : ℕ) (journal : List Entry) (w r n : ℕ)
    → rebuild_of q (journal ++ entry.Mark (mark.Fault w r n) ∷ []) ≡ rebuild_of q journal
rebuild_of-fault q journal w r n = rebuild_of-push q journal (entry.Mark (mark.Fault w r n))

pub rebuild_of-failed : (q : ℕ) (journal : List Entry) (r : ℕ)
    → rebuild_of q (journal ++ entry.Mark (mark.Failed r) ∷ []) ≡ rebuild_of q journal
rebuild_of-failed q journal r = rebuild_of-push q journal (entry.Mark (mark.Failed r))

-- ---- entries of the rebuild of r

pub rebuild_of-promoted : (journal : List Entry) (r : ℕ) → rebuild_of r (journal ++ entry.Mark (mark.Promoted r) ∷ []) ≡ rebuild.Promoted
rebuild_of-promoted journal r = rebuild_of-push r journal (entry.Mark (mark.Promoted r))
    ∙ same_test r rebuild.Promoted (rebuild_of r journal)

-- ---- steps of a rebuild, behind a legal journal

-- the answer of an add, by how far its rebuild is
add_of : (a : Answer) (r : ℕ) → a.call ≡ call.Command (command.Add r) → (before : List Entry) (state : PlainState) (modes : List Mode)
    → EndsAdd (rebuild_of r before) before state modes a r → IsEnded (added_by a.call) before state modes a
add_of a r is before state modes ends = subst (λ c. IsEnded (added_by c) before state modes a) (sym is) ends

-- a promotion, with the answer of its add
pub legal_promotion : (opening : Spot) (journal : List Entry) (r source : ℕ) (a : Answer) → IsLegal opening journal
    → rebuild_of r journal ≡ rebuild.Open source
    → a.call ≡ call.Command (command.Add r) → a.reply ≡ reply.Done
    → IsLegal opening (journal ++ entry.Mark (mark.Promoted r) ∷ entry.Answer a ∷ [])
legal_promotion opening journal r source a legal begun is done =
    let m = entry.Mark (mark.Promoted r) in
    let now : rebuild_of r (journal ++ m ∷ []) ≡ rebuild.Promoted = rebuild_of-promoted journal r in
    LegalAfter-append opening [] journal _ legal (
      record { source = source; begun = begun; ends = is },
      (
        add_of a r is (journal ++ m ∷ []) _ _
            (subst (λ b. EndsAdd b (journal ++ m ∷ []) (replay opening.state (journal ++ m ∷ []))
            (modes_after opening.modes (journal ++ m ∷ [])) a r) (sym now)
            (done, (journal, refl))),
        tt,
      ),
    )

-- the answer of an add whose rebuild was aborted tells the place of that mark
pub legal_aborted : (opening : Spot) (journal : List Entry) (r place : ℕ) (a : Answer) → IsLegal opening journal
    → rebuild_of r journal ≡ rebuild.Aborted place
    → a.call ≡ call.Command (command.Add r) → a.reply ≡ reply.Aborted place → IsLegal opening (journal ++ entry.Answer a ∷ [])
legal_aborted opening journal r place a legal ended is told =
    LegalAfter-append opening [] journal _ legal (
      add_of a r is journal _ _
          (subst (λ b. EndsAdd b journal (replay opening.state journal) (modes_after opening.modes journal) a r) (sym ended)
          told),
      tt,
    )

-- a rebuild begins
pub legal_added : (opening : Spot) (journal : List Entry) (r source : ℕ) (name : List ℕ) → IsLegal opening journal
    → MayBegin (modes_after opening.modes journal) (replay opening.state journal) journal r source name
    → IsLegal opening (journal ++ entry.Mark (mark.Added r source name) ∷ [])
legal_added opening journal r source name legal may = IsLegal-push opening journal (entry.Mark (mark.Added r source name)) legal may

-- the fall of a replica right before the end of the rebuild that it ends, which is the only one
may_fall : (modes : List Mode) (journal after : List Entry) (r q : ℕ) → mode_of modes r ≢ Err
    → ((p t : ℕ) → rebuild_of p journal ≡ rebuild.Open t → p ≡ q)
    → MayFall modes journal (entry.Mark (mark.Aborted q) ∷ after) r
may_fall modes journal after r q up only =
    record { up = up; ends = λ p t is who. ap (λ k. entry.Mark (mark.Aborted k)) (sym (only p t is)) }

-- a fault with the end of the rebuild
pub legal_fall : (opening : Spot) (journal : List Entry) (w r count q source : ℕ) → IsLegal opening journal
    → mode_of (modes_after opening.modes journal) r ≢ Err
    → rebuild_of q journal ≡ rebuild.Open source → ((p t : ℕ) → rebuild_of p journal ≡ rebuild.Open t → p ≡ q)
    → IsLegal opening (journal ++ entry.Mark (mark.Fault w r count) ∷ entry.Mark (mark.Aborted q) ∷ [])
legal_fall opening journal w r count q source legal up begun only =
    LegalAfter-append opening [] journal _ legal (
      may_fall (modes_after opening.modes journal) journal [] r q up only,
      (record { source = source; begun = rebuild_of-fault q journal w r count ∙ begun }, tt),
    )

-- the answer of a replica that was told to fail, once it has
fail_answered : (state : PlainState) (modes : List Mode) (a : Answer) (r : ℕ) → a.call ≡ call.Command (command.Fail r)
    → a.reply ≡ reply.Done → mode_of modes r ≡ Err
    → (before : List Entry) → IsEnded (added_by a.call) before state modes a
fail_answered state modes a r is done failed before = subst (λ c. IsEnded (added_by c) before state modes a) (sym is) (record {
  reply = λ says. done ∙ sym (ap (λ c. (plain_step modes state c).1) is);
  none = λ says. absurd (apart_replicas (sym (ap subject_of done) ∙ says));
  store = λ says. absurd (apart_store (sym (ap subject_of done) ∙ says));
  fails = λ q e. subst (λ n. mode_of modes n ≡ Err) (same_replica q (sym is ∙ e)) failed;
  source = λ change kept. absurd (false≢true (sym (ap is_change is) ∙ change));
  purged = λ e kept. absurd (no_purge (sym is ∙ e));
})
  where
    same_replica : (q : ℕ) → call.Command (command.Fail r) ≡ call.Command (command.Fail q) → r ≡ q
    same_replica q e = cc

    no_purge : call.Command (command.Fail r) ≡ call.Command command.Purge → ⊥
    no_purge e = cc

    apart_replicas : OfVolume ≡ OfReplicas → ⊥
    apart_replicas e = cc

    apart_store : OfVolume ≡ OfStore → ⊥
    apart_store e = cc

-- a replica that was told to fail, with the end of the rebuild, and its answer
pub legal_fail : (opening : Spot) (journal : List Entry) (r q source : ℕ) (a : Answer) → IsLegal opening journal
    → mode_of (modes_after opening.modes journal) r ≢ Err
    → rebuild_of q journal ≡ rebuild.Open source → ((p t : ℕ) → rebuild_of p journal ≡ rebuild.Open t → p ≡ q)
    → a.call ≡ call.Command (command.Fail r) → a.reply ≡ reply.Done
    → IsLegal opening (journal ++ entry.Mark (mark.Failed r) ∷ entry.Mark (mark.Aborted q) ∷ entry.Answer a ∷ [])
legal_fail opening journal r q source a legal up begun only is done =
    let modes_after_here = modes_after opening.modes journal in
    let fall = entry.Mark (mark.Failed r) in
    let ended = entry.Mark (mark.Aborted q) in
    let before = (journal ++ fall ∷ []) ++ ended ∷ [] in
    let modes : modes_after opening.modes before ≡ set (set modes_after_here r Err) q Err =
    modes_after-push opening.modes (journal ++ fall ∷ []) ended ∙ ap (λ ms. set ms q Err) (modes_after-push opening.modes journal fall) in
    let failed : mode_of (modes_after opening.modes before) r ≡ Err =
    ap (λ ms. mode_of ms r) modes ∙ failed_stays (set modes_after_here r Err) q r (failed_is modes_after_here r) in
    LegalAfter-append opening [] journal _ legal (
      (may_fall modes_after_here journal (entry.Answer a ∷ []) r q up only, (tt, is)),
      (
        record { source = source; begun = rebuild_of-failed q journal r ∙ begun },
        (fail_answered (replay opening.state before) (modes_after opening.modes before) a r is done failed before, tt),
      ),
    )

-- a rebuild that is given up, where nothing fell
pub legal_abort : (opening : Spot) (journal : List Entry) (r source : ℕ) → IsLegal opening journal
    → rebuild_of r journal ≡ rebuild.Open source
    → IsLegal opening (journal ++ entry.Mark (mark.Aborted r) ∷ [])
legal_abort opening journal r source legal begun =
    IsLegal-push opening journal (entry.Mark (mark.Aborted r)) legal (record { source = source; begun = begun })
