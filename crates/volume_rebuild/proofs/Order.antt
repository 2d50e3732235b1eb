-- A journal that gets the mark of a promotion, and behind it the answer of its add.
use Rattle.std.proofs.Common.{◌≡◌, ℕ, suc, ◌+◌, ◌<◌, ◌≤◌, ⊎_elim, Bool, true, false, cond, eqb, List, [], ◌∷◌, ◌++◌}
use Rattle.std.proofs.Common.{length, set, length-set, get_or-set_same, get_or-set_other, refl, sym, ap, subst, ◌∙◌}
use Rattle.std.proofs.Common.{arith}
use Rattle.std.specs.Prelude.{Option, None, Some}
use Rattle.std.proofs.lemmas.Bool.{cases_eq}
use Rattle.std.proofs.lemmas.List.{length-append}
use Rattle.volume_model.specs.declared.command.Command.TheVariants as command
use Rattle.volume_model.specs.declared.call.Call.TheVariants as call
use Rattle.volume_model.specs.declared.entry.Answer.{Answer}
use Rattle.volume_model.specs.declared.entry.Entry.{Entry}
use Rattle.volume_model.specs.declared.entry.Entry.TheVariants as entry
use Rattle.volume_model.specs.declared.mark.Mark.TheVariants as mark
use Rattle.volume_model.specs.declared.mark.Rebuild.TheVariants as rebuild
use Rattle.volume_model.specs.History.{Spot, InOrderFrom, SeenInOrder, answers_of}
use Rattle.volume_model.specs.Names.{AreOwnFree}
use Rattle.volume_model.specs.Rebuilds.{added_by, rebuild_of, rebuild_after_add}
use Rattle.volume_model.specs.Replay.{replay}
use Rattle.volume_model.proofs.FaultLemmas.{rise-answer, rise-promoted}
use Rattle.volume_model.proofs.OwnNames.{IsOwn, own_entry}
use Rattle.volume_model.proofs.RebuildLemmas.{rebuild_of-push}
use Rattle.volume_model.proofs.StepLemmas.{replay-push}
use Rattle.open_calls.specs.Clients.{place_behind, behind_last}
use Rattle.open_calls.proofs.SeenLemmas.{own_more, other_more, mark_more}
use Rattle.open_rebuild.specs.declared.rebuilding.Rebuilding.{Rebuilding}
use Rattle.volume_core.specs.declared.world.EndedRebuild.{EndedRebuild}
use Rattle.volume_core.specs.State.{index_at}
use Rattle.volume_core.specs.Sound.{IsOrdered, how_far}

-- ---- one answer more

-- answers in order, and more of them behind these
order-append : (index least : ℕ) (xs ys : List (ℕ × Answer)) → InOrderFrom index least xs
    → InOrderFrom (index + length xs) (place_behind least xs) ys → InOrderFrom index least (xs ++ ys)
order-append index least [] ys h k = subst (λ n. InOrderFrom n least ys) (omega arith) k
order-append index least (x ∷ xs) ys h k = (
  h.0,
  h.1,
  h.2,
  order-append (suc index) (suc x.0) xs ys h.3
      (subst (λ n. InOrderFrom n (place_behind (suc x.0) xs) ys) (further index (length xs)) k),
)
  where
    further : (i n : ℕ) → i + suc n ≡ suc i + n
    further i n = omega arith

module _ (es : List Entry) (indices : List ℕ) (a : Answer) (order : SeenInOrder es)
    (index : (stream : ℕ) → stream < length indices → index_at indices stream ≡ length (answers_of stream es))
    (few : (stream : ℕ) → stream < length indices → index_at indices stream ≤ length es)
    (within : a.stream < length indices) (is : a.index ≡ index_at indices a.stream)
    (past : behind_last a.stream es ≤ a.saw)
    (saw : a.saw ≤ length es) where
  abbrev more : List Entry
  more = es ++ entry.Answer a ∷ []

  abbrev counted : List ℕ
  counted = set indices a.stream (index_at indices a.stream + 1)

  pub order_more : SeenInOrder more
  order_more stream = ⊎_elim
      (λ e. subst (λ s. InOrderFrom 0 0 (answers_of s more)) e (subst (InOrderFrom 0 0) (sym (own_more es a))
      (order-append 0 0 (answers_of a.stream es) ((length es, a) ∷ []) (order a.stream)
      (is ∙ index a.stream within ∙ omega arith, past, saw, tt))))
      (λ n. subst (InOrderFrom 0 0) (sym (other_more es a stream n)) (order stream))
      (cases_eq a.stream stream)

  pub index_more : (stream : ℕ) → stream < length counted → index_at counted stream ≡ length (answers_of stream more)
  index_more stream l = ⊎_elim
      (λ e. subst (λ s. index_at counted s ≡ length (answers_of s more)) e
      (get_or-set_same indices a.stream (index_at indices a.stream + 1) 0 within ∙ ap (λ n. n + 1) (index a.stream within)
      ∙ sym (ap length (own_more es a) ∙ length-append (answers_of a.stream es) ((length es, a) ∷ []))))
      (λ n. get_or-set_other indices a.stream stream (index_at indices a.stream + 1) 0 (λ e. n (sym e))
      ∙ index stream (omega (arith, l, length-set indices a.stream (index_at indices a.stream + 1)))
      ∙ sym (ap length (other_more es a stream n)))
      (cases_eq a.stream stream)

  pub few_more : (stream : ℕ) → stream < length counted → index_at counted stream ≤ length more
  few_more stream l = ⊎_elim
      (λ e. subst (λ s. index_at counted s ≤ length more) e
      (omega (
        arith,
        get_or-set_same indices a.stream (index_at indices a.stream + 1) 0 within,
        few a.stream within,
        length-append es (entry.Answer a ∷ []),
      )))
      (λ n. omega (
        arith,
        get_or-set_other indices a.stream stream (index_at indices a.stream + 1) 0 (λ e. n (sym e)),
        few stream (omega (arith, l, length-set indices a.stream (index_at indices a.stream + 1))),
        length-append es (entry.Answer a ∷ []),
      ))
      (cases_eq a.stream stream)

-- ---- the mark, and the answer

own_free : (o : Spot) (es : List Entry) (e : Entry) → IsOwn (replay o.state es) e → AreOwnFree (replay o.state es)
    → AreOwnFree (replay o.state (es ++ e ∷ []))
own_free o es e is free = subst AreOwnFree (sym (replay-push o.state es e)) (own_entry (replay o.state es) e is free)

module _ (o : Spot) (es : List Entry) (indices : List ℕ) (b : Rebuilding) (g : Option EndedRebuild) (a : Answer)
    (ok : IsOrdered o es indices (Some b) g) (is : a.call ≡ call.Command (command.Add b.target))
    (within : a.stream < length indices) (index : a.index ≡ index_at indices a.stream)
    (past : behind_last a.stream es ≤ a.saw) (saw : a.saw ≤ length es) where
  abbrev pub marked : List Entry
  marked = es ++ entry.Mark (mark.Promoted b.target) ∷ []

  abbrev pub answered : List Entry
  answered = marked ++ entry.Answer a ∷ []

  -- no rebuild is open then, and none was aborted
  none_far : (q : ℕ) → rebuild_of q answered ≡ how_far None None q
  none_far q =
      rebuild_of-push q marked (entry.Answer a) ∙ ap (λ c. rebuild_after_add q (rebuild_of q marked) (added_by c)) is
      ∙ ap (λ x. cond (eqb b.target q) rebuild.Unasked x)
      (rebuild_of-push q es (entry.Mark (mark.Promoted b.target))
      ∙ ap (λ x. cond (eqb b.target q) rebuild.Promoted x) (ok.rebuild q))
      ∙ one (eqb b.target q)
    where
      one : (t : Bool) → cond t rebuild.Unasked (cond t rebuild.Promoted (cond t (rebuild.Open b.source) rebuild.Unasked)) ≡ rebuild.Unasked
      one true = refl
      one false = refl

  no_snapshot : IsOwn (replay o.state marked) (entry.Answer a)
  no_snapshot name e = absurd (other name (sym is ∙ e))
    where
      other : (name : List ℕ) → call.Command (command.Add b.target) ≡ call.Command (command.Snapshot name) → ⊥
      other name e = cc

  same_answers : (stream : ℕ) → answers_of stream marked ≡ answers_of stream es
  same_answers stream = mark_more es (mark.Promoted b.target) stream

  order_marked : SeenInOrder marked
  order_marked stream = subst (InOrderFrom 0 0) (sym (same_answers stream)) (ok.order stream)

  index_marked : (stream : ℕ) → stream < length indices → index_at indices stream ≡ length (answers_of stream marked)
  index_marked stream l = ok.index stream l ∙ sym (ap length (same_answers stream))

  few_marked : (stream : ℕ) → stream < length indices → index_at indices stream ≤ length marked
  few_marked stream l = omega (arith, ok.few stream l, length-append es (entry.Mark (mark.Promoted b.target) ∷ []))

  past_marked : behind_last a.stream marked ≤ a.saw
  past_marked = subst (λ xs. place_behind 0 xs ≤ a.saw) (sym (same_answers a.stream)) past

  saw_marked : a.saw ≤ length marked
  saw_marked = omega (arith, saw, length-append es (entry.Mark (mark.Promoted b.target) ∷ []))

  pub promoted_ordered : IsOrdered o answered (set indices a.stream (index_at indices a.stream + 1)) None None
  promoted_ordered = record {
    rise = rise-answer marked a (rise-promoted es b.target ok.rise);
    order = order_more marked indices a order_marked index_marked few_marked within index past_marked saw_marked;
    index = index_more marked indices a order_marked index_marked few_marked within index past_marked saw_marked;
    few = few_more marked indices a order_marked index_marked few_marked within index past_marked saw_marked;
    own = own_free o marked (entry.Answer a) no_snapshot (own_free o es (entry.Mark (mark.Promoted b.target)) tt ok.own);
    rebuild = none_far;
  }
