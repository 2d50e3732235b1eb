-- A journal that gets an entry more.
use Rattle.std.proofs.Common.{◌≡◌, ℕ, suc, ◌+◌, ◌<◌, ◌≤◌, ⊎_elim, List, [], ◌∷◌, ◌++◌, length, set, length-set}
use Rattle.std.proofs.Common.{get_or-set_same, get_or-set_other, sym, ap, subst, ◌∙◌, arith}
use Rattle.std.specs.Prelude.{Option, None}
use Rattle.std.proofs.lemmas.Bool.{cases_eq}
use Rattle.std.proofs.lemmas.List.{length-append}
use Rattle.volume_model.specs.declared.entry.Answer.{Answer}
use Rattle.volume_model.specs.declared.entry.Entry.{Entry}
use Rattle.volume_model.specs.declared.entry.Entry.TheVariants as entry
use Rattle.volume_model.specs.declared.mark.Mark.{Mark}
use Rattle.volume_model.specs.Faults.{CountsRise}
use Rattle.volume_model.specs.History.{Spot, IsAnswered, IsEnded, InOrderFrom, answers_of}
use Rattle.volume_model.specs.Modes.{modes_after}
use Rattle.volume_model.specs.Names.{AreOwnFree}
use Rattle.volume_model.specs.Rebuilds.{added_by, rebuild_of, rebuild_after_add}
use Rattle.volume_model.specs.Replay.{replay}
use Rattle.volume_model.proofs.FaultLemmas.{rise-answer}
use Rattle.volume_model.proofs.OwnNames.{IsOwn, own_entry}
use Rattle.volume_model.proofs.PushLemmas.{IsLegal-push}
use Rattle.volume_model.proofs.RebuildLemmas.{rebuild_of-push}
use Rattle.volume_model.proofs.StepLemmas.{replay-push}
use Rattle.open_calls.specs.Clients.{place_behind, behind_last}
use Rattle.open_calls.proofs.SeenLemmas.{own_more, other_more, mark_more}
use Rattle.volume_core.specs.State.{index_at}
use Rattle.open_rebuild.specs.declared.rebuilding.Rebuilding.{Rebuilding}
use Rattle.volume_core.specs.declared.world.EndedRebuild.{EndedRebuild}
use Rattle.volume_core.specs.Sound.{IsOrdered, IsTold, how_far}

-- answers in order, and more of them behind these
order-append : (index least : ℕ) (xs ys : List (ℕ × Answer)) → InOrderFrom index least xs
    → InOrderFrom (index + length xs) (place_behind least xs) ys → InOrderFrom index least (xs ++ ys)
order-append index least [] ys h k = subst (λ n. InOrderFrom n least ys) (omega arith) k
order-append index least (x ∷ xs) ys h k = (
  h.0,
  h.1,
  h.2,
  order-append (suc index) (suc x.0) xs ys h.3
      (subst (λ n. InOrderFrom n (place_behind (suc x.0) xs) ys) (further index (length xs)) k),
)
  where
    further : (i n : ℕ) → i + suc n ≡ suc i + n
    further i n = omega arith

own_free : (o : Spot) (es : List Entry) (e : Entry) → IsOwn (replay o.state es) e → AreOwnFree (replay o.state es)
    → AreOwnFree (replay o.state (es ++ e ∷ []))
own_free o es e is free = subst AreOwnFree (sym (replay-push o.state es e)) (own_entry (replay o.state es) e is free)

-- an answer of the next index, which saw the stream's last and no more than there is, behind which rebuilds are so far
pub answer_ordered_to : (o : Spot) (es : List Entry) (indices : List ℕ) (b b2 : Option Rebuilding)
    (g g2 : Option EndedRebuild) (a : Answer) → IsOrdered o es indices b g → IsOwn (replay o.state es) (entry.Answer a)
    → ((q : ℕ) → rebuild_of q (es ++ entry.Answer a ∷ []) ≡ how_far b2 g2 q) → a.stream < length indices
    → a.index ≡ index_at indices a.stream → behind_last a.stream es ≤ a.saw → a.saw ≤ length es
    → IsOrdered o (es ++ entry.Answer a ∷ []) (set indices a.stream (index_at indices a.stream + 1)) b2 g2
answer_ordered_to o es indices b b2 g g2 a ok is_own rebuild within is past saw =
    let set_here = set indices a.stream (index_at indices a.stream + 1) in
    record {
      rise = rise-answer es a ok.rise;
      order = λ stream. ⊎_elim
          (λ e. subst (λ s. InOrderFrom 0 0 (answers_of s (es ++ entry.Answer a ∷ []))) e (subst (InOrderFrom 0 0) (sym (own_more es a))
          (order-append 0 0 (answers_of a.stream es) ((length es, a) ∷ []) (ok.order a.stream)
          (is ∙ ok.index a.stream within ∙ omega arith, past, saw, tt))))
          (λ n. subst (InOrderFrom 0 0) (sym (other_more es a stream n)) (ok.order stream))
          (cases_eq a.stream stream);
      index = λ stream l. ⊎_elim
          (λ e. subst (λ s. index_at set_here s ≡ length (answers_of s (es ++ entry.Answer a ∷ []))) e
          (get_or-set_same indices a.stream (index_at indices a.stream + 1) 0 within ∙ ap (λ n. n + 1) (ok.index a.stream within)
          ∙ sym (ap length (own_more es a) ∙ length-append (answers_of a.stream es) ((length es, a) ∷ []))))
          (λ n. get_or-set_other indices a.stream stream (index_at indices a.stream + 1) 0 (λ e. n (sym e))
          ∙ ok.index stream (omega (arith, length-set indices a.stream (index_at indices a.stream + 1)))
          ∙ sym (ap length (other_more es a stream n)))
          (cases_eq a.stream stream);
      few = λ stream l. ⊎_elim
          (λ e. subst (λ s. index_at set_here s ≤ length (es ++ entry.Answer a ∷ [])) e
          (omega (
            arith,
            get_or-set_same indices a.stream (index_at indices a.stream + 1) 0 within,
            ok.few a.stream within,
            length-append es (entry.Answer a ∷ []),
          )))
          (λ n. omega (
            arith,
            get_or-set_other indices a.stream stream (index_at indices a.stream + 1) 0 (λ e. n (sym e)),
            ok.few stream (omega (arith, length-set indices a.stream (index_at indices a.stream + 1))),
            length-append es (entry.Answer a ∷ []),
          ))
          (cases_eq a.stream stream);
      own = own_free o es (entry.Answer a) is_own ok.own;
      rebuild = rebuild;
    }

-- the answer of a call that is no add leaves them as they are
pub answer_ordered : (o : Spot) (es : List Entry) (indices : List ℕ) (b : Option Rebuilding) (g : Option EndedRebuild)
    (a : Answer) → IsOrdered o es indices b g → IsOwn (replay o.state es) (entry.Answer a) → added_by a.call ≡ None
    → a.stream < length indices → a.index ≡ index_at indices a.stream → behind_last a.stream es ≤ a.saw → a.saw ≤ length es
    → IsOrdered o (es ++ entry.Answer a ∷ []) (set indices a.stream (index_at indices a.stream + 1)) b g
answer_ordered o es indices b g a ok is_own none within is past saw =
    answer_ordered_to o es indices b b g g a ok is_own
    (λ q. rebuild_of-push q es (entry.Answer a) ∙ ap (rebuild_after_add q (rebuild_of q es)) none ∙ ok.rebuild q) within
    is past saw

-- a mark
pub mark_ordered : (o : Spot) (es : List Entry) (indices : List ℕ) (b b2 : Option Rebuilding) (g g2 : Option EndedRebuild)
    (m : Mark) → IsOrdered o es indices b g → IsOwn (replay o.state es) (entry.Mark m)
    → CountsRise (es ++ entry.Mark m ∷ []) → ((q : ℕ) → rebuild_of q (es ++ entry.Mark m ∷ []) ≡ how_far b2 g2 q)
    → IsOrdered o (es ++ entry.Mark m ∷ []) indices b2 g2
mark_ordered o es indices b b2 g g2 m ok is_own rise rebuild = record {
  rise = rise;
  order = λ stream. subst (InOrderFrom 0 0) (sym (mark_more es m stream)) (ok.order stream);
  index = λ stream l. ok.index stream l ∙ sym (ap length (mark_more es m stream));
  few = λ stream l. omega (arith, ok.few stream l, length-append es (entry.Mark m ∷ []));
  own = own_free o es (entry.Mark m) is_own ok.own;
  rebuild = rebuild;
}

-- the answer of a call that is no add
pub answer_told : (o : Spot) (es : List Entry) (indices : List ℕ) (b : Option Rebuilding) (g : Option EndedRebuild)
    (a : Answer) → IsTold o es indices b g → IsOwn (replay o.state es) (entry.Answer a) → added_by a.call ≡ None
    → IsAnswered (replay o.state es) (modes_after o.modes es) a → a.stream < length indices
    → a.index ≡ index_at indices a.stream → behind_last a.stream es ≤ a.saw → a.saw ≤ length es
    → IsTold o (es ++ entry.Answer a ∷ []) (set indices a.stream (index_at indices a.stream + 1)) b g
answer_told o es indices b g a ok is_own none may within is past saw = record {
  legal = IsLegal-push o es (entry.Answer a) ok.legal
      (subst (λ x. IsEnded x es (replay o.state es) (modes_after o.modes es) a) (sym none) may);
  ordered = answer_ordered o es indices b g a ok.ordered is_own none within is past saw;
}
