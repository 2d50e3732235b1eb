-- What a journal tells of a session stays as it is, whatever others do.
use Rattle.std.proofs.Common.{◌≡◌, ℕ, suc, ◌+◌, ◌<◌, ◌≤◌, Bool, true, false, cond, eqb, List, [], ◌∷◌, ◌++◌, length, map}
use Rattle.std.proofs.Common.{All, sym, ap, subst, ◌∙◌, arith, append-nil}
use Rattle.std.proofs.lemmas.List.Elements.{All-nil, All-cons}
use Rattle.door_traits.specs.Sessions.{Told}
use Rattle.run_report.specs.Summary.{replying_frames}
use Rattle.run_report.specs.declared.session_line.EndedSession.{EndedSession}
use Rattle.volume_model.specs.declared.entry.Answer.{Answer}
use Rattle.volume_model.specs.declared.entry.Entry.{Entry}
use Rattle.volume_model.specs.declared.entry.Entry.TheVariants as entry
use Rattle.volume_model.specs.Faults.{last_count}
use Rattle.volume_model.specs.History.{answers_from, answers_of}
use Rattle.volume_model.specs.OneWorker.{behind_entries}
use Rattle.volume_core.specs.State.{State, opening_of}
use Rattle.stream_steps.specs.Mine.{entries_in}
use Rattle.world_holder.specs.Laid.{IsLater}
use Rattle.world_holder.specs.View.{own_entries}
use Rattle.world_holder.proofs.Entries.{own-append, own_last, none_shown}
use Rattle.session_serve.specs.Sessions.{own_of}
use Rattle.session_workers.specs.Clients.{SessionEnds, TakesReplies}
use Rattle.session_workers.proofs.Answers.{none_answered, adds_none}

-- ---- a session that has no entry

pub no_answers : (n : ℕ) (s : State) → own_of n s ≡ [] → answers_of n s.book.entries ≡ []
no_answers n s none = none_answered n 0 (opening_of s) s.book.entries none

-- ---- where its answers stand

pub answers_below : (n place most : ℕ) (es : List Entry) → place + length es ≤ most
    → All (λ (p : ℕ × Answer). p.0 < most) (answers_from n place es)
answers_below n place most [] low = All-nil (λ (p : ℕ × Answer). p.0 < most)
answers_below n place most (entry.Mark m ∷ es) low = answers_below n (suc place) most es (omega (arith, low))
answers_below n place most (entry.Answer a ∷ es) low =
    one (eqb a.stream n) (answers_from n (suc place) es) (omega (arith, low)) (answers_below n (suc place) most es (omega (arith, low)))
  where
    one : (b : Bool) (ps : List (ℕ × Answer)) → place < most → All (λ (p : ℕ × Answer). p.0 < most) ps
        → All (λ (p : ℕ × Answer). p.0 < most) (cond b ((place, a) ∷ ps) ps)
    one true ps here rest = All-cons (λ (p : ℕ × Answer). p.0 < most) (place, a) ps here rest
    one false ps here rest = rest

-- ---- others' entries behind its own

module _ (n : ℕ) (s t : State) (later : IsLater n s t) where
  own_stays : own_entries n (opening_of t) t.book.entries ≡ own_entries n (opening_of t) s.book.entries
  own_stays =
      let o = opening_of t in
      ap (own_entries n o) later.added.1 ∙ own-append n o s.book.entries later.added.0
      ∙ ap (λ l. own_entries n o s.book.entries ++ l) (none_shown n (behind_entries o s.book.entries) later.added.0 later.added.2)
      ∙ append-nil (own_entries n o s.book.entries)

  pub answers_stay : answers_of n t.book.entries ≡ answers_of n s.book.entries
  answers_stay = ap (answers_of n) later.added.1
      ∙ adds_none n (opening_of t) s.book.entries later.added.0
      (sym (ap (own_entries n (opening_of t)) later.added.1) ∙ own_stays)

  -- no more of its lines' faults are marked
  pub faults_stay : (r : ℕ) → last_count n r t.book.entries ≡ last_count n r s.book.entries
  faults_stay r = sym (own_last n r (opening_of t) t.book.entries) ∙ ap (λ ps. last_count n r (entries_in ps)) own_stays
      ∙ own_last n r (opening_of t) s.book.entries

-- ---- how it has ended

pub ended_stays : (n : ℕ) (before now : Told) (es more : List Entry) (e : EndedSession) → answers_of n more ≡ answers_of n es
    → SessionEnds n before now es e → SessionEnds n before now more e
ended_stays n before now es more e same ended = record {
  frames = ended.frames;
  rest = ended.rest;
  called = record {
    input = ended.called.input;
    calls = ended.called.calls;
    asked = ap (map (λ (p : ℕ × Answer). p.1.call)) same ∙ ended.called.asked;
    few = ended.called.few;
  };
  count = ended.count;
  stops = ended.stops;
  counts = ended.counts;
  replies = subst (λ list. TakesReplies e.end before now (replying_frames (map (λ f. f.head) ended.frames) list)) (sym same) ended.replies;
}
