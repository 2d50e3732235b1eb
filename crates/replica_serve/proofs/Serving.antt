-- Calls that are answered one after another.
use Rattle.std.proofs.Common.{◌≡◌, ◌∙◌, ℕ, List, [], ◌∷◌, ◌++◌, Option, Result, Ok, Err, OnErr}
use Rattle.std.proofs.Common.{refl, sym, ap, subst, append_assoc, append-nil}
use Rattle.std.proofs.KnownBytes.{Appends-nil}
use Rattle.std.specs.Io.KnownBytes.{Appends}
use Rattle.outer_traits.proofs.Passing.{Passes-trans, WritesPrefix-after, WritesPrefix-passed}
use Rattle.outer_traits.specs.Passing.{Passes, WritesPrefix}
use Rattle.frame_stream.specs.Frames.{IsClose}
use Rattle.frame_stream.specs.Reading.{Fed, GivesNext}
use Rattle.frame_stream.specs.declared.frame.Frame.{Frame}
use Rattle.frame_stream.specs.declared.reader.Next.TheVariants as next
use Rattle.volume_model.specs.PlainStep.{longest_call}
use Rattle.client_input.proofs.GivenCalls as given_calls
use Rattle.replica_serve.specs.Answers.{disk_with, disk_behind, reply_to, replies_to}
use Rattle.replica_serve.specs.declared.serve.Turn.TheVariants as turn
use Rattle.replica_serve.specs.Turns.{AnswersCalls, ServesSome, TakesTurn}

-- ---- one call more

-- the disk behind calls and one more
disk_behind-more : (disk : List ℕ) (fs : List Frame) (f : Frame) → disk_behind disk (fs ++ f ∷ []) ≡ disk_with (disk_behind disk fs) f
disk_behind-more disk [] f = refl
disk_behind-more disk (g ∷ gs) f = disk_behind-more (disk_with disk g) gs f

-- the replies to them
replies_to-more : (disk : List ℕ) (fs : List Frame) (f : Frame)
    → replies_to disk (fs ++ f ∷ []) ≡ replies_to disk fs ++ reply_to (disk_behind disk fs) f
replies_to-more disk [] f = append-nil (reply_to disk f)
replies_to-more disk (g ∷ gs) f =
    ap (λ l. reply_to disk g ++ l) (replies_to-more (disk_with disk g) gs f)
    ∙ sym (append_assoc (reply_to disk g) (replies_to (disk_with disk g) gs) (reply_to (disk_behind (disk_with disk g) gs) f))

-- and to any more
pub replies_to-append : (disk : List ℕ) (fs gs : List Frame)
    → replies_to disk (fs ++ gs) ≡ replies_to disk fs ++ replies_to (disk_behind disk fs) gs
replies_to-append disk [] gs = refl
replies_to-append disk (f ∷ fs) gs =
    ap (λ l. reply_to disk f ++ l) (replies_to-append (disk_with disk f) fs gs)
    ∙ sym (append_assoc (reply_to disk f) (replies_to (disk_with disk f) fs) (replies_to (disk_behind (disk_with disk f) fs) gs))

pub disk_behind-append : (disk : List ℕ) (fs gs : List Frame) → disk_behind disk (fs ++ gs) ≡ disk_behind (disk_behind disk fs) gs
disk_behind-append disk [] gs = refl
disk_behind-append disk (f ∷ fs) gs = disk_behind-append (disk_with disk f) fs gs

-- ---- where it begins

-- no call is answered yet
pub none_yet : (fed : Fed) (disk had : List ℕ) (sink : Option (List ℕ)) → AnswersCalls fed fed disk disk had had sink sink []
none_yet fed disk had sink = record {
  gives = given_calls.none_yet fed;
  leaves = refl;
  replies = ([], append-nil had, Appends-nil sink);
}

-- ---- a step

module _ (fed at new : Fed) (disk now later had mid has : List ℕ) (s t : Option (List ℕ)) (fs : List Frame) (f : Frame) where
  -- one call more is answered
  pub one_answered : AnswersCalls fed at disk now had mid s t fs → fed.most ≡ longest_call → GivesNext at new (next.Frame f)
      → (IsClose f → ⊥) → has ≡ mid ++ reply_to now f → later ≡ disk_with now f
      → AnswersCalls fed new disk later had has s t (fs ++ f ∷ [])
  one_answered a most given no_close reply behind = record {
    gives = given_calls.one_more fed at new fs f a.gives most given no_close;
    leaves = behind ∙ ap (λ d. disk_with d f) a.leaves ∙ sym (disk_behind-more disk fs f);
    replies = subst (Passes s t had has)
        (ap (λ d. replies_to disk fs ++ reply_to d f) a.leaves ∙ sym (replies_to-more disk fs f))
        (Passes-trans s t t had mid has (replies_to disk fs) (reply_to now f) a.replies ([], sym reply, Appends-nil t));
  }

module _ (fed at : Fed) (disk now had mid : List ℕ) (s t u : Option (List ℕ)) (fs : List Frame) where
  -- what waits is written
  pub written_out : AnswersCalls fed at disk now had mid s t fs → Appends t u mid → AnswersCalls fed at disk now had [] s u fs
  written_out a all = record {
    gives = a.gives;
    leaves = a.leaves;
    replies = subst (Passes s u had []) (append-nil (replies_to disk fs))
        (Passes-trans s t u had mid [] (replies_to disk fs) [] a.replies (mid, refl, all));
  }

  -- where that fails, a prefix of the replies is
  pub some_written : AnswersCalls fed at disk now had mid s t fs → WritesPrefix t u mid → ServesSome fed disk had s u
  some_written a part =
      let all = WritesPrefix-after s t u had mid (replies_to disk fs) [] a.replies (subst (WritesPrefix t u) (sym (append-nil mid)) part) in
      (fs, at.left, a.gives.calls, a.gives.bytes, subst (λ l. WritesPrefix s u (had ++ l)) (append-nil (replies_to disk fs)) all)

  -- and where anything else fails
  pub some_answered : AnswersCalls fed at disk now had mid s t fs → ServesSome fed disk had s t
  some_answered a = (fs, at.left, a.gives.calls, a.gives.bytes, WritesPrefix-passed s t had mid (replies_to disk fs) a.replies)

-- one frame more is served, which asks a call
pub one_served : (fed at new : Fed) (disk now later had mid has : List ℕ) (s t : Option (List ℕ)) (fs : List Frame) (f : Frame)
    → AnswersCalls fed at disk now had mid s t fs → fed.most ≡ longest_call → GivesNext at new (next.Frame f)
    → TakesTurn f now later mid has turn.Answered → AnswersCalls fed new disk later had has s t (fs ++ f ∷ [])
one_served fed at new disk now later had mid has s t fs f a most given (no_close, reply, behind) =
    one_answered fed at new disk now later had mid has s t fs f a most given no_close reply behind

-- what is so in any case is so at an error
pub err_with : {T E : Type 0} (r : Result T E) (P : Type 0) → P → OnErr r P
err_with (Ok x) P p = tt
err_with (Err e) P p = p
